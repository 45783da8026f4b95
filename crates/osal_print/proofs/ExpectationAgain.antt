-- What a line expects is read again from its printed words, and these take no more bytes.
use Rattle.std.proofs.Common.{◌≡◌, ◌≤◌, ◌^◌, ℕ, ℤ, true, List, [], ◌∷◌, length, Option, Some, None, option_map, codes, refl, sym, ap, subst, ◌∙◌, arith}
use Rattle.std.specs.List.{list_all, AllByRecursion}
use Rattle.std.specs.Fmt.{signed_decimal}
use Rattle.std.proofs.lemmas.Option.{none-some, same_Some, option_and_then_some}
use Rattle.std.proofs.lemmas.Slice.Eq.{bytes_eq-Decides}
use Rattle.osal_line.specs.declared.expectation.Value.{Value}
use Rattle.osal_line.specs.declared.expectation.Value.TheVariants as value
use Rattle.osal_line.specs.declared.expectation.Expect.{Expect}
use Rattle.osal_line.specs.Values.{number_below, code_of, string_of}
use Rattle.osal_line.specs.Words.{is_line_byte}
use Rattle.osal_line.specs.Expectation.{is_arrow, before_arrow, from_arrow, value_by, expectation_of}
use Rattle.osal_print.specs.Shortest.{number_text, string_text}
use Rattle.osal_print.specs.Words.{value_words, expectation_words}
use Rattle.osal_print.specs.PrintText.{spaced}
use Rattle.osal_print.proofs.IsWord.{Stands, AreClean}
use Rattle.osal_print.proofs.Shown.{Shows}
use Rattle.osal_print.proofs.Bytes.{run_stands}
use Rattle.osal_print.proofs.Numbers.{number_read, number_again, number_shorter, number_word}
use Rattle.osal_print.proofs.StringsAgain.{string_again}
use Rattle.osal_print.proofs.Codes.{code_again}
use Rattle.osal_print.proofs.Spaces.{spaced_shorter}

-- no words, or the arrow before the others
abbrev pub BeginsWithArrow : List (List ℕ) → Type 0
BeginsWithArrow [] = Unit {0}
BeginsWithArrow (word ∷ words) = is_arrow word ≡ true

-- the printed words of what is expected are read as it, stand alone, take no more bytes than some words, and are
-- nothing but the arrow and what is behind it
pub record ExpectationIsAgain (words : List (List ℕ)) (expect : Option Expect) : Type 0 where
  pub again : expectation_of (expectation_words expect) ≡ Some expect
  pub shorter : length (spaced (expectation_words expect)) ≤ length (spaced words)
  pub fit : AllByRecursion Stands (expectation_words expect)
  pub from : from_arrow (expectation_words expect) ≡ expectation_words expect
  pub before : before_arrow (expectation_words expect) ≡ []

-- the value that a word is read as
value_of : List ℕ → Option Value
value_of word = value_by word (number_below (2 ^ 64) word)

-- a value that is expected, as one word
value_text : Value → List ℕ
value_text (value.Number number) = number_text number
value_text (value.Text text) = string_text text

one_word : (wanted : Value) → value_words (Some wanted) ≡ value_text wanted ∷ []
unfolding value_text
one_word (value.Number number) = refl
one_word (value.Text text) = refl

no_number : (bytes : List ℕ) → number_below (2 ^ 64) (34 ∷ bytes) ≡ None
no_number [] = refl
no_number (byte ∷ bytes) = refl

string_is_no_number : (text : List ℕ) → number_below (2 ^ 64) (string_text text) ≡ None
unfolding string_text
string_is_no_number text = no_number _

text_again : (word text : List ℕ) → list_all is_line_byte word ≡ true → string_of word ≡ Some text → Shows value_of (value.Text text) (string_text text) word
unfolding value_of
text_again word text clean read =
    let shown = string_again word text clean read in
    record {
      again = ap (value_by (string_text text)) (string_is_no_number text) ∙ ap (option_map (λ t. value.Text t)) shown.again;
      fit = shown.fit;
      shorter = shown.shorter;
    }

-- a value that was read is shown as it is printed
value_again : (word : List ℕ) (wanted : Value) → list_all is_line_byte word ≡ true → value_of word ≡ Some wanted → Shows value_of wanted (value_text wanted) word
unfolding value_of value_text
value_again word wanted clean read = by (number_below (2 ^ 64) word) refl read
  where
    texts : (o : Option (List ℕ)) → string_of word ≡ o → option_map (λ t. value.Text t) o ≡ Some wanted → Shows value_of wanted (value_text wanted) word
    texts None is read = absurd (none-some wanted read)
    texts (Some text) is read =
        subst (λ (v : Value). Shows value_of v (value_text v) word) (same_Some (value.Text text) wanted read) (text_again word text clean is)

    by : (o : Option ℕ) → number_below (2 ^ 64) word ≡ o → value_by word o ≡ Some wanted → Shows value_of wanted (value_text wanted) word
    by (Some number) is read =
        let spelled = number_read (2 ^ 64) word number (omega arith) is in
        subst (λ (v : Value). Shows value_of v (value_text v) word) (same_Some (value.Number number) wanted read)
        (record {
          again = ap (value_by (number_text number)) (number_again number spelled.fits);
          fit = number_word number spelled.fits;
          shorter = number_shorter (length word) number spelled;
        })
    by None is read = texts (string_of word) refl read

arrow_stands : Stands (codes "->")
arrow_stands = run_stands 45 (62 ∷ []) ((omega arith, omega arith), ((omega arith, omega arith), tt)) refl

code_read : (arrow code : List ℕ) (z : ℤ) → code_of code ≡ Some z → expectation_of (arrow ∷ code ∷ []) ≡ Some (Some (record { code = z; value = None }))
code_read arrow code z is = rw is refl

both_read : (arrow code word : List ℕ) (z : ℤ) (wanted : Value) → code_of code ≡ Some z → value_of word ≡ Some wanted → expectation_of (arrow ∷ code ∷ word ∷ []) ≡ Some (Some (record { code = z; value = Some wanted }))
unfolding value_of
both_read arrow code word z wanted is wanted-is = rw (is, wanted-is) refl

arrow_shorter : (arrow : List ℕ) → is_arrow arrow ≡ true → 2 ≤ length arrow
arrow_shorter arrow is = omega (arith, ap length ((bytes_eq-Decides arrow (codes "->")).0 is))

code_alone : (arrow code : List ℕ) (z : ℤ) → is_arrow arrow ≡ true → code_of code ≡ Some z → ExpectationIsAgain (arrow ∷ code ∷ []) (Some (record { code = z; value = None }))
code_alone arrow code z is read =
    let shown = code_again code z read in
    record {
      again = code_read (codes "->") (signed_decimal z) z shown.again;
      shorter = spaced_shorter (codes "->") arrow (signed_decimal z ∷ []) (code ∷ []) (arrow_shorter arrow is) (spaced_shorter (signed_decimal z) code [] [] shown.shorter (omega arith));
      fit = (arrow_stands, (shown.fit.stands, tt));
      from = refl;
      before = refl;
    }

code_and_value : (arrow code word : List ℕ) (z : ℤ) (wanted : Value) → is_arrow arrow ≡ true → list_all is_line_byte word ≡ true → code_of code ≡ Some z → value_of word ≡ Some wanted → ExpectationIsAgain (arrow ∷ code ∷ word ∷ []) (Some (record { code = z; value = Some wanted }))
code_and_value arrow code word z wanted is clean read wanted-is =
    let shown = code_again code z read in
    let value_shown = value_again word wanted clean wanted-is in
    let words = one_word wanted in
    record {
      again =
          ap (λ (ws : List (List ℕ)). expectation_of (codes "->" ∷ signed_decimal z ∷ ws)) words
          ∙ both_read (codes "->") (signed_decimal z) (value_text wanted) z wanted shown.again value_shown.again;
      shorter =
          subst (λ (ws : List (List ℕ)). length (spaced (codes "->" ∷ signed_decimal z ∷ ws)) ≤ length (spaced (arrow ∷ code ∷ word ∷ []))) (sym words)
          (spaced_shorter (codes "->") arrow (signed_decimal z ∷ value_text wanted ∷ []) (code ∷ word ∷ []) (arrow_shorter arrow is)
          (spaced_shorter (signed_decimal z) code (value_text wanted ∷ []) (word ∷ []) shown.shorter
          (spaced_shorter (value_text wanted) word [] [] value_shown.shorter (omega arith))));
      fit =
          subst (λ (ws : List (List ℕ)). AllByRecursion Stands (codes "->" ∷ signed_decimal z ∷ ws)) (sym words)
          (arrow_stands, (shown.fit.stands, (value_shown.fit.stands, tt)));
      from = refl;
      before = refl;
    }

-- what a line expects is read again
pub expectation_again : (words : List (List ℕ)) (expect : Option Expect) → BeginsWithArrow words → AreClean words → expectation_of words ≡ Some expect → ExpectationIsAgain words expect
unfolding value_of
expectation_again [] expect begins clean read =
    subst (ExpectationIsAgain []) (same_Some None expect read)
    (record { again = refl; shorter = omega arith; fit = tt; from = refl; before = refl })
expectation_again (arrow ∷ []) expect begins clean read = absurd (none-some expect read)
expectation_again (arrow ∷ code ∷ []) expect begins clean read =
    option_and_then_some _ (code_of code) expect read (λ z code-is made.
    subst (ExpectationIsAgain (arrow ∷ code ∷ [])) (same_Some (Some (record { code = z; value = None })) expect made) (code_alone arrow code z begins code-is))
expectation_again (arrow ∷ code ∷ word ∷ []) expect begins clean read =
    option_and_then_some _ (code_of code) expect read (λ z code-is rest.
    option_and_then_some _ (value_by word (number_below (2 ^ 64) word)) expect rest (λ wanted wanted-is made.
    subst (ExpectationIsAgain (arrow ∷ code ∷ word ∷ [])) (same_Some (Some (record { code = z; value = Some wanted })) expect made)
    (code_and_value arrow code word z wanted begins clean.1.1.0 code-is wanted-is)))
expectation_again (arrow ∷ code ∷ word ∷ another ∷ words) expect begins clean read = absurd (none-some expect read)
