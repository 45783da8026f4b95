-- A call line is printed and read again.
use Rattle.std.proofs.Common.{◌≡◌, ◌≤◌, ◌&&◌, ◌||◌, ◌++◌, ℕ, List, [], ◌∷◌, false, Option, Some, None, Ok, length, leb, refl, sym, ap, subst, ◌∙◌, arith, length-append}
use Rattle.std.proofs.lemmas.Bool.{cond_both, or_parts}
use Rattle.osal_call.specs.declared.word.CallWord.{CallWord}
use Rattle.osal_call.specs.Signature.{word_text, call_word}
use Rattle.osal_line.specs.declared.kind.BodyKind.{BodyKind}
use Rattle.osal_line.specs.declared.line.ScriptCall.{ScriptCall}
use Rattle.osal_line.specs.declared.expectation.Expect.{Expect}
use Rattle.osal_line.specs.declared.grammar.FirstWord.TheVariants as first
use Rattle.osal_line.specs.Vocabulary.{first_word}
use Rattle.osal_line.specs.Registers.{Registers}
use Rattle.osal_line.specs.Calls.{call_name}
use Rattle.osal_line.specs.Declarations.{kind_of}
use Rattle.osal_line.specs.Grammar.{call_of_words}
use Rattle.osal_line.specs.Expectation.{before_arrow, from_arrow, expectation_of}
use Rattle.osal_line.proofs.Declaring.{none_declared}
use Rattle.osal_price.specs.Handlers.{is_handler, needs_task, may_wait}
use Rattle.osal_script.specs.declared.item.Item.{Item}
use Rattle.osal_script.specs.declared.item.Item.TheVariants as item
use Rattle.osal_script.specs.App.{ScriptBody}
use Rattle.osal_reading.specs.declared.fault.FaultKind.{FaultKind}
use Rattle.osal_reading.specs.Draft.{OpenBody, Reading}
use Rattle.osal_reading.specs.Reading.{with_line, fault_of_call, is_comment, read_words}
use Rattle.osal_print.specs.Words.{argument_words, expectation_words, call_words}
use Rattle.osal_print.specs.PrintText.{spaced, line_text}
use Rattle.osal_print.proofs.IsWord.{Stands, AreClean}
use Rattle.osal_print.proofs.Mirrored.{mirrored}
use Rattle.osal_print.proofs.LineWords.{spaced_append}
use Rattle.osal_print.proofs.PlainWords.{call_stands}
use Rattle.osal_print.proofs.AboutArrow.{arrow_long, arrow_first, clean_before, clean_from, arguments_before, expected_from, both_stand}
use Rattle.osal_print.proofs.CallsAgain.{SameBodies, CallAgain, call_again}
use Rattle.osal_print.proofs.ExpectationAgain.{ExpectationIsAgain, expectation_again}
use Rattle.osal_print.proofs.LineKinds.{behind, Calls}
use Rattle.osal_print.proofs.Progress.{mirrored_body, HasFew, Prints}
use Rattle.osal_print.proofs.BodiesAgain.{item_more, items_more}

-- a call without a fault names no register too many, and no body that is not declared
no_fault : (body : OpenBody) (call : ScriptCall) (registers : Registers) → fault_of_call body (call, registers) ≡ None → (registers.over ≡ false) × (registers.undeclared ≡ false)
no_fault body call registers e =
    let P : Option FaultKind → Type 0 = λ found. found ≡ None → (registers.over ≡ false) × (registers.undeclared ≡ false) in
    cond_both (is_handler body.kind && may_wait call) _ _ P (λ waits e. cc) (λ never.
    cond_both (registers.over || leb 4096 body.count) _ _ P (λ many e. cc) (λ few.
    cond_both registers.undeclared _ _ P (λ unknown e. cc) (λ known e. ((or_parts registers.over (leb 4096 body.count) few).0, known)))) e

-- a call line is read by its parts
call_read : (later : BodyKind → List ℕ → Option ℕ) (bodies : List ScriptBody) (body : OpenBody) (number : ℕ) (called : CallWord) (word : List ℕ) (arguments : List (List ℕ)) (call : ScriptCall) (registers : Registers) (expect : Option Expect) → is_comment word ≡ false → first_word word ≡ Some (first.Call called) → (is_handler body.kind && needs_task called) ≡ false → call_of_words later called (before_arrow arguments) body.registers ≡ Some (call, registers) → expectation_of (from_arrow arguments) ≡ Some expect → fault_of_call body (call, registers) ≡ None → read_words later (behind bodies (Some body)) number (word ∷ arguments) ≡ Ok (behind bodies (Some (with_line body number (call, registers) expect)))
call_read later bodies body number called word arguments call registers expect no_comment first-is may call-is expect-is faultless =
    rw (no_comment, first-is, may, call-is, expect-is, faultless) refl

module _ (later : BodyKind → List ℕ → Option ℕ) (names : ℕ → List ℕ) (bodies : List ScriptBody) (body : OpenBody) (number : ℕ) (called : CallWord) (word : List ℕ) (arguments : List (List ℕ)) (call : ScriptCall) (registers : Registers) (expect : Option Expect) (made : CallAgain later names called (before_arrow arguments) body.registers registers call) (expected : ExpectationIsAgain (from_arrow arguments) expect) (name-is : call_name call ≡ word) where
  -- the words behind the name of the call
  abbrev printed : List (List ℕ)
  printed = argument_words names call ++ expectation_words expect

  -- the printed words are read as the call
  printed_read : (others : List ScriptBody) (items : List Item) (at : ℕ) → is_comment word ≡ false → first_word word ≡ Some (first.Call called) → (is_handler body.kind && needs_task called) ≡ false → fault_of_call body (call, registers) ≡ None → read_words later (behind others (Some (mirrored_body body items))) at (call_name call ∷ printed) ≡ Ok (behind others (Some (with_line (mirrored_body body items) at (call, mirrored registers) expect)))
  printed_read others items at no_comment first-is may faultless =
      let apart = arguments_before (argument_words names call) (expectation_words expect) made.fit expected.before in
      let wanted = expected_from (argument_words names call) (expectation_words expect) made.fit ∙ expected.from in
      call_read later others (mirrored_body body items) at called (call_name call) printed call (mirrored registers) expect
      (ap is_comment name-is ∙ no_comment)
      (ap first_word name-is ∙ first-is)
      may
      (ap (λ (v : List (List ℕ)). call_of_words later called v (mirrored body.registers)) apart ∙ made.again)
      (ap expectation_of wanted ∙ expected.again)
      faultless

  -- they take no more bytes than those that were read
  printed_shorter : length (line_text (call_name call ∷ printed)) ≤ length (line_text (word ∷ arguments))
  printed_shorter =
      omega (
        arith,
        length-append (call_name call) (spaced printed),
        ap length (spaced_append (argument_words names call) (expectation_words expect)),
        length-append (spaced (argument_words names call)) (spaced (expectation_words expect)),
        length-append word (spaced arguments),
        ap length name-is,
        arrow_long arguments,
        made.shorter,
        expected.shorter,
      )

  -- so the line is printed and read again
  line_prints : is_comment word ≡ false → first_word word ≡ Some (first.Call called) → kind_of word ≡ None → call_word word ≡ Some called → (is_handler body.kind && needs_task called) ≡ false → fault_of_call body (call, registers) ≡ None → Prints later names bodies (Some body) (word ∷ arguments) bodies (Some (with_line body number (call, registers) expect)) (call_name call ∷ printed)
  line_prints no_comment first-is no_kind called-is may faultless =
      let line : Item = item.Call (record { number = number; call = call; expect = expect }) in
      record {
        more = item_more names bodies body (with_line body number (call, registers) expect) line refl refl refl;
        stand = (subst Stands (sym name-is) (call_stands word called called-is).1, both_stand (argument_words names call) (expectation_words expect) made.fit expected.fit);
        shorter = printed_shorter;
        declares =
            none_declared (call_name call) printed (ap kind_of name-is ∙ no_kind)
            ∙ sym (none_declared word arguments no_kind);
        few = made.few;
        reads = λ at others items match.
            let here : Item = item.Call (record { number = at; call = call; expect = expect }) in
            record {
              printed = others;
              items = items ++ here ∷ [];
              match_after = record {
                bodies_same = match.bodies_same;
                items_same = items_more body.items items line here match.items_same refl;
              };
              is = printed_read others items at no_comment first-is may faultless;
            };
      }

-- a call line whose body is open
open_prints : (later : BodyKind → List ℕ → Option ℕ) (names : ℕ → List ℕ) (bodies : List ScriptBody) (current : Option OpenBody) (number : ℕ) (words : List (List ℕ)) (after : Reading) → SameBodies later later names → (line : Calls later bodies current number words after) → AreClean (line.word ∷ line.arguments) → length (line_text (line.word ∷ line.arguments)) ≤ 255 → HasFew (Some line.body) → Prints later names bodies (Some line.body) (line.word ∷ line.arguments) bodies (Some (with_line line.body number (line.call, line.registers) line.expect)) (call_words names (record { number = number; call = line.call; expect = line.expect }))
open_prints later names bodies current number words after same line clean short few =
    let before : List (List ℕ) = before_arrow line.arguments in
    let fits : length (spaced before) ≤ 255 = omega (arith, length-append line.word (spaced line.arguments), arrow_long line.arguments, short) in
    let sound = no_fault line.body line.call line.registers line.faultless in
    let made = call_again later later names line.called before line.body.registers line.registers line.call same (clean_before line.arguments clean.1) fits few line.call_is sound.0 sound.1 in
    let expected = expectation_again (from_arrow line.arguments) line.expect (arrow_first line.arguments) (clean_from line.arguments clean.1) line.expect_is in
    let name-is : call_name line.call ≡ line.word = ap word_text made.word ∙ sym (call_stands line.word line.called line.called_is).0 in
    line_prints later names bodies line.body number line.called line.word line.arguments line.call line.registers line.expect made expected name-is line.no_comment line.first_is line.no_kind line.called_is line.may line.faultless

-- a call line
pub call_prints : (later : BodyKind → List ℕ → Option ℕ) (names : ℕ → List ℕ) (bodies : List ScriptBody) (current : Option OpenBody) (number : ℕ) (words : List (List ℕ)) (after : Reading) → SameBodies later later names → AreClean words → length (line_text words) ≤ 255 → HasFew current → (line : Calls later bodies current number words after) → Prints later names bodies current words bodies (Some (with_line line.body number (line.call, line.registers) line.expect)) (call_words names (record { number = number; call = line.call; expect = line.expect }))
call_prints later names bodies current number words after same clean short few line =
    let printed = call_words names (record { number = number; call = line.call; expect = line.expect }) in
    let longer = Some (with_line line.body number (line.call, line.registers) line.expect) in
    let P : Option OpenBody → List (List ℕ) → Type 0 = λ o w. Prints later names bodies o w bodies longer printed in
    subst (λ w. P current w) (sym line.words_are) (subst (λ o. P o (line.word ∷ line.arguments)) (sym line.is_open)
    (open_prints later names bodies current number words after same line (subst AreClean line.words_are clean) (subst (λ (w : List (List ℕ)). length (line_text w) ≤ 255) line.words_are short) (subst HasFew line.is_open few)))
