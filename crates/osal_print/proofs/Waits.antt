-- A wait is read again as it is printed.
use Rattle.std.proofs.Common.{◌≡◌, ◌<◌, ◌^◌, ℕ, zero, suc, false, List, [], ◌∷◌, eqb, bytes_eq, Option, Some, None, option_map, codes, refl, sym, ap, subst, ◌∙◌, arith, ne_eqb}
use Rattle.std.specs.Fmt.{decimal}
use Rattle.std.proofs.lemmas.Bool.{cond-false, and_left}
use Rattle.std.proofs.lemmas.Option.{none-some, same_Some}
use Rattle.osal_base.specs.declared.time.Timeout.{Timeout}
use Rattle.osal_base.specs.declared.time.Timeout.TheVariants as timeout
use Rattle.osal_journal.specs.Spelled.{wait_text}
use Rattle.osal_line.specs.Values.{number_below, positive, wait_of}
use Rattle.osal_print.proofs.Shown.{Shows}
use Rattle.osal_print.proofs.Bytes.{AreBetween}
use Rattle.osal_print.proofs.Numbers.{decimal_between}
use Rattle.osal_print.proofs.Choices.{one}
use Rattle.osal_print.proofs.Decimals.{numbers_read}

-- digits are no letters
no_letters : (word : List ℕ) (letter : ℕ) (letters : List ℕ) → 57 < letter → AreBetween 48 57 word → bytes_eq word (letter ∷ letters) ≡ false
no_letters [] letter letters other are = refl
no_letters (byte ∷ bytes) letter letters other are =
    let digit = are.0.1 in and_left (eqb byte letter) _ (ne_eqb byte letter (λ e. omega (arith, digit, e)))

ms_text : (n : ℕ) → wait_text (timeout.Ms (suc n)) ≡ decimal (suc n)
ms_text n = cond-false (eqb (suc n) 0) _ _ (ne_eqb (suc n) 0 (λ e. omega arith))

ms_again : (word : List ℕ) (n : ℕ) → number_below (2 ^ 31) word ≡ Some (suc n) → Shows wait_of (timeout.Ms (suc n)) (decimal (suc n)) word
ms_again word n read =
    let shown = (numbers_read (2 ^ 31) (omega arith) (omega arith)).shown word (suc n) read in
    let digits = decimal_between (suc n) in
    record {
      again =
          cond-false (bytes_eq (decimal (suc n)) (codes "check")) _ _ (no_letters (decimal (suc n)) 99 _ (omega arith) digits)
          ∙ cond-false (bytes_eq (decimal (suc n)) (codes "pend")) _ _ (no_letters (decimal (suc n)) 112 _ (omega arith) digits)
          ∙ ap (λ found. option_map (λ ms. timeout.Ms ms) (positive found)) shown.again;
      fit = shown.fit;
      shorter = shown.shorter;
    }

number_again : (word : List ℕ) (found : Option ℕ) (value : Timeout) → number_below (2 ^ 31) word ≡ found → option_map (λ ms. timeout.Ms ms) (positive found) ≡ Some value → Shows wait_of value (wait_text value) word
number_again word None value is read = absurd (none-some value read)
number_again word (Some zero) value is read = absurd (none-some value read)
number_again word (Some (suc n)) value is read =
    subst (λ (v : Timeout). Shows wait_of v (wait_text v) word) (same_Some (timeout.Ms (suc n)) value read)
    (subst (λ (text : List ℕ). Shows wait_of (timeout.Ms (suc n)) text word) (sym (ms_text n)) (ms_again word n is))

-- how long a call may wait
pub wait_again : (word : List ℕ) (value : Timeout) → wait_of word ≡ Some value → Shows wait_of value (wait_text value) word
wait_again word value =
    one wait_of wait_text word value timeout.Check _ refl refl
    (one wait_of wait_text word value timeout.Pend _ refl refl
    (number_again word (number_below (2 ^ 31) word) value refl))
