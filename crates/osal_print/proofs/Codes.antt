-- A code is read again as its number, which is no longer than its status's name.
use Rattle.std.proofs.Common.{◌≡◌, ◌≤◌, ◌+◌, ◌^◌, ◌&&◌, ℕ, suc, ℤ, pos, negsuc, Bool, true, false, List, [], ◌∷◌, length, eqb, ltb, leb, bytes_eq, find, Option, Some, None, refl, ap, subst, ◌∙◌, arith, ne_eqb}
use Rattle.std.specs.List.{list_all}
use Rattle.std.specs.Fmt.{digits, decimal, signed_decimal}
use Rattle.std.proofs.lemmas.Bool.{cond_both, and_parts, leb-true, ltb-true}
use Rattle.std.proofs.lemmas.Option.{none-some, same_Some}
use Rattle.std.proofs.lemmas.Slice.Eq.{bytes_eq-Decides}
use Rattle.osal_base.specs.declared.status.Status.{Status}
use Rattle.osal_base.specs.Status.{all_statuses, status_name, number_of}
use Rattle.osal_line.specs.Values.{status_named, code_or_number, code_of}
use Rattle.osal_print.proofs.Shown.{Shows}
use Rattle.osal_print.proofs.Bytes.{AreBetween}
use Rattle.osal_print.proofs.Numbers.{decimal_between}
use Rattle.osal_print.proofs.Signed.{IsWithin, signed_word, decimal_signed_again, decimal_signed_read}

digits_no_status : (word : List ℕ) → AreBetween 48 57 word → status_named word ≡ None
digits_no_status [] are = refl
digits_no_status (byte ∷ bytes) are =
    let digit = are.0.1 in
    let other : eqb 79 byte ≡ false = ne_eqb 79 byte (λ e. omega (arith, digit, e)) in
    rw other

-- no status has a number for its name
no_status : (z : ℤ) → status_named (signed_decimal z) ≡ None
no_status (pos n) = digits_no_status (decimal n) (decimal_between n)
no_status (negsuc n) = refl

is_within : ℤ → Bool
is_within (pos n) = ltb n (2 ^ 31)
is_within (negsuc n) = ltb (suc n) (2 ^ 31 + 1)

within : (z : ℤ) → is_within z ≡ true → IsWithin (2 ^ 31 + 1) (2 ^ 31) z
unfolding is_within
within (pos n) is = ltb-true n (2 ^ 31) is
within (negsuc n) is = ltb-true (suc n) (2 ^ 31 + 1) is

-- the number of a status is no longer than its name
is_short : Status → Bool
is_short status = leb (length (signed_decimal (number_of status))) (length (status_name status)) && is_within (number_of status)

all_short : list_all is_short all_statuses ≡ true
unfolding digits is_short is_within
all_short = refl

found_passes : {X : Type 0} (test also : X → Bool) (xs : List X) (x : X) → list_all also xs ≡ true → find test xs ≡ Some x → (test x ≡ true) × (also x ≡ true)
found_passes test also [] x all found = absurd (none-some x found)
found_passes test also (y ∷ ys) x all found =
    let parts = and_parts (also y) (list_all also ys) all in
    cond_both (test y) (Some y) (find test ys) (λ o. o ≡ Some x → (test x ≡ true) × (also x ≡ true))
    (λ is same. subst (λ v. (test v ≡ true) × (also v ≡ true)) (same_Some y x same) (is, parts.0))
    (λ _ later. found_passes test also ys x parts.1 later)
    found

number_shown : (z : ℤ) (word : List ℕ) → IsWithin (2 ^ 31 + 1) (2 ^ 31) z → length (signed_decimal z) ≤ length word → Shows code_of z (signed_decimal z) word
number_shown z word small short =
    record {
      again = ap (code_or_number (signed_decimal z)) (no_status z) ∙ decimal_signed_read z small;
      fit = signed_word z (wider z small);
      shorter = short;
    }
  where
    wider : (z : ℤ) → IsWithin (2 ^ 31 + 1) (2 ^ 31) z → IsWithin (2 ^ 32) (2 ^ 32) z
    wider (pos n) small = omega arith
    wider (negsuc n) small = omega arith

named_again : (word : List ℕ) (status : Status) → status_named word ≡ Some status → Shows code_of (number_of status) (signed_decimal (number_of status)) word
unfolding is_short
named_again word status named =
    let passes = found_passes (λ s. bytes_eq (status_name s) word) is_short all_statuses status all_short named in
    let same = (bytes_eq-Decides (status_name status) word).0 passes.0 in
    let short = and_parts (leb (length (signed_decimal (number_of status))) (length (status_name status))) (is_within (number_of status)) passes.1 in
    number_shown (number_of status) word (within (number_of status) short.1)
    (omega (arith, leb-true (length (signed_decimal (number_of status))) (length (status_name status)) short.0, ap length same))

-- a code that was read is shown by its number
pub code_again : (word : List ℕ) (z : ℤ) → code_of word ≡ Some z → Shows code_of z (signed_decimal z) word
code_again word z read = by (status_named word) refl read
  where
    by : (o : Option Status) → status_named word ≡ o → code_or_number word o ≡ Some z → Shows code_of z (signed_decimal z) word
    by None is read =
        let shown = decimal_signed_again word z read in
        record { again = ap (code_or_number (signed_decimal z)) (no_status z) ∙ shown.again; fit = shown.fit; shorter = shown.shorter }
    by (Some status) is read =
        subst (λ (v : ℤ). Shows code_of v (signed_decimal v) word) (same_Some (number_of status) z read) (named_again word status is)
