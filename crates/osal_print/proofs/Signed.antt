-- Numbers that may have a minus sign are read again as they are printed.
use Rattle.std.proofs.Common.{◌≡◌, ◌<◌, ◌≤◌, ◌+◌, ◌^◌, ℕ, zero, suc, ℤ, pos, negsuc, false, cond, List, [], ◌∷◌, length, eqb, Option, Some, None, option_map, refl, sym, ap, subst, ◌∙◌, arith, ne_eqb}
use Rattle.std.specs.Fmt.{decimal, signed_decimal}
use Rattle.std.proofs.lemmas.Bool.{cond-false, cond_both, and_left}
use Rattle.std.proofs.lemmas.Option.{none-some, same_Some}
use Rattle.std.proofs.lemmas.Fmt.{decimal_nonempty, length-decimal-le}
use Rattle.osal_line.specs.Values.{negated, digits_of, number_below, signed_of}
use Rattle.osal_line.specs.Choices.{offset_of}
use Rattle.osal_line.specs.Expectation.{is_arrow}
use Rattle.osal_print.proofs.IsWord.{IsWord}
use Rattle.osal_print.proofs.Shown.{Shows}
use Rattle.osal_print.proofs.Bytes.{AreBetween, wider, run_stands}
use Rattle.osal_print.proofs.Numbers.{decimal_between, decimal_word}
use Rattle.osal_print.proofs.Decimals.{ReadsDecimals, numbers_read, decimals_read}

-- a number that has its minus sign in front of what one reading reads, and no sign in front of what another does
abbrev pub signed_by : (List ℕ → Option ℕ) → (List ℕ → Option ℕ) → List ℕ → Option ℤ
signed_by low high [] = None
signed_by low high (byte ∷ bytes) = cond (eqb byte 45) (option_map negated (low bytes)) (option_map pos (high (byte ∷ bytes)))

-- a number is below a limit to either side
abbrev pub IsWithin : ℕ → ℕ → ℤ → Type 0
IsWithin lowest highest (pos n) = n < highest
IsWithin lowest highest (negsuc n) = suc n < lowest

minus_no_arrow : (word : List ℕ) → AreBetween 48 57 word → is_arrow (45 ∷ word) ≡ false
minus_no_arrow [] are = refl
minus_no_arrow (byte ∷ bytes) are =
    let digit = are.0.1 in and_left (eqb byte 62) _ (ne_eqb byte 62 (λ e. omega (arith, digit, e)))

-- a number with its sign is a word
pub signed_word : (z : ℤ) → IsWithin (2 ^ 32) (2 ^ 32) z → IsWord (signed_decimal z)
signed_word (pos n) within = decimal_word n (omega arith)
signed_word (negsuc n) within = record {
  stands = run_stands 45 (decimal (suc n)) ((omega arith, omega arith), wider 48 57 33 126 (decimal (suc n)) (omega arith) (omega arith) (decimal_between (suc n))) refl;
  no_arrow = minus_no_arrow (decimal (suc n)) (decimal_between (suc n));
}

unsigned : (low high : List ℕ → Option ℕ) (word : List ℕ) → 0 < length word → AreBetween 48 57 word → signed_by low high word ≡ option_map pos (high word)
unsigned low high [] some are = absurd (omega arith)
unsigned low high (byte ∷ bytes) some are =
    let digit = are.0.0 in cond-false (eqb byte 45) _ _ (ne_eqb byte 45 (λ e. omega (arith, digit, e)))

module _ (low high : List ℕ → Option ℕ) (lowest highest : ℕ) (lows : ReadsDecimals low lowest) (highs : ReadsDecimals high highest) (few : lowest ≤ 2 ^ 32) (also : highest ≤ 2 ^ 32) where
  -- a number with its sign is read as it
  pub signed_read : (z : ℤ) → IsWithin lowest highest z → signed_by low high (signed_decimal z) ≡ Some z
  signed_read (pos n) within =
      unsigned low high (decimal n) (decimal_nonempty n (omega arith)) (decimal_between n) ∙ ap (option_map pos) (highs.again n within)
  signed_read (negsuc n) within = ap (option_map negated) (lows.again (suc n) within)

  wider_limits : (z : ℤ) → IsWithin lowest highest z → IsWithin (2 ^ 32) (2 ^ 32) z
  wider_limits (pos n) within = omega arith
  wider_limits (negsuc n) within = omega arith

  shown : (z : ℤ) (word : List ℕ) → IsWithin lowest highest z → length (signed_decimal z) ≤ length word → Shows (signed_by low high) z (signed_decimal z) word
  shown z word within short =
      record { again = signed_read z within; fit = signed_word z (wider_limits z within); shorter = short }

  negative_again : (byte : ℕ) (bytes : List ℕ) (o : Option ℕ) (z : ℤ) → 0 < highest → low bytes ≡ o → option_map negated o ≡ Some z → Shows (signed_by low high) z (signed_decimal z) (byte ∷ bytes)
  negative_again byte bytes None z some is read = absurd (none-some z read)
  negative_again byte bytes (Some zero) z some is read =
      subst (λ (v : ℤ). Shows (signed_by low high) v (signed_decimal v) (byte ∷ bytes)) (same_Some (pos 0) z read)
      (shown (pos 0) (byte ∷ bytes) some (omega (arith, length-decimal-le 1 0 (omega arith) (omega arith) (omega arith))))
  negative_again byte bytes (Some (suc n)) z some is read =
      subst (λ (v : ℤ). Shows (signed_by low high) v (signed_decimal v) (byte ∷ bytes)) (same_Some (negsuc n) z read)
      (shown (negsuc n) (byte ∷ bytes) (lows.below bytes (suc n) is) (omega (arith, (lows.shown bytes (suc n) is).shorter)))

  positive_again : (word : List ℕ) (o : Option ℕ) (z : ℤ) → high word ≡ o → option_map pos o ≡ Some z → Shows (signed_by low high) z (signed_decimal z) word
  positive_again word None z is read = absurd (none-some z read)
  positive_again word (Some n) z is read =
      subst (λ (v : ℤ). Shows (signed_by low high) v (signed_decimal v) word) (same_Some (pos n) z read)
      (shown (pos n) word (highs.below word n is) (highs.shown word n is).shorter)

  -- a number with its sign that was read is shown as it is printed
  pub signed_again : (word : List ℕ) (z : ℤ) → 0 < highest → signed_by low high word ≡ Some z → Shows (signed_by low high) z (signed_decimal z) word
  signed_again [] z some read = absurd (none-some z read)
  signed_again (byte ∷ bytes) z some read =
      cond_both (eqb byte 45) (option_map negated (low bytes)) (option_map pos (high (byte ∷ bytes))) (λ found. found ≡ Some z → Shows (signed_by low high) z (signed_decimal z) (byte ∷ bytes))
      (λ _. negative_again byte bytes (low bytes) z some refl)
      (λ _. positive_again (byte ∷ bytes) (high (byte ∷ bytes)) z refl)
      read

-- two readings that are the same show the same
pub same_shows : {A : Type 0} (read other : List ℕ → Option A) → ((word : List ℕ) → read word ≡ other word) → (value : A) (text word : List ℕ) → Shows read value text word → Shows other value text word
same_shows read other same value text word shows =
    record { again = sym (same text) ∙ shows.again; fit = shows.fit; shorter = shows.shorter }

offset_by : (word : List ℕ) → offset_of word ≡ signed_by (number_below (2 ^ 32)) (number_below (2 ^ 32)) word
offset_by [] = refl
offset_by (byte ∷ bytes) = refl

-- how far a seek goes
pub offset_again : (word : List ℕ) (z : ℤ) → offset_of word ≡ Some z → Shows offset_of z (signed_decimal z) word
offset_again word z read =
    let numbers = numbers_read (2 ^ 32) (omega arith) (omega arith) in
    same_shows (signed_by (number_below (2 ^ 32)) (number_below (2 ^ 32))) offset_of (λ text. sym (offset_by text)) z (signed_decimal z) word
    (signed_again (number_below (2 ^ 32)) (number_below (2 ^ 32)) (2 ^ 32) (2 ^ 32) numbers numbers (omega arith) (omega arith) word z (omega arith) (sym (offset_by word) ∙ read))

signed_of_by : (word : List ℕ) → signed_of word ≡ signed_by (digits_of 10 (2 ^ 31 + 1)) (digits_of 10 (2 ^ 31)) word
signed_of_by [] = refl
signed_of_by (byte ∷ bytes) = refl

-- a decimal number of 32 bits with its sign
pub decimal_signed_again : (word : List ℕ) (z : ℤ) → signed_of word ≡ Some z → Shows signed_of z (signed_decimal z) word
decimal_signed_again word z read =
    let lows = decimals_read (2 ^ 31 + 1) (omega arith) (omega arith) in
    let highs = decimals_read (2 ^ 31) (omega arith) (omega arith) in
    same_shows (signed_by (digits_of 10 (2 ^ 31 + 1)) (digits_of 10 (2 ^ 31))) signed_of (λ text. sym (signed_of_by text)) z (signed_decimal z) word
    (signed_again (digits_of 10 (2 ^ 31 + 1)) (digits_of 10 (2 ^ 31)) (2 ^ 31 + 1) (2 ^ 31) lows highs (omega arith) (omega arith) word z (omega arith) (sym (signed_of_by word) ∙ read))

-- such a number is read as it is printed
pub decimal_signed_read : (z : ℤ) → IsWithin (2 ^ 31 + 1) (2 ^ 31) z → signed_of (signed_decimal z) ≡ Some z
decimal_signed_read z within =
    signed_of_by (signed_decimal z)
    ∙ signed_read (digits_of 10 (2 ^ 31 + 1)) (digits_of 10 (2 ^ 31)) (2 ^ 31 + 1) (2 ^ 31) (decimals_read (2 ^ 31 + 1) (omega arith) (omega arith)) (decimals_read (2 ^ 31) (omega arith) (omega arith)) (omega arith) (omega arith) z within
