-- A number that was read is read again from its shortest digits, and these are no more bytes than it was read from.
use Rattle.std.proofs.Common.{◌≡◌, ◌<◌, ◌≤◌, ◌+◌, ◌^◌, ◌&&◌, ◌⊎◌, ℕ, zero, suc, false, List, [], ◌∷◌, length, eqb, ltb, inl, inr, ⊎_elim, Option, Some, None, refl, ap, ◌∙◌, arith, ne_eqb}
use Rattle.std.specs.Fmt.{decimal, digits}
use Rattle.std.proofs.lemmas.Bool.{cond-false, cond_both, and_right, ltb-true, ltb-false}
use Rattle.std.proofs.lemmas.Option.{none-some, cond_some}
use Rattle.std.proofs.lemmas.Fmt.{length-decimal-le, decimal_nonempty}
use Rattle.osal_line.specs.Values.{hex_digits, number_by, number_below}
use Rattle.osal_print.specs.Shortest.{hexadecimal, number_text}
use Rattle.osal_print.proofs.IsWord.{IsWord}
use Rattle.osal_print.proofs.Bytes.{AreBetween, wider, run_word, digits_between}
use Rattle.osal_print.proofs.Digits.{digits_again, digits_short, digits_read}

-- a number is below a limit, and so many bytes spell it: digits, or hexadecimal digits behind two more bytes
pub record IsSpelledBy (limit : ℕ) (count n : ℕ) : Type 0 where
  pub fits : n < limit
  pub digits : ((0 < count) × (n < 10 ^ count)) ⊎ ((k : ℕ) × (count ≡ suc k + 2) × (n < 16 ^ suc k))

behind_prefix : (word ds : List ℕ) → hex_digits word ≡ Some ds → length word ≡ length ds + 2
behind_prefix [] ds e = absurd (none-some ds e)
behind_prefix (a ∷ []) ds e = absurd (none-some ds e)
behind_prefix (a ∷ b ∷ bytes) ds e =
    let same = (cond_some (eqb a 48 && eqb b 120) bytes ds e).1 in omega (arith, ap length same)

last_less : (k : ℕ) (n count : ℕ) → 0 < k → count ≡ k + 2 → n < 16 ^ k → (j : ℕ) × (count ≡ suc j + 2) × (n < 16 ^ suc j)
last_less zero n count some is below = absurd (omega arith)
last_less (suc j) n count some is below = (j, is, below)

-- how a word spells the number that it is read as
pub number_read : (limit : ℕ) (word : List ℕ) (n : ℕ) → 0 < limit → number_below limit word ≡ Some n → IsSpelledBy limit (length word) n
number_read limit word n room read = by (hex_digits word) refl read
  where
    by : (o : Option (List ℕ)) → hex_digits word ≡ o → number_by limit word o ≡ Some n → IsSpelledBy limit (length word) n
    by None is read =
        let facts = digits_read 10 limit (omega arith) (omega arith) word n room read in
        record { fits = facts.1; digits = inl (facts.0, facts.2) }
    by (Some ds) is read =
        let facts = digits_read 16 limit (omega arith) (omega arith) ds n room read in
        record { fits = facts.1; digits = inr (last_less (length ds) n (length word) facts.0 (behind_prefix word ds is) facts.2) }

-- the decimal digits lie between those of 0 and 9
pub decimal_between : (n : ℕ) → AreBetween 48 57 (decimal n)
decimal_between n = digits_between 10 57 (omega arith) (omega arith) (omega arith) (λ more. absurd (omega arith)) n

no_prefix : (word : List ℕ) → AreBetween 48 57 word → hex_digits word ≡ None
no_prefix [] are = refl
no_prefix (a ∷ []) are = refl
no_prefix (a ∷ b ∷ bytes) are =
    let second = are.1.0.1 in
    cond-false (eqb a 48 && eqb b 120) _ _ (and_right (eqb a 48) (eqb b 120) (ne_eqb b 120 (λ e. omega (arith, second, e))))

-- decimal digits are read as their number
pub decimal_again : (limit n : ℕ) → n < limit → n < 2 ^ 64 → number_below limit (decimal n) ≡ Some n
decimal_again limit n fits small =
    ap (number_by limit (decimal n)) (no_prefix (decimal n) (decimal_between n))
    ∙ digits_again 10 limit (omega arith) (omega arith) n (omega arith) fits

-- so are hexadecimal ones
pub hexadecimal_again : (limit n : ℕ) → n < limit → n < 2 ^ 64 → number_below limit (hexadecimal n) ≡ Some n
hexadecimal_again limit n fits small = digits_again 16 limit (omega arith) (omega arith) n (omega arith) fits

below_power : (k n : ℕ) → n < 16 ^ suc k → n < 2 ^ 32 → length (decimal n) ≤ suc k + 2
below_power zero n below small = length-decimal-le 3 n (omega arith) (omega arith) (omega arith)
below_power (suc zero) n below small = length-decimal-le 4 n (omega arith) (omega arith) (omega arith)
below_power (suc (suc zero)) n below small = length-decimal-le 5 n (omega arith) (omega arith) (omega arith)
below_power (suc (suc (suc zero))) n below small = length-decimal-le 6 n (omega arith) (omega arith) (omega arith)
below_power (suc (suc (suc (suc zero)))) n below small = length-decimal-le 7 n (omega arith) (omega arith) (omega arith)
below_power (suc (suc (suc (suc (suc zero))))) n below small = length-decimal-le 8 n (omega arith) (omega arith) (omega arith)
below_power (suc (suc (suc (suc (suc (suc zero)))))) n below small = length-decimal-le 9 n (omega arith) (omega arith) (omega arith)
below_power (suc (suc (suc (suc (suc (suc (suc k))))))) n below small = omega (arith, length-decimal-le 10 n (omega arith) (omega arith) (omega arith))

-- below 2^32 the decimal digits are the fewest bytes
pub decimal_shorter : (limit count n : ℕ) → limit ≤ 2 ^ 32 → IsSpelledBy limit count n → length (decimal n) ≤ count
decimal_shorter limit count n most spelled =
    let fits = spelled.fits in
    ⊎_elim
    (λ digits. length-decimal-le count n digits.0 digits.1 (omega arith))
    (λ hex. let is = hex.1 in omega (arith, below_power hex.0 n hex.2 (omega arith)))
    spelled.digits

-- below 2^64 either those or the hexadecimal ones are
pub number_shorter : (count n : ℕ) → IsSpelledBy (2 ^ 64) count n → length (number_text n) ≤ count
number_shorter count n spelled =
    let fits = spelled.fits in
    cond_both (ltb (length (hexadecimal n)) (length (decimal n))) (hexadecimal n) (decimal n) (λ text. length text ≤ count)
    (λ t. let less = ltb-true (length (hexadecimal n)) (length (decimal n)) t in
    ⊎_elim
    (λ digits. omega (arith, less, length-decimal-le count n digits.0 digits.1 (omega arith)))
    (λ hex. let is = hex.1 in omega (arith, digits_short 16 (2 ^ 64) (omega arith) (omega arith) hex.0 n hex.2))
    spelled.digits)
    (λ t. let more = ltb-false (length (hexadecimal n)) (length (decimal n)) t in
    ⊎_elim
    (λ digits. length-decimal-le count n digits.0 digits.1 (omega arith))
    (λ hex. let is = hex.1 in omega (arith, more, digits_short 16 (2 ^ 64) (omega arith) (omega arith) hex.0 n hex.2))
    spelled.digits)

-- a number of 64 bits is read again
pub number_again : (n : ℕ) → n < 2 ^ 64 → number_below (2 ^ 64) (number_text n) ≡ Some n
number_again n fits =
    cond_both (ltb (length (hexadecimal n)) (length (decimal n))) (hexadecimal n) (decimal n) (λ text. number_below (2 ^ 64) text ≡ Some n)
    (λ t. hexadecimal_again (2 ^ 64) n fits fits)
    (λ t. decimal_again (2 ^ 64) n fits fits)

-- letters and digits are a word
pub glyphs_word : (high : ℕ) (word : List ℕ) → high ≤ 126 → 0 < length word → AreBetween 48 high word → IsWord word
glyphs_word high [] most some are = absurd (omega arith)
glyphs_word high (byte ∷ bytes) most some are =
    let above = are.0.0 in
    run_word byte bytes (wider 48 high 33 126 (byte ∷ bytes) (omega arith) most are) (ne_eqb byte 34 (λ e. omega (arith, above, e))) (ne_eqb byte 45 (λ e. omega (arith, above, e)))

-- decimal digits are a word
pub decimal_word : (n : ℕ) → n < 2 ^ 64 → IsWord (decimal n)
decimal_word n small = glyphs_word 57 (decimal n) (omega arith) (decimal_nonempty n small) (decimal_between n)

hexadecimal_word : (n : ℕ) → IsWord (hexadecimal n)
hexadecimal_word n =
    let ds = digits_between 16 102 (omega arith) (omega arith) (omega arith) (λ more. omega arith) n in
    glyphs_word 120 (hexadecimal n) (omega arith) (omega arith)
    ((omega arith, omega arith), ((omega arith, omega arith), wider 48 102 48 120 (digits 16 false n) (omega arith) (omega arith) ds))

-- so are the digits of a number of 64 bits
pub number_word : (n : ℕ) → n < 2 ^ 64 → IsWord (number_text n)
number_word n small =
    cond_both (ltb (length (hexadecimal n)) (length (decimal n))) (hexadecimal n) (decimal n) IsWord
    (λ t. hexadecimal_word n) (λ t. decimal_word n small)
