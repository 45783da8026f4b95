-- A number is read digit by digit.
use Rattle.std.proofs.Common.{◌≡◌, ◌<◌, ◌+◌, ℕ, List, [], ◌∷◌, length, drop, get_or, Some, None, refl, arith}
use Rattle.std.proofs.lemmas.List.{at_drop_more}
use Rattle.osal_line.specs.Values.{digits_after, digits_of, with_digit, digit_value}

-- no digit mends a number that is none
pub digits_after-none : (base limit : ℕ) (bytes : List ℕ) → digits_after base limit bytes None ≡ None
digits_after-none base limit [] = refl
digits_after-none base limit (byte ∷ bytes) = refl

-- one more digit
pub digits_after-more : (base limit number i : ℕ) (bytes : List ℕ) → i < length bytes → digits_after base limit (drop i bytes) (Some number) ≡ digits_after base limit (drop (i + 1) bytes) (with_digit base limit number (digit_value (get_or bytes i 0)))
digits_after-more base limit number i bytes h = at_drop_more (λ xs. digits_after base limit xs (Some number)) bytes i 0 h

-- some digits are read from 0 on
pub digits_of-some : (base limit : ℕ) (bytes : List ℕ) → 0 < length bytes → digits_after base limit bytes (Some 0) ≡ digits_of base limit bytes
digits_of-some base limit [] h = absurd (omega arith)
digits_of-some base limit (byte ∷ bytes) h = refl
