-- The first line of a text ends at its first byte 10.
use Rattle.std.proofs.Common.{◌≡◌, ◌<◌, ◌+◌, ℕ, suc, zero, List, [], ◌∷◌, length, take, drop, get_or, eqb, sym, ap, ◌∙◌, arith, false}
use Rattle.std.proofs.lemmas.Bool.{eq-eqb, cond-true, cond-false}
use Rattle.std.proofs.lemmas.Bool.Decides.{nat_tests}
use Rattle.std.proofs.Math.Numerals.{add-one}
use Rattle.osal_line.specs.Words.{lines_of, onto_line}

-- a byte that is not the line's end
ne-eqb : (byte : ℕ) → (byte ≡ 10 → ⊥) → eqb byte 10 ≡ false
ne-eqb byte h = grind (arith, nat_tests)

-- the line before the first byte 10, and the lines behind it
pub first_line : (text : List ℕ) (n : ℕ) → n < length text → ((k : ℕ) → k < n → get_or text k 0 ≡ 10 → ⊥) → get_or text n 0 ≡ 10 → lines_of text ≡ take n text ∷ lines_of (drop (suc n) text)
first_line [] n within before end = absurd (omega arith)
first_line (byte ∷ bytes) zero within before end = cond-true (eqb byte 10) _ _ (eq-eqb byte 10 end)
first_line (byte ∷ bytes) (suc n) within before end =
    cond-false (eqb byte 10) _ _ (ne-eqb byte (before 0 (omega arith)))
    ∙ ap (onto_line byte) (first_line bytes n (omega arith) (λ k h. before (suc k) (omega arith)) end)

-- a text without a byte 10 is one line
pub only_line : (text : List ℕ) → 0 < length text → ((k : ℕ) → k < length text → get_or text k 0 ≡ 10 → ⊥) → lines_of text ≡ text ∷ []
only_line [] some before = absurd (omega arith)
only_line (byte ∷ []) some before = cond-false (eqb byte 10) _ _ (ne-eqb byte (before 0 (omega arith)))
only_line (byte ∷ another ∷ bytes) some before =
    cond-false (eqb byte 10) _ _ (ne-eqb byte (before 0 (omega arith)))
    ∙ ap (onto_line byte) (only_line (another ∷ bytes) (omega arith) (λ k h. before (suc k) (omega arith)))

-- the same, as the code counts
pub line_before_end : (text : List ℕ) (n : ℕ) → n < length text → ((k : ℕ) → k < n → get_or text k 0 ≡ 10 → ⊥) → get_or text n 0 ≡ 10 → lines_of text ≡ take n text ∷ lines_of (drop (n + 1) text)
line_before_end text n within before end =
    first_line text n within before end ∙ ap (λ (v : ℕ). take n text ∷ lines_of (drop v text)) (sym (add-one n))
