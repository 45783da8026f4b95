-- The printed names of registers: each is the name of a register, and the name of no other.
use Rattle.std.proofs.Common.{◌≡◌, ◌<◌, ◌≤◌, ◌+◌, ◌&&◌, ◌||◌, ◌⊎◌, ℕ, zero, suc, true, false, cond, List, [], ◌∷◌, ◌++◌, length, eqb, ltb, bytes_eq, inl, inr, ⊎_elim, Some, None, refl, sym, ap, subst, ◌∙◌, arith, eq-eqb, ne_eqb, add-zero}
use Rattle.std.proofs.lemmas.Bool.{cond-true, cond-false, cond_both, and_from, and_left, or_left, or_right, ltb-true, ltb-false, cases_lt}
use Rattle.std.proofs.lemmas.List.{length_push}
use Rattle.std.proofs.lemmas.Option.{none-some}
use Rattle.osal_line.specs.Values.{register_name, is_register_byte, is_between}
use Rattle.osal_line.specs.Registers.{place_from}
use Rattle.osal_print.specs.Shortest.{register_name as printed_name, register_text}
use Rattle.osal_print.proofs.IsWord.{IsWord}
use Rattle.osal_print.proofs.Mirrored.{printed_names}
use Rattle.osal_print.proofs.Digits.{between}
use Rattle.osal_print.proofs.Bytes.{run_word}

-- the byte of a register's printed name
abbrev pub letter : ℕ → ℕ
letter k = cond (ltb k 26) (97 + k) (22 + k)

letter_bounds : (k : ℕ) → k < 32 → ((97 ≤ letter k) × (letter k ≤ 122)) ⊎ ((48 ≤ letter k) × (letter k ≤ 53))
letter_bounds k few =
    cond_both (ltb k 26) (97 + k) (22 + k) (λ byte. ((97 ≤ byte) × (byte ≤ 122)) ⊎ ((48 ≤ byte) × (byte ≤ 53)))
    (λ t. let h = ltb-true k 26 t in inl (omega arith, omega arith))
    (λ t. let h = ltb-false k 26 t in inr (omega arith, omega arith))

other_letter : (j k : ℕ) → j < k → k < 32 → letter j ≡ letter k → ⊥
other_letter j k less few =
    cond_both (ltb j 26) (97 + j) (22 + j) (λ byte. byte ≡ letter k → ⊥)
    (λ t. let h = ltb-true j 26 t in cond_both (ltb k 26) (97 + k) (22 + k) (λ byte. 97 + j ≡ byte → ⊥) (λ u e. omega arith) (λ u. let g = ltb-false k 26 u in λ e. omega arith))
    (λ t. let h = ltb-false j 26 t in cond_both (ltb k 26) (97 + k) (22 + k) (λ byte. 22 + j ≡ byte → ⊥) (λ u. let g = ltb-true k 26 u in λ e. omega arith) (λ u e. omega arith))

same_name : (k : ℕ) → bytes_eq (printed_name k) (printed_name k) ≡ true
same_name k = and_from (eqb (letter k) (letter k)) true (eq-eqb (letter k) (letter k) refl) refl

other_name : (j k : ℕ) → j < k → k < 32 → bytes_eq (printed_name j) (printed_name k) ≡ false
other_name j k less few = and_left (eqb (letter j) (letter k)) true (ne_eqb (letter j) (letter k) (other_letter j k less few))

-- the printed name of a register is the name of one
pub printed_is_name : (k : ℕ) → k < 32 → register_name (register_text k) ≡ Some (printed_name k)
printed_is_name k few =
    cond-true (is_register_byte (letter k) && true) (Some (printed_name k)) None
    (and_from (is_register_byte (letter k)) true (passes (letter_bounds k few)) refl)
  where
    passes : ((97 ≤ letter k) × (letter k ≤ 122)) ⊎ ((48 ≤ letter k) × (letter k ≤ 53)) → is_register_byte (letter k) ≡ true
    passes (inl b) =
        or_left (is_between 97 122 (letter k) || is_between 48 57 (letter k)) (eqb (letter k) 95)
        (or_left (is_between 97 122 (letter k)) (is_between 48 57 (letter k)) (between 97 122 (letter k) b.0 b.1))
    passes (inr b) =
        let low = b in
        or_left (is_between 97 122 (letter k) || is_between 48 57 (letter k)) (eqb (letter k) 95)
        (or_right (is_between 97 122 (letter k)) (is_between 48 57 (letter k)) (between 48 57 (letter k) b.0 (omega (arith, low))))

-- the byte of a register's printed name is a letter or a digit
pub letter_apart : (k : ℕ) → k < 32 → (48 ≤ letter k) × (letter k ≤ 122)
letter_apart k few = by (letter_bounds k few)
  where
    by : ((97 ≤ letter k) × (letter k ≤ 122)) ⊎ ((48 ≤ letter k) × (letter k ≤ 53)) → (48 ≤ letter k) × (letter k ≤ 122)
    by (inl b) = let c = b in (omega (arith, c), omega (arith, c))
    by (inr b) = let c = b in (omega (arith, c), omega (arith, c))

-- a register's printed name is a word
pub register_word : (k : ℕ) → k < 32 → IsWord (register_text k)
register_word k few =
    let apart = letter_apart k few in
    run_word 36 (printed_name k) ((omega arith, omega arith), ((omega (arith, apart), omega (arith, apart)), tt)) refl refl

-- there are so many printed names
pub printed_many : (n : ℕ) → length (printed_names n) ≡ n
printed_many zero = refl
printed_many (suc n) = omega (arith, length_push (printed_names n) (printed_name n), printed_many n)

-- the place of a name in some names and one more
place_push : (at : ℕ) (names : List (List ℕ)) (last name : List ℕ) → place_from at names name ≡ None → place_from at (names ++ last ∷ []) name ≡ cond (bytes_eq last name) (Some (at + length names)) None
place_push at [] last name none = ap (λ (v : ℕ). cond (bytes_eq last name) (Some v) None) (sym (add-zero at))
place_push at (other ∷ names) last name none =
    cond_both (bytes_eq other name) (Some at) (place_from (at + 1) (names ++ last ∷ []) name) (λ found. found ≡ cond (bytes_eq last name) (Some (at + suc (length names))) None)
    (λ is. absurd (none-some at (sym none ∙ cond-true (bytes_eq other name) (Some at) (place_from (at + 1) names name) is)))
    (λ is.
    place_push (at + 1) names last name (sym (cond-false (bytes_eq other name) (Some at) (place_from (at + 1) names name) is) ∙ none)
    ∙ ap (λ (v : ℕ). cond (bytes_eq last name) (Some v) None) (omega arith))

place_kept : (at : ℕ) (names : List (List ℕ)) (last name : List ℕ) (place : ℕ) → place_from at names name ≡ Some place → place_from at (names ++ last ∷ []) name ≡ Some place
place_kept at [] last name place found = absurd (none-some place found)
place_kept at (other ∷ names) last name place found =
    cond_both (bytes_eq other name) (Some at) (place_from (at + 1) (names ++ last ∷ []) name) (λ there. there ≡ Some place)
    (λ is. sym (cond-true (bytes_eq other name) (Some at) (place_from (at + 1) names name) is) ∙ found)
    (λ is. place_kept (at + 1) names last name place (sym (cond-false (bytes_eq other name) (Some at) (place_from (at + 1) names name) is) ∙ found))

-- a register that is not among the first has no place
pub printed_new : (n k : ℕ) → n ≤ k → k < 32 → place_from 0 (printed_names n) (printed_name k) ≡ None
printed_new zero k within few = refl
printed_new (suc n) k within few =
    place_push 0 (printed_names n) (printed_name n) (printed_name k) (printed_new n k (omega arith) few)
    ∙ cond-false (bytes_eq (printed_name n) (printed_name k)) _ _ (other_name n k (omega arith) few)

-- one that is has its own
pub printed_old : (n k : ℕ) → k < n → n ≤ 32 → place_from 0 (printed_names n) (printed_name k) ≡ Some k
printed_old zero k within few = absurd (omega arith)
printed_old (suc n) k within few =
    ⊎_elim
    (λ less. place_kept 0 (printed_names n) (printed_name n) (printed_name k) k (printed_old n k less (omega arith)))
    (λ past.
    let same : n ≡ k = omega arith in
    place_push 0 (printed_names n) (printed_name n) (printed_name k) (printed_new n k past (omega arith))
    ∙ cond-true (bytes_eq (printed_name n) (printed_name k)) _ _ (subst (λ (m : ℕ). bytes_eq (printed_name n) (printed_name m) ≡ true) same (same_name n))
    ∙ ap Some (omega (arith, same, printed_many n)))
    (cases_lt k n)
