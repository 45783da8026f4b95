-- The numbers from one on: what holds of each, and one number more.
use Rattle.std.proofs.Common.{◌≡◌, ◌≤◌, ◌<◌, ◌+◌, ◌-◌, ℕ, zero, suc, List, [], ◌∷◌, ◌++◌, map, inl, inr, sym, ap, subst, ◌∙◌, arith}
use Rattle.std.proofs.lemmas.Bool.{cases_eq}
use Rattle.std.proofs.lemmas.List.{map-append}
use Rattle.osal_make.specs.MakeText.{counted, workers}

-- two tables that are one have the same at each number
pub at_counted : {X : Type 0} (f g : ℕ → X) (n from k : ℕ) → map f (counted n from) ≡ map g (counted n from) → from ≤ k → k < from + n → f k ≡ g k
at_counted f g zero from k tables low high = absurd (omega arith)
at_counted f g (suc n) from k tables low high =
    elim (cases_eq from k) [
      | inl here ↦ subst (λ j. f j ≡ g j) here (cc)
      | inr behind ↦ at_counted f g n (from + 1) k (cc) (omega arith) (omega arith)
    ]

-- one number more stands at the end
counted_more : (n from : ℕ) → counted (suc n) from ≡ counted n from ++ (from + n) ∷ []
counted_more zero from = ap (λ (k : ℕ). k ∷ []) (omega arith)
counted_more (suc n) from =
    let last : from + 1 + n ≡ from + suc n = omega arith in
    ap (λ (ks : List ℕ). from ∷ ks) (counted_more n (from + 1) ∙ ap (λ (k : ℕ). counted n (from + 1) ++ k ∷ []) last)

-- the numbers up to one
counted_to : (k : ℕ) → 1 ≤ k → counted (k + 1 - 1) 1 ≡ counted (k - 1) 1 ++ k ∷ []
counted_to k some =
    let up : k + 1 - 1 ≡ suc (k - 1) = omega arith in
    let last : 1 + (k - 1) ≡ k = omega arith in
    ap (λ (n : ℕ). counted n 1) up ∙ counted_more (k - 1) 1 ∙ ap (λ (j : ℕ). counted (k - 1) 1 ++ j ∷ []) last

-- a list that begins with one element, and then has the table of the numbers below one
abbrev pub IsTable : {X : Type 0} → X → (ℕ → X) → ℕ → List X → Type 0
IsTable head f k list = list ≡ head ∷ map f (counted (k - 1) 1)

-- it has the number too once that is pushed
pub table_more : {X : Type 0} (head one : X) (f : ℕ → X) (k : ℕ) (before after : List X) → 1 ≤ k → IsTable head f k before → one ≡ f k → after ≡ before ++ one ∷ [] → IsTable head f (k + 1) after
table_more {X = X} head one f k before after some table one-is pushed =
    pushed
    ∙ ap (λ (v : List X). v ++ one ∷ []) table
    ∙ ap (λ (x : X). head ∷ map f (counted (k - 1) 1) ++ x ∷ []) one-is
    ∙ ap (λ (v : List X). head ∷ v) (sym (map-append f (counted (k - 1) 1) (k ∷ [])))
    ∙ ap (λ (v : List ℕ). head ∷ map f v) (sym (counted_to k some))

-- it has them all once the last is pushed
pub table_done : {X : Type 0} (head : X) (f : ℕ → X) (k n : ℕ) (list : List X) → n + 1 ≡ k → IsTable head f k list → list ≡ head ∷ map f (workers n)
table_done head f k n list last table =
    let all : k - 1 ≡ n = omega arith in
    table ∙ ap (λ (m : ℕ). head ∷ map f (counted m 1)) all
