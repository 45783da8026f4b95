-- The runs of a ring's bytes: what is first in two of them, and what a ring keeps of what is put in.
use Rattle.std.proofs.Common.{◌≡◌, ◌≤◌, ◌-◌, ℕ, zero, suc, List, [], ◌∷◌, ◌++◌, length, take, refl, ap, arith}
use Rattle.std.proofs.Math.Seq.{take-nil}
use Rattle.circular_buffer.specs.Buffer.{keep_last}

-- a ring keeps all of what it has room for
pub keep_all : (n : ℕ) (items : List ℕ) → length items ≤ n → keep_last n items ≡ items
keep_all n items room =
    let none : length items - n ≡ 0 = omega arith in
    rw none refl

-- the first of the items of two runs: those of the first run, and behind them what is left
pub take-runs : (n : ℕ) (front back : List ℕ) → take n (front ++ back) ≡ take n front ++ take (n - length front) back
take-runs n [] back =
    let all : n - length {A = ℕ} [] ≡ n = omega arith in
    let none : take {A = ℕ} n [] ≡ [] = take-nil n in
    rw (all, none) refl
take-runs zero (x ∷ front) back =
    let none : 0 - length (x ∷ front) ≡ 0 = omega arith in
    rw none refl
take-runs (suc n) (x ∷ front) back =
    let same : suc n - length (x ∷ front) ≡ n - length front = omega arith in
    rw same (ap (λ l. x ∷ l) (take-runs n front back))
