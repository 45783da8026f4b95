-- How many slots have a node.
use Rattle.std.proofs.Common.{◌≡◌, ◌<◌, ◌+◌, ℕ, zero, suc, List, [], ◌∷◌, Option, None, Some, is_none, length, get_or, set, replicate, refl, ap, arith}
use Rattle.std.specs.List.{position_from}
use Rattle.osal_tree.specs.declared.node.Node.{Node}
use Rattle.osal_tree.specs.Sound.{taken}

pub taken_filled : (slots : List (Option Node)) (slot : ℕ) (node : Node) → slot < length slots → get_or slots slot None ≡ None → taken (set slots slot (Some node)) ≡ suc (taken slots)
taken_filled [] slot node less free = absurd (omega arith)
taken_filled (None ∷ slots) zero node less free = refl
taken_filled (Some old ∷ slots) zero node less free = absurd cc
taken_filled (None ∷ slots) (suc slot) node less free = taken_filled slots slot node (omega arith) free
taken_filled (Some old ∷ slots) (suc slot) node less free = ap suc (taken_filled slots slot node (omega arith) free)

pub taken_freed : (slots : List (Option Node)) (slot : ℕ) (node : Node) → get_or slots slot None ≡ Some node → suc (taken (set slots slot None)) ≡ taken slots
taken_freed [] slot node is = absurd cc
taken_freed (None ∷ slots) zero node is = absurd cc
taken_freed (Some old ∷ slots) zero node is = refl
taken_freed (None ∷ slots) (suc slot) node is = taken_freed slots slot node is
taken_freed (Some old ∷ slots) (suc slot) node is = ap suc (taken_freed slots slot node is)

pub taken_moved : (slots : List (Option Node)) (slot : ℕ) (node another : Node) → get_or slots slot None ≡ Some node → taken (set slots slot (Some another)) ≡ taken slots
taken_moved [] slot node another is = absurd cc
taken_moved (None ∷ slots) zero node another is = absurd cc
taken_moved (Some old ∷ slots) zero node another is = refl
taken_moved (None ∷ slots) (suc slot) node another is = taken_moved slots slot node another is
taken_moved (Some old ∷ slots) (suc slot) node another is = ap suc (taken_moved slots slot node another is)

-- where no slot is free, all are taken
pub all_taken : (n : ℕ) (slots : List (Option Node)) → position_from is_none n slots ≡ None → taken slots ≡ length slots
all_taken n [] e = refl
all_taken n (None ∷ slots) e = absurd cc
all_taken n (Some node ∷ slots) e = ap suc (all_taken (n + 1) slots e)

pub few_taken : (slots : List (Option Node)) → taken slots < suc (length slots)
few_taken [] = omega arith
few_taken (None ∷ slots) = let rest = few_taken slots in omega arith
few_taken (Some node ∷ slots) = let rest = few_taken slots in omega arith

-- where a slot is free, not all are taken
pub some_free : (n : ℕ) (slots : List (Option Node)) (slot : ℕ) → position_from is_none n slots ≡ Some slot → taken slots < length slots
some_free n [] slot e = absurd cc
some_free n (None ∷ slots) slot e = few_taken slots
some_free n (Some node ∷ slots) slot e = let rest = some_free (n + 1) slots slot e in omega arith

pub none_taken : (n : ℕ) → taken (replicate n None) ≡ 0
none_taken zero = refl
none_taken (suc n) = none_taken n
