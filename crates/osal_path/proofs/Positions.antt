-- What a search for the first place that passes says, read off its answer.
use Rattle.std.proofs.Common.{◌≡◌, ◌≤◌, ◌<◌, ℕ, Bool, true, false, cond, nat_lt, List, length, Some, None, arith}
use Rattle.std.specs.List.{position, position_or_len}
use Rattle.std.proofs.lemmas.Bool.Decides.{nat_tests}

answered : (b : Bool) (n at : ℕ) → cond b (Some n) None ≡ Some at → (b ≡ true) × (n ≡ at)
answered true n at e = grind arith
answered false n at e = grind arith

refused : (b : Bool) (n : ℕ) → cond b (Some n) None ≡ None → b ≡ false
refused true n e = grind arith
refused false n e = grind arith

module _ {X : Type 0} (p : X → Bool) (xs : List X) where
  -- a place that is found is the first that passes, and lies within
  pub place_found : (at : ℕ) → position p xs ≡ Some at → (position_or_len p xs < length xs) × (position_or_len p xs ≡ at)
  place_found at e =
      let both = answered (nat_lt (position_or_len p xs) (length xs)) (position_or_len p xs) at e in
      (let test = both.0 in grind (arith, nat_tests), both.1)

  -- where none is found the search comes to the end
  pub place_missed : position p xs ≡ None → length xs ≤ position_or_len p xs
  place_missed e =
      let test = refused (nat_lt (position_or_len p xs) (length xs)) (position_or_len p xs) e in grind (arith, nat_tests)
