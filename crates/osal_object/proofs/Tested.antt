-- Loops that test the elements of a list one by one.
use Rattle.std.proofs.Common.{◌≡◌, ◌<◌, ◌≤◌, ◌+◌, ℕ, Bool, true, false, cond, List, ◌++◌, Some, find, length, map, take, drop, ap, sym, ◌∙◌}
use Rattle.std.proofs.Math.ListN.{get_or, set, drop_of_length-le}
use Rattle.std.proofs.lemmas.List.{at_drop_more, take_all, append-nil}
use Rattle.std.proofs.lemmas.List.Edits.{map_over_more}

module _ {X : Type 0} where
  next_found : (p : X → Bool) (xs : List X) (i : ℕ) (x : X) → i < length xs → x ≡ get_or xs i x → find p (drop i xs) ≡ cond (p x) (Some x) (find p (drop (i + 1) xs))
  next_found p xs i x inside is =
      at_drop_more (find p) xs i x inside ∙ ap (λ y. cond (p y) (Some y) (find p (drop (i + 1) xs))) (sym is)

  -- the element at hand is the first that passes
  pub found_here : (p : X → Bool) (xs : List X) (i : ℕ) (x : X) → i < length xs → x ≡ get_or xs i x → p x ≡ true → find p (drop i xs) ≡ find p xs → Some x ≡ find p xs
  found_here p xs i x inside is passes so_far =
      sym (ap (λ b. cond b (Some x) (find p (drop (i + 1) xs))) passes) ∙ sym (next_found p xs i x inside is) ∙ so_far

  -- the element at hand fails, and those that are left give the same answer
  pub found_later : (p : X → Bool) (xs : List X) (i : ℕ) (x : X) → i < length xs → x ≡ get_or xs i x → p x ≡ false → find p (drop i xs) ≡ find p xs → find p (drop (i + 1) xs) ≡ find p xs
  found_later p xs i x inside is fails so_far =
      sym (ap (λ b. cond b (Some x) (find p (drop (i + 1) xs))) fails) ∙ sym (next_found p xs i x inside is) ∙ so_far

  -- f of the element at hand has been written
  pub map_over_next : (f : X → X) (xs ys zs : List X) (i : ℕ) (x : X) → i < length xs → ys ≡ map f (take i xs) ++ drop i xs → x ≡ get_or ys i x → (y : X) → zs ≡ set ys i y → y ≡ f (get_or ys i x) → zs ≡ map f (take (i + 1) xs) ++ drop (i + 1) xs
  map_over_next f xs ys zs i x inside so_far is y written same =
      written ∙ ap (set ys i) (same ∙ ap f (sym is)) ∙ map_over_more f xs ys i x inside so_far is

  -- each element has been written
  pub map_over_all : (f : X → X) (xs ys : List X) (i : ℕ) → length xs ≤ i → ys ≡ map f (take i xs) ++ drop i xs → ys ≡ map f xs
  map_over_all f xs ys i over so_far =
      so_far ∙ ap (λ zs. map f zs ++ drop i xs) (take_all i xs over) ∙ ap (λ zs. map f xs ++ zs) (drop_of_length-le xs over) ∙ append-nil (map f xs)
