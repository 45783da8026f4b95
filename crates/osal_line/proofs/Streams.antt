-- A set of streams that is not full takes each stream.
use Rattle.std.proofs.Common.{◌≡◌, ◌≤◌, ◌<◌, ◌+◌, ◌||◌, ℕ, List, length, drop, map, get_or, Bool, true, false, ltb, refl, sym, ap, ◌∙◌, slice_index, arith}
use Rattle.std.proofs.lemmas.Bool.{cond-true}
use Rattle.std.proofs.lemmas.Bool.Decides.{nat_tests}
use Rattle.std.proofs.lemmas.List.{at_drop_more}
use Rattle.osal_select.specs.Sets.{added, is_in, takes, joined, with_stream}
use Rattle.osal_select.proofs.Orders.{with_length}

or_right : (a b : Bool) → b ≡ true → (a || b) ≡ true
or_right true b h = refl
or_right false b h = h

added_there : (id : ℕ) (set : List ℕ) → length set < 64 → added id set ≡ with_stream id set
added_there id set short =
    let room : ltb (length set) 64 ≡ true = grind (arith, nat_tests) in
    cond-true (takes id set) _ _ (or_right (is_in id set) (ltb (length set) 64) room)

module _ (set more : List ℕ) (id : ℕ) (short : length set < 64) (added-is : more ≡ added id set) where
  -- a set has one stream more at most
  pub one_longer : length more ≤ length set + 1
  one_longer =
      let same = ap length (added-is ∙ added_there id set short) in
      let longer = with_length id set in
      omega arith

  -- the identifiers that some registers hold are joined one by one
  pub joined_one : (registers named : List ℕ) (i item : ℕ) → i < length named → item ≡ get_or named i item → id ≡ slice_index registers item → joined set (map (slice_index registers) (drop i named)) ≡ joined more (map (slice_index registers) (drop (i + 1) named))
  joined_one registers named i item within item-is held =
      at_drop_more (λ names. joined set (map (slice_index registers) names)) named i item within
      ∙ ap (λ one. joined (with_stream one set) (map (slice_index registers) (drop (i + 1) named))) (ap (slice_index registers) (sym item-is) ∙ sym held)
      ∙ ap (λ all. joined all (map (slice_index registers) (drop (i + 1) named))) (sym (added-is ∙ added_there id set short))
