-- The slots of children: what a look-up of one says, and what a write to a slot makes of it.
use Rattle.std.proofs.Common.{◌≡◌, ◌⊎◌, ◌<◌, ◌+◌, ℕ, zero, suc, Bool, true, false, List, [], ◌∷◌, length, get_or, set, Option, None, Some, refl, sym, ap, ◌∙◌, inl, inr, arith, get_or-set_same, get_or-set_other, length-set}
use Rattle.std.specs.List.{position_from}
use Rattle.std.specs.Str.{bytes_eq}
use Rattle.std.proofs.lemmas.Bool.{cases_Bool, cases_eq, and_parts, and_from}
use Rattle.std.proofs.lemmas.Bool.Decides.{nat_tests}
use Rattle.std.proofs.lemmas.Slice.Eq.{bytes_eq-Decides}
use Rattle.osal_tree.specs.declared.node.Place.{Place}
use Rattle.osal_tree.specs.declared.node.Place.TheVariants as place
use Rattle.osal_tree.specs.declared.node.Node.{Node}
use Rattle.osal_tree.specs.Slots.{same_place, is_at, child}
use Rattle.osal_tree.specs.Sound.{Lone}
use Rattle.osal_tree.proofs.Paths.{clash}

module _ {X : Type 0} (test : X → Bool) where
  -- the first place that passes, counted from n
  pub first_passes : (n : ℕ) (xs : List X) (d : X) (i : ℕ) → position_from test n xs ≡ Some i → (k : ℕ) × ((i ≡ n + k) × ((k < length xs) × (test (get_or xs k d) ≡ true)))
  first_passes n [] d i e = absurd cc
  first_passes n (x ∷ xs) d i e =
      elim (cases_Bool (test x)) [
        | inl passed ↦
            let at : Some n ≡ Some i = rw passed at e in
            let same : n ≡ i = cc in (0, (omega arith, (omega arith, passed)))
        | inr failed ↦
            let rest : position_from test (n + 1) xs ≡ Some i = rw failed at e in
            let found = first_passes (n + 1) xs d i rest in
            (suc found.0, (let at = found.1.0 in omega arith, (let less = found.1.1.0 in omega arith, found.1.1.1)))
      ]

  none_on : (x : X) (xs : List X) (d : X) (k : ℕ) → test x ≡ false → ((j : ℕ) → j < length xs → test (get_or xs j d) ≡ false) → k < suc (length xs) → test (get_or (x ∷ xs) k d) ≡ false
  none_on x xs d zero failed rest less = failed
  none_on x xs d (suc k) failed rest less = rest k (omega arith)

  -- where none is found, none passes
  pub none_passes : (n : ℕ) (xs : List X) (d : X) (k : ℕ) → position_from test n xs ≡ None → k < length xs → test (get_or xs k d) ≡ false
  none_passes n [] d k e less = absurd (omega arith)
  none_passes n (x ∷ xs) d k e less =
      elim (cases_Bool (test x)) [
        | inl passed ↦ let at : Some n ≡ None = rw passed at e in absurd cc
        | inr failed ↦
            let left : position_from test (n + 1) xs ≡ None = rw failed at e in
            none_on x xs d k failed (λ j l. none_passes (n + 1) xs d j left l) less
      ]

-- places are told apart
pub place_same : (a b : Place) → same_place a b ≡ true → a ≡ b
place_same place.Root place.Root e = refl
place_same place.Root (place.Slot b) e = absurd cc
place_same (place.Slot a) place.Root e = absurd cc
place_same (place.Slot a) (place.Slot b) e = let same : a ≡ b = grind (arith, nat_tests) in ap place.Slot same

pub place_itself : (a : Place) → same_place a a ≡ true
place_itself place.Root = refl
place_itself (place.Slot a) = grind (arith, nat_tests)

-- a slot has the node with that name in that directory
pub record Holds (content : Option Node) (home : Place) (name : List ℕ) : Type 0 where
  pub node : Node
  pub is : content ≡ Some node
  pub home_is : node.home ≡ home
  pub name_is : node.name ≡ name

pub holds_of : (content : Option Node) (home : Place) (name : List ℕ) → is_at home name content ≡ true → Holds content home name
holds_of None home name e = absurd cc
holds_of (Some node) home name e =
    let parts = and_parts (same_place node.home home) (bytes_eq node.name name) e in
    record { node = node; is = refl; home_is = place_same node.home home parts.0; name_is = (bytes_eq-Decides node.name name).0 parts.1 }

pub is_at_of : (content : Option Node) (home : Place) (name : List ℕ) → Holds content home name → is_at home name content ≡ true
is_at_of content home name h =
    ap (is_at home name) h.is ∙ and_from (same_place h.node.home home) (bytes_eq h.node.name name) (ap (λ p. same_place p home) h.home_is ∙ place_itself home) ((bytes_eq-Decides h.node.name name).1 h.name_is)

module _ (slots : List (Option Node)) where
  -- the slot that is found has the node
  pub child_holds : (home : Place) (name : List ℕ) (slot : ℕ) → child slots home name ≡ Some slot → (slot < length slots) × Holds (get_or slots slot None) home name
  child_holds home name slot e =
      let found = first_passes (is_at home name) 0 slots None slot e in
      let at : found.0 ≡ slot = (let from = found.1.0 in omega arith) in
      (rw at at found.1.1.0, holds_of (get_or slots slot None) home name (rw at at found.1.1.1))

  pub child_none : (home : Place) (name : List ℕ) (slot : ℕ) → child slots home name ≡ None → slot < length slots → Holds (get_or slots slot None) home name → ⊥
  child_none home name slot e less h =
      clash (is_at home name (get_or slots slot None)) (is_at_of _ home name h) (none_passes (is_at home name) 0 slots None slot e less)

  -- a node's slot is found by its place and name
  pub child_is : Lone slots → (slot : ℕ) (home : Place) (name : List ℕ) → slot < length slots → Holds (get_or slots slot None) home name → child slots home name ≡ Some slot
  child_is lone slot home name less h = found (child slots home name) refl
    where
      found : (o : Option ℕ) → child slots home name ≡ o → o ≡ Some slot
      found None e = absurd (child_none home name slot e less h)
      found (Some other) e =
          let there = (child_holds home name other e).1 in
          ap Some (sym (lone slot other h.node there.node h.is there.is (h.home_is ∙ sym there.home_is) (h.name_is ∙ sym there.name_is)))

-- what a slot has after a write to one
pub written_cases : (slots : List (Option Node)) (slot other : ℕ) (content found : Option Node) → slot < length slots → get_or (set slots slot content) other None ≡ found → ((other ≡ slot) × (content ≡ found)) ⊎ ((other ≡ slot → ⊥) × (get_or slots other None ≡ found))
written_cases slots slot other content found less e =
    elim (cases_eq other slot) [
      | inl same ↦ inl (same, sym (get_or-set_same slots slot content None less) ∙ ap (λ k. get_or (set slots slot content) k None) (sym same) ∙ e)
      | inr ne ↦ inr (ne, sym (get_or-set_other slots slot other content None ne) ∙ e)
    ]

module _ (slots : List (Option Node)) (slot : ℕ) (content : Option Node) (less : slot < length slots) (lone : Lone slots) (still : Lone (set slots slot content)) where
  after : List (Option Node)
  after = set slots slot content

  within : slot < length (set slots slot content)
  within = omega (arith, length-set slots slot content)

  -- what is written is found
  pub child_here : (home : Place) (name : List ℕ) → Holds content home name → child (set slots slot content) home name ≡ Some slot
  child_here home name h =
      child_is (set slots slot content) still slot home name within
      (record { node = h.node; is = get_or-set_same slots slot content None less ∙ h.is; home_is = h.home_is; name_is = h.name_is })

  -- what stood in the slot is not found any more
  pub child_gone : (home : Place) (name : List ℕ) → (Holds content home name → ⊥) → Holds (get_or slots slot None) home name → child (set slots slot content) home name ≡ None
  child_gone home name other old = gone (child (set slots slot content) home name) refl
    where
      gone : (o : Option ℕ) → child (set slots slot content) home name ≡ o → o ≡ None
      gone None e = refl
      gone (Some at) e =
          let there = (child_holds (set slots slot content) home name at e).1 in
          elim (written_cases slots slot at content _ less there.is) [
            | inl here ↦ absurd (other (record { node = there.node; is = here.1; home_is = there.home_is; name_is = there.name_is }))
            | inr away ↦ absurd (away.0 (lone at slot there.node old.node away.1 old.is (there.home_is ∙ sym old.home_is) (there.name_is ∙ sym old.name_is)))
          ]

  -- any other child is found where it was
  pub child_same : (home : Place) (name : List ℕ) → (Holds content home name → ⊥) → (Holds (get_or slots slot None) home name → ⊥) → child (set slots slot content) home name ≡ child slots home name
  child_same home name new old = same (child slots home name) refl
    where
      none : child slots home name ≡ None → (o : Option ℕ) → child (set slots slot content) home name ≡ o → o ≡ None
      none before None e = refl
      none before (Some at) e =
          let found = child_holds (set slots slot content) home name at e in
          let there = found.1 in
          elim (written_cases slots slot at content _ less there.is) [
            | inl here ↦ absurd (new (record { node = there.node; is = here.1; home_is = there.home_is; name_is = there.name_is }))
            | inr away ↦ absurd (child_none slots home name at before (omega (arith, found.0, length-set slots slot content)) (record { node = there.node; is = away.1; home_is = there.home_is; name_is = there.name_is }))
          ]

      same : (o : Option ℕ) → child slots home name ≡ o → child (set slots slot content) home name ≡ child slots home name
      same None before = none before (child (set slots slot content) home name) refl ∙ sym before
      same (Some at) before =
          let found = child_holds slots home name at before in
          let there = found.1 in
          let ne : at ≡ slot → ⊥ = λ e. old (record { node = there.node; is = ap (λ k. get_or slots k None) (sym e) ∙ there.is; home_is = there.home_is; name_is = there.name_is }) in
          child_is (set slots slot content) still at home name (omega (arith, found.0, length-set slots slot content)) (record { node = there.node; is = get_or-set_other slots slot at content None ne ∙ there.is; home_is = there.home_is; name_is = there.name_is }) ∙ sym before
