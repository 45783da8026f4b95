-- Where paths lead.
use Rattle.std.proofs.Common.{◌≡◌, ◌<◌, ◌+◌, List, [], ◌∷◌, ◌++◌, ℕ, Option, None, Some, length, drop, get_or, refl, sym, ap, ◌∙◌, inl, inr}
use Rattle.std.proofs.lemmas.List.{at_drop_more}
use Rattle.osal_tree.specs.declared.node.Place.{Place}
use Rattle.osal_tree.specs.declared.node.Place.TheVariants as place
use Rattle.osal_tree.specs.declared.node.Node.{Node}
use Rattle.osal_tree.specs.Slots.{child, slot_place, step, walk, reach}
use Rattle.osal_tree.proofs.Paths.{by_last, last_cases}
use Rattle.osal_tree.proofs.Children.{Holds, child_holds}

-- a name leads from a place to a node's slot
pub record Leads (slots : List (Option Node)) (from : Option Place) (name : List ℕ) (end : Place) : Type 0 where
  pub home : Place
  pub slot : ℕ
  pub from_is : from ≡ Some home
  pub end_is : end ≡ place.Slot slot
  pub less : slot < length slots
  pub holds : Holds (get_or slots slot None) home name
  pub child_is : child slots home name ≡ Some slot

module _ (slots : List (Option Node)) where
  -- from nowhere no path leads anywhere
  pub walk_none : (at : List (List ℕ)) → walk slots None at ≡ None
  walk_none [] = refl
  walk_none (name ∷ rest) = walk_none rest

  -- one name on, the names that are left still lead to the same place
  pub walk_on : (home : Place) (at : List (List ℕ)) (i : ℕ) (name : List ℕ) (end : Option Place) → i < length at → name ≡ get_or at i name → walk slots (Some home) (drop i at) ≡ end → walk slots (slot_place (child slots home name)) (drop (i + 1) at) ≡ end
  walk_on home at i name end within is before =
      ap (λ n. walk slots (step slots (Some home) n) (drop (i + 1) at)) is ∙ sym (at_drop_more (walk slots (Some home)) at i name within) ∙ before

  walk_last : (from : Option Place) (at : List (List ℕ)) (name : List ℕ) → walk slots from (at ++ name ∷ []) ≡ step slots (walk slots from at) name
  walk_last from [] name = refl
  walk_last from (first ∷ at) name = walk_last (step slots from first) at name

  -- a path leads where its last name leads from where the others do
  pub reach_last : (at : List (List ℕ)) (name : List ℕ) → reach slots (at ++ name ∷ []) ≡ step slots (reach slots at) name
  reach_last at name = walk_last (Some place.Root) at name

  -- where a name leads there is a node
  pub step_leads : (from : Option Place) (name : List ℕ) (end : Place) → step slots from name ≡ Some end → Leads slots from name end
  step_leads None name end e = absurd cc
  step_leads (Some home) name end e = by (child slots home name) refl e
    where
      by : (o : Option ℕ) → child slots home name ≡ o → slot_place o ≡ Some end → Leads slots (Some home) name end
      by None is e = absurd cc
      by (Some slot) is e =
          let found = child_holds slots home name slot is in
          record { home = home; slot = slot; from_is = refl; end_is = cc; less = found.0; holds = found.1; child_is = is }

  pub last_leads : (at : List (List ℕ)) (name : List ℕ) (end : Place) → reach slots (at ++ name ∷ []) ≡ Some end → Leads slots (reach slots at) name end
  last_leads at name end e = step_leads (reach slots at) name end (sym (reach_last at name) ∙ e)

  -- at most one path leads to a place
  pub one_path : (at other : List (List ℕ)) (end : Place) → reach slots at ≡ Some end → reach slots other ≡ Some end → at ≡ other
  one_path at = by_last Same none more at
    where
      Same : List (List ℕ) → Type 0
      Same at = (other : List (List ℕ)) (end : Place) → reach slots at ≡ Some end → reach slots other ≡ Some end → at ≡ other

      none : Same []
      none other end e f =
          elim (last_cases other) [
            | inl empty ↦ sym empty
            | inr pushed ↦
                let leads = last_leads pushed.0 pushed.1.0 end (ap (reach slots) (sym pushed.1.1) ∙ f) in
                let is = leads.end_is in absurd cc
          ]

      more : (at : List (List ℕ)) (name : List ℕ) → Same at → Same (at ++ name ∷ [])
      more at name same other end e f =
          let mine = last_leads at name end e in
          elim (last_cases other) [
            | inl empty ↦
                let root : reach slots [] ≡ Some end = ap (reach slots) (sym empty) ∙ f in
                let is = mine.end_is in absurd cc
            | inr pushed ↦
                let theirs = last_leads pushed.0 pushed.1.0 end (ap (reach slots) (sym pushed.1.1) ∙ f) in
                let slot_is : mine.slot ≡ theirs.slot = (let a = mine.end_is in let b = theirs.end_is in cc) in
                let contents : Some mine.holds.node ≡ Some theirs.holds.node = sym mine.holds.is ∙ ap (λ k. get_or slots k None) slot_is ∙ theirs.holds.is in
                let nodes : mine.holds.node ≡ theirs.holds.node = cc in
                let homes : mine.home ≡ theirs.home = sym mine.holds.home_is ∙ ap (λ n. n.home) nodes ∙ theirs.holds.home_is in
                let names : name ≡ pushed.1.0 = sym mine.holds.name_is ∙ ap (λ n. n.name) nodes ∙ theirs.holds.name_is in
                let fronts = same pushed.0 mine.home mine.from_is (theirs.from_is ∙ ap Some (sym homes)) in
                (λ i. fronts i ++ names i ∷ []) ∙ sym pushed.1.1
          ]
