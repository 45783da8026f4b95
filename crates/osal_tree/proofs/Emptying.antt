-- A slot whose node has nothing below it is freed: its path leads nowhere, and all others lead where they led.
use Rattle.std.proofs.Common.{◌≡◌, ◌<◌, List, [], ◌∷◌, ◌++◌, ℕ, Option, None, Some, length, get_or, set, refl, sym, ap, ◌∙◌, inl, inr, arith, length-append}
use Rattle.osal_tree.specs.declared.node.Place.{Place}
use Rattle.osal_tree.specs.declared.node.Place.TheVariants as place
use Rattle.osal_tree.specs.declared.node.Node.{Node}
use Rattle.osal_tree.specs.Nodes.{is_directory}
use Rattle.osal_tree.specs.Slots.{slot_place, step, reach}
use Rattle.osal_tree.specs.Sound.{IsHome, Housed, Lone}
use Rattle.osal_tree.proofs.Paths.{by_last, path_cases}
use Rattle.osal_tree.proofs.Children.{Holds, child_is, child_gone, written_cases}
use Rattle.osal_tree.proofs.Walks.{reach_last, last_leads, one_path}
use Rattle.osal_tree.proofs.Writing.{some_within, no_child, kind_kept, step_same}

module _ (slots : List (Option Node)) (slot : ℕ) (node : Node) (at : List (List ℕ)) (is : get_or slots slot None ≡ Some node) (housed : Housed slots) (lone : Lone slots) (here : reach slots at ≡ Some (place.Slot slot)) (bare : (other : ℕ) (another : Node) → get_or slots other None ≡ Some another → another.home ≡ place.Slot slot → ⊥) where
  less : slot < length slots
  less = some_within slots slot node is

  -- no name stands twice in a directory
  pub free_lone : Lone (set slots slot None)
  free_lone one other a b found also homes names =
      elim (written_cases slots slot one None (Some a) less found) [
        | inl there ↦ let no = there.1 in absurd cc
        | inr there ↦ elim (written_cases slots slot other None (Some b) less also) [
          | inl then ↦ let no = then.1 in absurd cc
          | inr then ↦ lone one other a b there.1 then.1 homes names
        ]
      ]

  home_kept : (home : Place) → (home ≡ place.Slot slot → ⊥) → IsHome slots home → IsHome (set slots slot None) home
  home_kept place.Root ne dir = dir
  home_kept (place.Slot other) ne dir = ap is_directory (kind_kept slots slot other None (λ e. ne (ap place.Slot e))) ∙ dir

  -- each node stands in a directory
  pub free_housed : Housed (set slots slot None)
  free_housed other a found =
      elim (written_cases slots slot other None (Some a) less found) [
        | inl there ↦ let no = there.1 in absurd cc
        | inr away ↦ home_kept a.home (bare other a away.1) (housed other a away.1)
      ]

  nothing : (home : Place) (name : List ℕ) → Holds None home name → ⊥
  nothing home name h = let no = h.is in absurd cc

  abbrev Told : List (List ℕ) → Type 0
  Told q = ((q ≡ at → ⊥) → reach (set slots slot None) q ≡ reach slots q) × (q ≡ at → reach (set slots slot None) q ≡ None)

  onward : (q : List (List ℕ)) (name : List ℕ) → Told q → Told (q ++ name ∷ [])
  onward q name told =
      elim (path_cases q at) [
        | inl same ↦ (
          λ ne.
              reach_last (set slots slot None) q name ∙ ap (λ o. step (set slots slot None) o name) (told.1 same)
              ∙ sym (ap slot_place (no_child slots (place.Slot slot) bare name)) ∙ sym (ap (λ o. step slots o name) (ap (reach slots) same ∙ here))
              ∙ sym (reach_last slots q name),
          λ e. let long = ap length e in let as_long = ap length same in absurd (omega (arith, length-append q (name ∷ []))),
        )
        | inr differ ↦ (
          λ ne.
              reach_last (set slots slot None) q name ∙ ap (λ o. step (set slots slot None) o name) (told.0 differ)
              ∙ step_same slots slot None less lone free_lone (reach slots q) name (λ home from h. nothing home name h)
              (λ home from h.
              ne (one_path slots (q ++ name ∷ []) at (place.Slot slot)
              (reach_last slots q name ∙ ap (λ o. step slots o name) from ∙ ap slot_place (child_is slots lone slot home name less h)) here))
              ∙ sym (reach_last slots q name),
          λ e.
              let leads = last_leads slots q name (place.Slot slot) (ap (reach slots) e ∙ here) in
              let same : leads.slot ≡ slot = (let end = leads.end_is in cc) in
              reach_last (set slots slot None) q name ∙ ap (λ o. step (set slots slot None) o name) (told.0 differ ∙ leads.from_is)
              ∙ ap slot_place (child_gone slots slot None less lone free_lone leads.home name (nothing leads.home name) (rw same at leads.holds)),
        )
      ]

  root : at ≡ [] → ⊥
  root e = let end : Some place.Root ≡ Some (place.Slot slot) = ap (reach slots) (sym e) ∙ here in absurd cc

  told : (q : List (List ℕ)) → Told q
  told = by_last Told (λ ne. refl, λ e. absurd (root (sym e))) onward

  -- any other path leads where it led
  pub free_other : (q : List (List ℕ)) → (q ≡ at → ⊥) → reach (set slots slot None) q ≡ reach slots q
  free_other q = (told q).0

  -- the path leads nowhere
  pub free_here : reach (set slots slot None) at ≡ None
  free_here = (told at).1 refl
