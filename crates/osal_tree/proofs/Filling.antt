-- A free slot gets a node: one more path leads somewhere, and all others lead where they led.
use Rattle.std.proofs.Common.{◌≡◌, ◌<◌, List, [], ◌∷◌, ◌++◌, ℕ, Option, None, Some, length, get_or, set, refl, sym, ap, ◌∙◌, inl, inr, arith, length-append}
use Rattle.osal_tree.specs.declared.node.Place.{Place}
use Rattle.osal_tree.specs.declared.node.Place.TheVariants as place
use Rattle.osal_tree.specs.declared.node.Node.{Node}
use Rattle.osal_tree.specs.Nodes.{is_directory}
use Rattle.osal_tree.specs.Slots.{child, slot_place, step, kind_at, reach}
use Rattle.osal_tree.specs.Sound.{IsHome, Housed, Lone}
use Rattle.osal_tree.proofs.Paths.{by_last, path_cases, same_front, same_last, not_empty}
use Rattle.osal_tree.proofs.Children.{Holds, child_none, child_here, child_same, written_cases}
use Rattle.osal_tree.proofs.Walks.{reach_last, one_path}
use Rattle.osal_tree.proofs.Writing.{some_within, no_home, no_child, kind_kept, step_same}

module _ (slots : List (Option Node)) (slot : ℕ) (node : Node) (above : List (List ℕ)) (less : slot < length slots) (free : get_or slots slot None ≡ None) (housed : Housed slots) (lone : Lone slots) (home_is : reach slots above ≡ Some node.home) (dir : IsHome slots node.home) (none : child slots node.home node.name ≡ None) where
  apart : (other : ℕ) (another : Node) → get_or slots other None ≡ Some another → node.home ≡ another.home → node.name ≡ another.name → ⊥
  apart other another is homes names =
      child_none slots node.home node.name other none (some_within slots other another is) (record { node = another; is = is; home_is = sym homes; name_is = sym names })

  -- no name stands twice in a directory
  pub fill_lone : Lone (set slots slot (Some node))
  fill_lone one other a b is also homes names =
      elim (written_cases slots slot one (Some node) (Some a) less is) [
        | inl here ↦ elim (written_cases slots slot other (Some node) (Some b) less also) [
          | inl there ↦ here.0 ∙ sym there.0
          | inr there ↦ let same : node ≡ a = cc in absurd (apart other b there.1 (ap (λ n. n.home) same ∙ homes) (ap (λ n. n.name) same ∙ names))
        ]
        | inr here ↦ elim (written_cases slots slot other (Some node) (Some b) less also) [
          | inl there ↦ let same : node ≡ b = cc in absurd (apart one a here.1 (ap (λ n. n.home) same ∙ sym homes) (ap (λ n. n.name) same ∙ sym names))
          | inr there ↦ lone one other a b here.1 there.1 homes names
        ]
      ]

  home_kept : (home : Place) → IsHome slots home → IsHome (set slots slot (Some node)) home
  home_kept place.Root is = is
  home_kept (place.Slot other) is =
      ap (λ k. is_directory k) (kind_kept slots slot other (Some node) (λ e. no_home slots slot (place.Slot other) free (ap place.Slot e) is)) ∙ is

  -- each node stands in a directory
  pub fill_housed : Housed (set slots slot (Some node))
  fill_housed other a is =
      elim (written_cases slots slot other (Some node) (Some a) less is) [
        | inl here ↦ let same : node ≡ a = cc in home_kept a.home (ap (λ n. is_directory (kind_at slots (Some n.home))) (sym same) ∙ dir)
        | inr away ↦ home_kept a.home (housed other a away.1)
      ]

  at : List (List ℕ)
  at = above ++ node.name ∷ []

  -- nothing stood at the path
  pub fill_before : reach slots (above ++ node.name ∷ []) ≡ None
  fill_before = reach_last slots above node.name ∙ ap (λ o. step slots o node.name) home_is ∙ ap slot_place none

  itself : Holds (Some node) node.home node.name
  itself = record { node = node; is = refl; home_is = refl; name_is = refl }

  not_here : (home : Place) (name : List ℕ) → Holds (get_or slots slot None) home name → ⊥
  not_here home name h = let is = h.is in absurd cc

  empty : (name : List ℕ) → child (set slots slot (Some node)) (place.Slot slot) name ≡ None
  empty name =
      child_same slots slot (Some node) less lone fill_lone (place.Slot slot) name
      (λ h. let same : node ≡ h.node = (let is = h.is in cc) in no_home slots slot node.home free (ap (λ n. n.home) same ∙ h.home_is) dir)
      (not_here (place.Slot slot) name)
      ∙ no_child slots (place.Slot slot) (λ other a is homes. no_home slots slot a.home free homes (housed other a is)) name

  abbrev Told : List (List ℕ) → Type 0
  Told q =
      ((q ≡ above ++ node.name ∷ [] → ⊥) → reach (set slots slot (Some node)) q ≡ reach slots q)
      × (q ≡ above ++ node.name ∷ [] → reach (set slots slot (Some node)) q ≡ Some (place.Slot slot))

  onward : (q : List (List ℕ)) (name : List ℕ) → Told q → Told (q ++ name ∷ [])
  onward q name told =
      elim (path_cases q (above ++ node.name ∷ [])) [
        | inl same ↦ (
          λ ne.
              reach_last (set slots slot (Some node)) q name ∙ ap (λ o. step (set slots slot (Some node)) o name) (told.1 same)
              ∙ ap slot_place (empty name) ∙ sym (ap (λ o. step slots o name) (ap (reach slots) same ∙ fill_before)) ∙ sym (reach_last slots q name),
          λ e. let long = ap length e in let as_long = ap length same in absurd (omega (arith, length-append q (name ∷ []))),
        )
        | inr differ ↦ (
          λ ne.
              reach_last (set slots slot (Some node)) q name ∙ ap (λ o. step (set slots slot (Some node)) o name) (told.0 differ)
              ∙ step_same slots slot (Some node) less lone fill_lone (reach slots q) name
              (λ home is h.
              let same : node ≡ h.node = (let eq = h.is in cc) in
              let homes : node.home ≡ home = ap (λ n. n.home) same ∙ h.home_is in
              let names : node.name ≡ name = ap (λ n. n.name) same ∙ h.name_is in
              let fronts = one_path slots q above home is (home_is ∙ ap Some homes) in
              ne (λ i. fronts i ++ sym names i ∷ []))
              (λ home is h. not_here home name h)
              ∙ sym (reach_last slots q name),
          λ e.
              reach_last (set slots slot (Some node)) q name
              ∙ ap (λ o. step (set slots slot (Some node)) o name) (told.0 differ ∙ ap (reach slots) (same_front q above name node.name e) ∙ home_is)
              ∙ ap (step (set slots slot (Some node)) (Some node.home)) (same_last q above name node.name e)
              ∙ ap slot_place (child_here slots slot (Some node) less lone fill_lone node.home node.name itself),
        )
      ]

  told : (q : List (List ℕ)) → Told q
  told = by_last Told (λ ne. refl, λ e. absurd (not_empty above node.name (sym e))) onward

  -- any other path leads where it led
  pub fill_other : (q : List (List ℕ)) → (q ≡ above ++ node.name ∷ [] → ⊥) → reach (set slots slot (Some node)) q ≡ reach slots q
  fill_other q = (told q).0

  -- the path leads to the slot
  pub fill_here : reach (set slots slot (Some node)) (above ++ node.name ∷ []) ≡ Some (place.Slot slot)
  fill_here = (told (above ++ node.name ∷ [])).1 refl
