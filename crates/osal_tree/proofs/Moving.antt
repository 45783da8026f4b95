-- A node gets another name in another directory: what led to it and below it leads nowhere, and its new path there.
use Rattle.std.proofs.Common.{◌≡◌, ◌<◌, ℕ, false, List, [], ◌∷◌, ◌++◌, Option, None, Some, length, get_or, set, refl, sym, ap, ◌∙◌, inl, inr, arith, length-append, append_assoc, append-nil, get_or-set_same}
use Rattle.std.proofs.lemmas.Bool.{cases_eq}
use Rattle.osal_tree.specs.declared.node.Place.{Place}
use Rattle.osal_tree.specs.declared.node.Place.TheVariants as place
use Rattle.osal_tree.specs.declared.node.Node.{Node}
use Rattle.osal_tree.specs.Paths.{is_within}
use Rattle.osal_tree.specs.Nodes.{is_directory}
use Rattle.osal_tree.specs.Slots.{child, slot_place, step, kind_in, kind_at, reach}
use Rattle.osal_tree.specs.Sound.{IsHome, Housed, Lone}
use Rattle.osal_tree.proofs.Paths.{by_last, last_cases, clash, within_from, without_front, without_shorter}
use Rattle.osal_tree.proofs.Children.{Holds, child_is, child_none, child_here, child_gone, written_cases}
use Rattle.osal_tree.proofs.Walks.{reach_last, last_leads, one_path}
use Rattle.osal_tree.proofs.Writing.{some_within, kind_kept, step_same}

module _ (slots : List (Option Node)) (slot : ℕ) (node : Node) (home : Place) (name : List ℕ) (from above : List (List ℕ)) (is : get_or slots slot None ≡ Some node) (housed : Housed slots) (lone : Lone slots) (here : reach slots from ≡ Some (place.Slot slot)) (home_is : reach slots above ≡ Some home) (dir : IsHome slots home) (none : child slots home name ≡ None) (outside : is_within from (above ++ name ∷ []) ≡ false) where
  abbrev content : Option Node
  content = Some (record node { home = home; name = name })

  abbrev after : List (Option Node)
  after = set slots slot content

  abbrev to : List (List ℕ)
  to = above ++ name ∷ []

  less : slot < length slots
  less = some_within slots slot node is

  apart : (other : ℕ) (another : Node) → get_or slots other None ≡ Some another → home ≡ another.home → name ≡ another.name → ⊥
  apart other another found homes names =
      child_none slots home name other none (some_within slots other another found) (record { node = another; is = found; home_is = sym homes; name_is = sym names })

  -- no name stands twice in a directory
  pub move_lone : Lone (set slots slot (Some (record node { home = home; name = name })))
  move_lone one other a b found also homes names =
      elim (written_cases slots slot one content (Some a) less found) [
        | inl here ↦ elim (written_cases slots slot other content (Some b) less also) [
          | inl there ↦ here.0 ∙ sym there.0
          | inr there ↦
              let same : record node { home = home; name = name } ≡ a = (let e = here.1 in cc) in
              absurd (apart other b there.1 (ap (λ n. n.home) same ∙ homes) (ap (λ n. n.name) same ∙ names))
        ]
        | inr here ↦ elim (written_cases slots slot other content (Some b) less also) [
          | inl there ↦
              let same : record node { home = home; name = name } ≡ b = (let e = there.1 in cc) in
              absurd (apart one a here.1 (ap (λ n. n.home) same ∙ sym homes) (ap (λ n. n.name) same ∙ sym names))
          | inr there ↦ lone one other a b here.1 there.1 homes names
        ]
      ]

  -- in each slot stands what stood there
  pub move_kinds : (at : Option Place) → kind_at (set slots slot (Some (record node { home = home; name = name }))) at ≡ kind_at slots at
  move_kinds None = refl
  move_kinds (Some place.Root) = refl
  move_kinds (Some (place.Slot other)) =
      elim (cases_eq other slot) [
        | inl same ↦
            ap (λ k. kind_in other (get_or after k None)) same ∙ ap (kind_in other) (get_or-set_same slots slot content None less)
            ∙ sym (ap (kind_in other) (ap (λ k. get_or slots k None) same ∙ is))
        | inr ne ↦ kind_kept slots slot other content ne
      ]

  -- each node stands in a directory
  pub move_housed : Housed (set slots slot (Some (record node { home = home; name = name })))
  move_housed other a found =
      ap is_directory (move_kinds (Some a.home))
      ∙ elim (written_cases slots slot other content (Some a) less found) [
        | inl here ↦
            let same : record node { home = home; name = name } ≡ a = (let e = here.1 in cc) in
            ap (λ n. is_directory (kind_at slots (Some n.home))) (sym same) ∙ dir
        | inr away ↦ housed other a away.1
      ]

  -- a name that leads to the slot is the last one of its path
  to_slot : (q : List (List ℕ)) (last : List ℕ) (at : Place) → reach slots q ≡ Some at → Holds (get_or slots slot None) at last → q ++ last ∷ [] ≡ from
  to_slot q last at leads h =
      one_path slots (q ++ last ∷ []) from (place.Slot slot)
      (reach_last slots q last ∙ ap (λ o. step slots o last) leads ∙ ap slot_place (child_is slots lone slot at last less h)) here

  to_home : (q : List (List ℕ)) (last : List ℕ) (at : Place) → reach slots q ≡ Some at → Holds content at last → (q ≡ above) × (name ≡ last)
  to_home q last at leads h =
      let same : record node { home = home; name = name } ≡ h.node = (let e = h.is in cc) in
      let homes : home ≡ at = ap (λ n. n.home) same ∙ h.home_is in
      (one_path slots q above at leads (home_is ∙ ap Some homes), ap (λ n. n.name) same ∙ h.name_is)

  ends_there : (upper q : List (List ℕ)) → q ≡ upper → is_within upper q ≡ false → ⊥
  ends_there upper q e off = clash (is_within upper q) (within_from upper q [] (e ∙ sym (append-nil upper))) off

  -- a path that passes neither leads where it led
  pub move_away : (q : List (List ℕ)) → is_within (above ++ name ∷ []) q ≡ false → is_within from q ≡ false → reach (set slots slot (Some (record node { home = home; name = name }))) q ≡ reach slots q
  move_away =
      by_last (λ q. is_within to q ≡ false → is_within from q ≡ false → reach after q ≡ reach slots q) (λ out off. refl)
      (λ q last told out off.
      reach_last after q last
      ∙ ap (λ o. step after o last) (told (without_front to q (last ∷ []) out) (without_front from q (last ∷ []) off))
      ∙ step_same slots slot content less lone move_lone (reach slots q) last
      (λ at leads h. let ends = to_home q last at leads h in ends_there to (q ++ last ∷ []) (λ i. ends.0 i ++ sym ends.1 i ∷ []) out)
      (λ at leads h. ends_there from (q ++ last ∷ []) (to_slot q last at leads h) off)
      ∙ sym (reach_last slots q last))

  above_from : is_within from above ≡ false
  above_from = without_front from above (name ∷ []) outside

  above_to : is_within (above ++ name ∷ []) above ≡ false
  above_to = without_shorter to above (name ∷ []) refl (λ e. absurd (omega arith))

  holds : Holds content home name
  holds = record { node = record node { home = home; name = name }; is = refl; home_is = refl; name_is = refl }

  -- the new path, and what is below, leads where the old one did
  pub move_there : (rest : List (List ℕ)) → reach (set slots slot (Some (record node { home = home; name = name }))) ((above ++ name ∷ []) ++ rest) ≡ reach slots (from ++ rest)
  move_there =
      by_last (λ rest. reach after (to ++ rest) ≡ reach slots (from ++ rest))
      (ap (reach after) (append-nil to) ∙ reach_last after above name ∙ ap (λ o. step after o name) (move_away above above_to above_from ∙ home_is)
      ∙ ap slot_place (child_here slots slot content less lone move_lone home name holds) ∙ sym (ap (reach slots) (append-nil from) ∙ here))
      (λ rest last told.
      ap (reach after) (sym (append_assoc to rest (last ∷ []))) ∙ reach_last after (to ++ rest) last ∙ ap (λ o. step after o last) told
      ∙ step_same slots slot content less lone move_lone (reach slots (from ++ rest)) last
      (λ at leads h. clash (is_within from above) (within_from from above rest (sym (to_home (from ++ rest) last at leads h).0)) above_from)
      (λ at leads h. let long = ap length (to_slot (from ++ rest) last at leads h) in omega (arith, length-append (from ++ rest) (last ∷ []), length-append from rest))
      ∙ sym (reach_last slots (from ++ rest) last) ∙ ap (reach slots) (append_assoc from rest (last ∷ [])))

  gone_here : is_within (above ++ name ∷ []) from ≡ false → reach (set slots slot (Some (record node { home = home; name = name }))) from ≡ None
  gone_here out =
      elim (last_cases from) [
        | inl empty ↦ let end : Some place.Root ≡ Some (place.Slot slot) = ap (reach slots) (sym empty) ∙ here in absurd cc
        | inr pushed ↦
            let front = pushed.0 in
            let last = pushed.1.0 in
            let leads = last_leads slots front last (place.Slot slot) (ap (reach slots) (sym pushed.1.1) ∙ here) in
            let same : leads.slot ≡ slot = (let end = leads.end_is in cc) in
            let off : is_within from front ≡ false = without_shorter from front (last ∷ []) pushed.1.1 (λ e. absurd (omega arith)) in
            let clear : is_within to front ≡ false = without_front to front (last ∷ []) (ap (is_within to) (sym pushed.1.1) ∙ out) in
            ap (reach after) pushed.1.1 ∙ reach_last after front last ∙ ap (λ o. step after o last) (move_away front clear off ∙ leads.from_is)
            ∙ ap slot_place
            (child_gone slots slot content less lone move_lone leads.home last
            (λ h.
            let ends = to_home front last leads.home leads.from_is h in
            let moved : record node { home = home; name = name } ≡ h.node = (let e = h.is in cc) in
            let homes : home ≡ leads.home = ap (λ n. n.home) moved ∙ h.home_is in
            let found : child slots home name ≡ Some leads.slot = (λ i. child slots (homes i) (ends.1 i)) ∙ leads.child_is in
            let no = none in cc)
            (rw same at leads.holds))
      ]

  -- the old path, and what was below, leads nowhere, but where the new path passes
  pub move_gone : (rest : List (List ℕ)) → is_within (above ++ name ∷ []) (from ++ rest) ≡ false → reach (set slots slot (Some (record node { home = home; name = name }))) (from ++ rest) ≡ None
  move_gone =
      by_last (λ rest. is_within to (from ++ rest) ≡ false → reach after (from ++ rest) ≡ None)
      (λ out. ap (reach after) (append-nil from) ∙ gone_here (ap (is_within to) (sym (append-nil from)) ∙ out))
      (λ rest last told out.
      ap (reach after) (sym (append_assoc from rest (last ∷ []))) ∙ reach_last after (from ++ rest) last
      ∙ ap (λ o. step after o last) (told (without_front to (from ++ rest) (last ∷ []) (ap (is_within to) (append_assoc from rest (last ∷ [])) ∙ out))))
