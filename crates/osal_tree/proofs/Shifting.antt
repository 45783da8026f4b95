-- A node is moved: the slots say what the tree does.
use Rattle.std.proofs.Common.{◌≡◌, ◌==◌, ◌≤◌, ℕ, Bool, true, false, cond, not, nat_lt, is_some, is_none, List, [], ◌∷◌, ◌++◌, length, length-set, drop, get_or, set, append-nil, append_assoc, length-append, Option, None, Some, refl, sym, ap, subst, ◌∙◌, inl, inr, arith}
use Rattle.std.specs.FinMap as map
use Rattle.std.proofs.lemmas.Bool.{cases_Bool, or_parts, and_from, false_from_ne_true}
use Rattle.std.proofs.lemmas.Bool.Decides.{nat_tests}
use Rattle.osal_tree.specs.declared.kind.TreeFault.{TreeFault}
use Rattle.osal_tree.specs.declared.node.Place.{Place}
use Rattle.osal_tree.specs.declared.node.Place.TheVariants as place
use Rattle.osal_tree.specs.declared.node.Node.{Node}
use Rattle.osal_tree.specs.Paths.{is_within, is_below}
use Rattle.osal_tree.specs.Nodes.{Nodes, node_at, is_directory}
use Rattle.osal_tree.specs.Steps.{renamed, rename_fault}
use Rattle.osal_tree.specs.Slots.{child, slot_place, step, kind_in, kind_at, reach}
use Rattle.osal_tree.specs.SlotSteps.{rehomed, slot_rename}
use Rattle.osal_tree.specs.Sound.{below, IsHome}
use Rattle.osal_tree.proofs.Paths.{by_last, all_but_last, not_empty, clash, within_rest, within_fits}
use Rattle.osal_tree.proofs.Children.{child_holds}
use Rattle.osal_tree.proofs.Walks.{reach_last, one_path}
use Rattle.osal_tree.proofs.Moving.{move_lone, move_kinds, move_housed, move_away, move_there, move_gone}
use Rattle.osal_tree.proofs.Counting.{taken_moved}
use Rattle.osal_tree.proofs.Seen.{Seen, node_seen, below_look, reached}
use Rattle.osal_tree.proofs.Making.{is_home}
use Rattle.osal_tree.proofs.Entries.{some_place}
use Rattle.osal_tree.proofs.Renaming.{renamed_there, renamed_gone, renamed_away, renamed_len}

unless : (b : Bool) (why : TreeFault) (rest : Option TreeFault) → cond b (Some why) rest ≡ None → (b ≡ false) × (rest ≡ None)
unless true why rest e = absurd cc
unless false why rest e = (refl, e)

some_from : {A : Type 0} (o : Option A) → is_none o ≡ false → is_some o ≡ true
some_from None e = absurd cc
some_from (Some x) e = refl

true_from : (b : Bool) → not b ≡ false → b ≡ true
true_from true e = refl
true_from false e = absurd cc

no_longer : (xs rest : List (List ℕ)) → xs ++ rest ≡ [] → xs ≡ []
no_longer [] rest e = refl
no_longer (x ∷ xs) rest e = let n : length ((x ∷ xs) ++ rest) ≡ 0 = ap length e in absurd (omega arith)

no_rest : (rest : List (List ℕ)) → length rest ≤ 0 → rest ≡ []
no_rest [] e = refl
no_rest (x ∷ rest) e = absurd (omega arith)

below_none : (slots : List (Option Node)) (q : List (List ℕ)) → reach slots q ≡ None → below slots q ≡ None
below_none slots [] e = refl
below_none slots (name ∷ rest) e = ap (kind_at slots) e

-- past a path that leads nowhere no path leads anywhere
reach_past : (slots : List (Option Node)) (at : List (List ℕ)) → reach slots at ≡ None → (rest : List (List ℕ)) → reach slots (at ++ rest) ≡ None
reach_past slots at none =
    by_last (λ rest. reach slots (at ++ rest) ≡ None) (ap (reach slots) (append-nil at) ∙ none)
    (λ rest last told.
    ap (reach slots) (sym (append_assoc at rest (last ∷ []))) ∙ reach_last slots (at ++ rest) last ∙ ap (λ o. step slots o last) told)

module _ {slots : List (Option Node)} {nodes : Nodes} (seen : Seen slots nodes) (from above : List (List ℕ)) (name : List ℕ) where
  abbrev to : List (List ℕ)
  to = above ++ name ∷ []

  module _ (slot : ℕ) (node : Node) (home : Place) (is : get_or slots slot None ≡ Some node) (here : reach slots from ≡ Some (place.Slot slot)) (home_is : reach slots above ≡ Some home) (dir : IsHome slots home) (none : child slots home name ≡ None) (outside : is_within from (above ++ name ∷ []) ≡ false) where
    abbrev after : List (Option Node)
    after = set slots slot (Some (record node { home = home; name = name }))

    kinds : (o : Option Place) → kind_at after o ≡ kind_at slots o
    kinds o = move_kinds slots slot node home name from above is seen.sound.housed seen.sound.lone here home_is dir none outside o

    nowhere : reach slots to ≡ None
    nowhere = reach_last slots above name ∙ ap (λ o. step slots o name) home_is ∙ ap slot_place none

    unused : (q : List (List ℕ)) → is_within to q ≡ true → map.get nodes q ≡ None
    unused q t = seen.exact q ∙ below_none slots q (ap (reach slots) (within_rest to q t) ∙ reach_past slots to nowhere (drop (length to) q))

    from_below : (rest : List (List ℕ)) → from ++ rest ≡ [] → ⊥
    from_below rest e =
        let root : Some place.Root ≡ Some (place.Slot slot) = ap (reach slots) (sym (no_longer from rest e)) ∙ here in cc

    to_below : (q : List (List ℕ)) → is_within to q ≡ true → q ≡ [] → ⊥
    to_below q t e = not_empty above name (no_longer to (drop (length to) q) (sym (within_rest to q t) ∙ e))

    at_there : (q : List (List ℕ)) → is_within to q ≡ true → map.get (renamed nodes from to) q ≡ below after q
    at_there q t =
        let rest = drop (length to) q in
        let leads : reach after q ≡ reach slots (from ++ rest) =
        ap (reach after) (within_rest to q t) ∙ move_there slots slot node home name from above is seen.sound.housed seen.sound.lone here home_is dir none outside rest in
        renamed_there from to outside nodes unused q t ∙ seen.exact (from ++ rest) ∙ below_look slots (from ++ rest) (from_below rest)
        ∙ sym (kinds (reach slots (from ++ rest))) ∙ sym (ap (kind_at after) leads) ∙ sym (below_look after q (to_below q t))

    at_gone : (q : List (List ℕ)) → is_within to q ≡ false → is_within from q ≡ true → map.get (renamed nodes from to) q ≡ below after q
    at_gone q off inside =
        let rest = drop (length from) q in
        renamed_gone from to outside nodes unused q off inside
        ∙ sym (below_none after q
        (ap (reach after) (within_rest from q inside)
        ∙ move_gone slots slot node home name from above is seen.sound.housed seen.sound.lone here home_is dir none outside rest (ap (is_within to) (sym (within_rest from q inside)) ∙ off)))

    at_away : (q : List (List ℕ)) → is_within to q ≡ false → is_within from q ≡ false → below after q ≡ below slots q
    at_away [] off out = refl
    at_away (first ∷ rest) off out =
        ap (kind_at after) (move_away slots slot node home name from above is seen.sound.housed seen.sound.lone here home_is dir none outside (first ∷ rest) off out) ∙ kinds (reach slots (first ∷ rest))

    moved_seen : Seen after (renamed nodes from to)
    moved_seen = record {
      exact = λ q. elim (cases_Bool (is_within to q)) [
        | inl t ↦ at_there q t
        | inr off ↦ elim (cases_Bool (is_within from q)) [
          | inl inside ↦ at_gone q off inside
          | inr out ↦ renamed_away from to outside nodes unused q off out ∙ seen.exact q ∙ sym (at_away q off out)
        ]
      ];
      sound = record {
        wide = length-set slots slot (Some (record node { home = home; name = name })) ∙ seen.sound.wide;
        housed = move_housed slots slot node home name from above is seen.sound.housed seen.sound.lone here home_is dir none outside;
        lone = move_lone slots slot node home name from above is seen.sound.housed seen.sound.lone here home_is dir none outside;
        counted = renamed_len from to outside nodes unused ∙ seen.sound.counted ∙ sym (taken_moved slots slot node (record node { home = home; name = name }) is);
      };
    }

    left_is : slot_rename slots (reach slots from) (reach slots above) name ≡ after
    left_is =
        (λ i. slot_rename slots (here i) (home_is i) name) ∙ ap (λ content. set slots slot (rehomed home name content)) is

    left_seen : Seen (slot_rename slots (reach slots from) (reach slots above) name) (renamed nodes from to)
    left_seen = subst (λ left. Seen left (renamed nodes from to)) (sym left_is) moved_seen

  no_child : (home : Place) → reach slots above ≡ Some home → is_some (node_at nodes to) ≡ false → (o : Option ℕ) → child slots home name ≡ o → o ≡ None
  no_child home home_is free None e = refl
  no_child home home_is free (Some slot) e =
      let h = (child_holds slots home name slot e).1 in
      let leads : reach slots to ≡ Some (place.Slot slot) = reach_last slots above name ∙ ap (λ o. step slots o name) home_is ∙ ap slot_place e in
      let some : is_some (node_at nodes to) ≡ true = ap is_some (node_seen seen to ∙ ap (kind_at slots) leads ∙ ap (kind_in slot) h.is) in
      absurd (clash (is_some (node_at nodes to)) some free)

  not_within : is_below from to ≡ false → is_some (node_at nodes from) ≡ true → is_some (node_at nodes to) ≡ false → is_within from to ≡ false
  not_within off there free =
      false_from_ne_true (is_within from to) (λ t.
      let fits = within_fits from to t in
      let deep : nat_lt (length from) (length to) ≡ false = false_from_ne_true (nat_lt (length from) (length to)) (λ less. clash (is_below from to) (and_from (is_within from to) (nat_lt (length from) (length to)) t less) off) in
      let as_long : length to ≤ length from = grind (arith, nat_tests) in
      let split = within_rest from to t in
      let rest : drop (length from) to ≡ [] = no_rest (drop (length from) to) (let total = ap length split in omega (arith, length-append from (drop (length from) to))) in
      let same : to ≡ from = split ∙ ap (λ l. from ++ l) rest ∙ append-nil from in
      clash (is_some (node_at nodes to)) (ap (λ q. is_some (node_at nodes q)) same ∙ there) free)

  from_end : (end : Place) → reach slots from ≡ Some end → (length from == 0) ≡ false → (slot : ℕ) × (reach slots from ≡ Some (place.Slot slot))
  from_end place.Root e below =
      let root : from ≡ [] = one_path slots from [] place.Root e refl in
      absurd (clash (length from == 0) (ap (λ q. length q == 0) root) below)
  from_end (place.Slot slot) e below = (slot, e)

  -- a node is moved as the tree says
  pub rename_seen : rename_fault nodes from (above ++ name ∷ []) ≡ None → Seen (slot_rename slots (reach slots from) (reach slots above) name) (renamed nodes from (above ++ name ∷ []))
  rename_seen fine =
      let first = unless _ _ _ fine in
      let second = unless _ _ _ first.1 in
      let third = unless _ _ _ second.1 in
      let fourth = unless _ _ _ third.1 in
      let there = some_from (node_at nodes from) first.0 in
      let kinds = or_parts _ _ third.0 in
      let end = some_place slots (reach slots from) (ap is_some (sym (node_seen seen from)) ∙ there) in
      let slot = from_end end.0 end.1 kinds.0 in
      let node = reached slots from slot.0 slot.1 in
      let dir : is_directory (kind_at slots (reach slots above)) ≡ true =
      ap is_directory (sym (node_seen seen above)) ∙ ap (λ q. is_directory (node_at nodes q)) (sym (all_but_last above name)) ∙ true_from _ second.0 in
      let home = is_home slots (reach slots above) dir in
      left_seen slot.0 node.0 home.0 node.1 slot.1 home.1 (ap (λ o. is_directory (kind_at slots o)) (sym home.1) ∙ dir)
      (no_child home.0 home.1 fourth.0 (child slots home.0 name) refl)
      (not_within (or_parts _ _ kinds.1).1 there fourth.0)

-- the same, of the slots that the call left
pub rename_left : {slots left : List (Option Node)} {nodes now : Nodes} {to : List (List ℕ)} (from above : List (List ℕ)) (name : List ℕ) → Seen slots nodes → nodes ≡ now → to ≡ above ++ name ∷ [] → rename_fault now from to ≡ None → left ≡ slot_rename slots (reach slots from) (reach slots above) name → Seen left (renamed now from to)
rename_left {slots} {left} {nodes} {now} {to} from above name seen view split fine is =
    subst (λ slots. Seen slots (renamed now from to)) (sym is)
    (subst (λ nodes. Seen (slot_rename slots (reach slots from) (reach slots above) name) nodes) (λ i. renamed (view i) from (sym split i))
    (rename_seen seen from above name ((λ i. rename_fault (view i) from (sym split i)) ∙ fine)))
