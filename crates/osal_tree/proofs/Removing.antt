-- A file or an empty directory is removed: the slots say what the tree does.
use Rattle.std.proofs.Common.{◌≡◌, ◌==◌, ℕ, Bool, true, false, List, [], ◌∷◌, length, length-set, get_or, set, Option, None, Some, refl, sym, ap, ◌∙◌, inl, inr, arith}
use Rattle.std.specs.List.{list_any}
use Rattle.std.specs.FinMap as map
use Rattle.std.proofs.lemmas.Bool.Decides.{nat_tests}
use Rattle.osal_tree.specs.declared.kind.Kind.TheVariants as kind
use Rattle.osal_tree.specs.declared.node.Place.{Place}
use Rattle.osal_tree.specs.declared.node.Place.TheVariants as place
use Rattle.osal_tree.specs.declared.node.Sort.{Sort}
use Rattle.osal_tree.specs.declared.node.Sort.TheVariants as sort
use Rattle.osal_tree.specs.declared.node.Node.{Node}
use Rattle.osal_tree.specs.Nodes.{Nodes, node_at, is_directory, has_child}
use Rattle.osal_tree.specs.Steps.{remove_step, rmdir_step}
use Rattle.osal_tree.specs.Slots.{same_place, kind_of, kind_in, kind_at, is_in, reach}
use Rattle.osal_tree.specs.SlotSteps.{done, file_removed, directory_removed}
use Rattle.osal_tree.specs.Sound.{below, taken}
use Rattle.osal_tree.proofs.Paths.{path_cases, clash}
use Rattle.osal_tree.proofs.Children.{place_itself}
use Rattle.osal_tree.proofs.Walks.{one_path}
use Rattle.osal_tree.proofs.Writing.{some_within}
use Rattle.osal_tree.proofs.Emptying.{free_lone, free_housed, free_other, free_here}
use Rattle.osal_tree.proofs.Counting.{taken_freed}
use Rattle.osal_tree.proofs.Maps.{gone_here, gone_there, one_less}
use Rattle.osal_tree.proofs.Seen.{Seen, Fits, itself, node_seen, below_look, reached}
use Rattle.osal_tree.proofs.Making.{kind_unless}
use Rattle.osal_tree.proofs.Entries.{slot_any, has_child_seen}

not_root : (at : List (List ℕ)) → (at ≡ [] → ⊥) → (length at == 0) ≡ false
not_root [] ne = absurd (ne refl)
not_root (name ∷ rest) ne = grind (arith, nat_tests)

module _ {slots : List (Option Node)} {nodes : Nodes} (seen : Seen slots nodes) (at : List (List ℕ)) where
  module _ (slot : ℕ) (here : reach slots at ≡ Some (place.Slot slot)) (node : Node) (is : get_or slots slot None ≡ Some node) where
    below_root : at ≡ [] → ⊥
    below_root e = let end : Some place.Root ≡ Some (place.Slot slot) = ap (reach slots) (sym e) ∙ here in absurd cc

    kind_is : kind_at slots (Some (place.Slot slot)) ≡ Some (kind_of slot node.sort)
    kind_is = ap (kind_in slot) is

    stands : node_at nodes at ≡ Some (kind_of slot node.sort)
    stands = node_seen seen at ∙ ap (kind_at slots) here ∙ kind_is

    -- the tree without a node that has nothing below it
    free_seen : ((other : ℕ) (another : Node) → get_or slots other None ≡ Some another → another.home ≡ place.Slot slot → ⊥) → Seen (set slots slot None) (map.remove nodes at)
    free_seen bare = record {
      exact = λ q. elim (path_cases q at) [
        | inl same ↦
            ap (map.get (map.remove nodes at)) same ∙ gone_here nodes at
            ∙ sym (ap (below (set slots slot None)) same ∙ below_look (set slots slot None) at below_root
            ∙ ap (kind_at (set slots slot None)) (free_here slots slot node at is seen.sound.housed seen.sound.lone here bare))
        | inr ne ↦ gone_there nodes at q ne ∙ seen.exact q ∙ sym (others q ne)
      ];
      sound = record {
        wide = length-set slots slot None ∙ seen.sound.wide;
        housed = free_housed slots slot node at is seen.sound.housed seen.sound.lone here bare;
        lone = free_lone slots slot node at is seen.sound.housed seen.sound.lone here bare;
        counted = one_less nodes at (kind_of slot node.sort) (taken (set slots slot None)) got (seen.sound.counted ∙ sym (taken_freed slots slot node is));
      };
    }
      where
        got : map.get nodes at ≡ Some (kind_of slot node.sort)
        got = seen.exact at ∙ below_look slots at below_root ∙ ap (kind_at slots) here ∙ kind_is

        others : (q : List (List ℕ)) → (q ≡ at → ⊥) → below (set slots slot None) q ≡ below slots q
        others [] ne = refl
        others (first ∷ rest) ne =
            ap (kind_at (set slots slot None)) (free_other slots slot node at is seen.sound.housed seen.sound.lone here bare (first ∷ rest) ne)
            ∙ kind_unless slots slot None (reach slots (first ∷ rest)) (λ e. ne (one_path slots (first ∷ rest) at (place.Slot slot) e here))

    file_at : (s : Sort) → node.sort ≡ s → Fits itself (file_removed slots (Some (place.Slot slot))) (remove_step nodes at)
    file_at sort.Directory e =
        let told : kind_at slots (Some (place.Slot slot)) ≡ Some kind.Directory = kind_is ∙ ap (λ s. Some (kind_of slot s)) e in
        let want : node_at nodes at ≡ Some kind.Directory = stands ∙ ap (λ s. Some (kind_of slot s)) e in
        rw (told, want) (record { answer = refl; seen = seen })
    file_at sort.File e =
        let told : kind_at slots (Some (place.Slot slot)) ≡ Some (kind.File slot) = kind_is ∙ ap (λ s. Some (kind_of slot s)) e in
        let want : node_at nodes at ≡ Some (kind.File slot) = stands ∙ ap (λ s. Some (kind_of slot s)) e in
        let left = free_seen (λ other another found homes.
        clash (is_directory (kind_at slots (Some (place.Slot slot)))) (ap (λ h. is_directory (kind_at slots (Some h))) (sym homes) ∙ seen.sound.housed other another found) (ap is_directory told)) in
        rw (told, want) (record { answer = refl; seen = left })

    -- whether anything lies in it
    open_or_not : (b : Bool) → list_any (is_in (place.Slot slot)) slots ≡ b → node.sort ≡ sort.Directory → Fits done (directory_removed slots (Some (place.Slot slot))) (rmdir_step nodes at)
    open_or_not true e is_dir =
        let told : kind_at slots (Some (place.Slot slot)) ≡ Some kind.Directory = kind_is ∙ ap (λ s. Some (kind_of slot s)) is_dir in
        let want : node_at nodes at ≡ Some kind.Directory = stands ∙ ap (λ s. Some (kind_of slot s)) is_dir in
        let child : has_child nodes at ≡ true = has_child_seen seen at (place.Slot slot) here ∙ e in
        rw (told, want, e, child, not_root at below_root) (record { answer = refl; seen = seen })
    open_or_not false e is_dir =
        let told : kind_at slots (Some (place.Slot slot)) ≡ Some kind.Directory = kind_is ∙ ap (λ s. Some (kind_of slot s)) is_dir in
        let want : node_at nodes at ≡ Some kind.Directory = stands ∙ ap (λ s. Some (kind_of slot s)) is_dir in
        let child : has_child nodes at ≡ false = has_child_seen seen at (place.Slot slot) here ∙ e in
        let left = free_seen (λ other another found homes.
        clash (list_any (is_in (place.Slot slot)) slots)
        (slot_any (is_in (place.Slot slot)) slots other (some_within slots other another found)
        (ap (is_in (place.Slot slot)) found ∙ ap (λ h. same_place h (place.Slot slot)) homes ∙ place_itself (place.Slot slot))) e) in
        rw (told, want, e, child, not_root at below_root) (record { answer = refl; seen = left })

    directory_at : (s : Sort) → node.sort ≡ s → Fits done (directory_removed slots (Some (place.Slot slot))) (rmdir_step nodes at)
    directory_at sort.Directory e = open_or_not (list_any (is_in (place.Slot slot)) slots) refl e
    directory_at sort.File e =
        let told : kind_at slots (Some (place.Slot slot)) ≡ Some (kind.File slot) = kind_is ∙ ap (λ s. Some (kind_of slot s)) e in
        let want : node_at nodes at ≡ Some (kind.File slot) = stands ∙ ap (λ s. Some (kind_of slot s)) e in
        rw (told, want) (record { answer = refl; seen = seen })

  file_from : (o : Option Place) → reach slots at ≡ o → Fits itself (file_removed slots o) (remove_step nodes at)
  file_from None e =
      let want : node_at nodes at ≡ None = node_seen seen at ∙ ap (kind_at slots) e in rw want (record { answer = refl; seen = seen })
  file_from (Some place.Root) e =
      let want : node_at nodes at ≡ Some kind.Directory = node_seen seen at ∙ ap (kind_at slots) e in rw want (record { answer = refl; seen = seen })
  file_from (Some (place.Slot slot)) e = let node = reached slots at slot e in file_at slot e node.0 node.1 node.0.sort refl

  directory_from : (o : Option Place) → reach slots at ≡ o → Fits done (directory_removed slots o) (rmdir_step nodes at)
  directory_from None e =
      let want : node_at nodes at ≡ None = node_seen seen at ∙ ap (kind_at slots) e in rw want (record { answer = refl; seen = seen })
  directory_from (Some place.Root) e =
      let root : at ≡ [] = one_path slots at [] place.Root e refl in rw root (record { answer = refl; seen = seen })
  directory_from (Some (place.Slot slot)) e = let node = reached slots at slot e in directory_at slot e node.0 node.1 node.0.sort refl

  -- a file is removed as the tree says
  pub remove_fits : Fits itself (file_removed slots (reach slots at)) (remove_step nodes at)
  remove_fits = file_from (reach slots at) refl

  -- a directory is removed as the tree says
  pub rmdir_fits : Fits done (directory_removed slots (reach slots at)) (rmdir_step nodes at)
  rmdir_fits = directory_from (reach slots at) refl
