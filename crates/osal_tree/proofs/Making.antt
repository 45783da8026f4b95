-- A node is made: the slots say what the tree does.
use Rattle.std.proofs.Common.{◌≡◌, ◌<◌, ℕ, suc, true, false, cond, nat_le, is_some, is_none, List, [], ◌∷◌, ◌++◌, length, length-set, get_or, get_or-set_same, set, Option, None, Some, Result, Ok, Err, IfOk, IfErr, refl, sym, ap, subst, ◌∙◌, inl, inr, arith}
use Rattle.std.specs.FinMap as map
use Rattle.std.proofs.lemmas.Bool.{cases_Bool}
use Rattle.std.proofs.lemmas.Bool.Decides.{nat_tests}
use Rattle.osal_tree.specs.declared.kind.Kind.TheVariants as kind
use Rattle.osal_tree.specs.declared.kind.TreeFault.{TreeFault}
use Rattle.osal_tree.specs.declared.kind.TreeFault.TheVariants as fault
use Rattle.osal_tree.specs.declared.node.Place.{Place}
use Rattle.osal_tree.specs.declared.node.Place.TheVariants as place
use Rattle.osal_tree.specs.declared.node.Sort.{Sort}
use Rattle.osal_tree.specs.declared.node.Sort.TheVariants as sort
use Rattle.osal_tree.specs.declared.node.Node.{Node}
use Rattle.osal_tree.specs.Nodes.{Nodes, node_limit, node_at, is_directory, IsFresh}
use Rattle.osal_tree.specs.Steps.{making_fault, mkdir_step, IsCreated}
use Rattle.osal_tree.specs.Slots.{child, slot_place, step, kind_of, kind_in, kind_at, reach, free_slot}
use Rattle.osal_tree.specs.SlotSteps.{done, directory, settled, made_in, slot_make}
use Rattle.osal_tree.specs.Sound.{below, IsHome, Sound}
use Rattle.osal_tree.proofs.Paths.{all_but_last, not_empty, path_cases, clash}
use Rattle.osal_tree.proofs.Children.{first_passes, child_holds}
use Rattle.osal_tree.proofs.Walks.{reach_last, last_leads}
use Rattle.osal_tree.proofs.Writing.{kind_kept}
use Rattle.osal_tree.proofs.Filling.{fill_lone, fill_housed, fill_other, fill_here}
use Rattle.osal_tree.proofs.Counting.{taken_filled, all_taken, some_free}
use Rattle.osal_tree.proofs.Maps.{put_here, put_there, one_more}
use Rattle.osal_tree.proofs.Seen.{Seen, Fits, itself, node_seen, below_look, reached, number_slot}

-- what making a node answers and leaves
abbrev pub Made : Nodes → List (List ℕ) → Sort → Result ℕ TreeFault → List (Option Node) → Type 0
Made nodes at sort (Ok slot) slots =
    (making_fault nodes at ≡ None) × (IsFresh nodes slot × Seen slots (map.insert nodes at (kind_of slot sort)))
Made nodes at sort (Err why) slots = (making_fault nodes at ≡ Some why) × Seen slots nodes

pub is_home : (slots : List (Option Node)) (o : Option Place) → is_directory (kind_at slots o) ≡ true → (home : Place) × (o ≡ Some home)
is_home slots None e = absurd cc
is_home slots (Some home) e = (home, refl)

free_is : (o : Option Node) → is_none o ≡ true → o ≡ None
free_is None e = refl
free_is (Some node) e = absurd cc

-- where paths lead, other kinds stay
pub kind_unless : (slots : List (Option Node)) (slot : ℕ) (content : Option Node) (o : Option Place) → (o ≡ Some (place.Slot slot) → ⊥) → kind_at (set slots slot content) o ≡ kind_at slots o
kind_unless slots slot content None ne = refl
kind_unless slots slot content (Some place.Root) ne = refl
kind_unless slots slot content (Some (place.Slot other)) ne = kind_kept slots slot other content (λ e. ne (ap (λ k. Some (place.Slot k)) e))

module _ {slots : List (Option Node)} {nodes : Nodes} (seen : Seen slots nodes) (above : List (List ℕ)) (name : List ℕ) (sort : Sort) where
  abbrev at : List (List ℕ)
  at = above ++ name ∷ []

  -- what is there was reached by its last name
  absent : (o : Option Place) → reach slots at ≡ o → ((end : Place) → o ≡ Some end → ⊥) → node_at nodes at ≡ None
  absent None e never = node_seen seen at ∙ ap (kind_at slots) e
  absent (Some end) e never = absurd (never end refl)

  no_directory : is_directory (kind_at slots (reach slots above)) ≡ false → making_fault nodes at ≡ Some fault.NotFound
  no_directory off =
      let gone : node_at nodes at ≡ None = absent (reach slots at) refl (λ end e.
      let leads = last_leads slots above name end e in
      let dir : is_directory (kind_at slots (Some leads.home)) ≡ true =
      ap (λ h. is_directory (kind_at slots (Some h))) (sym leads.holds.home_is) ∙ seen.sound.housed leads.slot leads.holds.node leads.holds.is in
      clash (is_directory (kind_at slots (Some leads.home))) dir (ap (λ o. is_directory (kind_at slots o)) (sym leads.from_is) ∙ off)) in
      rw (gone, all_but_last above name, node_seen seen above, off) refl

  module _ (home : Place) (home_is : reach slots above ≡ Some home) (dir : IsHome slots home) where
    there : is_directory (kind_at slots (reach slots above)) ≡ true
    there = ap (λ o. is_directory (kind_at slots o)) home_is ∙ dir

    taken_name : (slot : ℕ) → child slots home name ≡ Some slot → making_fault nodes at ≡ Some fault.Exists
    taken_name slot is =
        let h = (child_holds slots home name slot is).1 in
        let leads : reach slots at ≡ Some (place.Slot slot) = reach_last slots above name ∙ ap (λ o. step slots o name) home_is ∙ ap slot_place is in
        let some : node_at nodes at ≡ Some (kind_of slot h.node.sort) = node_seen seen at ∙ ap (kind_at slots) leads ∙ ap (kind_in slot) h.is in
        rw some refl

    module _ (none : child slots home name ≡ None) where
      leads_nowhere : reach slots at ≡ None
      leads_nowhere = reach_last slots above name ∙ ap (λ o. step slots o name) home_is ∙ ap slot_place none

      gone : node_at nodes at ≡ None
      gone = node_seen seen at ∙ ap (kind_at slots) leads_nowhere

      unused : map.get nodes at ≡ None
      unused = seen.exact at ∙ below_look slots at (not_empty above name) ∙ ap (kind_at slots) leads_nowhere

      full : free_slot slots ≡ None → making_fault nodes at ≡ Some fault.NoSpace
      full closed =
          let all = all_taken 0 slots closed in
          let counted = seen.sound.counted in
          let wide = seen.sound.wide in
          let many : nat_le node_limit (map.len nodes) ≡ true = (let is : map.len nodes ≡ 256 = counted ∙ all ∙ wide in rw is refl) in
          rw (gone, all_but_last above name, node_seen seen above, there, many) refl

      module _ (slot : ℕ) (open_is : free_slot slots ≡ Some slot) where
        node : Node
        node = record { home = home; name = name; sort = sort }

        found : (slot < length slots) × (get_or slots slot None ≡ None)
        found =
            let first = first_passes is_none 0 slots None slot open_is in
            let same : first.0 ≡ slot = (let from = first.1.0 in omega arith) in
            (rw same at first.1.1.0, free_is (get_or slots slot None) (rw same at first.1.1.1))

        allowed : making_fault nodes at ≡ None
        allowed =
            let few = some_free 0 slots slot open_is in
            let counted = seen.sound.counted in
            let wide = seen.sound.wide in
            let room : nat_le node_limit (map.len nodes) ≡ false = grind (arith, nat_tests) in
            rw (gone, all_but_last above name, node_seen seen above, there, room) refl

        fresh : IsFresh nodes slot
        fresh q e =
            let leads = number_slot slots q slot (sym (seen.exact q) ∙ e) in
            let node = reached slots q slot leads in
            let free = found.1 in let is = node.1 in cc

        exact : (q : List (List ℕ)) → map.get (map.insert nodes at (kind_of slot sort)) q ≡ below (set slots slot (Some (record { home = home; name = name; sort = sort }))) q
        exact q =
            elim (path_cases q at) [
              | inl same ↦
                  ap (map.get (map.insert nodes at (kind_of slot sort))) same ∙ put_here nodes at (kind_of slot sort)
                  ∙ sym (ap (below (set slots slot (Some (record { home = home; name = name; sort = sort })))) same
                  ∙ below_look (set slots slot (Some (record { home = home; name = name; sort = sort }))) at (not_empty above name)
                  ∙ ap (kind_at (set slots slot (Some (record { home = home; name = name; sort = sort })))) (fill_here slots slot (record { home = home; name = name; sort = sort }) above found.0 found.1 seen.sound.housed seen.sound.lone home_is dir none)
                  ∙ ap (kind_in slot) (get_or-set_same slots slot (Some (record { home = home; name = name; sort = sort })) None found.0))
              | inr ne ↦ put_there nodes at (kind_of slot sort) q ne ∙ seen.exact q ∙ sym (others q ne)
            ]
          where
            others : (q : List (List ℕ)) → (q ≡ at → ⊥) → below (set slots slot (Some (record { home = home; name = name; sort = sort }))) q ≡ below slots q
            others [] ne = refl
            others (first ∷ rest) ne =
                ap (kind_at (set slots slot (Some (record { home = home; name = name; sort = sort })))) (fill_other slots slot (record { home = home; name = name; sort = sort }) above found.0 found.1 seen.sound.housed seen.sound.lone home_is dir none (first ∷ rest) ne)
                ∙ kind_unless slots slot (Some (record { home = home; name = name; sort = sort })) (reach slots (first ∷ rest)) (λ e.
                let node = reached slots (first ∷ rest) slot e in
                let free = found.1 in let is = node.1 in cc)

        sound : Sound (set slots slot (Some (record { home = home; name = name; sort = sort }))) (map.insert nodes at (kind_of slot sort))
        sound = record {
          wide = length-set slots slot (Some (record { home = home; name = name; sort = sort })) ∙ seen.sound.wide;
          housed = fill_housed slots slot (record { home = home; name = name; sort = sort }) above found.0 found.1 seen.sound.housed seen.sound.lone home_is dir none;
          lone = fill_lone slots slot (record { home = home; name = name; sort = sort }) above found.0 found.1 seen.sound.housed seen.sound.lone home_is dir none;
          counted = one_more nodes at (kind_of slot sort) unused ∙ ap suc seen.sound.counted ∙ sym (taken_filled slots slot (record { home = home; name = name; sort = sort }) found.0 found.1);
        }

        filled : Made nodes at sort (Ok slot) (set slots slot (Some (record { home = home; name = name; sort = sort })))
        filled = (allowed, (fresh, record { exact = exact; sound = sound }))

      settle : (o : Option ℕ) → free_slot slots ≡ o → Made nodes at sort (settled slots (record { home = home; name = name; sort = sort }) o).0 (settled slots (record { home = home; name = name; sort = sort }) o).1
      settle None e = (full e, seen)
      settle (Some slot) e = filled slot e

    abbrev Answer : Option ℕ → Result ℕ TreeFault × List (Option Node)
    Answer o =
        cond (is_some o) (Err fault.Exists, slots) (settled slots (record { home = home; name = name; sort = sort }) (free_slot slots))

    in_home : (o : Option ℕ) → child slots home name ≡ o → Made nodes at sort (Answer o).0 (Answer o).1
    in_home None e = settle e (free_slot slots) refl
    in_home (Some slot) e = (taken_name slot e, seen)

  abbrev From : Option Place → Type 0
  From o = Made nodes at sort (made_in slots name sort o).0 (made_in slots name sort o).1

  -- a node is made as the tree says
  pub make_seen : Made nodes (above ++ name ∷ []) sort (slot_make slots above name sort).0 (slot_make slots above name sort).1
  make_seen =
      elim (cases_Bool (is_directory (kind_at slots (reach slots above)))) [
        | inl dir ↦
            let found = is_home slots (reach slots above) dir in
            let home = found.0 in
            let is : directory slots above ≡ Some home = ap (λ b. cond b (reach slots above) None) dir ∙ found.1 in
            subst From (sym is) (in_home home found.1 (ap (λ o. is_directory (kind_at slots o)) (sym found.1) ∙ dir) (child slots home name) refl)
        | inr off ↦
            let is : directory slots above ≡ None = ap (λ b. cond b (reach slots above) None) off in
            subst From (sym is) (no_directory off, seen)
      ]

-- a directory is made as the tree says
pub mkdir_fits : {slots : List (Option Node)} {nodes : Nodes} → Seen slots nodes → (above : List (List ℕ)) (name : List ℕ) → Fits done (slot_make slots above name sort.Directory) (mkdir_step nodes (above ++ name ∷ []))
mkdir_fits {slots} {nodes} seen above name =
    by (slot_make slots above name sort.Directory).0 (slot_make slots above name sort.Directory).1 (make_seen seen above name sort.Directory)
  where
    by : (answer : Result ℕ TreeFault) (left : List (Option Node)) → Made nodes (above ++ name ∷ []) sort.Directory answer left → Fits done (answer, left) (mkdir_step nodes (above ++ name ∷ []))
    by (Ok slot) left told = rw told.0 (record { answer = refl; seen = told.1.1 })
    by (Err why) left told = rw told.0 (record { answer = refl; seen = told.1 })

-- what making a file leaves
abbrev pub left_of : Nodes → List (List ℕ) → Result ℕ TreeFault → Nodes
left_of nodes path (Ok number) = map.insert nodes path (kind.File number)
left_of nodes path (Err why) = nodes

abbrev pub Answered : Nodes → List (List ℕ) → Result ℕ TreeFault → Type 0
Answered nodes path (Ok number) = (making_fault nodes path ≡ None) × IsFresh nodes number
Answered nodes path (Err why) = making_fault nodes path ≡ Some why

-- a file is made as the tree says
pub create_fits : {slots : List (Option Node)} {nodes : Nodes} → Seen slots nodes → (above : List (List ℕ)) (name : List ℕ) → Fits itself (slot_make slots above name sort.File) ((slot_make slots above name sort.File).0, left_of nodes (above ++ name ∷ []) (slot_make slots above name sort.File).0)
create_fits {slots} {nodes} seen above name =
    by (slot_make slots above name sort.File).0 (slot_make slots above name sort.File).1 (make_seen seen above name sort.File)
  where
    by : (answer : Result ℕ TreeFault) (left : List (Option Node)) → Made nodes (above ++ name ∷ []) sort.File answer left → Fits itself (answer, left) (answer, left_of nodes (above ++ name ∷ []) answer)
    by (Ok slot) left told = record { answer = refl; seen = told.1.1 }
    by (Err why) left told = record { answer = refl; seen = told.1 }

-- and so is its number, or the fault
pub create_answers : {slots : List (Option Node)} {nodes : Nodes} → Seen slots nodes → (above : List (List ℕ)) (name : List ℕ) → Answered nodes (above ++ name ∷ []) (slot_make slots above name sort.File).0
create_answers {slots} {nodes} seen above name =
    by (slot_make slots above name sort.File).0 (slot_make slots above name sort.File).1 (make_seen seen above name sort.File)
  where
    by : (answer : Result ℕ TreeFault) (left : List (Option Node)) → Made nodes (above ++ name ∷ []) sort.File answer left → Answered nodes (above ++ name ∷ []) answer
    by (Ok slot) left told = (told.0, told.1.0)
    by (Err why) left told = told.0

pub created_ok : (nodes : Nodes) (path : List (List ℕ)) (answer : Result ℕ TreeFault) (left : Nodes) → left ≡ left_of nodes path answer → Answered nodes path answer → IfOk answer (λ number. IsCreated nodes path number left)
created_ok nodes path (Ok number) left is told = record { allowed = told.0; fresh = told.1; there = is }
created_ok nodes path (Err why) left is told = tt

pub created_err : (nodes : Nodes) (path : List (List ℕ)) (answer : Result ℕ TreeFault) (left : Nodes) → left ≡ left_of nodes path answer → Answered nodes path answer → IfErr answer (λ why. (making_fault nodes path ≡ Some why) × (left ≡ nodes))
created_err nodes path (Ok number) left is told = tt
created_err nodes path (Err why) left is told = (told, is)
