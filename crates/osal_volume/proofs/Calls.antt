-- The calls of a volume, from those of its tree and its blocks.
use Rattle.std.proofs.Common.{◌≡◌, ◌+◌, ◌-◌, ◌*◌, ◌<◌, ◌==◌, min, ℕ, Bool, true, false, cond, not, is_some, nat_le, map as list_map, List, [], ◌∷◌, length, take, get_or-set_same, inl, inr, Option, None, Some, option_map, Result, Ok, Err, IfOk, IfErr, refl, sym, ap, subst, subst₂, ◌∙◌, arith}
use Rattle.std.specs.List.{list_any}
use Rattle.std.specs.Ordering.{eq_by_cmp}
use Rattle.std.specs.FinMap as map
use Rattle.std.proofs.lemmas.Bool.{cases_Bool, or_left, or_right, false_from_ne_true}
use Rattle.std.proofs.lemmas.Bool.Decides.{nat_tests}
use Rattle.osal_tree.specs.declared.kind.Kind.{Kind}
use Rattle.osal_tree.specs.declared.kind.Kind.TheVariants as kind
use Rattle.osal_tree.specs.declared.kind.TreeFault.{TreeFault}
use Rattle.osal_tree.specs.declared.kind.TreeFault.TheVariants as refusal
use Rattle.osal_tree.specs.Paths.{path_cmp, parent_of, is_child}
use Rattle.osal_tree.specs.Nodes.{Nodes, node_limit, node_at, IsTree, IsFresh}
use Rattle.osal_tree.specs.Nodes as tree
use Rattle.osal_tree.specs.Order.{path_total, path_ties}
use Rattle.osal_tree.proofs.Paths.{path_cases}
use Rattle.osal_tree.specs.Steps as tree_step
use Rattle.osal_tree.proofs.Maps.{tied, tied_same}
use Rattle.osal_tree.proofs.Entries.{both_ways}
use Rattle.osal_tree.proofs.Renaming.{Distinct, distinct_from}
use Rattle.osal_blocks.specs.Blocks.{BlocksState, bytes_of, blocks_of, free, fitting as fitting_blocks, overwritten, with_file, with_reserved}
use Rattle.osal_volume.specs.declared.fault.VolFault.{VolFault}
use Rattle.osal_volume.specs.declared.fault.VolFault.TheVariants as fault
use Rattle.osal_volume.specs.Faults.{vol_fault, file_number, answered}
use Rattle.osal_volume.specs.Volume.{Content, Dir, Bytes, VolumeState, content_at, is_directory, has_child, free_blocks, with_node, without_node}
use Rattle.osal_volume.specs.Steps.{file_fault, done_or, or_full, making_fault, create_step, rmdir_fault, read_step, fitting, put, written, write_step}
use Rattle.osal_volume.specs.Whole.{content_of, volume_of, IsWhole}
use Rattle.osal_volume.proofs.Sums.{put_there, gone_here, gone_there}
use Rattle.osal_volume.proofs.Held.{Held, held_of, held_is, content_seen, get_volume, find_each}
use Rattle.osal_volume.proofs.Changes.{held_create, held_mkdir, held_file, held_gone, held_rmdir, has_block}

-- a number is that of a file
pub file_is : (o : Option Kind) (number : ℕ) → file_number o ≡ Ok number → o ≡ Some (kind.File number)
file_is None number e = absurd cc
file_is (Some kind.Directory) number e = absurd cc
file_is (Some (kind.File other)) number e = let same : other ≡ number = cc in ap (λ n. Some (kind.File n)) same

no_file : (blocks : BlocksState) (o : Option Kind) (why : VolFault) → file_number o ≡ Err why → file_fault (option_map (content_of blocks) o) ≡ Some why
no_file blocks None why e = let same : fault.NotFound ≡ why = cc in ap Some same
no_file blocks (Some kind.Directory) why e = let same : fault.WrongKind ≡ why = cc in ap Some same
no_file blocks (Some (kind.File number)) why e = absurd cc

-- a file is never the root
pub got : (nodes : Nodes) (at : List (List ℕ)) (number : ℕ) → node_at nodes at ≡ Some (kind.File number) → map.get nodes at ≡ Some (kind.File number)
got nodes [] number e = absurd cc
got nodes (name ∷ rest) number e = e

module _ (nodes : Nodes) (blocks : BlocksState) (at : List (List ℕ)) where
  -- there is no file to act on
  pub refused : (why : VolFault) → file_number (node_at nodes at) ≡ Err why → file_fault (content_at (volume_of nodes blocks) at) ≡ Some why
  refused why e = ap file_fault (content_seen nodes blocks at) ∙ no_file blocks (node_at nodes at) why e

  -- there is one
  pub allowed : (number : ℕ) → file_number (node_at nodes at) ≡ Ok number → content_at (volume_of nodes blocks) at ≡ Some (Bytes (bytes_of blocks number))
  allowed number e = content_seen nodes blocks at ∙ ap (option_map (content_of blocks)) (file_is (node_at nodes at) number e)

  module _ (whole : IsWhole nodes blocks) (good : IsTree nodes) (number : ℕ) (few : number < 256) (found : file_number (node_at nodes at) ≡ Ok number) where
    stands : map.get nodes at ≡ Some (kind.File number)
    stands = got nodes at number (file_is (node_at nodes at) number found)

    -- a file comes to have other bytes
    pub file_held : (bytes : List ℕ) → Held nodes (with_file blocks number bytes) (with_node (volume_of nodes blocks) at (Bytes bytes))
    file_held bytes = held_file (held_of whole) at good number few stands bytes

    emptied : Held (map.remove nodes at) (with_file blocks number []) (without_node (with_node (volume_of nodes blocks) at (Bytes [])) at)
    emptied = held_gone (file_held []) at number stands (get_or-set_same blocks.files number [] [] (let wide = whole.files in omega arith))

    twice : without_node (with_node (volume_of nodes blocks) at (Bytes [])) at ≡ without_node (volume_of nodes blocks) at
    twice =
        ap (λ m. record (volume_of nodes blocks) { nodes = m })
        (map.same_map path_total path_ties _ _ (λ q. elim (path_cases q at) [
          | inl same ↦
              ap (map.get (map.remove (map.insert (volume_of nodes blocks).nodes at (Bytes [])) at)) same ∙ gone_here (map.insert (volume_of nodes blocks).nodes at (Bytes [])) at
              ∙ sym (ap (map.get (map.remove (volume_of nodes blocks).nodes at)) same ∙ gone_here (volume_of nodes blocks).nodes at)
          | inr ne ↦
              gone_there (map.insert (volume_of nodes blocks).nodes at (Bytes [])) at q ne ∙ put_there (volume_of nodes blocks).nodes at (Bytes []) q ne
              ∙ sym (gone_there (volume_of nodes blocks).nodes at q ne)
        ]))

    -- a file is taken away
    pub gone_held : Held (map.remove nodes at) (with_file blocks number []) (without_node (volume_of nodes blocks) at)
    gone_held = subst (Held (map.remove nodes at) (with_file blocks number [])) twice emptied

    -- the tree takes it away too
    pub tree_removes : (tree_step.remove_step nodes at).1 ≡ map.remove nodes at
    tree_removes = ap (λ o. (tree_step.removed nodes at o).1) (file_is (node_at nodes at) number found)

    -- the same, of what the calls left
    pub removed_held : {left : Nodes} {kept : BlocksState} {answer : Result ℕ TreeFault} → (answer, left) ≡ tree_step.remove_step nodes at → kept ≡ with_file blocks number [] → Held left kept (without_node (volume_of nodes blocks) at)
    removed_held {left} {kept} told is =
        subst₂ (λ n b. Held n b (without_node (volume_of nodes blocks) at)) (sym (ap (λ p. p.1) told ∙ tree_removes)) (sym is) gone_held

-- whether a number is zero, by what a call told of it
pub zero_is : (n told : ℕ) → n ≡ told → told ≡ 0 → (n == 0) ≡ true
zero_is n told same zero = grind (arith, nat_tests)

pub more_is : (n told : ℕ) → n ≡ told → (told ≡ 0 → ⊥) → (n == 0) ≡ false
more_is n told same more = false_from_ne_true (n == 0) (λ t. more (let zero : n ≡ 0 = grind (arith, nat_tests) in sym same ∙ zero))

-- an answer that a call gives where nothing is in the way
pub done_is : {nodes : Nodes} {blocks : BlocksState} (state after : VolumeState) (why : Option VolFault) → why ≡ None → Held nodes blocks after → (Ok tt, volume_of nodes blocks) ≡ done_or state after why
done_is state after why none held = (λ i. (Ok tt, held_is held i)) ∙ sym (ap (done_or state after) none)

pub refused_is : (state after : VolumeState) (why : Option VolFault) (told : VolFault) → why ≡ Some told → (Err told, state) ≡ done_or state after why
refused_is state after why told is = sym (ap (done_or state after) is)

unread : (blocks : BlocksState) (o : Option Kind) (place n : ℕ) (why : VolFault) → file_number o ≡ Err why → read_step (option_map (content_of blocks) o) place n ≡ Err why
unread blocks None place n why e = cc
unread blocks (Some kind.Directory) place n why e = cc
unread blocks (Some (kind.File number)) place n why e = absurd cc

-- there is nothing to read
pub read_refused : (nodes : Nodes) (blocks : BlocksState) (at : List (List ℕ)) (place n : ℕ) (why : VolFault) → file_number (node_at nodes at) ≡ Err why → read_step (content_at (volume_of nodes blocks) at) place n ≡ Err why
read_refused nodes blocks at place n why e =
    ap (λ o. read_step o place n) (content_seen nodes blocks at) ∙ unread blocks (node_at nodes at) place n why e

same_count : (f : Kind → Content) (es : List (List (List ℕ) × Kind)) → Distinct es → map.len (map.from_entries {R = path_cmp} (list_map (λ e. (e.0, f e.1)) es)) ≡ length es
same_count f [] d = map.len-empty path_cmp Content
same_count f (e ∷ es) d =
    map.len-insert path_total (map.from_entries (list_map (λ e. (e.0, f e.1)) es)) e.0 (f e.1)
    ∙ ap (λ o. cond (is_some o) (map.len (map.from_entries {R = path_cmp} (list_map (λ e. (e.0, f e.1)) es))) (map.len (map.from_entries {R = path_cmp} (list_map (λ e. (e.0, f e.1)) es)) + 1)) (map.get-from_entries path_total (list_map (λ e. (e.0, f e.1)) es) e.0 ∙ find_each f e.0 es ∙ ap (option_map f) d.0)
    ∙ (let rest = same_count f es d.1 in omega arith)

shape : (a b c : Bool) → cond a (Some fault.Exists) (cond (not b) (Some fault.NotFound) (cond c (Some fault.NoSpace) None)) ≡ option_map vol_fault (cond a (Some refusal.Exists) (cond (not b) (Some refusal.NotFound) (cond c (Some refusal.NoSpace) None)))
shape true b c = refl
shape false false c = refl
shape false true true = refl
shape false true false = refl

module _ (nodes : Nodes) (blocks : BlocksState) where
  -- there are as many nodes as in the tree
  pub as_many : map.len (volume_of nodes blocks).nodes ≡ map.len nodes
  as_many = same_count (content_of blocks) (map.entries nodes) (distinct_from (map.entries nodes) (map.entries_sorted nodes)) ∙ sym (map.len-entries nodes)

  -- something stands there as in the tree
  pub there_as : (o : Option Kind) → is_some (option_map (content_of blocks) o) ≡ is_some o
  there_as None = refl
  there_as (Some there) = refl

  -- a directory stands there as in the tree
  pub directory_as : (o : Option Kind) → is_directory (option_map (content_of blocks) o) ≡ tree.is_directory o
  directory_as None = refl
  directory_as (Some kind.Directory) = refl
  directory_as (Some (kind.File number)) = refl

  -- the tree's fault is the volume's
  pub making_seen : (at : List (List ℕ)) → making_fault (volume_of nodes blocks) at ≡ option_map vol_fault (tree_step.making_fault nodes at)
  making_seen at =
      rw (content_seen nodes blocks at, content_seen nodes blocks (parent_of at), there_as (node_at nodes at), directory_as (node_at nodes (parent_of at)), as_many)
      (shape (is_some (node_at nodes at)) (tree.is_directory (node_at nodes (parent_of at))) (nat_le node_limit (map.len nodes)))

  nothing_at : (at : List (List ℕ)) → is_some (node_at nodes at) ≡ false → map.get nodes at ≡ None
  nothing_at [] e = absurd cc
  nothing_at (name ∷ rest) e = by (map.get nodes (name ∷ rest)) e
    where
      by : (o : Option Kind) → is_some o ≡ false → o ≡ None
      by None e = refl
      by (Some there) e = absurd cc

  pub free_at : (at : List (List ℕ)) → tree_step.making_fault nodes at ≡ None → map.get nodes at ≡ None
  free_at at e = nothing_at at (by (is_some (node_at nodes at)) _ e)
    where
      by : (b : Bool) (rest : Option TreeFault) → cond b (Some refusal.Exists) rest ≡ None → b ≡ false
      by true rest e = absurd cc
      by false rest e = refl

  -- what making a file leaves
  abbrev pub made_state : List (List ℕ) → Result ℕ TreeFault → VolumeState
  made_state at (Ok number) = with_node (volume_of nodes blocks) at (Bytes [])
  made_state at (Err why) = volume_of nodes blocks

  pub created_held : IsWhole nodes blocks → (at : List (List ℕ)) {left : Nodes} (answer : Result ℕ TreeFault) → IfOk answer (λ number. tree_step.IsCreated nodes at number left) → IfErr answer (λ why. (tree_step.making_fault nodes at ≡ Some why) × (left ≡ nodes)) → Held left blocks (made_state at answer)
  created_held whole at (Ok number) made kept =
      subst (λ n. Held n blocks (with_node (volume_of nodes blocks) at (Bytes []))) (sym made.there) (held_create (held_of whole) at number (free_at at made.allowed) made.fresh)
  created_held whole at (Err why) made kept = subst (λ n. Held n blocks (volume_of nodes blocks)) (sym kept.1) (held_of whole)

  pub created_is : (at : List (List ℕ)) (left : Nodes) (answer : Result ℕ TreeFault) → IfOk answer (λ number. tree_step.IsCreated nodes at number left) → IfErr answer (λ why. (tree_step.making_fault nodes at ≡ Some why) × (left ≡ nodes)) → (answered answer, made_state at answer) ≡ create_step (volume_of nodes blocks) at
  created_is at left (Ok number) made kept = sym (ap (done_or (volume_of nodes blocks) (with_node (volume_of nodes blocks) at (Bytes []))) (making_seen at ∙ ap (option_map vol_fault) made.allowed))
  created_is at left (Err why) made kept = sym (ap (done_or (volume_of nodes blocks) (with_node (volume_of nodes blocks) at (Bytes []))) (making_seen at ∙ ap (option_map vol_fault) kept.0))

  -- what making a directory leaves
  pub mkdir_held : IsWhole nodes blocks → (at : List (List ℕ)) {left : Nodes} {kept : BlocksState} {answer : Result (Unit {0}) TreeFault} → tree_step.making_fault nodes at ≡ None → (answer, left) ≡ tree_step.mkdir_step nodes at → kept ≡ with_reserved blocks (blocks.reserved + 1) → Held left kept (with_node (volume_of nodes blocks) at Dir)
  mkdir_held whole at {left} {kept} none told is =
      subst₂ (λ n b. Held n b (with_node (volume_of nodes blocks) at Dir)) (sym (ap (λ p. p.1) told ∙ ap (λ o. (tree_step.made nodes at o).1) none)) (sym is)
      (held_mkdir (held_of whole) at (free_at at none))

  -- the blocks that are free are those of the volume
  pub free_seen : IsWhole nodes blocks → free blocks ≡ free_blocks (volume_of nodes blocks)
  free_seen whole = ap (λ n. blocks.total - n) whole.counted

  pub full_is : IsWhole nodes blocks → (at : List (List ℕ)) → tree_step.making_fault nodes at ≡ None → (b : Bool) → (free blocks == 0) ≡ b → or_full (volume_of nodes blocks) (making_fault (volume_of nodes blocks) at) ≡ cond b (Some fault.NoSpace) None
  full_is whole at none b e =
      ap (or_full (volume_of nodes blocks)) (making_seen at ∙ ap (option_map vol_fault) none)
      ∙ ap (λ c. cond c (Some fault.NoSpace) None) (ap (λ n. n == 0) (sym (free_seen whole)) ∙ e)

  fits_seen : IsWhole nodes blocks → (number place count : ℕ) → fitting_blocks blocks number place count ≡ fitting (volume_of nodes blocks) (bytes_of blocks number) place count
  fits_seen whole number place count = ap (λ n. min count ((n + blocks_of (bytes_of blocks number)) * 512 - place)) (free_seen whole)

  -- there is nothing to write to
  pub write_refused : (at : List (List ℕ)) (place : ℕ) (payload : List ℕ) (why : VolFault) → file_number (node_at nodes at) ≡ Err why → (Err why, volume_of nodes blocks) ≡ write_step (volume_of nodes blocks) at place payload
  write_refused at place payload why e =
      by (node_at nodes at) e ∙ sym (ap (written (volume_of nodes blocks) at place payload) (content_seen nodes blocks at))
    where
      by : (o : Option Kind) → file_number o ≡ Err why → (Err why, volume_of nodes blocks) ≡ written (volume_of nodes blocks) at place payload (option_map (content_of blocks) o)
      by None e = let same : fault.NotFound ≡ why = cc in λ i. (Err (sym same i), volume_of nodes blocks)
      by (Some kind.Directory) e = let same : fault.WrongKind ≡ why = cc in λ i. (Err (sym same i), volume_of nodes blocks)
      by (Some (kind.File number)) e = absurd cc

  -- so many bytes are written as fit
  pub write_is : IsWhole nodes blocks → (at : List (List ℕ)) (number place count : ℕ) (payload : List ℕ) → file_number (node_at nodes at) ≡ Ok number → count ≡ fitting_blocks blocks number place (length payload) → put (volume_of nodes blocks) at (bytes_of blocks number) place payload count ≡ write_step (volume_of nodes blocks) at place payload
  write_is whole at number place count payload found is =
      ap (put (volume_of nodes blocks) at (bytes_of blocks number) place payload) (is ∙ fits_seen whole number place (length payload))
      ∙ sym (ap (written (volume_of nodes blocks) at place payload) (allowed nodes blocks at number found))

pub put_none : (state : VolumeState) (at : List (List ℕ)) (bytes : List ℕ) (place : ℕ) (payload : List ℕ) (count : ℕ) → (count == 0) ≡ true → (Err fault.NoSpace, state) ≡ put state at bytes place payload count
put_none state at bytes place payload count e =
    sym (ap (λ b. cond b (Err fault.NoSpace, state) (Ok count, with_node state at (Bytes (overwritten bytes place (take count payload))))) e)

pub put_some : (state : VolumeState) (at : List (List ℕ)) (bytes : List ℕ) (place : ℕ) (payload : List ℕ) (count : ℕ) → (count == 0) ≡ false → (Ok count, with_node state at (Bytes (overwritten bytes place (take count payload)))) ≡ put state at bytes place payload count
put_some state at bytes place payload count e =
    sym (ap (λ b. cond b (Err fault.NoSpace, state) (Ok count, with_node state at (Bytes (overwritten bytes place (take count payload))))) e)

any_key : {X : Type 0} (test : List (List ℕ) → Bool) (es : List (List (List ℕ) × X)) → list_any (λ e. test e.0) es ≡ true → (q : List (List ℕ)) × ((test q ≡ true) × (is_some (map.find path_cmp q es) ≡ true))
any_key test [] t = absurd cc
any_key test (e ∷ es) t =
    elim (cases_Bool (test e.0)) [
      | inl passed ↦ (e.0, (passed, ap (λ b. is_some (cond b (Some e.1) (map.find path_cmp e.0 es))) (tied e.0)))
      | inr failed ↦
          let found = any_key test es (rw failed at t) in
          (found.0, (found.1.0, later (eq_by_cmp path_cmp found.0 e.0) e.1 (map.find path_cmp found.0 es) found.1.1))
    ]
  where
    later : {X : Type 0} (b : Bool) (there : X) (o : Option X) → is_some o ≡ true → is_some (cond b (Some there) o) ≡ true
    later true there o some = refl
    later false there o some = some

key_any : {X : Type 0} (test : List (List ℕ) → Bool) (q : List (List ℕ)) (es : List (List (List ℕ) × X)) → is_some (map.find path_cmp q es) ≡ true → test q ≡ true → list_any (λ e. test e.0) es ≡ true
key_any test q [] some passed = absurd cc
key_any test q (e ∷ es) some passed =
    elim (cases_Bool (eq_by_cmp path_cmp q e.0)) [
      | inl tie ↦ or_left (test e.0) (list_any (λ e. test e.0) es) (ap test (sym (tied_same q e.0 tie)) ∙ passed)
      | inr apart ↦ or_right (test e.0) (list_any (λ e. test e.0) es) (key_any test q es (rw apart at some) passed)
    ]

clear_shape : (a b : Bool) → cond a (Some fault.WrongKind) (cond b (Some fault.NotEmpty) None) ≡ option_map vol_fault (cond a (Some refusal.WrongKind) (cond b (Some refusal.NotEmpty) None))
clear_shape true b = refl
clear_shape false true = refl
clear_shape false false = refl

module _ (nodes : Nodes) (blocks : BlocksState) (at : List (List ℕ)) where
  child_seen : has_child (volume_of nodes blocks) at ≡ tree.has_child nodes at
  child_seen =
      both_ways (has_child (volume_of nodes blocks) at) (tree.has_child nodes at)
      (λ t.
      let found = any_key (is_child at) (map.entries (volume_of nodes blocks).nodes) t in
      let some : is_some (map.get nodes found.0) ≡ true =
      sym (there_as nodes blocks (map.get nodes found.0)) ∙ ap is_some (sym (get_volume nodes blocks found.0)) ∙ ap is_some (map.get-entries (volume_of nodes blocks).nodes found.0) ∙ found.1.1 in
      key_any (is_child at) found.0 (map.entries nodes) (ap is_some (sym (map.get-entries nodes found.0)) ∙ some) found.1.0)
      (λ t.
      let found = any_key (is_child at) (map.entries nodes) t in
      let some : is_some (map.get (volume_of nodes blocks).nodes found.0) ≡ true =
      ap is_some (get_volume nodes blocks found.0) ∙ there_as nodes blocks (map.get nodes found.0) ∙ ap is_some (map.get-entries nodes found.0) ∙ found.1.1 in
      key_any (is_child at) found.0 (map.entries (volume_of nodes blocks).nodes) (ap is_some (sym (map.get-entries (volume_of nodes blocks).nodes found.0)) ∙ some) found.1.0)

  -- the tree's fault is the volume's
  pub clearing_seen : rmdir_fault (volume_of nodes blocks) at (content_at (volume_of nodes blocks) at) ≡ option_map vol_fault (tree_step.rmdir_fault nodes at (node_at nodes at))
  clearing_seen = ap (rmdir_fault (volume_of nodes blocks) at) (content_seen nodes blocks at) ∙ by (node_at nodes at)
    where
      by : (o : Option Kind) → rmdir_fault (volume_of nodes blocks) at (option_map (content_of blocks) o) ≡ option_map vol_fault (tree_step.rmdir_fault nodes at o)
      by None = refl
      by (Some (kind.File number)) = refl
      by (Some kind.Directory) = rw child_seen (clear_shape (length at == 0) (tree.has_child nodes at))

  -- what the tree has done
  pub cleared_ok : {left : Nodes} (why : Option TreeFault) → (Ok tt, left) ≡ tree_step.cleared nodes at why → (why ≡ None) × (left ≡ map.remove nodes at)
  cleared_ok None e = (refl, ap (λ p. p.1) e)
  cleared_ok (Some why) e = let clash = ap (λ p. p.0) e in absurd cc

  pub cleared_err : {left : Nodes} (told : TreeFault) (why : Option TreeFault) → (Err told, left) ≡ tree_step.cleared nodes at why → (why ≡ Some told) × (left ≡ nodes)
  cleared_err told None e = let clash = ap (λ p. p.0) e in absurd cc
  cleared_err told (Some why) e = let same = ap (λ p. p.0) e in let is : why ≡ told = cc in (ap Some is, ap (λ p. p.1) e)

directory_at : (nodes : Nodes) (at : List (List ℕ)) → tree_step.rmdir_fault nodes at (node_at nodes at) ≡ None → map.get nodes at ≡ Some kind.Directory
directory_at nodes [] e = absurd cc
directory_at nodes (name ∷ rest) e = by (map.get nodes (name ∷ rest)) e
  where
    by : (o : Option Kind) → tree_step.rmdir_fault nodes (name ∷ rest) o ≡ None → o ≡ Some kind.Directory
    by None e = absurd cc
    by (Some (kind.File number)) e = absurd cc
    by (Some kind.Directory) e = refl

module _ (nodes : Nodes) (blocks : BlocksState) (at : List (List ℕ)) (whole : IsWhole nodes blocks) (left : Nodes) where
  pub rmdir_block : (Ok tt, left) ≡ tree_step.rmdir_step nodes at → 0 < blocks.reserved
  rmdir_block told = has_block (held_of whole) at (directory_at nodes at (cleared_ok nodes blocks at _ told).0)

  pub rmdir_held : (kept : BlocksState) → (Ok tt, left) ≡ tree_step.rmdir_step nodes at → kept ≡ with_reserved blocks (blocks.reserved - 1) → Held left kept (without_node (volume_of nodes blocks) at)
  rmdir_held kept told is =
      let done = cleared_ok nodes blocks at _ told in
      subst₂ (λ n b. Held n b (without_node (volume_of nodes blocks) at)) (sym done.1) (sym is) (held_rmdir (held_of whole) at (directory_at nodes at done.0))

  pub rmdir_none : (Ok tt, left) ≡ tree_step.rmdir_step nodes at → rmdir_fault (volume_of nodes blocks) at (content_at (volume_of nodes blocks) at) ≡ None
  rmdir_none told = clearing_seen nodes blocks at ∙ ap (option_map vol_fault) (cleared_ok nodes blocks at _ told).0

  pub rmdir_some : (why : TreeFault) → (Err why, left) ≡ tree_step.rmdir_step nodes at → rmdir_fault (volume_of nodes blocks) at (content_at (volume_of nodes blocks) at) ≡ Some (vol_fault why)
  rmdir_some why told = clearing_seen nodes blocks at ∙ ap (option_map vol_fault) (cleared_err nodes blocks at why _ told).0

  pub rmdir_kept : (why : TreeFault) → (Err why, left) ≡ tree_step.rmdir_step nodes at → left ≡ nodes
  rmdir_kept why told = (cleared_err nodes blocks at why _ told).1
