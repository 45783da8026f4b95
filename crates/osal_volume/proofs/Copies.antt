-- A copy: where one may come to stand, and what it makes of the volume.
use Rattle.std.proofs.Common.{◌≡◌, ◌+◌, ◌<◌, ◌≤◌, ◌||◌, ◌==◌, ℕ, Bool, true, false, cond, not, is_some, nat_le, List, [], ◌∷◌, length, inl, inr, Option, None, Some, option_map, Result, Ok, Err, IfOk, IfErr, refl, sym, ap, subst, ◌∙◌, arith}
use Rattle.std.specs.Ordering.{eq_by_cmp}
use Rattle.std.specs.FinMap as map
use Rattle.std.proofs.lemmas.Bool.{false_from_ne_true}
use Rattle.std.proofs.lemmas.Bool.Decides.{nat_tests}
use Rattle.osal_tree.specs.declared.kind.Kind.{Kind}
use Rattle.osal_tree.specs.declared.kind.Kind.TheVariants as kind
use Rattle.osal_tree.specs.declared.kind.TreeFault.{TreeFault}
use Rattle.osal_tree.specs.Paths.{path_cmp, parent_of}
use Rattle.osal_tree.specs.Nodes.{Nodes, node_at, IsTree}
use Rattle.osal_tree.specs.Nodes as tree
use Rattle.osal_tree.specs.Order.{path_total, path_ties}
use Rattle.osal_tree.specs.Steps as tree_step
use Rattle.osal_tree.proofs.Maps.{tied, untied, tied_same, put_there as tree_put_there}
use Rattle.osal_tree.proofs.Paths.{path_cases}
use Rattle.osal_tree.proofs.Entries.{both_ways}
use Rattle.osal_blocks.specs.Blocks.{BlocksState, bytes_of, blocks_of, free, with_file}
use Rattle.osal_volume.specs.declared.fault.VolFault.{VolFault}
use Rattle.osal_volume.specs.declared.fault.VolFault.TheVariants as fault
use Rattle.osal_volume.specs.declared.fault.Kind.TheVariants as own
use Rattle.osal_volume.specs.Faults.{file_number}
use Rattle.osal_volume.specs.Volume.{Content, Dir, Bytes, VolumeState, content_at, kind_of, blocks_taken, is_directory, used_blocks, with_node}
use Rattle.osal_volume.specs.Steps.{file_fault, done_or}
use Rattle.osal_volume.specs.Copies.{is_overfull, placing_fault, placed, is_one_file}
use Rattle.osal_volume.specs.Whole.{content_of, volume_of, IsWhole}
use Rattle.osal_volume.proofs.Sums.{put_here, put_there, same_put, total_other}
use Rattle.osal_volume.proofs.Held.{Held, held_of, held_is, content_seen, get_volume}
use Rattle.osal_volume.proofs.Changes.{held_create, held_file}
use Rattle.osal_volume.proofs.Calls.{refused, as_many, directory_as, file_is, free_at, got}
use Rattle.osal_volume.proofs.Rooms.{count_with, keeps_within}

-- a file with these bytes may come to stand at a path
pub record Placeable (state : VolumeState) (to : List (List ℕ)) (same : Bool) (source : Option Content) : Type 0 where
  pub bytes : List ℕ
  pub found : source ≡ Some (Bytes bytes)
  pub home : is_directory (content_at state (parent_of to)) ≡ true
  pub wide : is_directory (content_at state to) ≡ false
  pub apart : same ≡ false
  pub room : is_overfull (with_node state to (Bytes bytes)) ≡ false

-- where nothing is in the way
pub placeable : (state : VolumeState) (to : List (List ℕ)) (same : Bool) (source : Option Content) → placing_fault state to same source ≡ None → Placeable state to same source
placeable state to same None e = absurd cc
placeable state to same (Some Dir) e = by (is_directory (content_at state (parent_of to))) e
  where
    by : (a : Bool) → cond (not a) (Some fault.NotFound) (Some fault.WrongKind) ≡ None → Placeable state to same (Some Dir)
    by true e = absurd cc
    by false e = absurd cc
placeable state to same (Some (Bytes bytes)) e =
    by (is_directory (content_at state (parent_of to))) (is_directory (content_at state to)) same (is_overfull (with_node state to (Bytes bytes))) refl refl refl refl e
  where
    by : (a b c d : Bool) → is_directory (content_at state (parent_of to)) ≡ a → is_directory (content_at state to) ≡ b → same ≡ c → is_overfull (with_node state to (Bytes bytes)) ≡ d → cond (not a) (Some fault.NotFound) (cond (b || c) (Some fault.WrongKind) (cond d (Some fault.NoSpace) None)) ≡ None → Placeable state to same (Some (Bytes bytes))
    by false b c d ea eb ec ed e = absurd cc
    by true true c d ea eb ec ed e = absurd cc
    by true false true d ea eb ec ed e = absurd cc
    by true false false true ea eb ec ed e = absurd cc
    by true false false false ea eb ec ed e = record { bytes = bytes; found = refl; home = ea; wide = eb; apart = ec; room = ed }

-- there is room for the bytes that are copied
pub room_for : {state : VolumeState} {to : List (List ℕ)} {same : Bool} {source : Option Content} → Placeable state to same source → (bytes : List ℕ) → source ≡ Some (Bytes bytes) → is_overfull (with_node state to (Bytes bytes)) ≡ false
room_for {state} {to} can bytes is =
    let both : Some (Bytes can.bytes) ≡ Some (Bytes bytes) = sym can.found ∙ is in
    let one : can.bytes ≡ bytes = cc in
    ap (λ b. is_overfull (with_node state to (Bytes b))) (sym one) ∙ can.room

-- a copy that is made
pub placed_is : {nodes : Nodes} {blocks : BlocksState} (state : VolumeState) (to : List (List ℕ)) (same : Bool) (source : Option Content) (bytes : List ℕ) → placing_fault state to same source ≡ None → source ≡ Some (Bytes bytes) → Held nodes blocks (with_node state to (Bytes bytes)) → (Ok tt, volume_of nodes blocks) ≡ placed state to same source
placed_is state to same source bytes none is held =
    (λ i. (Ok tt, held_is held i))
    ∙ sym (ap (done_or state (with_node state to (Bytes bytes))) (ap (placing_fault state to same) (sym is) ∙ none))
    ∙ sym (ap (placed state to same) is)

-- a copy that is refused
pub placed_not : (state : VolumeState) (to : List (List ℕ)) (same : Bool) (source : Option Content) (why : VolFault) → placing_fault state to same source ≡ Some why → (Err why, state) ≡ placed state to same source
placed_not state to same None why e = let same_fault : fault.NotFound ≡ why = cc in λ i. (Err (sym same_fault i), state)
placed_not state to same (Some source) why e = sym (ap (done_or state (with_node state to source)) e)

-- the file at the path is written over by another
pub written_twice : (state : VolumeState) (to : List (List ℕ)) (old bytes : List ℕ) → with_node (with_node state to (Bytes old)) to (Bytes bytes) ≡ with_node state to (Bytes bytes)
written_twice state to old bytes =
    ap (λ m. record state { nodes = m })
    (map.same_map path_total path_ties _ _ (λ q. elim (path_cases q to) [
      | inl same ↦
          ap (map.get (map.insert (map.insert state.nodes to (Bytes old)) to (Bytes bytes))) same ∙ put_here (map.insert state.nodes to (Bytes old)) to (Bytes bytes)
          ∙ sym (ap (map.get (map.insert state.nodes to (Bytes bytes))) same ∙ put_here state.nodes to (Bytes bytes))
      | inr ne ↦
          put_there (map.insert state.nodes to (Bytes old)) to (Bytes bytes) q ne ∙ put_there state.nodes to (Bytes old) q ne
          ∙ sym (put_there state.nodes to (Bytes bytes) q ne)
    ]))

-- some file stands at the path, and all else is as it was
pub record IsOpened (nodes : Nodes) (blocks : BlocksState) (to : List (List ℕ)) (left : Nodes) : Type 0 where
  pub bytes : List ℕ
  pub held : Held left blocks (with_node (volume_of nodes blocks) to (Bytes bytes))
  pub others : (q : List (List ℕ)) → (q ≡ to → ⊥) → map.get left q ≡ map.get nodes q

module _ (nodes : Nodes) (blocks : BlocksState) (to : List (List ℕ)) (same : Bool) (source : Option Content) (whole : IsWhole nodes blocks) (can : Placeable (volume_of nodes blocks) to same source) where
  -- something may be made where nothing stands
  nothing_in_the_way : node_at nodes to ≡ None → tree_step.making_fault nodes to ≡ None
  nothing_in_the_way none =
      let there : is_some (node_at nodes to) ≡ false = ap is_some none in
      let home : tree.is_directory (node_at nodes (parent_of to)) ≡ true = sym (directory_as nodes blocks (node_at nodes (parent_of to))) ∙ sym (ap is_directory (content_seen nodes blocks (parent_of to))) ∙ can.home in
      let room : nat_le 256 (map.len nodes) ≡ false = few none in
      rw (there, home, room) refl
    where
      at_path : (at : List (List ℕ)) → node_at nodes at ≡ None → map.get nodes at ≡ None
      at_path [] e = absurd cc
      at_path (name ∷ rest) e = e

      few : node_at nodes to ≡ None → nat_le 256 (map.len nodes) ≡ false
      few none =
          let within = (keeps_within _ can.room).1 in
          let free_there : map.get (volume_of nodes blocks).nodes to ≡ None = get_volume nodes blocks to ∙ ap (option_map (content_of blocks)) (at_path to none) in
          let count = count_with (volume_of nodes blocks) to (Bytes can.bytes) ∙ ap (λ o. cond (is_some o) (map.len (volume_of nodes blocks).nodes) (map.len (volume_of nodes blocks).nodes + 1)) free_there in
          let as_tree = as_many nodes blocks in
          false_from_ne_true (nat_le 256 (map.len nodes)) (λ t. let most : 256 ≤ map.len nodes = grind (arith, nat_tests) in absurd (omega arith))

  -- making a file there leaves one, an old or a new one
  pub opened : {left : Nodes} (answer : Result ℕ TreeFault) → IfOk answer (λ number. tree_step.IsCreated nodes to number left) → IfErr answer (λ why. (tree_step.making_fault nodes to ≡ Some why) × (left ≡ nodes)) → IsOpened nodes blocks to left
  opened {left} (Ok number) made kept = subst (IsOpened nodes blocks to) (sym made.there) (record {
    bytes = [];
    held = held_create (held_of whole) to number (free_at nodes blocks to made.allowed) made.fresh;
    others = λ q ne. tree_put_there nodes to (kind.File number) q ne;
  })
  opened {left} (Err why) made kept = subst (IsOpened nodes blocks to) (sym kept.1) (by (node_at nodes to) refl)
    where
      by : (o : Option Kind) → node_at nodes to ≡ o → IsOpened nodes blocks to nodes
      by None e = let clash = sym kept.0 ∙ nothing_in_the_way e in absurd cc
      by (Some kind.Directory) e =
          let clash = sym can.wide ∙ ap is_directory (content_seen nodes blocks to ∙ ap (option_map (content_of blocks)) e) in absurd cc
      by (Some (kind.File number)) e = record {
        bytes = bytes_of blocks number;
        held = subst (Held nodes blocks) (sym (ap (λ m. record (volume_of nodes blocks) { nodes = m }) (same_put blocks_taken (volume_of nodes blocks).nodes to (Bytes (bytes_of blocks number)) (get_volume nodes blocks to ∙ ap (option_map (content_of blocks)) (got nodes to number e))))) (held_of whole);
        others = λ q ne. refl;
      }

module _ (nodes : Nodes) (blocks : BlocksState) (to : List (List ℕ)) (left : Nodes) (open_there : IsOpened nodes blocks to left) (good : IsTree left) (target : ℕ) (found : file_number (node_at left to) ≡ Ok target) (bytes : List ℕ) where
  stands : map.get left to ≡ Some (kind.File target)
  stands = got left to target (file_is (node_at left to) target found)

  -- it comes to have the bytes
  pub filled : target < 256 → Held left (with_file blocks target bytes) (with_node (volume_of nodes blocks) to (Bytes bytes))
  filled few =
      subst (Held left (with_file blocks target bytes)) (written_twice (volume_of nodes blocks) to open_there.bytes bytes)
      (held_file open_there.held to good target few stands bytes)

  -- there are the blocks for them
  pub has_room : is_overfull (with_node (volume_of nodes blocks) to (Bytes bytes)) ≡ false → blocks_of bytes ≤ free blocks + blocks_of (bytes_of blocks target)
  has_room room =
      let there : map.get (map.insert (volume_of nodes blocks).nodes to (Bytes open_there.bytes)) to ≡ Some (Bytes (bytes_of blocks target)) = open_there.held.exact to ∙ ap (option_map (content_of blocks)) stands in
      let sum = total_other blocks_taken (map.insert (volume_of nodes blocks).nodes to (Bytes open_there.bytes)) to (Bytes (bytes_of blocks target)) (Bytes bytes) there in
      let twice : used_blocks (with_node (with_node (volume_of nodes blocks) to (Bytes open_there.bytes)) to (Bytes bytes)) ≡ used_blocks (with_node (volume_of nodes blocks) to (Bytes bytes)) = ap used_blocks (written_twice (volume_of nodes blocks) to open_there.bytes bytes) in
      let counted = open_there.held.counted in
      let within = (keeps_within _ room).0 in
      omega arith

  -- its number is no other file's
  pub two_numbers : (from : List (List ℕ)) (number : ℕ) → file_number (node_at nodes from) ≡ Ok number → is_one_file (node_at nodes from) (node_at nodes to) ≡ false → number ≡ target → ⊥
  two_numbers from number is apart one =
      let file = file_is (node_at nodes from) number is in
      elim (path_cases from to) [
        | inl same ↦
            let yes : is_one_file (node_at nodes from) (node_at nodes to) ≡ true =
            ap (is_one_file (node_at nodes from)) (ap (node_at nodes) (sym same)) ∙ ap (λ o. is_one_file o o) file ∙ equal number in
            let clash = sym yes ∙ apart in absurd cc
        | inr ne ↦ ne (good.numbers from to target (open_there.others from ne ∙ got nodes from number file ∙ ap (λ n. Some (kind.File n)) one) stands)
      ]
    where
      equal : (n : ℕ) → (n == n) ≡ true
      equal n = grind (arith, nat_tests)

-- there is a file once one may come to stand there
pub target_there : (nodes : Nodes) (blocks : BlocksState) (to : List (List ℕ)) {same : Bool} {source : Option Content} {left : Nodes} → Placeable (volume_of nodes blocks) to same source → IsOpened nodes blocks to left → (why : VolFault) → file_number (node_at left to) ≡ Err why → ⊥
target_there nodes blocks [] can open_there why e = let clash = can.wide in absurd cc
target_there nodes blocks (name ∷ rest) {left = left} can open_there why e =
    by (map.get left (name ∷ rest)) (sym (put_here (volume_of nodes blocks).nodes (name ∷ rest) (Bytes open_there.bytes)) ∙ open_there.held.exact (name ∷ rest)) e
  where
    by : (o : Option Kind) → Some (Bytes open_there.bytes) ≡ option_map (content_of blocks) o → file_number o ≡ Err why → ⊥
    by None is e = absurd cc
    by (Some kind.Directory) is e = absurd cc
    by (Some (kind.File number)) is e = absurd cc

-- a file that may be copied is there
pub source_there : (nodes : Nodes) (blocks : BlocksState) (from : List (List ℕ)) {state : VolumeState} {to : List (List ℕ)} {same : Bool} {source : Option Content} → source ≡ content_at (volume_of nodes blocks) from → Placeable state to same source → (why : VolFault) → file_number (node_at nodes from) ≡ Err why → ⊥
source_there nodes blocks from is can why e = let none = sym (refused nodes blocks from why e) ∙ ap file_fault (sym is ∙ can.found) in absurd cc

-- the bytes of a file of a size
pub file_source : (there : Option Content) (size : ℕ) → Some (own.File size) ≡ kind_of there → (bytes : List ℕ) × ((there ≡ Some (Bytes bytes)) × (size ≡ length bytes))
file_source None size e = absurd cc
file_source (Some Dir) size e = absurd cc
file_source (Some (Bytes bytes)) size e = let same : size ≡ length bytes = cc in (bytes, (refl, same))

-- nothing is there to copy
pub no_source : (state : VolumeState) (to : List (List ℕ)) (same : Bool) (there : Option Content) → None ≡ kind_of there → Some fault.NotFound ≡ placing_fault state to same there
no_source state to same None e = refl
no_source state to same (Some Dir) e = absurd cc
no_source state to same (Some (Bytes bytes)) e = absurd cc

-- what is in the way of a file's bytes, by each test
pub faults_are : (state : VolumeState) (to : List (List ℕ)) (same : Bool) (there : Option Content) (bytes : List ℕ) → there ≡ Some (Bytes bytes) → (a b c d : Bool) → is_directory (content_at state (parent_of to)) ≡ a → is_directory (content_at state to) ≡ b → same ≡ c → is_overfull (with_node state to (Bytes bytes)) ≡ d → placing_fault state to same there ≡ cond (not a) (Some fault.NotFound) (cond (b || c) (Some fault.WrongKind) (cond d (Some fault.NoSpace) None))
faults_are state to same there bytes is a b c d ea eb ec ed =
    ap (placing_fault state to same) is
    ∙ (λ i. cond (not (ea i)) (Some fault.NotFound) (cond (eb i || ec i) (Some fault.WrongKind) (cond (ed i) (Some fault.NoSpace) None)))

-- two paths are one exactly where they lead to one file, if any matters
pub one_file : (nodes : Nodes) (blocks : BlocksState) (from to : List (List ℕ)) → IsTree nodes → placing_fault (volume_of nodes blocks) to (is_one_file (node_at nodes from) (node_at nodes to)) (content_at (volume_of nodes blocks) from) ≡ placing_fault (volume_of nodes blocks) to (eq_by_cmp path_cmp from to) (content_at (volume_of nodes blocks) from)
one_file nodes blocks from to good =
    subst (λ o. placing_fault state to (is_one_file (node_at nodes from) (node_at nodes to)) o ≡ placing_fault state to (eq_by_cmp path_cmp from to) o) (sym (content_seen nodes blocks from))
    (by (node_at nodes from) (node_at nodes to) refl refl)
  where
    state : VolumeState
    state = volume_of nodes blocks

    numbers : (a b : ℕ) → node_at nodes from ≡ Some (kind.File a) → node_at nodes to ≡ Some (kind.File b) → (a == b) ≡ eq_by_cmp path_cmp from to
    numbers a b ef et =
        both_ways (a == b) (eq_by_cmp path_cmp from to)
        (λ t. let one : a ≡ b = grind (arith, nat_tests) in
        let paths : from ≡ to = good.numbers from to b (got nodes from a ef ∙ ap (λ n. Some (kind.File n)) one) (got nodes to b et) in
        ap (eq_by_cmp path_cmp from) (sym paths) ∙ tied from)
        (λ t. let both : Some (kind.File a) ≡ Some (kind.File b) = sym ef ∙ ap (node_at nodes) (tied_same from to t) ∙ et in
        let one : a ≡ b = cc in grind (arith, nat_tests))

    by : (o p : Option Kind) → node_at nodes from ≡ o → node_at nodes to ≡ p → placing_fault state to (is_one_file o p) (option_map (content_of blocks) o) ≡ placing_fault state to (eq_by_cmp path_cmp from to) (option_map (content_of blocks) o)
    by None p ef et = refl
    by (Some kind.Directory) p ef et = refl
    by (Some (kind.File a)) None ef et =
        ap (λ same. placing_fault state to same (Some (Bytes (bytes_of blocks a)))) (sym (untied from to (λ paths. let clash = sym ef ∙ ap (node_at nodes) paths ∙ et in absurd cc)))
    by (Some (kind.File a)) (Some kind.Directory) ef et =
        ap (λ same. placing_fault state to same (Some (Bytes (bytes_of blocks a)))) (sym (untied from to (λ paths. let clash = sym ef ∙ ap (node_at nodes) paths ∙ et in absurd cc)))
    by (Some (kind.File a)) (Some (kind.File b)) ef et = ap (λ same. placing_fault state to same (Some (Bytes (bytes_of blocks a)))) (numbers a b ef et)

-- the fault that was told of a number that both have is the fault of the paths
pub told_fault : (nodes : Nodes) (blocks : BlocksState) (from to : List (List ℕ)) → IsTree nodes → (same : Bool) → same ≡ is_one_file (node_at nodes from) (node_at nodes to) → (told : Option VolFault) → placing_fault (volume_of nodes blocks) to same (content_at (volume_of nodes blocks) from) ≡ told → placing_fault (volume_of nodes blocks) to (eq_by_cmp path_cmp from to) (content_at (volume_of nodes blocks) from) ≡ told
told_fault nodes blocks from to good same is told e =
    sym (one_file nodes blocks from to good)
    ∙ ap (λ b. placing_fault (volume_of nodes blocks) to b (content_at (volume_of nodes blocks) from)) (sym is) ∙ e
