-- Whether a volume has too many blocks or nodes once a file stands at a path.
use Rattle.std.proofs.Common.{◌≡◌, ◌+◌, ◌<◌, ◌≤◌, ◌||◌, ℕ, Bool, true, false, cond, is_some, nat_lt, List, [], ◌∷◌, None, Some, option_map, refl, sym, ap, ◌∙◌, arith}
use Rattle.std.specs.FinMap as map
use Rattle.std.proofs.lemmas.Bool.{or_right, false_from_ne_true}
use Rattle.std.proofs.lemmas.Bool.Decides.{nat_tests}
use Rattle.osal_tree.specs.declared.kind.Kind.TheVariants as kind
use Rattle.osal_tree.specs.Nodes.{Nodes, node_at, IsTree}
use Rattle.osal_tree.specs.Nodes as tree
use Rattle.osal_tree.specs.Order.{path_total}
use Rattle.osal_tree.proofs.Entries.{both_ways}
use Rattle.osal_blocks.specs.Blocks.{BlocksState, IsSound, bytes_of, blocks_of, free}
use Rattle.osal_volume.specs.Volume.{Content, Bytes, VolumeState, blocks_taken, content_at, is_directory, used_blocks, with_node}
use Rattle.osal_volume.specs.Copies.{is_overfull}
use Rattle.osal_volume.specs.Whole.{content_of, volume_of, IsWhole}
use Rattle.osal_volume.proofs.Sums.{total_more, total_other}
use Rattle.osal_volume.proofs.Held.{content_seen, get_volume}
use Rattle.osal_volume.proofs.Calls.{as_many, directory_as, got}

or_false : (a b : Bool) → b ≡ false → (a || b) ≡ a
or_false true b e = refl
or_false false b e = e

neither : (a b : Bool) → (a || b) ≡ false → (a ≡ false) × (b ≡ false)
neither true b e = absurd cc
neither false b e = (refl, e)

not_less : (n most : ℕ) → n ≤ most → nat_lt most n ≡ false
not_less n most few = false_from_ne_true (nat_lt most n) (λ t. let more : most < n = grind (arith, nat_tests) in absurd (omega arith))

same_test : (a b c d : ℕ) → (a < b → c < d) → (c < d → a < b) → nat_lt a b ≡ nat_lt c d
same_test a b c d to back =
    both_ways (nat_lt a b) (nat_lt c d)
    (λ t. let less : a < b = grind (arith, nat_tests) in let then = to less in grind (arith, nat_tests))
    (λ t. let less : c < d = grind (arith, nat_tests) in let then = back less in grind (arith, nat_tests))

-- a directory of the volume is one of the tree
pub directory_seen : (nodes : Nodes) (blocks : BlocksState) (at : List (List ℕ)) → tree.is_directory (node_at nodes at) ≡ is_directory (content_at (volume_of nodes blocks) at)
directory_seen nodes blocks at = sym (ap is_directory (content_seen nodes blocks at) ∙ directory_as nodes blocks (node_at nodes at))

-- nothing stands there
pub none_at : (nodes : Nodes) (at : List (List ℕ)) → node_at nodes at ≡ None → map.get nodes at ≡ None
none_at nodes [] e = absurd cc
none_at nodes (name ∷ rest) e = e

-- how many nodes there are once one stands at a path
pub count_with : (state : VolumeState) (at : List (List ℕ)) (there : Content) → map.len (with_node state at there).nodes ≡ cond (is_some (map.get state.nodes at)) (map.len state.nodes) (map.len state.nodes + 1)
count_with state at there = map.len-insert path_total state.nodes at there

-- a volume that is not overfull keeps to its blocks and its nodes
pub keeps_within : (state : VolumeState) → is_overfull state ≡ false → (used_blocks state ≤ state.total) × (map.len state.nodes ≤ 256)
keeps_within state e =
    let both = neither (nat_lt state.total (used_blocks state)) (nat_lt 256 (map.len state.nodes)) e in
    let first = both.0 in
    let second = both.1 in
    ((let within : used_blocks state ≤ state.total = grind (arith, nat_tests) in within), (let few : map.len state.nodes ≤ 256 = grind (arith, nat_tests) in few))

module _ (nodes : Nodes) (blocks : BlocksState) (at : List (List ℕ)) (whole : IsWhole nodes blocks) (good : IsTree nodes) (bytes : List ℕ) where
  abbrev after : VolumeState
  after = with_node (volume_of nodes blocks) at (Bytes bytes)

  -- a file's bytes go where another's were
  pub overfull_file : IsSound blocks → (number : ℕ) → node_at nodes at ≡ Some (kind.File number) → nat_lt (free blocks + blocks_of (bytes_of blocks number)) (blocks_of bytes) ≡ is_overfull after
  overfull_file sound number is =
      let old = bytes_of blocks number in
      let there : map.get (volume_of nodes blocks).nodes at ≡ Some (Bytes old) = get_volume nodes blocks at ∙ ap (option_map (content_of blocks)) (got nodes at number is) in
      let sum = total_other blocks_taken (volume_of nodes blocks).nodes at (Bytes old) (Bytes bytes) there in
      let counted = whole.counted in
      let within = sound.within in
      let size : map.len after.nodes ≡ map.len nodes = count_with (volume_of nodes blocks) at (Bytes bytes) ∙ ap (λ o. cond (is_some o) (map.len (volume_of nodes blocks).nodes) (map.len (volume_of nodes blocks).nodes + 1)) there ∙ as_many nodes blocks in
      let few : map.len after.nodes ≤ 256 = (let most = good.few in omega arith) in
      same_test _ _ blocks.total (used_blocks after) (λ less. omega arith) (λ less. omega arith)
      ∙ sym (or_false (nat_lt blocks.total (used_blocks after)) (nat_lt 256 (map.len after.nodes)) (not_less (map.len after.nodes) 256 few))

  module _ (none : map.get nodes at ≡ None) where
    free_there : map.get (volume_of nodes blocks).nodes at ≡ None
    free_there = get_volume nodes blocks at ∙ ap (option_map (content_of blocks)) none

    one_more : map.len after.nodes ≡ map.len nodes + 1
    one_more =
        count_with (volume_of nodes blocks) at (Bytes bytes) ∙ ap (λ o. cond (is_some o) (map.len (volume_of nodes blocks).nodes) (map.len (volume_of nodes blocks).nodes + 1)) free_there
        ∙ ap (λ n. n + 1) (as_many nodes blocks)

    -- there are too many nodes
    pub overfull_nodes : 256 ≤ map.len nodes → true ≡ is_overfull after
    overfull_nodes most =
        let size = one_more in
        sym (or_right (nat_lt blocks.total (used_blocks after)) (nat_lt 256 (map.len after.nodes)) (let more : 256 < map.len after.nodes = omega arith in grind (arith, nat_tests)))

    -- a file's bytes go to free blocks
    pub overfull_new : IsSound blocks → map.len nodes < 256 → nat_lt (free blocks) (blocks_of bytes) ≡ is_overfull after
    overfull_new sound few =
        let size = one_more in
        let sum = total_more blocks_taken (volume_of nodes blocks).nodes at (Bytes bytes) free_there in
        let counted = whole.counted in
        let within = sound.within in
        same_test _ _ blocks.total (used_blocks after) (λ less. omega arith) (λ less. omega arith)
        ∙ sym (or_false (nat_lt blocks.total (used_blocks after)) (nat_lt 256 (map.len after.nodes)) (not_less (map.len after.nodes) 256 (omega arith)))
