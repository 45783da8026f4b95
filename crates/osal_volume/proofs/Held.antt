-- A tree and blocks, and the volume that they make up.
use Rattle.std.proofs.Common.{◌≡◌, ℕ, suc, Bool, true, false, cond, map as list_map, List, [], ◌∷◌, length, get_or, Option, Some, option_map, refl, sym, ap, ◌∙◌, arith}
use Rattle.std.specs.List.{sum_by}
use Rattle.std.specs.Ordering.{eq_by_cmp}
use Rattle.std.specs.FinMap as map
use Rattle.std.proofs.lemmas.List.{nil_from_length}
use Rattle.std.proofs.lemmas.List.Sums.{sum_by-cons}
use Rattle.osal_tree.specs.declared.kind.Kind.{Kind}
use Rattle.osal_tree.specs.Paths.{path_cmp}
use Rattle.osal_tree.specs.Nodes.{Nodes, node_at, IsFresh}
use Rattle.osal_tree.specs.Order.{path_total, path_ties}
use Rattle.osal_blocks.specs.Blocks.{BlocksState, IsEmpty, bytes_of, blocks_of, used}
use Rattle.osal_volume.specs.Volume.{Content, VolumeState, content_at, blocks_taken, fresh}
use Rattle.osal_volume.specs.Whole.{content_of, volume_of, as_directory, IsWhole}
use Rattle.osal_volume.proofs.Sums.{total_of}

-- the volume says of each path what tree and blocks do, and each block is counted for one of its nodes
pub record Held (nodes : Nodes) (blocks : BlocksState) (state : VolumeState) : Type 0 where
  pub total : blocks.total ≡ state.total
  pub exact : (at : List (List ℕ)) → map.get state.nodes at ≡ option_map (content_of blocks) (map.get nodes at)
  pub files : length blocks.files ≡ 256
  pub unused : (number : ℕ) → IsFresh nodes number → bytes_of blocks number ≡ []
  pub reserved : blocks.reserved ≡ total_of as_directory state.nodes
  pub counted : used blocks ≡ total_of blocks_taken state.nodes

-- a look-up among entries with other values
pub find_each : (f : Kind → Content) (q : List (List ℕ)) (es : List (List (List ℕ) × Kind)) → map.find path_cmp q (list_map (λ e. (e.0, f e.1)) es) ≡ option_map f (map.find path_cmp q es)
find_each f q [] = refl
find_each f q (e ∷ es) = ap (cond (eq_by_cmp path_cmp q e.0) (Some (f e.1))) (find_each f q es) ∙ by (eq_by_cmp path_cmp q e.0) (map.find path_cmp q es)
  where
    by : (b : Bool) (o : Option Kind) → cond b (Some (f e.1)) (option_map f o) ≡ option_map f (cond b (Some e.1) o)
    by true o = refl
    by false o = refl

-- a look-up in the volume is one in the tree, and then in the blocks
pub get_volume : (nodes : Nodes) (blocks : BlocksState) (at : List (List ℕ)) → map.get (volume_of nodes blocks).nodes at ≡ option_map (content_of blocks) (map.get nodes at)
get_volume nodes blocks at =
    map.get-from_entries path_total (list_map (λ e. (e.0, content_of blocks e.1)) (map.entries nodes)) at
    ∙ find_each (content_of blocks) at (map.entries nodes) ∙ ap (option_map (content_of blocks)) (sym (map.get-entries nodes at))

pub content_seen : (nodes : Nodes) (blocks : BlocksState) (at : List (List ℕ)) → content_at (volume_of nodes blocks) at ≡ option_map (content_of blocks) (node_at nodes at)
content_seen nodes blocks [] = refl
content_seen nodes blocks (name ∷ rest) = get_volume nodes blocks (name ∷ rest)

pub held_of : {nodes : Nodes} {blocks : BlocksState} → IsWhole nodes blocks → Held nodes blocks (volume_of nodes blocks)
held_of {nodes} {blocks} whole = record {
  total = refl;
  exact = get_volume nodes blocks;
  files = whole.files;
  unused = whole.unused;
  reserved = whole.reserved;
  counted = whole.counted;
}

module _ {nodes : Nodes} {blocks : BlocksState} {state : VolumeState} (held : Held nodes blocks state) where
  same_nodes : (volume_of nodes blocks).nodes ≡ state.nodes
  same_nodes = map.same_map path_total path_ties _ _ (λ q. get_volume nodes blocks q ∙ sym (held.exact q))

  -- they make up that volume
  pub held_is : volume_of nodes blocks ≡ state
  held_is = λ i. record { total = held.total i; nodes = same_nodes i }

  pub held_whole : IsWhole nodes blocks
  held_whole = record {
    files = held.files;
    unused = held.unused;
    reserved = held.reserved ∙ sym (ap (total_of as_directory) same_nodes);
    counted = held.counted ∙ sym (ap (total_of blocks_taken) same_nodes);
  }

none_sum : (files : List (List ℕ)) → ((file : ℕ) → get_or files file [] ≡ []) → sum_by blocks_of files ≡ 0
none_sum [] none = refl
none_sum (bytes ∷ files) none =
    sum_by-cons blocks_of bytes files
    ∙ (let first : blocks_of bytes ≡ 0 = ap blocks_of (none 0) in let rest = none_sum files (λ file. none (suc file)) in omega arith)

-- blocks without bytes and a tree of the root alone are a volume of the root alone
pub held_fresh : (blocks : BlocksState) (total : ℕ) → IsEmpty blocks total → Held map.empty blocks (fresh total)
held_fresh blocks total empty = record {
  total = empty.blocks;
  exact = λ at. map.get-empty path_cmp at ∙ sym (ap (option_map (content_of blocks)) (map.get-empty path_cmp at));
  files = empty.count;
  unused = λ number _. empty.files number;
  reserved = empty.reserved ∙ sym (nothing as_directory);
  counted = (let none = none_sum blocks.files empty.files in let zero = empty.reserved in omega arith) ∙ sym (nothing blocks_taken);
}
  where
    nothing : (f : Content → ℕ) → total_of f map.empty ≡ 0
    nothing f = ap (sum_by (λ e. f e.1)) (nil_from_length _ (sym (map.len-entries (map.empty {X = Content} {R = path_cmp})) ∙ map.len-empty path_cmp Content))
