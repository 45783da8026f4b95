-- A volume: how many blocks it has, and what stands at each path.
use Rattle.std.specs.Prelude.{◌-◌, List, [], ◌∷◌, ℕ, Bool, true, false, length, Option, Some, None}
use Rattle.std.specs.List.{list_any, sum_by}
use Rattle.std.specs.FinMap as map
use Rattle.osal_blocks.specs.Blocks.{blocks_of}
use Rattle.osal_tree.specs.Paths.{path_cmp, is_child}
use Rattle.osal_volume.specs.declared.fault.Kind.{Kind}
use Rattle.osal_volume.specs.declared.fault.Kind.TheVariants as kind

-- a directory, or a file with its bytes
pub data Content : Type 0 where
  Dir : Content
  Bytes : List ℕ → Content

-- the blocks, and what stands at each path below the root
pub record VolumeState : Type 0 where
  pub total : ℕ
  pub nodes : map.FinMap path_cmp Content

-- what stands at a path: the root is always there, and a directory
abbrev pub content_at : VolumeState → List (List ℕ) → Option Content
content_at state [] = Some Dir
content_at state (name ∷ rest) = map.get state.nodes (name ∷ rest)

-- how many blocks a node takes
abbrev pub blocks_taken : Content → ℕ
blocks_taken Dir = 1
blocks_taken (Bytes bytes) = blocks_of bytes

-- how many blocks are taken: for each file as many as its bytes fill, and one for each directory
abbrev pub used_blocks : VolumeState → ℕ
used_blocks state = sum_by (λ e. blocks_taken e.1) (map.entries state.nodes)

-- how many blocks can be taken
abbrev pub free_blocks : VolumeState → ℕ
free_blocks state = state.total - used_blocks state

-- a volume of the root alone
abbrev pub fresh : ℕ → VolumeState
fresh total = record { total = total; nodes = map.empty }

-- the kind of what stands at a path
abbrev pub kind_of : Option Content → Option Kind
kind_of None = None
kind_of (Some Dir) = Some kind.Dir
kind_of (Some (Bytes bytes)) = Some (kind.File (length bytes))

-- whether a directory stands there
abbrev pub is_directory : Option Content → Bool
is_directory None = false
is_directory (Some Dir) = true
is_directory (Some (Bytes bytes)) = false

-- whether something stands in the directory
abbrev pub has_child : VolumeState → List (List ℕ) → Bool
has_child state at = list_any (λ e. is_child at e.0) (map.entries state.nodes)

-- the volume with a node at a path
abbrev pub with_node : VolumeState → List (List ℕ) → Content → VolumeState
with_node state at content = record state { nodes = map.insert state.nodes at content }

-- the volume without the node at a path
abbrev pub without_node : VolumeState → List (List ℕ) → VolumeState
without_node state at = record state { nodes = map.remove state.nodes at }
