-- How a tree and blocks make up a volume, and what always holds of them.
use Rattle.std.specs.Prelude.{◌≡◌, map as list_map, [], ℕ, length}
use Rattle.std.specs.List.{sum_by}
use Rattle.std.specs.FinMap as map
use Rattle.osal_tree.specs.declared.kind.Kind.{Kind}
use Rattle.osal_tree.specs.declared.kind.Kind.TheVariants as kind
use Rattle.osal_tree.specs.Nodes.{Nodes, IsFresh}
use Rattle.osal_blocks.specs.Blocks.{BlocksState, bytes_of, used}
use Rattle.osal_volume.specs.Volume.{Content, Dir, Bytes, VolumeState, used_blocks}

-- what a node of the tree is: the bytes of a file lie under its number
abbrev pub content_of : BlocksState → Kind → Content
content_of blocks kind.Directory = Dir
content_of blocks (kind.File number) = Bytes (bytes_of blocks number)

-- the volume that they make up
abbrev pub volume_of : Nodes → BlocksState → VolumeState
volume_of nodes blocks = record {
  total = blocks.total;
  nodes = map.from_entries (list_map (λ e. (e.0, content_of blocks e.1)) (map.entries nodes));
}

-- a directory counts, and a file does not
abbrev pub as_directory : Content → ℕ
as_directory Dir = 1
as_directory (Bytes bytes) = 0

-- there are 256 files, a number that no file of the tree has is of no bytes, and each block counts for one node
pub record IsWhole (nodes : Nodes) (blocks : BlocksState) : Type 0 where
  pub files : length blocks.files ≡ 256
  pub unused : (number : ℕ) → IsFresh nodes number → bytes_of blocks number ≡ []
  pub reserved : blocks.reserved ≡ sum_by (λ e. as_directory e.1) (map.entries (volume_of nodes blocks).nodes)
  pub counted : used blocks ≡ used_blocks (volume_of nodes blocks)
