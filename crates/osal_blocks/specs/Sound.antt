-- What holds of the store, the lists of blocks and the lengths of files together.
use Rattle.std.specs.Prelude.{◌≡◌, ◌<◌, ◌≤◌, ◌+◌, ◌*◌, List, ℕ, length, slice_index}
use Rattle.std.specs.List.{sum_by}
use Rattle.osal_blocks.specs.Blocks.{BlocksState, blocks_for, blocks_of}
use Rattle.osal_blocks.specs.Bytes.{files_in}
use Rattle.osal_blocks.specs.Chains.{ChainsState, blocks_at, free_list}

-- what the parts stand for
abbrev pub blocks_in : List ℕ → ChainsState → List ℕ → ℕ → BlocksState
blocks_in store chains lengths reserved =
    record { total = chains.total; reserved = reserved; files = files_in store chains.lists lengths }

-- each block has its bytes in the store, each file its blocks, and every block is a file's or a free one
pub record IsWhole (store : List ℕ) (chains : ChainsState) (lengths : List ℕ) (reserved : ℕ) : Type 0 where
  pub some : 1 ≤ chains.total
  pub few : chains.total ≤ 4096
  pub size : length store ≡ chains.total * 512
  pub files : length lengths ≡ 256
  pub counts : (file : ℕ) → file < 256 → length (blocks_at chains file) ≡ blocks_for (slice_index lengths file)
  pub spare : reserved ≤ length (blocks_at chains free_list)
  pub sum : length (blocks_at chains free_list) + sum_by blocks_of (files_in store chains.lists lengths) ≡ chains.total

-- a file of so many bytes has their blocks, and there are free ones for it to come to have more
pub record CanGrow (chains : ChainsState) (file bytes longer : ℕ) : Type 0 where
  pub more : bytes ≤ longer
  pub own : length (blocks_at chains file) ≡ blocks_for bytes
  pub enough : blocks_for longer ≤ length (blocks_at chains free_list) + blocks_for bytes
  pub most : length (blocks_at chains free_list) + blocks_for bytes ≤ 4096
