-- Lists of block numbers, threaded through one table that names the block behind each block.
use Rattle.std.specs.Prelude.{◌≡◌, ◌≢◌, ◌<◌, ◌≤◌, ◌+◌, ◌-◌, ◌==◌, ◌++◌, ◌∷◌, if◌then◌else◌, zero, suc, ℕ, List, []}
use Rattle.std.specs.Prelude.{length, map, take, drop, slice_index, slice_index_or, slice_set}
use Rattle.osal_blocks.specs.declared.ends.Ends.{Ends}

-- how many blocks there are, and their lists: one for each file of a volume, and behind these that of the free blocks
pub record ChainsState : Type 0 where
  pub total : ℕ
  pub lists : List (List ℕ)

-- the blocks of a list
abbrev pub blocks_at : ChainsState → ℕ → List ℕ
blocks_at state list = slice_index_or state.lists list []

-- the number of the list of free blocks
abbrev pub free_list : ℕ
free_list = 256

-- the lists name blocks that there are, and none twice
pub record IsApart (state : ChainsState) : Type 0 where
  pub few : state.total ≤ 4096
  pub short : (list : ℕ) → length (blocks_at state list) ≤ 4096
  pub below : (list k : ℕ) → k < length (blocks_at state list) → slice_index (blocks_at state list) k < state.total
  pub once : (list k other j : ℕ) → k < length (blocks_at state list) → j < length (blocks_at state other)
      → slice_index (blocks_at state list) k ≡ slice_index (blocks_at state other) j → (list ≡ other) × (k ≡ j)

-- the first blocks of one list, n of them, now stand behind those of another, and no third list changed
pub record Moved (old new : ChainsState) (from to n : ℕ) : Type 0 where
  pub total : new.total ≡ old.total
  pub given : blocks_at new from ≡ drop n (blocks_at old from)
  pub taken : blocks_at new to ≡ blocks_at old to ++ take n (blocks_at old from)
  pub others : (list : ℕ) → list ≢ from → list ≢ to → blocks_at new list ≡ blocks_at old list

-- the blocks that a walk of so many steps meets
abbrev pub walk : List ℕ → ℕ → ℕ → List ℕ
walk next block zero = []
walk next block (suc n) = block ∷ walk next (slice_index next block) n

-- the blocks between two ends
abbrev pub walk_of : List ℕ → Ends → List ℕ
walk_of next ends = walk next ends.first ends.count

-- the ends of a list without blocks
abbrev pub no_ends : Ends
no_ends = record { first = 0; last = 0; count = 0 }

-- the ends of a list
abbrev pub ends_at : List Ends → ℕ → Ends
ends_at ends list = slice_index_or ends list no_ends

-- the lists that a table of blocks and one of ends stand for
abbrev pub chains_in : List ℕ → List Ends → ChainsState
chains_in next ends = record { total = length next; lists = map (walk_of next) ends }

-- the tables stand for lists that name no block twice, and each list's last block is known
pub record IsThreaded (next : List ℕ) (ends : List Ends) : Type 0 where
  pub lists : length ends ≡ 257
  pub apart : IsApart (chains_in next ends)
  pub last : (list : ℕ) → 0 < (ends_at ends list).count
      → (ends_at ends list).last ≡ slice_index (walk_of next (ends_at ends list)) ((ends_at ends list).count - 1)

-- the table where each block stands before the next
pub record InARow (next : List ℕ) (total : ℕ) : Type 0 where
  pub count : length next ≡ total
  pub each : (block : ℕ) → block < total → slice_index next block ≡ block + 1

-- the ends where all blocks are free
pub record AllFree (ends : List Ends) (total : ℕ) : Type 0 where
  pub lists : length ends ≡ 257
  pub files : (file : ℕ) → file < 256 → ends_at ends file ≡ no_ends
  pub free : ends_at ends free_list ≡ record { first = 0; last = total - 1; count = total }

-- the ends of a list whose first block is gone
abbrev pub without_first : List ℕ → Ends → Ends
without_first next ends =
    record { first = slice_index next ends.first; last = ends.last; count = ends.count - 1 }

-- the ends of a list with one more block behind the others
abbrev pub with_last : Ends → ℕ → Ends
with_last ends block =
    record { first = if ends.count == 0 then block else ends.first; last = block; count = ends.count + 1 }

-- the table of blocks where a block stands behind the last of a list
abbrev pub linked : List ℕ → Ends → ℕ → List ℕ
linked next ends block = if ends.count == 0 then next else slice_set next ends.last block
