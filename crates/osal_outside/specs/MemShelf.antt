-- A shelf in memory: its files, what its calls answer, and what they leave.
use Rattle.std.specs.Prelude.{ℕ, min, if◌then◌else◌, List, [], length, drop, Option, Some, None, Result, Ok, Err}
use Rattle.osal_outside.specs.declared.shelf.Opened.{Opened}
use Rattle.osal_outside.specs.declared.shelf.Opened.TheVariants as opened
use Rattle.osal_outside.specs.declared.shelf.ReadFailed.{ReadFailed}
use Rattle.osal_base.specs.declared.reply.OutOfMemory.{OutOfMemory}
use Rattle.osal_outside.specs.Shelf.{ShelfContent}
use Rattle.osal_outside.specs.Memory.{found}
use Rattle.osal_outside.specs.Plan.{FaultPlan, is_due, counted, failed, planned}

-- the files, what is left of the open one, the most bytes of a read, and the faults to come
pub record MemFiles : Type 0 where
  pub files : List (List ℕ × List ℕ)
  pub rest : List ℕ
  pub grain : ℕ
  pub plan : FaultPlan

-- a shelf with no open file and no calls
abbrev pub fresh_shelf : List (List ℕ × List ℕ) → ℕ → List ℕ → MemFiles
fresh_shelf files grain fails = record { files = files; rest = []; grain = grain; plan = planned fails }

-- what such a shelf tells
abbrev pub told : MemFiles → ShelfContent
told shelf = record { files = found shelf.files; rest = shelf.rest }

-- the shelf with another rest and plan
abbrev pub moved : MemFiles → List ℕ → FaultPlan → MemFiles
moved shelf rest plan = record { files = shelf.files; rest = rest; grain = shelf.grain; plan = plan }

-- an open of a file with these bytes, or of a name that is not there
abbrev pub opened_at : MemFiles → Option (List ℕ) → Result Opened OutOfMemory × MemFiles
opened_at shelf None = (Ok opened.NotFound, moved shelf [] (counted shelf.plan))
opened_at shelf (Some bytes) =
    if is_due shelf.plan then (Ok opened.Failed, moved shelf [] (failed shelf.plan))
    else (Ok opened.Ready, moved shelf bytes (counted shelf.plan))

-- an open by name
abbrev pub open_step : MemFiles → List ℕ → Result Opened OutOfMemory × MemFiles
open_step shelf name = opened_at shelf (found shelf.files name)

-- how many bytes the next read into that much room moves
abbrev pub read_size : MemFiles → ℕ → ℕ
read_size shelf room = min (min (length shelf.rest) room) shelf.grain

-- a read into that much room
abbrev pub read_step : MemFiles → ℕ → Result ℕ ReadFailed × MemFiles
read_step shelf room =
    if is_due shelf.plan then (Err (record {}), moved shelf shelf.rest (failed shelf.plan))
    else (Ok (read_size shelf room), moved shelf (drop (read_size shelf room) shelf.rest) (counted shelf.plan))
