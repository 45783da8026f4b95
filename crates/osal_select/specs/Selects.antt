-- What a select answers, by which streams are ready.
use Rattle.std.specs.Prelude.{◌++◌, ◌+◌, ◌&&◌, List, [], ◌∷◌, ℕ, Bool, true, false, length, filter, if◌then◌else◌}
use Rattle.std.specs.Int.{to_be_bytes, w32}
use Rattle.osal_base.specs.declared.arguments.Mode.{Mode}
use Rattle.osal_base.specs.declared.arguments.Mode.TheVariants as mode
use Rattle.osal_base.specs.Reply.{Replied, gives_bytes}
use Rattle.osal_select.specs.declared.ready.Ready.{Ready}

-- whether a select of one stream asks for one to read
abbrev pub asks_to_read : Mode → Bool
asks_to_read mode.R = true
asks_to_read mode.W = false
asks_to_read mode.Rw = true

-- whether it asks for one to write
abbrev pub asks_to_write : Mode → Bool
asks_to_write mode.R = false
asks_to_write mode.W = true
asks_to_write mode.Rw = true

-- 1 for a stream that can be read and 2 for one that can be written, of what is asked
abbrev pub ready_number : Mode → Ready → ℕ
ready_number asked ready =
    (if asks_to_read asked && ready.readable then 1 else 0) + (if asks_to_write asked && ready.writable then 2 else 0)

-- the streams of a set that can be read
abbrev pub readable_of : (ℕ → Ready) → List ℕ → List ℕ
readable_of ready set = filter (λ id. (ready id).readable) set

-- the streams of a set that can be written
abbrev pub writable_of : (ℕ → Ready) → List ℕ → List ℕ
writable_of ready set = filter (λ id. (ready id).writable) set

-- identifiers as bytes, four each, most significant first
abbrev pub id_bytes : List ℕ → List ℕ
id_bytes [] = []
id_bytes (id ∷ ids) = to_be_bytes w32 id ++ id_bytes ids

-- the answer of a select that found streams: how many can be read; those, and then those that can be written
abbrev pub found_ready : List ℕ → List ℕ → Replied
found_ready reads writes = gives_bytes (length reads) (id_bytes reads ++ id_bytes writes)
