-- Opening, reading, writing, seeking and closing files.
use Rattle.std.specs.Prelude.{◌+◌, ◌+ℤ◌, ◌||◌, ◌&&◌, ◌==◌, List, [], ℕ, Bool, true, false, not, Option, Some, None, Result, Ok, Err, pos, length, nat_lt, nat_le, is_some, if◌then◌else◌}
use Rattle.std.proofs.Common.{ℤ}
use Rattle.osal_base.specs.declared.arguments.Access.{Access}
use Rattle.osal_base.specs.declared.arguments.Access.TheVariants as access
use Rattle.osal_base.specs.declared.arguments.OpenFlags.{OpenFlags}
use Rattle.osal_base.specs.declared.arguments.OpenFlags.TheVariants as flags
use Rattle.osal_base.specs.declared.arguments.Whence.{Whence}
use Rattle.osal_base.specs.declared.arguments.Whence.TheVariants as whence
use Rattle.osal_base.specs.declared.reply.Answer.TheVariants as answer
use Rattle.osal_base.specs.declared.status.Status.TheVariants as status
use Rattle.osal_base.specs.Reply.{Replied, success, gives}
use Rattle.osal_volume.specs.declared.fault.VolFault.{VolFault}
use Rattle.osal_volume.specs.Volume.{Content, Dir, Bytes, VolumeState, content_at}
use Rattle.osal_volume.specs.Steps.{making_fault, create_step, truncate_step, read_step, write_step}
use Rattle.osal_file.specs.declared.opened.OpenFile.{OpenFile}
use Rattle.osal_file.specs.Files.{FilesState, Stepped, refused, with_volume, in_volume, at_path, in_slot, with_slot}

-- whether an open makes a file that is missing
abbrev pub creates : OpenFlags → Bool
creates flags.Neither = false
creates flags.Create = true
creates flags.Truncate = false
creates flags.Both = true

-- whether an open takes a file's bytes away
abbrev pub truncates : OpenFlags → Bool
truncates flags.Neither = false
truncates flags.Create = false
truncates flags.Truncate = true
truncates flags.Both = true

-- whether a file is opened to write
abbrev pub may_write : Access → Bool
may_write access.Ro = false
may_write access.Wo = true
may_write access.Rw = true

-- whether a file is opened to read
abbrev pub may_read : Access → Bool
may_read access.Ro = true
may_read access.Wo = false
may_read access.Rw = true

-- what stands there may not be opened so: it is a directory; it is missing, and is not made, has no directory to stand
-- in or finds no node
abbrev pub is_unopened : VolumeState → List (List ℕ) → OpenFlags → Option Content → Bool
is_unopened volume at flags None = not (creates flags) || is_some (making_fault volume at)
is_unopened volume at flags (Some Dir) = true
is_unopened volume at flags (Some (Bytes bytes)) = false

-- the volume once the file at a path is open: a file that was missing is made, and one that was there may lose its bytes
abbrev pub volume_opened : VolumeState → List (List ℕ) → OpenFlags → Option Content → VolumeState
volume_opened volume at flags None = (create_step volume at).1
volume_opened volume at flags (Some there) = if truncates flags then (truncate_step volume at).1 else volume

-- an open file, at its start
abbrev pub file_opened : FilesState → ℕ → VolumeState → List (List ℕ) → OpenFlags → Access → Option ℕ → Stepped
file_opened files id volume at flags access None = refused files status.ErrNoFreeIds
file_opened files id volume at flags access (Some stream) =
    let after = with_volume files id (volume_opened volume at flags (content_at volume at)) in
    let file : OpenFile = record { system = id; trail = at; place = 0; access = access } in
    (gives stream, record after { open_files = with_slot files.open_files stream (Some file) })

-- OS_OpenCreate, under the identifier that the stream gets, if there is one: a path's faults, what may not be opened so,
-- no free identifier
abbrev pub open_file : FilesState → List ℕ → OpenFlags → Access → Option ℕ → Stepped
open_file files path flags access stream =
    at_path files path (λ id volume at.
    if is_unopened volume at flags (content_at volume at) || (truncates flags && not (may_write access))
    then refused files status.Error
    else file_opened files id volume at flags access stream)

-- a count is the code of the reply
abbrev pub counts : ℕ → List ℕ → Replied
counts count bytes = record { answer = answer.Code (pos count); number = 0; bytes = bytes }

-- what a call does with the file of a stream
abbrev pub with_file : FilesState → (OpenFile → Stepped) → Option OpenFile → Stepped
with_file files does None = refused files status.ErrInvalidId
with_file files does (Some file) = does file

-- a call on a stream
abbrev pub on_file : FilesState → ℕ → (OpenFile → Stepped) → Stepped
on_file files stream does = with_file files does (in_slot files.open_files stream)

-- the file of a stream is at another place
abbrev pub moved_to : FilesState → ℕ → OpenFile → ℕ → FilesState
moved_to files stream file place =
    record files { open_files = with_slot files.open_files stream (Some (record file { place = place })) }

-- the bytes that were read, and the place behind them
abbrev pub was_read : FilesState → ℕ → OpenFile → Result (List ℕ) VolFault → Stepped
was_read files stream file (Err why) = refused files status.Error
was_read files stream file (Ok bytes) =
    (counts (length bytes) bytes, moved_to files stream file (file.place + length bytes))

-- OS_read of a file: a count of none or above 1,024, a file that is opened to write alone; else the bytes from the place
-- on, so many or as many as there are
abbrev pub read : FilesState → ℕ → ℕ → Stepped
read files stream n =
    if (n == 0) || nat_lt 1024 n then refused files status.ErrInvalidSize
    else on_file files stream (λ file. if not (may_read file.access) then refused files status.Error
    else in_volume files file.system (λ volume.
    was_read files stream file (read_step (content_at volume file.trail) file.place n)))

-- the bytes that were written, and the place behind them
abbrev pub was_written : FilesState → ℕ → OpenFile → Result ℕ VolFault × VolumeState → Stepped
was_written files stream file (Err why, volume) = refused files status.Error
was_written files stream file (Ok count, volume) =
    (counts count [], moved_to (with_volume files file.system volume) stream file (file.place + count))

-- OS_write of a file: no bytes or above 4,096, a file that is opened to read alone, a volume with no room for one byte;
-- else as many bytes as fit
abbrev pub write : FilesState → ℕ → List ℕ → Stepped
write files stream payload =
    if (length payload == 0) || nat_lt 4096 (length payload) then refused files status.ErrInvalidSize
    else on_file files stream (λ file. if not (may_write file.access) then refused files status.Error
    else in_volume files file.system (λ volume.
    was_written files stream file (write_step volume file.trail file.place payload)))

-- how many bytes a file has
abbrev pub length_of : Option Content → ℕ
length_of (Some (Bytes bytes)) = length bytes
length_of other = 0

-- from where a seek counts
abbrev pub seeks_from : Whence → OpenFile → VolumeState → ℕ
seeks_from whence.Set file volume = 0
seeks_from whence.Cur file volume = file.place
seeks_from whence.End file volume = length_of (content_at volume file.trail)

-- the greatest place in a file
abbrev pub place_limit : ℕ
place_limit = 2147483647

-- a place that is reached from another, where there is one
abbrev pub placed : ℤ → Option ℕ
placed (pos place) = if nat_le place place_limit then Some place else None
placed below = None

-- the file is at the place, which is the code of the reply
abbrev pub sought : FilesState → ℕ → OpenFile → Option ℕ → Stepped
sought files stream file None = refused files status.Error
sought files stream file (Some place) = (counts place [], moved_to files stream file place)

-- OS_lseek of a file: a place below 0 or above 2,147,483,647
abbrev pub lseek : FilesState → ℕ → ℤ → Whence → Stepped
lseek files stream offset from =
    on_file files stream (λ file. in_volume files file.system (λ volume.
    sought files stream file (placed (pos (seeks_from from file volume) +ℤ offset))))

-- OS_close of a file whose stream goes
abbrev pub close : FilesState → ℕ → Stepped
close files stream = (success, record files { open_files = with_slot files.open_files stream None })
