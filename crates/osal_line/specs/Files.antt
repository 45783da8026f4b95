-- The call lines on files, directories and file systems that have arguments of their own.
use Rattle.std.specs.Prelude.{◌^◌, List, [], ◌∷◌, ℕ, Option, Some, None, option_map}
use Rattle.osal_base.specs.declared.arguments.OpenFlags.{OpenFlags}
use Rattle.osal_base.specs.declared.arguments.Access.{Access}
use Rattle.osal_call.specs.declared.word.text.PathWord.{PathWord}
use Rattle.osal_call.specs.declared.word.pair.PathsWord.{PathsWord}
use Rattle.osal_line.specs.declared.line.ScriptCall.{ScriptCall}
use Rattle.osal_line.specs.declared.line.ScriptCall.TheVariants as script
use Rattle.osal_line.specs.Values.{number_below, string_of}
use Rattle.osal_line.specs.Choices.{flags_of, access_of, whence_of, offset_of}
use Rattle.osal_line.specs.Registers.{Registers, register_at}
use Rattle.osal_line.specs.Arguments.{◌>>=◌, as_call, named_at, strings_of}
use Rattle.osal_line.specs.Tasks.{without_register}
use Rattle.osal_line.specs.Transfers.{id_and_payload, id_and_room}

-- a call with a path or a device, and no more
abbrev pub path_call_of : PathWord → List (List ℕ) → Option ScriptCall
path_call_of called (path ∷ []) = option_map (λ text. script.Path called text) (string_of path)
path_call_of called words = None

-- a call with two paths, or a device and a path
abbrev pub paths_call_of : PathsWord → List (List ℕ) → Option ScriptCall
paths_call_of called (path ∷ to ∷ []) = option_map (λ both. script.Paths called both.0 both.1) (strings_of path to)
paths_call_of called words = None

-- a volume that is made: the device, the label and the blocks
abbrev pub mkfs_of : List (List ℕ) → Option ScriptCall
mkfs_of (device ∷ label ∷ blocks ∷ []) = do
  both ← strings_of device label
  count ← number_below (2 ^ 32) blocks
  Some (script.Mkfs both.0 both.1 count)
mkfs_of words = None

-- the flags and the access of an opening
abbrev pub opening_of : List ℕ → List ℕ → Option (OpenFlags × Access)
opening_of flags access = do
  does ← flags_of flags
  grants ← access_of access
  Some (does, grants)

-- an opening: the register, the path, the flags and the access
abbrev pub open_of : List (List ℕ) → Registers → Option (ScriptCall × Registers)
open_of (register ∷ path ∷ flags ∷ access ∷ []) registers = do
  named ← named_at registers register path
  opening ← opening_of flags access
  Some (script.Open named.0.0 named.0.1 opening.0 opening.1, named.1)
open_of words registers = None

-- a read: the file, the room and the wait
abbrev pub read_of : List (List ℕ) → Registers → Option (ScriptCall × Registers)
read_of words registers = as_call (λ found. script.Read found.0 found.1 found.2) (id_and_room words registers)

-- a write: the file and the payload
abbrev pub write_of : List (List ℕ) → Registers → Option (ScriptCall × Registers)
write_of words registers = as_call (λ found. script.Write found.0 found.1) (id_and_payload words registers)

-- a seek in the file of a register: the offset and from where it counts
abbrev pub seek_in : ℕ → List ℕ → List ℕ → Option ScriptCall
seek_in id offset whence = do
  far ← offset_of offset
  from ← whence_of whence
  Some (script.Lseek id far from)

-- a seek: the file, the offset and from where it counts
abbrev pub lseek_of : List (List ℕ) → Registers → Option (ScriptCall × Registers)
lseek_of (id ∷ offset ∷ whence ∷ []) registers = do
  named ← register_at registers id
  without_register named.1 (seek_in named.0 offset whence)
lseek_of words registers = None
