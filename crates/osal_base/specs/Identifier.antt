-- An identifier is the number of a type and a serial: type * 65,536 + serial.
use Rattle.std.specs.Prelude.{ℕ, ◌+◌, ◌*◌, ◌/◌, ◌%◌}
use Rattle.osal_base.specs.declared.id.ObjType.{ObjType}
use Rattle.osal_base.specs.declared.id.ObjType.TheVariants as kind

-- the number of a type of objects
abbrev pub type_number : ObjType → ℕ
type_number kind.Task = 1
type_number kind.Queue = 2
type_number kind.CountSem = 3
type_number kind.BinSem = 4
type_number kind.Mutex = 5
type_number kind.Stream = 6
type_number kind.Directory = 7
type_number kind.Timebase = 8
type_number kind.Timer = 9
type_number kind.Module = 10
type_number kind.FileSystem = 11
type_number kind.Console = 12
type_number kind.Condvar = 13

-- the identifier of a type's number and a serial
abbrev pub compose : ℕ → ℕ → ℕ
compose kind serial = kind * 65536 + serial

-- the serial of an identifier
abbrev pub serial_of : ℕ → ℕ
serial_of id = id % 65536

-- the number of an identifier's type
abbrev pub type_of : ℕ → ℕ
type_of id = id / 65536

-- the slot of an identifier in a table of that capacity
abbrev pub slot_of : ℕ → ℕ → ℕ
slot_of id capacity = serial_of id % capacity
