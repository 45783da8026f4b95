-- What the file systems end as, where a `&mut` to one of them is returned.
use Rattle.std.specs.Prelude.{ℕ}
use Rattle.std.specs.Borrow.{Lends, Fml, MutBor}
use Rattle.osal_object.specs.Objects.{ObjectsState, with_value}
use Rattle.osal_file.specs.declared.system.FileSystem.{FileSystem}
use Rattle.osal_file.specs.contracts.devices.Devices as of_devices
use Rattle.osal_file.specs.contracts.system.FileSystem as of_system

-- once the borrow r ends, the last file system written through it stands under the identifier
abbrev pub lends_system : MutBor (ObjectsState FileSystem (Unit {0})) → ℕ → MutBor FileSystem → Fml
lends_system s id r = Lends of_devices.the_row of_system.the_row s r (with_value s.now id)
