-- What a volume answers where its tree refuses a call.
use Rattle.std.specs.Prelude.{ℕ, Option, Some, None, Result, Ok, Err}
use Rattle.osal_tree.specs.declared.kind.Kind.{Kind}
use Rattle.osal_tree.specs.declared.kind.Kind.TheVariants as kind
use Rattle.osal_tree.specs.declared.kind.TreeFault.{TreeFault}
use Rattle.osal_tree.specs.declared.kind.TreeFault.TheVariants as tree
use Rattle.osal_volume.specs.declared.fault.VolFault.{VolFault}
use Rattle.osal_volume.specs.declared.fault.VolFault.TheVariants as fault

-- the volume's word for a fault of its tree
abbrev pub vol_fault : TreeFault → VolFault
vol_fault tree.NotFound = fault.NotFound
vol_fault tree.WrongKind = fault.WrongKind
vol_fault tree.NoSpace = fault.NoSpace
vol_fault tree.Exists = fault.Exists
vol_fault tree.NotEmpty = fault.NotEmpty
vol_fault tree.OutOfMemory = fault.OutOfMemory

-- the number of a file of the tree, or why there is none
abbrev pub file_number : Option Kind → Result ℕ VolFault
file_number None = Err fault.NotFound
file_number (Some kind.Directory) = Err fault.WrongKind
file_number (Some (kind.File number)) = Ok number

-- what a volume answers where its tree gave this answer
abbrev pub answered : Result ℕ TreeFault → Result (Unit {0}) VolFault
answered (Ok number) = Ok tt
answered (Err why) = Err (vol_fault why)
