-- The status that each fault is answered with.
use Rattle.std.specs.Prelude.{ℕ, List, [], Option, Some, None, Result, Ok, Err}
use Rattle.osal_base.specs.declared.status.Status.{Status}
use Rattle.osal_base.specs.declared.status.Status.TheVariants as status
use Rattle.osal_base.specs.declared.name.NameFault.{NameFault}
use Rattle.osal_base.specs.declared.name.NameFault.TheVariants as name_fault
use Rattle.osal_base.specs.Name.{name_fault as fault_of_name}
use Rattle.osal_base.specs.Reply.{Replied, refusal, success, gives}
use Rattle.osal_idtable.specs.declared.table.ReserveFault.{ReserveFault}
use Rattle.osal_idtable.specs.declared.table.ReserveFault.TheVariants as reserve_fault
use Rattle.osal_idtable.specs.declared.table.IdFault.{IdFault}
use Rattle.osal_idtable.specs.declared.table.IdFault.TheVariants as id_fault

-- what a call answers to bytes that are no name
abbrev pub name_status : NameFault → Status
name_status name_fault.Empty = status.ErrInvalidArgument
name_status name_fault.TooLong = status.ErrNameTooLong
name_status name_fault.HasZero = status.ErrInvalidArgument

-- what a create answers where no identifier can be had
abbrev pub reserve_status : ReserveFault → Status
reserve_status reserve_fault.NameTaken = status.ErrNameTaken
reserve_status reserve_fault.NoFreeIds = status.ErrNoFreeIds

-- what a call on an identifier answers where it is refused
abbrev pub id_status : IdFault → Status
id_status id_fault.InvalidId = status.ErrInvalidId
id_status id_fault.ObjectInUse = status.ErrObjectInUse
id_status id_fault.TooMany = status.Error
id_status id_fault.NotHeld = status.ErrIncorrectObjState

-- what a call answers that gives nothing
abbrev pub answered : {X : Type 0} → Result X IdFault → Replied
answered (Ok x) = success
answered (Err fault) = refusal (id_status fault)

-- what a find answers
abbrev pub found_id : Option ℕ → Replied
found_id None = refusal status.ErrNameNotFound
found_id (Some id) = gives id

-- the name of an object, or no bytes where it has none
abbrev pub name_bytes : Option (List ℕ) → List ℕ
name_bytes None = []
name_bytes (Some name) = name

-- a call under a name that has this fault, or none
abbrev pub unless : {S : Type 0} → Option NameFault → S → Replied × S → Replied × S
unless (Some fault) state otherwise = (refusal (name_status fault), state)
unless None state otherwise = otherwise

-- a call under a name: its fault, or else what the call does
abbrev pub under_name : {S : Type 0} → List ℕ → S → Replied × S → Replied × S
under_name name state otherwise = unless (fault_of_name name) state otherwise
