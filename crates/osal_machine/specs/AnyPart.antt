-- What stands behind a part of any kind.
use Rattle.osal_machine.specs.declared.any.AnyPart.{AnyPart}
use Rattle.osal_machine.specs.declared.any.AnyPart.TheVariants as any
use Rattle.osal_machine.specs.Parts.{Tasks, Queues, CountSems, BinSems, Mutexes, Condvars, Time, Io, Console}
use Rattle.osal_machine.specs.Views.{PartView, Alone}

-- the part itself
abbrev pub view_of_any : AnyPart → PartView
view_of_any (any.Task part) = Alone (Tasks part)
view_of_any (any.Queue part) = Alone (Queues part)
view_of_any (any.CountSem part) = Alone (CountSems part)
view_of_any (any.BinSem part) = Alone (BinSems part)
view_of_any (any.Mutex part) = Alone (Mutexes part)
view_of_any (any.Condvar part) = Alone (Condvars part)
view_of_any (any.Time part) = Alone (Time part)
view_of_any (any.Io part) = Alone (Io part)
view_of_any (any.Console part) = Alone (Console part)
