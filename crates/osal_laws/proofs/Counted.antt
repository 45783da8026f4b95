-- In every state of the machine the holds of objects are counted and the tables are well formed: each move keeps both.
use Rattle.std.proofs.Common.{◌≡◌, ℕ, List, [], ◌∷◌, Some, refl, sym, subst, ◌∙◌, arith}
use Rattle.std.specs.Prelude.{codes}
use Rattle.osal_base.specs.declared.id.ObjType.TheVariants as kind
use Rattle.osal_base.specs.declared.limits.Limits.{Limits}
use Rattle.osal_base.specs.Identifier.{type_number}
use Rattle.osal_base.specs.Limits.{Fits, IsCapacity}
use Rattle.osal_object.specs.Objects.{ObjectsState, no_objects}
use Rattle.osal_object.specs.Moves.{Move, Create, moved, after_moves, MayMove, MayMoveAll}
use Rattle.osal_idtable.specs.WellFormed.{IsWellFormed}
use Rattle.osal_object.specs.ObjectLaws.{IsCounted}
use Rattle.osal_idtable.proofs.WellFormed.{stays_well_formed}
use Rattle.osal_object.proofs.ByCalls.{tables_stay_well_formed}
use Rattle.osal_object.proofs.Counted.{holds_are_counted}
use Rattle.osal_object.proofs.Shapes.{move_shape}
use Rattle.osal_call.specs.declared.call.Entry.{Entry}
use Rattle.osal_machine.specs.Step.{MachineState, opening}
use Rattle.osal_machine.specs.History.{replay_from}
use Rattle.osal_laws.specs.Laws.{OfEach, AreCounted, ObjectsAreCounted, TablesAreWellFormed}
use Rattle.osal_laws.proofs.Places.{Place, each_place}
use Rattle.osal_laws.proofs.Replays.{replay_moves}

-- each move that may be made keeps it
abbrev EachKeeps : {T W : Type 0} → (ObjectsState T W → Type 0) → Type 0
EachKeeps {T} {W} P = (objects : ObjectsState T W) (move : Move T W) → P objects → MayMove objects move → P (moved objects move)

-- so moves that may be made keep it
moves_keep : {T W : Type 0} (P : ObjectsState T W → Type 0) → EachKeeps P → (objects : ObjectsState T W) (moves : List (Move T W)) → P objects → MayMoveAll objects moves → P (after_moves objects moves)
moves_keep P kept objects [] holds may = holds
moves_keep P kept objects (move ∷ moves) holds may =
    moves_keep P kept (moved objects move) moves (kept objects move holds may.0) may.1

-- what each move of objects of a kind keeps holds of them after any entries
replay_keeps : {T W : Type 0} {of : MachineState → ObjectsState T W} → Place of → (P : ObjectsState T W → Type 0) → EachKeeps P → (start : MachineState) (entries : List Entry) → P (of start) → P (of (replay_from start entries))
replay_keeps {of = of} place P kept start entries holds =
    let by = replay_moves place entries start in
    subst P (sym by.are) (moves_keep P kept (of start) by.moves holds by.may)

-- the table of a kind keeps its type
pub kind_kept : {T W : Type 0} {of : MachineState → ObjectsState T W} → Place of → (start : MachineState) (entries : List Entry) → (of (replay_from start entries)).table.kind ≡ (of start).table.kind
kind_kept {of = of} place start entries =
    replay_keeps place (λ objects. objects.table.kind ≡ (of start).table.kind) (λ objects move same may. (move_shape objects move).kind ∙ same) start entries refl

-- what each move of any objects keeps holds of the objects of each kind after any entries
each_keeps : (P : (T W : Type 0) → ObjectsState T W → Type 0) → ((T W : Type 0) → EachKeeps (P T W)) → (start : MachineState) (entries : List Entry) → OfEach P start → OfEach P (replay_from start entries)
each_keeps P kept start entries holds =
    each_place P (replay_from start entries)
    (λ T W of place. replay_keeps place (P T W) (kept T W) start entries (place.has P start holds))

-- where the holds of objects are counted, they are after any entries
pub counted_from : (start : MachineState) (entries : List Entry) → AreCounted start → AreCounted (replay_from start entries)
counted_from = each_keeps (λ T W objects. IsCounted objects) (λ T W. (holds_are_counted T W).1)

-- the console's table before the console stands in it
abbrev pub bare_console : Limits → ObjectsState (Unit {0}) (Unit {0})
bare_console limits = no_objects (type_number kind.Console) 1 limits.tasks

-- the move that puts the console into its table
abbrev pub named_console : Move (Unit {0}) (Unit {0})
named_console = Create (Some (codes "console")) tt []

-- a table of one object may be
one_fits : IsCapacity 1
one_fits = omega arith

-- what holds of no objects, and each move keeps, holds of the objects of each kind at the start
at_start : (P : (T W : Type 0) → ObjectsState T W → Type 0) → ((T W : Type 0) → EachKeeps (P T W)) → ((T W : Type 0) (kind capacity tasks : ℕ) → IsCapacity capacity → IsCapacity tasks → P T W (no_objects kind capacity tasks)) → (limits : Limits) → Fits limits → OfEach P (opening limits)
at_start P kept none limits fits = record {
  tasks = none _ _ _ _ _ fits.tasks fits.tasks;
  queues = none _ _ _ _ _ fits.queues fits.tasks;
  count_sems = none _ _ _ _ _ fits.count_sems fits.tasks;
  bin_sems = none _ _ _ _ _ fits.bin_sems fits.tasks;
  mutexes = none _ _ _ _ _ fits.mutexes fits.tasks;
  condvars = none _ _ _ _ _ fits.condvars fits.tasks;
  timebases = none _ _ _ _ _ fits.timebases fits.tasks;
  timers = none _ _ _ _ _ fits.timers fits.tasks;
  streams = none _ _ _ _ _ fits.streams fits.tasks;
  systems = none _ _ _ _ _ fits.file_systems fits.tasks;
  directories = none _ _ _ _ _ fits.dirs fits.tasks;
  console = kept _ _ (bare_console limits) named_console (none _ _ _ _ _ one_fits fits.tasks) (tt, tt);
}

-- the holds of an object are those of callers and the open waits that stand on it
pub objects_counted : ObjectsAreCounted
objects_counted limits entries fits =
    counted_from (opening limits) entries
    (at_start (λ T W objects. IsCounted objects) (λ T W. (holds_are_counted T W).1) (λ T W kind capacity tasks own of_tasks. (holds_are_counted T W).0 kind capacity tasks of_tasks) limits fits)

-- the tables are well formed
pub tables_well_formed : TablesAreWellFormed
tables_well_formed limits entries fits =
    let P : (T W : Type 0) → ObjectsState T W → Type 0 = λ T W objects. IsWellFormed objects.table in
    let kept : (T W : Type 0) → EachKeeps (P T W) = λ T W objects move holds may. tables_stay_well_formed T W objects move holds in
    each_keeps P kept (opening limits) entries
    (at_start P kept (λ T W kind capacity tasks own of_tasks. (stays_well_formed T).0 kind capacity own) limits fits)
