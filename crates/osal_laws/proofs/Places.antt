-- The objects of each kind in each part: every call makes one move of them.
use Rattle.std.proofs.Common.{◌≡◌, ℕ, Bool, true, false, cond, refl, sym, subst}
use Rattle.osal_base.specs.declared.time.Moment.{Moment}
use Rattle.osal_object.specs.Objects.{ObjectsState}
use Rattle.osal_object.specs.Waits.{WaitsState}
use Rattle.osal_object.proofs.Moves.{IsMove, stays}
use Rattle.osal_time.specs.Time.{is_timer}
use Rattle.osal_file.specs.Held.{is_of_directory}
use Rattle.osal_io.specs.Io.{is_of_stream}
use Rattle.osal_io.proofs.Known.{io_moves}
use Rattle.osal_call.specs.declared.call.Call.{Call}
use Rattle.osal_machine.specs.Parts.{PartState, Tasks, Queues, CountSems, BinSems, Mutexes, Condvars, Io, part_step, on_objects, on_waits}
use Rattle.osal_machine.specs.Step.{MachineState, part_in, with_part, step}
use Rattle.osal_laws.specs.Laws.{OfEach}
use Rattle.osal_laws.proofs.Own.{numbered, after_part}
use Rattle.osal_laws.proofs.Known.{known_moves}
use Rattle.osal_laws.proofs.TaskKnown.{tasks_known}
use Rattle.osal_laws.proofs.QueueKnown.{queues_known}
use Rattle.osal_laws.proofs.CountSemKnown.{count_sems_known}
use Rattle.osal_laws.proofs.BinSemKnown.{bin_sems_known}
use Rattle.osal_laws.proofs.MutexKnown.{mutexes_known}
use Rattle.osal_laws.proofs.CondvarKnown.{condvars_known}
use Rattle.osal_laws.proofs.TimeKnown.{time_goes}
use Rattle.osal_laws.proofs.ConsoleKnown.{console_goes}

-- objects of one kind, in every state: each call makes one move of them, and what holds of those of each kind holds of
-- them
pub record Place {T W : Type 0} (of : MachineState → ObjectsState T W) : Type 1 where
  pub moves : (state : MachineState) (task : ℕ) (now : Moment) (made : Call) → IsMove (of state) (of (step state task now made).1)
  pub has : (P : (T W : Type 0) → ObjectsState T W → Type 0) (state : MachineState) → OfEach P state → P T W (of state)

-- the objects of a kind in the part of a number, where each call of the part makes one move of them
place_in : {T W : Type 0} (of : MachineState → ObjectsState T W) (number : ℕ) → ((state next : MachineState) → of (with_part state (part_in number next)) ≡ of next) → ((state : MachineState) (task : ℕ) (now : Moment) (made : Call) → IsMove (of state) (of (with_part state (part_step (part_in number state) task now made).1))) → ((P : (T W : Type 0) → ObjectsState T W → Type 0) (state : MachineState) → OfEach P state → P T W (of state)) → Place of
place_in of number there each has = record {
  moves = λ state task now made.
      let next = (step state task now made).1 in
      subst (IsMove (of state)) (there state next)
      (after_part state task now made number (λ part. IsMove (of state) (of (with_part state part))) (subst (IsMove (of state)) (sym (there state state)) (stays (of state))) (each state task now made));
  has = has;
}

-- the tasks
pub tasks_place : Place (λ s. s.tasks.objects)
tasks_place = place_in _ 0 (λ state next. refl) (λ state task now made. known_moves tasks_known state.tasks task now made) (λ P state each. each.tasks)

-- the queues
pub queues_place : Place (λ s. s.queues.objects)
queues_place = place_in _ 1 (λ state next. refl) (λ state task now made. known_moves queues_known state.queues task now made) (λ P state each. each.queues)

-- the counting semaphores
pub count_sems_place : Place (λ s. s.count_sems.objects)
count_sems_place = place_in _ 2 (λ state next. refl) (λ state task now made. known_moves count_sems_known state.count_sems task now made) (λ P state each. each.count_sems)

-- the binary semaphores
pub bin_sems_place : Place (λ s. s.bin_sems.objects)
bin_sems_place = place_in _ 3 (λ state next. refl) (λ state task now made. known_moves bin_sems_known state.bin_sems task now made) (λ P state each. each.bin_sems)

-- the mutexes
pub mutexes_place : Place (λ s. s.mutexes.objects)
mutexes_place = place_in _ 4 (λ state next. refl) (λ state task now made. known_moves mutexes_known state.mutexes task now made) (λ P state each. each.mutexes)

-- the condition variables
pub condvars_place : Place (λ s. s.condvars.objects)
condvars_place = place_in _ 5 (λ state next. refl) (λ state task now made. known_moves condvars_known state.condvars task now made) (λ P state each. each.condvars)

-- the timebases
pub timebases_place : Place (λ s. s.time.timebases)
timebases_place = place_in _ 6 (λ state next. refl) (λ state task now made. (time_goes state.time task now made).0) (λ P state each. each.timebases)

-- the timers
pub timers_place : Place (λ s. s.time.timers)
timers_place = place_in _ 6 (λ state next. refl) (λ state task now made. (time_goes state.time task now made).1) (λ P state each. each.timers)

-- the streams
pub streams_place : Place (λ s. s.io.streams)
streams_place = place_in _ 7 (λ state next. refl) (λ state task now made. (io_moves state.io task now made).0) (λ P state each. each.streams)

-- the file systems
pub systems_place : Place (λ s. s.io.files.systems)
systems_place = place_in _ 7 (λ state next. refl) (λ state task now made. (io_moves state.io task now made).1.0) (λ P state each. each.systems)

-- the directories
pub directories_place : Place (λ s. s.io.files.directories)
directories_place = place_in _ 7 (λ state next. refl) (λ state task now made. (io_moves state.io task now made).1.1) (λ P state each. each.directories)

-- the console's table
pub console_place : Place (λ s. s.console.objects)
console_place = place_in _ 8 (λ state next. refl) (λ state task now made. (console_goes state.console task now made).0) (λ P state each. each.console)

-- what is seen of some objects, or stands for none, in every state
abbrev pub Look : Type 1
Look = (X : Type 0) → ((T W : Type 0) → ObjectsState T W → X) → X → MachineState → X

either_look : (P : Look → Type 0) (test : Bool) (one other : Look) → P one → P other → P (λ X see none state. cond test (one X see none state) (other X see none state))
either_look P true one other holds also = holds
either_look P false one other holds also = also

-- what holds of what is seen of objects of each kind, and where no part is, holds of what is seen of those of a part of
-- any number among which any identifier is looked for
pub by_place : (P : Look → Type 0) → ((T W : Type 0) (of : MachineState → ObjectsState T W) → Place of → P (λ X see none state. see T W (of state))) → P (λ X see none state. none) → (number id : ℕ) → P (λ X see none state. on_objects see none (part_in number state) id)
by_place P each nothing number id =
    numbered (λ n of. P (λ X see none state. on_objects see none (of state) id)) number
    (each _ _ _ tasks_place) (each _ _ _ queues_place) (each _ _ _ count_sems_place)
    (each _ _ _ bin_sems_place) (each _ _ _ mutexes_place) (each _ _ _ condvars_place)
    (either_look P (is_timer id) _ _ (each _ _ _ timers_place) (each _ _ _ timebases_place))
    (either_look P (is_of_stream id) _ _ (each _ _ _ streams_place)
    (either_look P (is_of_directory id) _ _ (each _ _ _ directories_place) (each _ _ _ systems_place)))
    (each _ _ _ console_place) (λ n. nothing)

-- what holds of objects of any kind holds of those of each
pub each_place : (P : (T W : Type 0) → ObjectsState T W → Type 0) (state : MachineState) → ((T W : Type 0) (of : MachineState → ObjectsState T W) → Place of → P T W (of state)) → OfEach P state
each_place P state each = record {
  tasks = each _ _ _ tasks_place;
  queues = each _ _ _ queues_place;
  count_sems = each _ _ _ count_sems_place;
  bin_sems = each _ _ _ bin_sems_place;
  mutexes = each _ _ _ mutexes_place;
  condvars = each _ _ _ condvars_place;
  timebases = each _ _ _ timebases_place;
  timers = each _ _ _ timers_place;
  streams = each _ _ _ streams_place;
  systems = each _ _ _ systems_place;
  directories = each _ _ _ directories_place;
  console = each _ _ _ console_place;
}

-- what is seen of some open waits, or stands for none
abbrev pub WaitsLook : Type 1
WaitsLook = (X : Type 0) → ((W : Type 0) → WaitsState W → X) → X → X

-- what holds of what is seen of any open waits, and where tasks do not wait, holds of what is seen of those of a part
pub by_waits : (P : WaitsLook → Type 0) → ((W : Type 0) (waits : WaitsState W) → P (λ X see none. see W waits)) → P (λ X see none. none) → (part : PartState) → P (λ X see none. on_waits see none part)
by_waits P each nothing (Tasks tasks) = each _ tasks.objects.waits
by_waits P each nothing (Queues queues) = each _ queues.objects.waits
by_waits P each nothing (CountSems sems) = each _ sems.objects.waits
by_waits P each nothing (BinSems sems) = each _ sems.objects.waits
by_waits P each nothing (Mutexes mutexes) = each _ mutexes.objects.waits
by_waits P each nothing (Condvars condvars) = each _ condvars.objects.waits
by_waits P each nothing (Io io) = each _ io.streams.waits
by_waits P each nothing _ = nothing
