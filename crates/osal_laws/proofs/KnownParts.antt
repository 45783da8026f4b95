-- What is known of each part, whichever it is: what its calls do to what is seen of it.
use Rattle.std.proofs.Common.{◌≡◌, ◌+◌, ℕ, Bool, true, false, Some, refl, ap, sym, subst}
use Rattle.std.proofs.lemmas.Bool.{false≢true}
use Rattle.osal_base.specs.declared.status.Status.TheVariants as status
use Rattle.osal_base.specs.declared.time.Moment.{Moment}
use Rattle.osal_base.specs.Reply.{Replied, refusal, is_waits}
use Rattle.osal_idtable.specs.Sound.{AtMostOne}
use Rattle.osal_idtable.specs.Table.{active_at}
use Rattle.osal_object.specs.ObjectLaws.{IsCounted, holds_of}
use Rattle.osal_object.specs.Objects.{ObjectsState}
use Rattle.osal_object.specs.Outcomes.{Outcome, Ending, carried_out}
use Rattle.osal_object.specs.Waits.{is_of, wait_of, waits_on}
use Rattle.osal_object.proofs.MovedWaits.{once_moved}
use Rattle.osal_object.proofs.Moves.{IsMove, is_there}
use Rattle.osal_object.proofs.OpenWaits.{WaitsSeen, seen_of, IsClosed}
use Rattle.osal_object.proofs.Refusals.{Leaves, same, within}
use Rattle.osal_object.proofs.WaitSteps.{IsWaitStep, IsWaitEnd, Refuses, goes}
use Rattle.osal_time.specs.Time.{TimeState, is_timer}
use Rattle.osal_time.specs.Calls.{time_call, time_step}
use Rattle.osal_file.specs.Held.{is_of_directory}
use Rattle.osal_io.specs.Io.{IoState, is_of_stream}
use Rattle.osal_io.specs.Calls.{io_step}
use Rattle.osal_io.specs.Ends.{wait_end}
use Rattle.osal_io.proofs.Known.{io_moves, io_one, io_keeps, io_stays, io_refuses, io_waits, io_end, io_ends, io_abandons, either_stale as io_stale}
use Rattle.osal_io.proofs.Makes.{AllButOne, move_one}
use Rattle.osal_console.specs.Console.{ConsoleState, console_step}
use Rattle.osal_call.specs.declared.call.Call.{Call}
use Rattle.osal_call.specs.declared.call.Call.TheVariants as call
use Rattle.osal_call.specs.Signature.{signature, part_of, subject_of, is_refused_before, timeout_of, is_wait_end, ends_wait}
use Rattle.osal_call.specs.Signature as what
use Rattle.osal_machine.specs.Parts.{PartState, Tasks, Queues, CountSems, BinSems, Mutexes, Condvars, Time, Io, Console, Absent, as_part, absent_reply, part_step, is_active_in}
use Rattle.osal_machine.specs.Step.{MachineState, part_in}
use Rattle.osal_machine.specs.OpenWaits.{has_wait, deadlines_of, WaitsOnce}
use Rattle.osal_laws.specs.Laws.{AreCounted, holds_in, is_below_zero}
use Rattle.osal_laws.specs.Holds.{is_hold_of, is_release_of, waits_in}
use Rattle.osal_laws.specs.Steps.{stands, stands_in}
use Rattle.osal_laws.proofs.Own.{by_number}
use Rattle.osal_laws.proofs.Below.{where_below}
use Rattle.osal_laws.proofs.Suits.{is_holding}
use Rattle.osal_laws.proofs.Known.{Known, seen_as, none_of, known_moves, known_keeps, known_stays, known_refuses, known_waits, known_ends, known_abandons, known_stale}
use Rattle.osal_laws.proofs.Shifts.{Tells, either_tells, counts, ShiftsBy, tells_by, hold_shifts, release_shifts, known_shifts}
use Rattle.osal_laws.proofs.Over.{one_if, io_gives, known_gives}
use Rattle.osal_laws.proofs.TaskKnown.{tasks_known}
use Rattle.osal_laws.proofs.QueueKnown.{queues_known}
use Rattle.osal_laws.proofs.CountSemKnown.{count_sems_known}
use Rattle.osal_laws.proofs.BinSemKnown.{bin_sems_known}
use Rattle.osal_laws.proofs.MutexKnown.{mutexes_known}
use Rattle.osal_laws.proofs.CondvarKnown.{condvars_known}
use Rattle.osal_laws.proofs.TimeKnown.{fits, time_keeps, time_goes, time_one, same_choice, either_stale as time_stale}
use Rattle.osal_laws.proofs.ConsoleKnown.{console_goes, console_keeps, console_stale}
use Rattle.osal_laws.proofs.IoShifts.{io_shifts}
use Rattle.osal_laws.proofs.PartShifts.{task_hold, time_shifts, console_shifts}

-- what is seen of the open waits of a part
abbrev pub seen_in : PartState → WaitsSeen
seen_in part = record { waits = λ task. has_wait part task; due = λ now. deadlines_of now part }

-- whether a part is one table and no more, so that a call of it on an object is on one in that table
abbrev pub is_one_table : PartState → Bool
is_one_table (Time time) = false
is_one_table (Io io) = false
is_one_table (Console console) = false
is_one_table Absent = false
is_one_table part = true

-- a part, and what is seen of it: its open waits, which tasks wait once, which identifiers are active, their holds, how
-- many waits stand on them, whether a task's wait does, and whether it is one table
pub record Seen : Type 1 where
  pub part : PartState
  pub waits : WaitsSeen
  pub once : ℕ → Type 0
  pub active : ℕ → Bool
  pub holds : ℕ → ℕ
  pub standing : ℕ → ℕ
  pub stands : ℕ → ℕ → Bool
  pub alone : Bool

-- what is seen of a part
abbrev pub seen : PartState → Seen
seen part = record {
  part = part;
  waits = seen_in part;
  once = λ task. WaitsOnce part task;
  active = λ id. is_active_in part id;
  holds = λ id. holds_in part id;
  standing = λ id. waits_in part id;
  stands = λ task id. stands_in part task id;
  alone = is_one_table part;
}

-- a step of a part, and what is seen after it
abbrev pub seen_step : Replied × PartState → Replied × Seen
seen_step stepped = (stepped.0, seen stepped.1)

-- the reply of a step, and the part after it
abbrev stepped_part : Replied × Seen → Replied × PartState
stepped_part stepped = (stepped.0, stepped.1.part)

-- what is known of the steps of the part of a number; of holds where those of its objects are counted
pub record KnownPart (number : ℕ) (Counted : Type 0) (old : Seen) (step : ℕ → Moment → Call → Replied × Seen) : Type 0 where
  -- a call that answers a code below 0 leaves the part
  pub keeps : (task : ℕ) (now : Moment) (made : Call) → is_wait_end made ≡ false → Leaves is_below_zero old.part (stepped_part (step task now made))
  -- the end of a wait that waits on leaves it
  pub stays : (task : ℕ) (now : Moment) (part : ℕ) → Leaves is_waits old.part (stepped_part (step task now (call.WaitEnd part)))
  -- the end of a wait where the task has none is refused, and leaves it
  pub refuses : (task : ℕ) (now : Moment) (part : ℕ) → old.waits.waits task ≡ false → stepped_part (step task now (call.WaitEnd part)) ≡ (refusal status.ErrIncorrectObjState, old.part)
  -- a call that ends no wait leaves the open waits, or its task waits
  pub waits : (task : ℕ) (now : Moment) (made : Call) → ends_wait made ≡ false → IsWaitStep old.waits task (timeout_of made) (step task now made).0.answer (step task now made).1.waits
  -- no call makes a task wait twice
  pub once : (task : ℕ) (now : Moment) (made : Call) (other : ℕ) → old.once other → (step task now made).1.once other
  -- the end of a wait in the part
  pub ends : (task : ℕ) (now : Moment) → IsWaitEnd old.waits task (step task now (call.WaitEnd number)).0.answer (step task now (call.WaitEnd number)).1.waits
  -- a wait in the part that is given up
  pub abandons : (task : ℕ) (now : Moment) → old.waits.waits task ≡ true → IsClosed old.waits (step task now (call.WaitAbandon number)).1.waits task
  -- a call makes at most one identifier active or not active
  pub one : (task : ℕ) (now : Moment) (made : Call) → AllButOne old.active (step task now made).1.active
  -- a hold or a release of an identifier that is not active is refused by that
  pub stale : (task : ℕ) (now : Moment) (made : Call) (id : ℕ) → part_of made ≡ number → ends_wait made ≡ false → is_refused_before made ≡ false → (signature made).subject ≡ what.Object what.OfType id → old.active id ≡ false → (step task now made).0 ≡ refusal status.ErrInvalidId
  -- and so is each call on one, where the part is one table
  pub stale_alone : old.alone ≡ true → (task : ℕ) (now : Moment) (made : Call) (id : ℕ) → part_of made ≡ number → ends_wait made ≡ false → is_refused_before made ≡ false → subject_of task made ≡ Some id → old.active id ≡ false → (step task now made).0 ≡ refusal status.ErrInvalidId
  -- the holds of an identifier beside the waits on it shift by what a call is and answers
  pub shifts : Counted → (task : ℕ) (now : Moment) (made : Call) (q : ℕ) → Tells (old.active q) ((step task now made).1.active q) (old.holds q) ((step task now made).1.holds q) (old.standing q) ((step task now made).1.standing q) (counts (is_hold_of q made) (step task now made).0.answer) (counts (is_release_of q made) (step task now made).0.answer)
  -- the end of an open wait that does not wait on gives back a hold of each object on which it stood
  pub gives : Counted → (task : ℕ) (now : Moment) → old.waits.waits task ≡ true → is_waits (step task now (call.WaitEnd number)).0.answer ≡ false → (id : ℕ) → old.holds id ≡ (step task now (call.WaitEnd number)).1.holds id + one_if (old.stands task id)

-- what is known of the part of a number in a state of the machine
abbrev pub PartKnown : MachineState → ℕ → PartState → Type 0
PartKnown state number part =
    KnownPart number (AreCounted state) (seen part) (λ task now made. seen_step (part_step part task now made))

once_by : {T W : Type 0} (other : ℕ) (old new : ObjectsState T W) → IsMove old new → AtMostOne (is_of other) old.waits.records → AtMostOne (is_of other) new.waits.records
once_by other old new by once =
    subst (λ (o : ObjectsState _ _). AtMostOne (is_of other) o.waits.records) (sym by.is) (once_moved other old by.move once)

-- what is seen of a part that is one table
abbrev seen_table : {S T W : Type 0} → (S → PartState) → (S → ObjectsState T W) → S → Seen
seen_table part objects s = record {
  part = part s;
  waits = seen_of (objects s).waits;
  once = λ task. AtMostOne (is_of task) (objects s).waits.records;
  active = λ id. is_there (objects s) id;
  holds = λ id. holds_of (active_at (objects s).table id);
  standing = λ id. waits_on (objects s).waits id;
  stands = λ task id. stands id (wait_of (objects s).waits task);
  alone = true;
}

-- a part that is one table, by what is known of its outcomes and of its holds and releases
of_table : {S T W Counted : Type 0} {number : ℕ} {own : ℕ → Bool} {objects : S → ObjectsState T W} {outcome : S → ℕ → Call → Outcome T W} {ending : S → ℕ → Moment → Ending T W} {step : S → ℕ → Moment → Call → Replied × S} → Known number own objects outcome ending step → (part : S → PartState) (old : S) → (Counted → IsCounted (objects old)) → ((task : ℕ) (now : Moment) (q id : ℕ) → ShiftsBy q (call.Hold id) (objects old) (carried_out (objects old) task now (outcome old task (call.Hold id)))) → ((task : ℕ) (now : Moment) (q id : ℕ) → ShiftsBy q (call.Release id) (objects old) (carried_out (objects old) task now (outcome old task (call.Release id)))) → KnownPart number Counted (seen_table part objects old) (λ task now made. ((step old task now made).0, seen_table part objects (step old task now made).1))
of_table {objects = objects} {step = step} known part old counts_in holds releases = record {
  keeps = λ task now made other. within part (where_below (known_keeps known old task now made other));
  stays = λ task now n. within part (known_stays known old task now n);
  refuses = λ task now n none. ap (as_part part) (known_refuses known old task now n none);
  waits = λ task now made other. known_waits known old task now made other;
  once = λ task now made other once. once_by other (objects old) (objects (step old task now made).1) (known_moves known old task now made) once;
  ends = λ task now. known_ends known old task now;
  abandons = λ task now some. known_abandons known old task now some;
  one = λ task now made. move_one (known_moves known old task now made);
  stale = λ task now made id own other may is gone. known_stale known old task now made id other own (ap (what.id_of task) is) may (none_of (active_at (objects old).table id) gone);
  stale_alone = λ alone task now made id own other may on gone. known_stale known old task now made id other own on may (none_of (active_at (objects old).table id) gone);
  shifts = λ counted task now made q. tells_by q made (objects old) (seen_as objects (step old task now made)) (known_shifts known old task now (counts_in counted) q (holds task now q) (releases task now q) made);
  gives = λ counted task now some over. known_gives known old task now (counts_in counted) some over;
}

of_time : {Counted : Type 0} (time : TimeState) → (Counted → IsCounted time.timebases) → (Counted → IsCounted time.timers) → KnownPart 6 Counted (seen (Time time)) (λ task now made. seen_step (part_step (Time time) task now made))
of_time time bases timers = record {
  keeps = λ task now made other. within (λ s. Time s) (where_below (time_keeps time task now made));
  stays = λ task now n. same;
  refuses = λ task now n none. refl;
  waits = λ task now made other. goes (time_goes time task now made).2;
  once = λ task now made other once. tt;
  ends = λ task now. Refuses refl refl;
  abandons = λ task now some. absurd (false≢true some);
  one = λ task now made. time_one time task now (is_holding made) (time_call time made) (fits time task now made);
  stale = λ task now made id own other may is gone. time_stale time task now made id is gone;
  stale_alone = λ alone. absurd (false≢true alone);
  shifts = λ counted task now made q.
      let shifts = time_shifts time (bases counted) (timers counted) task now q made in
      let stepped = time_step time task now made in
      either_tells (is_timer q) (λ own. tells_by q made time.timers (stepped.0, stepped.1.timers) (shifts.timer own))
      (λ other. tells_by q made time.timebases (stepped.0, stepped.1.timebases) (shifts.timebase other));
  gives = λ counted task now some. absurd (false≢true some);
}

of_io : {Counted : Type 0} (io : IoState) → (Counted → IsCounted io.streams) → KnownPart 7 Counted (seen (Io io)) (λ task now made. seen_step (part_step (Io io) task now made))
of_io io streams = record {
  keeps = λ task now made other. within (λ s. Io s) (io_keeps io task now made other);
  stays = λ task now n. within (λ s. Io s) (io_stays io task now);
  refuses = λ task now n none. ap (as_part (λ s. Io s)) (io_refuses io task now none);
  waits = λ task now made other. io_waits io task now made other;
  once = λ task now made other once. once_by other io.streams (io_step io task now made).1.streams (io_moves io task now made).0 once;
  ends = λ task now. io_ends io task now;
  abandons = λ task now some. io_abandons io task now some;
  one = λ task now made.
      let one = io_one io task now made in
      (one.0, λ q ne. let kept = one.1 q ne in same_choice (is_of_stream q) kept.0 (same_choice (is_of_directory q) kept.1.1 kept.1.0));
  stale = λ task now made id own other may is gone. io_stale io task now made id is gone;
  stale_alone = λ alone. absurd (false≢true alone);
  shifts = λ counted task now made q.
      let shifts = io_shifts io (streams counted) task now q made in
      let stepped = io_step io task now made in
      either_tells (is_of_stream q) (λ own. tells_by q made io.streams (stepped.0, stepped.1.streams) (shifts.stream own))
      (λ other. either_tells (is_of_directory q)
      (λ own. tells_by q made io.files.directories (stepped.0, stepped.1.files.directories) (shifts.directory other own))
      (λ not. tells_by q made io.files.systems (stepped.0, stepped.1.files.systems) (shifts.system other not)));
  gives = λ counted task now some over. io_gives io task (streams counted) (wait_end io task now) (io_end io task now) some over;
}

of_console : {Counted : Type 0} (console : ConsoleState) → KnownPart 8 Counted (seen (Console console)) (λ task now made. seen_step (part_step (Console console) task now made))
of_console console = record {
  keeps = λ task now made other. within (λ s. Console s) (console_keeps console task now made);
  stays = λ task now n. same;
  refuses = λ task now n none. refl;
  waits = λ task now made other. goes (console_goes console task now made).1;
  once = λ task now made other once. tt;
  ends = λ task now. Refuses refl refl;
  abandons = λ task now some. absurd (false≢true some);
  one = λ task now made. move_one (console_goes console task now made).0;
  stale = λ task now made id own other may is gone. console_stale console task now made id is gone;
  stale_alone = λ alone. absurd (false≢true alone);
  shifts = λ counted task now made q. tells_by q made console.objects (seen_as (λ (s : ConsoleState). s.objects) (console_step console task now made)) (console_shifts console task now q made);
  gives = λ counted task now some. absurd (false≢true some);
}

absent_answered : (made : Call) → is_waits (absent_reply made).answer ≡ false
absent_answered (call.Hold id) = refl
absent_answered (call.Release id) = refl
absent_answered _ = refl

-- what would be answered to a hold and to a release where no part is
none_there : (made : Call) (id : ℕ) → (signature made).subject ≡ what.Object what.OfType id → absent_reply made ≡ refusal status.ErrInvalidId
none_there (call.Hold other) id is = refl
none_there (call.Release other) id is = refl
none_there _ id is = absurd (cc)

of_none : {Counted : Type 0} (number : ℕ) → KnownPart number Counted (seen Absent) (λ task now made. seen_step (part_step Absent task now made))
of_none number = record {
  keeps = λ task now made other. same;
  stays = λ task now n. same;
  refuses = λ task now n none. refl;
  waits = λ task now made other. goes (absent_answered made);
  once = λ task now made other once. tt;
  ends = λ task now. Refuses refl refl;
  abandons = λ task now some. absurd (false≢true some);
  one = λ task now made. (0, λ q ne. refl);
  stale = λ task now made id own other may is gone. none_there made id is;
  stale_alone = λ alone. absurd (false≢true alone);
  shifts = λ counted task now made q. record { told = λ was. absurd (false≢true was) };
  gives = λ counted task now some. absurd (false≢true some);
}

-- what is known of the part of any number
pub known_part : (state : MachineState) (number : ℕ) → PartKnown state number (part_in number state)
known_part state =
    by_number (λ n p. PartKnown state n p) state
    (of_table tasks_known (λ s. Tasks s) state.tasks (λ counted. counted.tasks) (λ task now q id. task_hold state.tasks q task now id) (λ task now q id. release_shifts state.tasks.objects q id))
    (of_table queues_known (λ s. Queues s) state.queues (λ counted. counted.queues) (λ task now q id. hold_shifts state.queues.objects q id) (λ task now q id. release_shifts state.queues.objects q id))
    (of_table count_sems_known (λ s. CountSems s) state.count_sems (λ counted. counted.count_sems) (λ task now q id. hold_shifts state.count_sems.objects q id) (λ task now q id. release_shifts state.count_sems.objects q id))
    (of_table bin_sems_known (λ s. BinSems s) state.bin_sems (λ counted. counted.bin_sems) (λ task now q id. hold_shifts state.bin_sems.objects q id) (λ task now q id. release_shifts state.bin_sems.objects q id))
    (of_table mutexes_known (λ s. Mutexes s) state.mutexes (λ counted. counted.mutexes) (λ task now q id. hold_shifts state.mutexes.objects q id) (λ task now q id. release_shifts state.mutexes.objects q id))
    (of_table condvars_known (λ s. Condvars s) state.condvars (λ counted. counted.condvars) (λ task now q id. hold_shifts state.condvars.objects q id) (λ task now q id. release_shifts state.condvars.objects q id))
    (of_time state.time (λ counted. counted.timebases) (λ counted. counted.timers))
    (of_io state.io (λ counted. counted.streams))
    (of_console state.console)
    of_none
