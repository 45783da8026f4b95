-- A run that is under way stays so with one more entry.
use Rattle.std.proofs.Common.{◌≡◌, ◌==◌, ◌<◌, ◌+◌, ◌++◌, ℕ, true, false, List, [], ◌∷◌, nat_lt, Some, sym, ap, subst, ◌∙◌, arith}
use Rattle.std.proofs.Math.Path.{subst₂}
use Rattle.std.specs.List.{AllByRecursion}
use Rattle.std.proofs.lemmas.Bool.{cond-true, false≢true, false_from_ne_true, lt-ltb, eqb-true, eq-eqb}
use Rattle.osal_base.specs.declared.time.Moment.{Moment}
use Rattle.osal_base.specs.Identifier.{slot_of}
use Rattle.osal_base.specs.Limits.{version1}
use Rattle.osal_base.specs.Reply.{Replied, reply_of}
use Rattle.osal_time.specs.Time.{TimeState}
use Rattle.osal_console.specs.Console.{drain_limit, is_pending}
use Rattle.osal_machine.specs.Step.{MachineState, opening, step}
use Rattle.osal_machine.specs.History.{after_entry, replay}
use Rattle.osal_call.specs.declared.call.Call.{Call}
use Rattle.osal_call.specs.declared.call.Call.TheVariants as call
use Rattle.osal_call.specs.declared.call.Entry.{Entry}
use Rattle.osal_laws.proofs.Histories.{replay_push}
use Rattle.osal_script.specs.App.{Application}
use Rattle.osal_script.specs.Script.{IsNext, is_success}
use Rattle.osal_runs.specs.Segments.{Segment, has_segment, recorded, segments_of}
use Rattle.osal_runs.specs.Runs.{CreatesFirst, IsOfMachine, IsCalledBy, is_advance, is_some_count, is_machine_call, moment_by, FollowsScript, EndsBefore, IsTimelyCall}
use Rattle.osal_runs.specs.Waiting.{some_can_go, next_deadline}
use Rattle.osal_runs.specs.Linked.{newest_script, IsLinked, GivesFree}
use Rattle.osal_runs.specs.UnderWay.{IsUnderWay}
use Rattle.osal_runs.proofs.Drains.{drain_gives}
use Rattle.osal_runs.proofs.MachineCalls.{own_plain, own_advance}
use Rattle.osal_runs.proofs.LinkedSteps.{has_of_next, linked_step, ends_step, recorded_still, linked_machine, linked_first}
use Rattle.osal_runs.proofs.Following.{segments_push, moment_push, time_after, next_still, begun_follows, begun_ends, first_still, scripts_step, GoesOn, part_push}
use Rattle.osal_runs.proofs.Deadlines.{next_behind}

-- what is linked and timed before an entry, and follows with it
under_way_by : (app : Application) (entries : List Entry) (entry : Entry) → IsUnderWay app entries → GoesOn app entries entry → reply_of entry.reply ≡ (step (replay version1 entries) entry.task entry.now entry.call).0 → IsTimelyCall (replay version1 entries) (segments_of app entries) entry.call → IsLinked app (after_entry (replay version1 entries) entry) (recorded app (segments_of app entries) entry) → (is_advance entry.call ≡ true → is_success entry.reply.answer ≡ true) → IsUnderWay app (entries ++ entry ∷ [])
under_way_by app entries entry way goes replied timely linked succeeds = record {
  begun = grind arith;
  part = part_push app entries entry way.part goes replied timely;
  linked = subst₂ (IsLinked app) (sym (replay_push (opening version1) entries entry)) (sym (segments_push app entries entry)) linked;
  moment =
      ap (λ (state : MachineState). state.time.moment) (replay_push (opening version1) entries entry)
      ∙ time_after (replay version1 entries) entry.task entry.now entry.call (λ advances. ap (λ (r : Replied). is_success r.answer) (sym replied) ∙ succeeds advances)
      ∙ ap (λ m. moment_by m entry.call) way.moment
      ∙ sym (moment_push (record { ms = 0 }) entries entry);
}

-- any other call than an advance is timely
still_timely : (state : MachineState) (segments : List Segment) (made : Call) → is_advance made ≡ false → IsTimelyCall state segments made
still_timely state segments (call.Advance to) still = absurd (false≢true (sym still))
still_timely state segments _ still = tt

-- the next call of a task's newest script, at the machine's moment
pub task_goes_on : (app : Application) (entries : List Entry) (entry : Entry) → IsUnderWay app entries → entry.caller ≡ slot_of entry.task version1.tasks + 1 → IsNext (newest_script (segments_of app entries) entry.task) entry → entry.now ≡ (replay version1 entries).time.moment → reply_of entry.reply ≡ (step (replay version1 entries) entry.task entry.now entry.call).0 → GivesFree (segments_of app entries) entry → IsUnderWay app (entries ++ entry ∷ [])
task_goes_on app entries entry way caller next now replied free =
    let segments : List Segment = segments_of app entries in
    let has = has_of_next segments entry next in
    let some : (entry.task == 0) ≡ false = false_from_ne_true (entry.task == 0) (λ zero. false≢true (sym way.linked.nobody ∙ ap (has_segment segments) (sym (eqb-true entry.task 0 zero)) ∙ has)) in
    let still : is_advance entry.call ≡ false = next_still (newest_script segments entry.task).phase (newest_script segments entry.task) entry.call entry.reply.answer next in
    under_way_by app entries entry way
    (record {
      begun = way.begun;
      called = subst (λ b. IsCalledBy b segments entry) (sym some) (record { caller = caller; created = has });
      now = now ∙ way.moment;
      scripts = scripts_step app segments entry way.part.follows.scripts next;
      ended = ends_step app (replay version1 entries) segments entry way.linked next replied free way.part.follows.ended;
    })
    replied (still_timely (replay version1 entries) segments entry.call still)
    (linked_step app (replay version1 entries) segments entry way.linked next replied free)
    (λ advances. absurd (false≢true (sym still ∙ advances)))

-- a timely call of the machine itself, at its moment
own_goes_on : (app : Application) (entries : List Entry) (entry : Entry) → IsUnderWay app entries → entry.task ≡ 0 → IsOfMachine entry → entry.now ≡ (replay version1 entries).time.moment → IsTimelyCall (replay version1 entries) (segments_of app entries) entry.call → reply_of entry.reply ≡ (step (replay version1 entries) entry.task entry.now entry.call).0 → IsUnderWay app (entries ++ entry ∷ [])
own_goes_on app entries entry way nobody own now timely replied =
    let segments : List Segment = segments_of app entries in
    let same : recorded app segments entry ≡ segments = recorded_still app segments entry (ap (has_segment segments) nobody ∙ way.linked.nobody) (own_plain entry.call entry.reply.answer own.call) in
    under_way_by app entries entry way
    (record {
      begun = way.begun;
      called = subst (λ b. IsCalledBy b segments entry) (sym (eq-eqb entry.task 0 nobody)) own;
      now = now ∙ way.moment;
      scripts = subst (AllByRecursion FollowsScript) (sym same) way.part.follows.scripts;
      ended = subst EndsBefore (sym same) way.part.follows.ended;
    })
    replied timely
    (linked_machine app (replay version1 entries) segments way.linked entry nobody own.call)
    (own_advance entry.call entry.reply.answer own.call)

-- time goes on to the next deadline, where no task can go on
pub record IsDue (app : Application) (entries : List Entry) (entry : Entry) (to : ℕ) : Type 0 where
  pub caller : entry.caller ≡ 0
  pub task : entry.task ≡ 0
  pub call : entry.call ≡ call.Advance to
  pub now : entry.now ≡ (replay version1 entries).time.moment
  pub still : some_can_go (replay version1 entries) (segments_of app entries) ≡ false
  pub next : next_deadline (replay version1 entries) ≡ Some to

advance_succeeds : (state : MachineState) (task : ℕ) (now : Moment) (to : ℕ) → state.time.moment.ms < to → is_success (step state task now (call.Advance to)).0.answer ≡ true
advance_succeeds state task now to behind = ap (λ (r : Replied × TimeState). is_success r.0.answer) (cond-true (nat_lt state.time.moment.ms to) _ _ (lt-ltb state.time.moment.ms to behind))

-- an advance to the next deadline
pub time_goes_on : (app : Application) (entries : List Entry) (entry : Entry) (to : ℕ) → IsUnderWay app entries → IsDue app entries entry to → reply_of entry.reply ≡ (step (replay version1 entries) entry.task entry.now entry.call).0 → IsUnderWay app (entries ++ entry ∷ [])
time_goes_on app entries entry to way due replied =
    let succeeds : is_success entry.reply.answer ≡ true = ap (λ (r : Replied). is_success r.answer) replied ∙ ap (λ c. is_success (step (replay version1 entries) entry.task entry.now c).0.answer) due.call ∙ advance_succeeds (replay version1 entries) entry.task entry.now to (next_behind (replay version1 entries) to due.next) in
    own_goes_on app entries entry way due.task
    (record { caller = due.caller; call = ap (λ c. is_machine_call c entry.reply.answer) due.call ∙ succeeds })
    due.now
    (subst (IsTimelyCall (replay version1 entries) (segments_of app entries)) (sym due.call) (due.still, due.next))
    replied

-- the console gives bytes where some are pending
pub record IsPendingDrain (entries : List Entry) (entry : Entry) : Type 0 where
  pub caller : entry.caller ≡ 0
  pub task : entry.task ≡ 0
  pub call : entry.call ≡ call.Drain drain_limit
  pub now : entry.now ≡ (replay version1 entries).time.moment
  pub pending : is_pending (replay version1 entries).console ≡ true

-- a drain of bytes that are pending
pub console_drains : (app : Application) (entries : List Entry) (entry : Entry) → IsUnderWay app entries → IsPendingDrain entries entry → reply_of entry.reply ≡ (step (replay version1 entries) entry.task entry.now entry.call).0 → IsUnderWay app (entries ++ entry ∷ [])
console_drains app entries entry way drain replied =
    let state : MachineState = replay version1 entries in
    let some : is_some_count entry.reply.answer ≡ true = ap (λ (r : Replied). is_some_count r.answer) replied ∙ ap (λ c. is_some_count (step state entry.task entry.now c).0.answer) drain.call ∙ drain_gives state entry.task entry.now drain.pending in
    own_goes_on app entries entry way drain.task
    (record { caller = drain.caller; call = ap (λ c. is_machine_call c entry.reply.answer) drain.call ∙ some })
    drain.now
    (subst (IsTimelyCall state (segments_of app entries)) (sym drain.call) tt)
    replied

-- the first task's creation, at the start of time
pub first_goes : (app : Application) (first : Entry) → CreatesFirst app.bodies first → first.now ≡ record { ms = 0 } → reply_of first.reply ≡ (step (opening version1) first.task first.now first.call).0 → IsUnderWay app (first ∷ [])
first_goes app first creates now replied =
    let plain = first_still app.bodies first creates in
    record {
      begun = omega arith;
      part = record {
        legal = (replied, tt);
        follows = record { begins = (creates, tt); timed = (now, tt); scripts = begun_follows app first; ended = begun_ends app first };
        timely = (still_timely (opening version1) [] first.call plain, tt);
      };
      linked = linked_first app first replied creates;
      moment = time_after (opening version1) first.task first.now first.call (λ e. absurd (false≢true (sym plain ∙ e)));
    }
