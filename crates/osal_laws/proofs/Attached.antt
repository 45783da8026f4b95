-- In every history the timers are attached to their timebases, so that a tick tells of few.
use Rattle.std.proofs.Common.{◌≡◌, ◌≤◌, ◌*◌, ◌+◌, ◌==◌, ℕ, List, [], ◌∷◌, length, min, nat_lt, Some, refl, sym, ap, subst, ◌∙◌, arith}
use Rattle.std.proofs.lemmas.Bool.{cond_both}
use Rattle.std.proofs.lemmas.List.{length-append}
use Rattle.osal_base.specs.declared.limits.Limits.{Limits}
use Rattle.osal_base.specs.declared.time.Moment.{Moment}
use Rattle.osal_base.specs.Limits.{version1}
use Rattle.osal_base.specs.Reply.{Replied}
use Rattle.osal_idtable.specs.Table.{Active}
use Rattle.osal_time.specs.Timebase.{Timebase, sum_limit}
use Rattle.osal_call.specs.Firing.{timer_limit}
use Rattle.osal_object.specs.Outcomes.{Outcome, carried_out}
use Rattle.osal_object.proofs.Carried.{of_found}
use Rattle.osal_time.specs.Ticks.{firings, run_of, timebase_tick}
use Rattle.osal_call.specs.Firing.{Firing, bytes_of}
use Rattle.osal_time.specs.Time.{TimeState, timebase_at, timer_at, in_timebases, in_timers, done}
use Rattle.osal_time.specs.Attachment.{AreAttached}
use Rattle.osal_time.proofs.Attached.{timers_stay_attached}
use Rattle.osal_time.proofs.FewFire.{few_fire}
use Rattle.osal_call.specs.declared.call.Call.{Call}
use Rattle.osal_call.specs.declared.call.Call.TheVariants as call
use Rattle.osal_call.specs.declared.call.Entry.{Entry}
use Rattle.osal_time.specs.Calls.{time_step}
use Rattle.osal_machine.specs.Step.{MachineState, opening, step}
use Rattle.osal_machine.specs.History.{after_entry, replay_from, replay}
use Rattle.osal_laws.specs.Laws.{TimersAreAttached, TicksFireFew}
use Rattle.osal_laws.proofs.Histories.{legal_last}
use Rattle.osal_laws.proofs.Own.{after_time}

-- a call of the time part leaves the timers attached
attached_by : (limits : Limits) (time : TimeState) (task : ℕ) (now : Moment) (made : Call) → AreAttached limits.timers time → AreAttached limits.timers (time_step time task now made).1
attached_by limits time task now (call.TimebaseCreate name) all = (timers_stay_attached limits).create time task now name.bytes all
attached_by limits time task now (call.TimebaseTick id usecs) all = (timers_stay_attached limits).tick time task now id usecs all
attached_by limits time task now (call.TimebaseDelete id) all = (timers_stay_attached limits).delete time task now id all
attached_by limits time task now (call.TimerAdd name timebase handler) all =
    (timers_stay_attached limits).add time task now name.bytes timebase handler all
attached_by limits time task now (call.TimerSet id start interval) all =
    (timers_stay_attached limits).set time task now id start interval all
attached_by limits time task now (call.TimerDelete id) all = (timers_stay_attached limits).remove time task now id all
attached_by limits time task now (call.Hold id) all = (timers_stay_attached limits).hold time task now id all
attached_by limits time task now (call.Release id) all = (timers_stay_attached limits).release time task now id all
attached_by limits time task now (call.Advance to) all = (timers_stay_attached limits).advance time task now to all
attached_by limits time task now (call.TimebaseFreeRun id) all =
    of_found (λ stepped. AreAttached limits.timers (in_timebases time stepped).1) time.timebases _ (timebase_at time id) all (λ active is. all)
attached_by limits time task now (call.TimerInfo id) all =
    of_found (λ stepped. AreAttached limits.timers (in_timers time stepped).1) time.timers _ (timer_at time id) all (λ active is. all)
attached_by limits time task now other all = all

-- a call of the machine leaves the timers attached
pub attached_kept : (n : ℕ) (state : MachineState) (task : ℕ) (now : Moment) (made : Call) → AreAttached n state.time → AreAttached n (step state task now made).1.time
attached_kept n state task now made all =
    after_time state task now made (AreAttached n) all (attached_by (record version1 { timers = n }) state.time task now made all)

attached_from : (n : ℕ) (entries : List Entry) (state : MachineState) → AreAttached n state.time → AreAttached n (replay_from state entries).time
attached_from n [] state all = all
attached_from n (entry ∷ entries) state all =
    attached_from n entries (after_entry state entry) (attached_kept n state entry.task entry.now entry.call all)

-- in every history the timers are attached
pub attached_replayed : TimersAreAttached
attached_replayed limits entries fits =
    attached_from limits.timers entries (opening limits) ((timers_stay_attached limits).start fits)

-- a firing is told in twelve bytes
twelve_each : (firings : List Firing) → length (bytes_of firings) ≡ 12 * length firings
twelve_each [] = refl
twelve_each (firing ∷ firings) = let rest = twelve_each firings in grind (arith, length-append)

-- a reply tells of few timers
abbrev TellsFew : ℕ → Replied → Type 0
TellsFew n reply = length reply.bytes ≤ 12 * min timer_limit n

run_few : (n : ℕ) (time : TimeState) (task : ℕ) (now : Moment) (id usecs : ℕ) (active : Active Timebase) → AreAttached n time → timebase_at time id ≡ Some active → TellsFew n (carried_out time.timebases task now (run_of time.timers.table id usecs active)).0
run_few n time task now id usecs active all is =
    let to = active.object.sum + usecs in
    let few = few_fire time n id active active.object.sum to all is in
    let long = twelve_each (firings time.timers.table active.object.sum to active.object.timers) in
    cond_both (nat_lt sum_limit to) _ _ (λ (outcome : Outcome Timebase (Unit {0})). TellsFew n (carried_out time.timebases task now outcome).0)
    (λ past. omega arith)
    (λ within. omega arith)

-- a tick tells of few timers where they are attached
pub tick_few : (n : ℕ) (time : TimeState) (task : ℕ) (now : Moment) (id usecs : ℕ) → AreAttached n time → TellsFew n (done time task now (timebase_tick time id usecs)).0
tick_few n time task now id usecs all =
    cond_both (usecs == 0) _ _ (λ (outcome : Outcome Timebase (Unit {0})). TellsFew n (carried_out time.timebases task now outcome).0)
    (λ none. omega arith)
    (λ some. of_found (λ stepped. TellsFew n stepped.0) time.timebases (λ active. carried_out time.timebases task now (run_of time.timers.table id usecs active)) (timebase_at time id) (omega arith) (λ active is. run_few n time task now id usecs active all is))

-- in every legal history a tick tells of few timers
pub ticks_few : TicksFireFew
ticks_few limits before entry id usecs fits legal is =
    let state = replay limits before in
    let few = tick_few limits.timers state.time entry.task entry.now id usecs (attached_replayed limits before fits) in
    subst (λ (reply : Replied). length reply.bytes ≤ 12 * min timer_limit limits.timers)
    (sym (legal_last (opening limits) before entry legal ∙ ap (λ made. (step state entry.task entry.now made).0) is)) few
