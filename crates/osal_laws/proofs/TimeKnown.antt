-- Each call of the time part is known by its outcome over the timebases or over the timers, and what it writes across.
use Rattle.std.proofs.Common.{◌≡◌, ◌==◌, ◌&&◌, ◌+◌, ℕ, List, Bool, true, false, cond, length, nat_lt, Option, Some, None, is_some, refl, sym, ap, subst, ◌∙◌, map}
use Rattle.std.proofs.lemmas.Bool.{cond-false, true≢false}
use Rattle.osal_base.specs.declared.status.Status.TheVariants as status
use Rattle.osal_base.specs.declared.time.Moment.{Moment}
use Rattle.osal_base.specs.declared.time.Timeout.TheVariants as timeout
use Rattle.osal_base.specs.Name.{name_fault}
use Rattle.osal_base.specs.Reply.{Replied, refusal, is_waits, is_refusal, is_success}
use Rattle.osal_idtable.specs.Table.{Active}
use Rattle.osal_idtable.specs.Faults.{unless}
use Rattle.osal_object.specs.Objects.{ObjectsState}
use Rattle.osal_object.specs.Outcomes.{Outcome, Named, Hold, Release, looks, carried_out, as_change}
use Rattle.osal_object.specs.Across.{across}
use Rattle.osal_object.proofs.Moves.{IsMove, either, stays}
use Rattle.osal_object.proofs.Refusals.{Leaves, fails, same, within}
use Rattle.osal_object.proofs.WaitSteps.{goes_on}
use Rattle.osal_object.proofs.Carried.{outcome_moves, outcome_keeps, outcome_waits, gone_refused}
use Rattle.osal_object.proofs.Across.{across_moves, across_keeps}
use Rattle.osal_time.specs.Timebase.{Timebase, sum_limit}
use Rattle.osal_call.specs.Firing.{timer_limit}
use Rattle.osal_time.specs.declared.timer.Timer.{Timer}
use Rattle.osal_time.specs.Time.{TimeState, TimeCall, OnTimebases, OnTimers, OnBoth, Advance, timebase_at, timer_at, is_timer, is_active, done}
use Rattle.osal_time.specs.Timers.{made_for}
use Rattle.osal_call.specs.declared.call.Call.{Call}
use Rattle.osal_call.specs.declared.call.Call.TheVariants as call
use Rattle.osal_call.specs.Signature.{signature, is_refused_before}
use Rattle.osal_call.specs.Signature as what
use Rattle.osal_time.specs.Calls.{time_call, time_step}
use Rattle.osal_laws.proofs.Suits.{is_holding, Suits, suits_fit}
use Rattle.osal_laws.proofs.Known.{none_of}
use Rattle.osal_object.proofs.Activity.{Alike, changes_alike}
use Rattle.osal_io.proofs.Makes.{AllButOne, move_one}

module _ (time : TimeState) (task : ℕ) (now : Moment) where
  -- the outcome of a call does not wait, and holds or releases only where the call does
  abbrev pub SuitsCall : Bool → TimeCall → Type 0
  SuitsCall holding (OnTimebases outcome) = Suits holding time.timebases timeout.Check outcome
  SuitsCall holding (OnTimers outcome) = Suits holding time.timers timeout.Check outcome
  SuitsCall holding (OnBoth outcome writes) = Suits holding time.timers timeout.Check outcome
  SuitsCall holding (Advance to) = Unit {0}

  -- a timer that is made for a timebase
  made_fits : (name : List ℕ) (id handler : ℕ) (found : Option (Active Timebase)) → Suits false time.timers timeout.Check (made_for name id handler found)
  made_fits name id handler None = tt
  made_fits name id handler (Some active) =
      either (Suits false time.timers timeout.Check) (nat_lt (length active.object.timers) timer_limit) _ _ tt tt

  -- what each call of the part does, does not wait
  pub fits : (made : Call) → SuitsCall (is_holding made) (time_call time made)
  fits (call.TimebaseTick id usecs) =
      either (Suits false time.timebases timeout.Check) (usecs == 0) _ _ tt
      (λ active at. either (Suits false time.timebases timeout.Check) (nat_lt sum_limit (active.object.sum + usecs)) _ _ tt tt)
  fits (call.TimebaseFreeRun id) = λ active at. tt
  fits (call.TimebaseDelete id) = λ active at.
      either (Suits false time.timebases timeout.Check) (nat_lt 0 (length active.object.timers)) _ _ tt tt
  fits (call.TimerAdd name timebase handler) = made_fits name.bytes timebase handler (timebase_at time timebase)
  fits (call.TimerSet id start interval) =
      either (Suits false time.timers timeout.Check) ((start == 0) && (interval == 0)) _ _ tt (λ active at. tt)
  fits (call.TimerInfo id) = λ active at. tt
  fits (call.Hold id) = either (SuitsCall true) (is_timer id) _ _ refl refl
  fits (call.Release id) = either (SuitsCall true) (is_timer id) _ _ refl refl
  fits _ = tt

  -- a step of the part makes one move of the timebases and one of the timers, and does not answer that it waits
  abbrev Goes : Replied × TimeState → Type 0
  Goes stepped =
      IsMove time.timebases stepped.1.timebases × IsMove time.timers stepped.1.timers × (is_waits stepped.0.answer ≡ false)

  by_timers : (holding : Bool) (outcome : Outcome Timer (Unit {0})) (timebases : ObjectsState Timebase (Unit {0})) → Suits holding time.timers timeout.Check outcome → IsMove time.timebases timebases → let stepped = carried_out time.timers task now outcome in Goes (stepped.0, record time { timebases = timebases; timers = stepped.1 })
  by_timers holding outcome timebases suits moves =
      let fits = suits_fit holding time.timers timeout.Check outcome suits in
      (moves, outcome_moves time.timers task now timeout.Check outcome fits, (goes_on refl (outcome_waits time.timers task now timeout.Check outcome fits)).0)

  done_goes : (holding : Bool) (made : TimeCall) → SuitsCall holding made → Goes (done time task now made)
  done_goes holding (OnTimebases outcome) suits =
      let fits = suits_fit holding time.timebases timeout.Check outcome suits in
      (outcome_moves time.timebases task now timeout.Check outcome fits, stays time.timers, (goes_on refl (outcome_waits time.timebases task now timeout.Check outcome fits)).0)
  done_goes holding (OnTimers outcome) suits = by_timers holding outcome time.timebases suits (stays time.timebases)
  done_goes holding (OnBoth outcome writes) suits =
      let reply = (carried_out time.timers task now outcome).0 in
      by_timers holding outcome (across reply writes time.timebases) suits (across_moves reply writes time.timebases)
  done_goes holding (Advance to) suits =
      either Goes (nat_lt time.moment.ms to) _ _ (stays time.timebases, stays time.timers, refl) (stays time.timebases, stays time.timers, refl)

  -- so does each call of the part
  pub time_goes : (made : Call) → Goes (time_step time task now made)
  time_goes made = done_goes (is_holding made) (time_call time made) (fits made)

  -- a refused step leaves the part
  abbrev Keeps : Replied × TimeState → Type 0
  Keeps stepped = Leaves is_refusal time stepped

  both_keep : (stepped : Replied × ObjectsState Timer (Unit {0})) (timebases : ObjectsState Timebase (Unit {0})) → Leaves is_refusal time.timers stepped → (is_refusal stepped.0.answer ≡ true → timebases ≡ time.timebases) → Keeps (stepped.0, record time { timebases = timebases; timers = stepped.1 })
  both_keep stepped timebases leaves others = record {
    left = λ refused.
        ap (λ o. record time { timebases = o; timers = stepped.1 }) (others refused)
        ∙ ap (λ o. record time { timers = o }) (leaves.left refused);
  }

  done_keeps : (made : TimeCall) → Keeps (done time task now made)
  done_keeps (OnTimebases outcome) =
      within (λ o. record time { timebases = o }) (outcome_keeps time.timebases task now outcome)
  done_keeps (OnTimers outcome) =
      within (λ o. record time { timers = o }) (outcome_keeps time.timers task now outcome)
  done_keeps (OnBoth outcome writes) =
      let stepped = carried_out time.timers task now outcome in
      both_keep stepped (across stepped.0 writes time.timebases) (outcome_keeps time.timers task now outcome)
      (across_keeps stepped.0 writes time.timebases)
  done_keeps (Advance to) = either Keeps (nat_lt time.moment.ms to) _ _ (fails refl) same

  -- a refused call of the part leaves it
  pub time_keeps : (made : Call) → Keeps (time_step time task now made)
  time_keeps made = done_keeps (time_call time made)

  -- the identifier of a timebase, and that of a timer, that a call looks at
  abbrev looks_for_timebase : TimeCall → Option ℕ
  looks_for_timebase (OnTimebases outcome) = looks outcome
  looks_for_timebase other = None

  abbrev looks_for_timer : TimeCall → Option ℕ
  looks_for_timer (OnTimers outcome) = looks outcome
  looks_for_timer (OnBoth outcome writes) = looks outcome
  looks_for_timer other = None

  -- a call is refused, since its identifier is not active
  abbrev IsStale : Replied × TimeState → Type 0
  IsStale stepped = stepped.0 ≡ refusal status.ErrInvalidId

  timebase_gone : (made : TimeCall) (id : ℕ) → looks_for_timebase made ≡ Some id → is_some (timebase_at time id) ≡ false → IsStale (done time task now made)
  timebase_gone (OnTimebases outcome) id on gone =
      gone_refused time.timebases task now outcome id on (none_of (timebase_at time id) gone)
  timebase_gone _ id on gone = cc

  timer_gone : (made : TimeCall) (id : ℕ) → looks_for_timer made ≡ Some id → is_some (timer_at time id) ≡ false → IsStale (done time task now made)
  timer_gone (OnTimers outcome) id on gone =
      gone_refused time.timers task now outcome id on (none_of (timer_at time id) gone)
  timer_gone (OnBoth outcome writes) id on gone =
      gone_refused time.timers task now outcome id on (none_of (timer_at time id) gone)
  timer_gone _ id on gone = cc

  -- no timer is made for a timebase that is not there
  none_made : (name : List ℕ) (id handler : ℕ) (found : Option (Active Timebase)) → is_some (name_fault name) ≡ false → is_some found ≡ false → (carried_out time.timers task now (Named name (made_for name id handler found))).0 ≡ refusal status.ErrInvalidId
  none_made name id handler None may gone =
      ap (λ f. (unless f time.timers (refusal status.ErrInvalidId, time.timers)).0) (none_of (name_fault name) may)
  none_made name id handler (Some active) may gone = absurd (true≢false gone)

  -- a call on a timebase that is not there is refused by that, where nothing refuses it before
  pub timebases_stale : (made : Call) (id : ℕ) → (signature made).subject ≡ what.Object what.Timebases id → is_refused_before made ≡ false → is_some (timebase_at time id) ≡ false → IsStale (time_step time task now made)
  timebases_stale (call.TimebaseTick other usecs) id is may gone =
      let same : other ≡ id = cc in
      timebase_gone (time_call time (call.TimebaseTick other usecs)) id (ap looks (cond-false (usecs == 0) _ _ may) ∙ ap Some same) gone
  timebases_stale (call.TimebaseFreeRun other) id is may gone =
      let same : other ≡ id = cc in
      timebase_gone (time_call time (call.TimebaseFreeRun other)) id (ap Some same) gone
  timebases_stale (call.TimebaseDelete other) id is may gone =
      let same : other ≡ id = cc in
      timebase_gone (time_call time (call.TimebaseDelete other)) id (ap Some same) gone
  timebases_stale (call.TimerAdd name other handler) id is may gone =
      let same : id ≡ other = cc in
      none_made name.bytes other handler (timebase_at time other) may (ap (λ n. is_some (timebase_at time n)) (sym same) ∙ gone)
  timebases_stale _ id is may gone = absurd (cc)

  -- a call on a timer that is not there
  pub timers_stale : (made : Call) (id : ℕ) → (signature made).subject ≡ what.Object what.Timers id → is_refused_before made ≡ false → is_some (timer_at time id) ≡ false → IsStale (time_step time task now made)
  timers_stale (call.TimerSet other start interval) id is may gone =
      let same : other ≡ id = cc in
      timer_gone (time_call time (call.TimerSet other start interval)) id (ap looks (cond-false ((start == 0) && (interval == 0)) _ _ may) ∙ ap Some same) gone
  timers_stale (call.TimerDelete other) id is may gone =
      let same : other ≡ id = cc in
      timer_gone (time_call time (call.TimerDelete other)) id (ap Some same) gone
  timers_stale (call.TimerInfo other) id is may gone =
      let same : other ≡ id = cc in
      timer_gone (time_call time (call.TimerInfo other)) id (ap Some same) gone
  timers_stale _ id is may gone = absurd (cc)

  one_gone : (timer : Bool) (id : ℕ) (of_timers of_timebases : TimeCall) → looks_for_timer of_timers ≡ Some id → looks_for_timebase of_timebases ≡ Some id → cond timer (is_some (timer_at time id)) (is_some (timebase_at time id)) ≡ false → IsStale (done time task now (cond timer of_timers of_timebases))
  one_gone true id of_timers of_timebases as_timer as_timebase gone = timer_gone of_timers id as_timer gone
  one_gone false id of_timers of_timebases as_timer as_timebase gone = timebase_gone of_timebases id as_timebase gone

  -- a hold or a release of one that is not there
  pub either_stale : (made : Call) (id : ℕ) → (signature made).subject ≡ what.Object what.OfType id → is_active time id ≡ false → IsStale (time_step time task now made)
  either_stale (call.Hold other) id is gone =
      let same : id ≡ other = cc in
      subst (λ n. IsStale (time_step time task now (call.Hold n))) same
      (one_gone (is_timer id) id (OnTimers (Hold id)) (OnTimebases (Hold id)) refl refl gone)
  either_stale (call.Release other) id is gone =
      let same : id ≡ other = cc in
      subst (λ n. IsStale (time_step time task now (call.Release n))) same
      (one_gone (is_timer id) id (OnTimers (Release id)) (OnTimebases (Release id)) refl refl gone)
  either_stale _ id is gone = absurd (cc)

module _ {T W : Type 0} where
  across_alike : (reply : Replied) (writes : Replied → _) (objects : ObjectsState T W) → Alike objects.table (across reply writes objects).table
  across_alike reply writes objects =
      either (λ (o : ObjectsState T W). Alike objects.table o.table) (is_success reply.answer) _ _
      (changes_alike objects (map as_change (writes reply)))
      (λ q. refl)

-- a choice of two that are the same is the same
pub same_choice : (first : Bool) {a b c d : Bool} → a ≡ b → c ≡ d → cond first a c ≡ cond first b d
same_choice true one other = one
same_choice false one other = other

module _ (time : TimeState) (task : ℕ) (now : Moment) where
  -- a step of the time part leaves all but one identifier
  abbrev LeavesAllButOne : Replied × TimeState → Type 0
  LeavesAllButOne stepped = AllButOne (λ q. is_active time q) (λ q. is_active stepped.1 q)

  -- a call of the time part makes at most one identifier active or not active
  pub time_one : (holding : Bool) (made : TimeCall) → SuitsCall time task now holding made → LeavesAllButOne (done time task now made)
  time_one holding (OnTimebases outcome) fits =
      let one = move_one (outcome_moves time.timebases task now timeout.Check outcome (suits_fit holding time.timebases timeout.Check outcome fits)) in
      (one.0, λ q ne. same_choice (is_timer q) refl (one.1 q ne))
  time_one holding (OnTimers outcome) fits =
      let one = move_one (outcome_moves time.timers task now timeout.Check outcome (suits_fit holding time.timers timeout.Check outcome fits)) in
      (one.0, λ q ne. same_choice (is_timer q) (one.1 q ne) refl)
  time_one holding (OnBoth outcome writes) fits =
      let one = move_one (outcome_moves time.timers task now timeout.Check outcome (suits_fit holding time.timers timeout.Check outcome fits)) in
      (one.0, λ q ne. same_choice (is_timer q) (one.1 q ne) (across_alike (carried_out time.timers task now outcome).0 writes time.timebases q))
  time_one holding (Advance to) fits = either LeavesAllButOne (nat_lt time.moment.ms to) _ _ (0, λ q ne. refl) (0, λ q ne. refl)
