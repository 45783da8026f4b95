-- What a hold of a task, and each call of the time part and of the console, does to the holds of an identifier.
use Rattle.std.proofs.Common.{◌≡◌, ◌==◌, ◌||◌, ℕ, true, false, cond, List, nat_lt, refl, subst}
use Rattle.std.proofs.lemmas.Bool.{cond_both, both_ways}
use Rattle.osal_base.specs.declared.status.Status.TheVariants as status
use Rattle.osal_base.specs.declared.time.Moment.{Moment}
use Rattle.osal_base.specs.declared.time.Timeout.TheVariants as timeout
use Rattle.osal_base.specs.Reply.{Replied, is_success}
use Rattle.osal_object.specs.Objects.{ObjectsState}
use Rattle.osal_object.specs.Outcomes.{Outcome, Write, Refuse, Hold, Release, carried_out}
use Rattle.osal_object.specs.Across.{across}
use Rattle.osal_object.specs.ObjectLaws.{IsCounted}
use Rattle.osal_object.proofs.Balance.{AreBalanced}
use Rattle.osal_object.proofs.Carried.{of_found}
use Rattle.osal_object.proofs.Moves.{either}
use Rattle.osal_task.specs.declared.part.Task.{Task}
use Rattle.osal_task.specs.Tasks.{TaskState, task_at}
use Rattle.osal_time.specs.Timebase.{Timebase}
use Rattle.osal_time.specs.declared.timer.Timer.{Timer}
use Rattle.osal_time.specs.Time.{TimeState, TimeCall, OnTimebases, OnTimers, OnBoth, Advance, is_timer, done}
use Rattle.osal_call.specs.declared.call.Call.{Call}
use Rattle.osal_call.specs.declared.call.Call.TheVariants as call
use Rattle.osal_task.specs.Calls.{task_call}
use Rattle.osal_time.specs.Calls.{time_call, time_step}
use Rattle.osal_laws.proofs.Known.{seen_as}
use Rattle.osal_laws.proofs.TimeKnown.{SuitsCall, fits}
use Rattle.osal_laws.proofs.ConsoleKnown.{written_each}
use Rattle.osal_console.specs.Console.{ConsoleState, Stepped, drain_limit, console_step}
use Rattle.osal_laws.proofs.Quiet.{same_balanced, written_balanced, quiet_balanced}
use Rattle.osal_laws.proofs.Suits.{is_holding}
use Rattle.osal_laws.proofs.Shifts.{ShiftsBy, of_holding, differ, differ_too, quiet_shifts, others_hold, others_release, refused_hold, hold_shifts, release_shifts}

module _ (tasks : TaskState) (q : ℕ) (task : ℕ) (now : Moment) where
  -- a hold of a task, which is refused where it is marked for deletion
  pub task_hold : (id : ℕ) → ShiftsBy q (call.Hold id) tasks.objects (carried_out tasks.objects task now (task_call task (call.Hold id)))
  task_hold id =
      of_found (ShiftsBy q (call.Hold id) tasks.objects) tasks.objects _ (task_at tasks id) (refused_hold tasks.objects q id)
      (λ active at. either (λ (outcome : Outcome Task (Unit {0})). ShiftsBy q (call.Hold id) tasks.objects (carried_out tasks.objects task now outcome)) active.object.marked (Refuse status.ErrIncorrectObjState) (Hold id) (refused_hold tasks.objects q id) (hold_shifts tasks.objects q id))

module _ (time : TimeState) (bases : IsCounted time.timebases) (timers : IsCounted time.timers) (task : ℕ) (now : Moment) (q : ℕ) where
  -- what a call of the time part does to the holds of a timebase and to those of a timer
  pub record ShiftsTime (made : Call) (stepped : Replied × TimeState) : Type 0 where
    pub timer : is_timer q ≡ true → ShiftsBy q made time.timers (stepped.0, stepped.1.timers)
    pub timebase : is_timer q ≡ false → ShiftsBy q made time.timebases (stepped.0, stepped.1.timebases)

  across_balanced : {T W : Type 0} (reply : Replied) (writes : Replied → List (Write T W)) (objects : ObjectsState T W) → AreBalanced objects (across reply writes objects)
  across_balanced reply writes objects =
      either (AreBalanced objects) (is_success reply.answer) _ _ (written_balanced objects (writes reply)) (same_balanced objects)

  quiet_done : (made : TimeCall) → SuitsCall time task now false made → AreBalanced time.timebases (done time task now made).1.timebases × AreBalanced time.timers (done time task now made).1.timers
  quiet_done (OnTimebases outcome) suits =
      (quiet_balanced time.timebases bases task now timeout.Check outcome suits, same_balanced time.timers)
  quiet_done (OnTimers outcome) suits =
      (same_balanced time.timebases, quiet_balanced time.timers timers task now timeout.Check outcome suits)
  quiet_done (OnBoth outcome writes) suits = (
    across_balanced (carried_out time.timers task now outcome).0 writes time.timebases,
    quiet_balanced time.timers timers task now timeout.Check outcome suits,
  )
  quiet_done (Advance to) suits =
      either (λ (s : Replied × TimeState). AreBalanced time.timebases s.1.timebases × AreBalanced time.timers s.1.timers) (nat_lt time.moment.ms to) _ _
      (same_balanced time.timebases, same_balanced time.timers) (same_balanced time.timebases, same_balanced time.timers)

  quiet_step : (made : Call) → is_holding made ≡ false → ShiftsTime made (time_step time task now made)
  quiet_step made none =
      let both = quiet_done (time_call time made) (subst (λ holding. SuitsCall time task now holding (time_call time made)) none (fits time task now made)) in
      let stepped = time_step time task now made in
      record {
        timer = λ own. quiet_shifts q made time.timers (stepped.0, stepped.1.timers) none both.1;
        timebase = λ other. quiet_shifts q made time.timebases (stepped.0, stepped.1.timebases) none both.0;
      }

  -- a hold or a release, which shifts the holds of its own identifier and of no other
  time_held : (made : Call) (id : ℕ) (of_timers : Outcome Timer (Unit {0})) (of_bases : Outcome Timebase (Unit {0})) → ShiftsBy q made time.timers (carried_out time.timers task now of_timers) → ShiftsBy q made time.timebases (carried_out time.timebases task now of_bases) → ((T W : Type 0) (objects : ObjectsState T W) (reply : Replied) → (id ≡ q → ⊥) → ShiftsBy q made objects (reply, objects)) → ShiftsTime made (done time task now (cond (is_timer id) (OnTimers of_timers) (OnTimebases of_bases)))
  time_held made id of_timers of_bases timer base others =
      cond_both (is_timer id) (OnTimers of_timers) (OnTimebases of_bases) (λ by. ShiftsTime made (done time task now by))
      (λ own. record {
        timer = λ also. timer;
        timebase = λ other. others _ _ time.timebases (carried_out time.timers task now of_timers).0 (differ is_timer id q own other);
      })
      (λ other. record {
        timer = λ own. others _ _ time.timers (carried_out time.timebases task now of_bases).0 (differ_too is_timer id q other own);
        timebase = λ also. base;
      })

  -- each call of the part shifts them by what it is and answers
  pub time_shifts : (made : Call) → ShiftsTime made (time_step time task now made)
  time_shifts =
      of_holding (λ made. ShiftsTime made (time_step time task now made))
      (λ id. time_held (call.Hold id) id (Hold id) (Hold id) (hold_shifts time.timers q id) (hold_shifts time.timebases q id) (λ T W objects. others_hold q objects id))
      (λ id. time_held (call.Release id) id (Release id) (Release id) (release_shifts time.timers q id) (release_shifts time.timebases q id) (λ T W objects. others_release q objects id))
      quiet_step

module _ (console : ConsoleState) (task : ℕ) (now : Moment) where
  -- a call that neither holds nor releases leaves the table
  abbrev Balances : Stepped → Type 0
  Balances stepped = AreBalanced console.objects stepped.1.objects

  console_balanced : (made : Call) → is_holding made ≡ false → Balances (console_step console task now made)
  console_balanced (call.ConsoleWrite text) none =
      written_each console task now Balances (same_balanced console.objects) (λ pending. same_balanced console.objects) (same_balanced console.objects) text
  console_balanced (call.Drain n) none =
      either Balances ((n == 0) || nat_lt drain_limit n) _ _ (same_balanced console.objects) (same_balanced console.objects)
  console_balanced (call.Hold id) none = absurd (both_ways _ none refl)
  console_balanced (call.Release id) none = absurd (both_ways _ none refl)
  console_balanced _ none = same_balanced console.objects

-- a call of the console shifts the holds of an identifier by what it is and answers
pub console_shifts : (console : ConsoleState) (task : ℕ) (now : Moment) (q : ℕ) (made : Call) → ShiftsBy q made console.objects (seen_as (λ (s : ConsoleState). s.objects) (console_step console task now made))
console_shifts console task now q =
    of_holding (λ made. ShiftsBy q made console.objects (seen_as (λ (s : ConsoleState). s.objects) (console_step console task now made)))
    (λ id. hold_shifts console.objects q id)
    (λ id. release_shifts console.objects q id)
    (λ made none. quiet_shifts q made console.objects (seen_as (λ (s : ConsoleState). s.objects) (console_step console task now made)) none (console_balanced console task now made none))
