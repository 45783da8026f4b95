-- Time goes on by an advance alone.
use Rattle.std.proofs.Common.{◌≡◌, ℕ, false, refl, sym}
use Rattle.std.proofs.lemmas.Bool.{false≢true}
use Rattle.osal_base.specs.declared.time.Moment.{Moment}
use Rattle.osal_time.specs.Time.{TimeState, TimeCall, is_timer, done}
use Rattle.osal_time.specs.Calls.{time_step}
use Rattle.osal_call.specs.declared.call.Call.{Call}
use Rattle.osal_call.specs.declared.call.Call.TheVariants as call
use Rattle.osal_object.proofs.Moves.{either}
use Rattle.osal_runs.specs.Runs.{is_advance}

module _ (time : TimeState) (task : ℕ) (now : Moment) where
  -- a call leaves the moment
  abbrev Stays : TimeCall → Type 0
  Stays made = (done time task now made).1.moment ≡ time.moment

  -- any other call of the time part leaves the moment
  pub moment_stays : (made : Call) → is_advance made ≡ false → (time_step time task now made).1.moment ≡ time.moment
  moment_stays (call.Hold id) none = either Stays (is_timer id) _ _ refl refl
  moment_stays (call.Release id) none = either Stays (is_timer id) _ _ refl refl
  moment_stays (call.Advance to) none = absurd (false≢true (sym none))
  moment_stays _ none = refl
