-- Each call of the condition variable part is known by its outcome.
use Rattle.std.proofs.Common.{◌≡◌, ◌==◌, ◌&&◌, ℕ, true, false, not, Option, Some, None, is_some, refl, ap}
use Rattle.std.proofs.lemmas.Bool.{cond_both, true≢false}
use Rattle.osal_base.specs.declared.time.Moment.{Moment}
use Rattle.osal_base.specs.declared.time.Timeout.TheVariants as timeout
use Rattle.osal_base.specs.Time.{is_check}
use Rattle.osal_object.specs.declared.waits.WaitRecord.{WaitRecord}
use Rattle.osal_idtable.specs.Holds.{is_held}
use Rattle.osal_object.specs.Waits.{wait_of, is_due}
use Rattle.osal_object.specs.Objects.{ObjectsState}
use Rattle.osal_object.specs.Outcomes.{looks}
use Rattle.osal_object.proofs.Moves.{either}
use Rattle.osal_object.proofs.Carried.{FitsEnding, abandon_is}
use Rattle.osal_condvar.specs.declared.condvar.Condvar.{Condvar}
use Rattle.osal_condvar.specs.declared.condvar.CondvarWait.{CondvarWait}
use Rattle.osal_condvar.specs.Condvars.{CondvarState, condvar_at, is_owner, is_free, is_signal, done, lock_of, wait_ending}
use Rattle.osal_call.specs.declared.call.Call.{Call}
use Rattle.osal_call.specs.declared.call.Call.TheVariants as call
use Rattle.osal_call.specs.Signature.{part_of, subject_of, is_refused_before, timeout_of, ends_wait}
use Rattle.osal_condvar.specs.Condvars.{condvar_call, condvar_step}
use Rattle.osal_laws.proofs.Known.{Known, seen_as}
use Rattle.osal_laws.proofs.Suits.{is_holding, Suits}

lock_fits : (condvars : CondvarState) (task id : ℕ) (owner : Option ℕ) → is_some (condvar_at condvars id) ≡ true → Suits false condvars.objects timeout.Pend (lock_of task id owner)
lock_fits condvars task id None there = tt
lock_fits condvars task id (Some owner) there =
    either (Suits false condvars.objects timeout.Pend) (owner == task) _ _ tt (refl, refl, (there, refl, tt))

fits : (condvars : CondvarState) (task : ℕ) (made : Call) → ends_wait made ≡ false → Suits (is_holding made) condvars.objects (timeout_of made) (condvar_call condvars task made)
fits condvars task (call.CondvarLock id) other = λ active at.
    lock_fits condvars task id active.object.owner (ap is_some at)
fits condvars task (call.CondvarUnlock id) other = λ active at.
    either (Suits false condvars.objects timeout.Check) (is_owner active.object.owner task) _ _ tt tt
fits condvars task (call.CondvarSignal id) other = λ active at. tt
fits condvars task (call.CondvarBroadcast id) other = λ active at. tt
fits condvars task (call.CondvarWait id wait) other = λ active at.
    either (Suits false condvars.objects wait) (is_owner active.object.owner task) _ _
    (cond_both (is_check wait) _ _ (Suits false condvars.objects wait) (λ check. tt) (λ may. (refl, may, (ap is_some at, refl, tt))))
    tt
fits condvars task (call.CondvarDelete id) other = λ active at.
    either (Suits false condvars.objects timeout.Check) (is_held (Some active)) _ _ tt
    (either (Suits false condvars.objects timeout.Check) (is_some active.object.owner) _ _ tt tt)
fits condvars task (call.Hold id) other = refl
fits condvars task (call.Release id) other = refl
fits condvars task _ other = tt

looks_at : (condvars : CondvarState) (task : ℕ) (made : Call) (id : ℕ) → part_of made ≡ 5 → subject_of task made ≡ Some id → is_refused_before made ≡ false → looks (condvar_call condvars task made) ≡ Some id
looks_at condvars task (call.CondvarLock id) other own on may = on
looks_at condvars task (call.CondvarUnlock id) other own on may = on
looks_at condvars task (call.CondvarSignal id) other own on may = on
looks_at condvars task (call.CondvarBroadcast id) other own on may = on
looks_at condvars task (call.CondvarWait id wait) other own on may = on
looks_at condvars task (call.CondvarDelete id) other own on may = on
looks_at condvars task (call.Hold id) other own on may = on
looks_at condvars task (call.Release id) other own on may = on
looks_at condvars task _ other own on may = absurd (cc)

ends_fit : (condvars : CondvarState) (task : ℕ) (now : Moment) (found : Option (WaitRecord CondvarWait)) → FitsEnding found (wait_ending condvars task now found)
ends_fit condvars task now None = refl
ends_fit condvars task now (Some wait) =
    either (FitsEnding (Some wait)) (is_free (condvar_at condvars wait.what.id)) _ _
    (either (FitsEnding (Some wait)) (is_signal wait.what.aim && not wait.released) _ _
    (either (FitsEnding (Some wait)) (is_due wait now) _ _ (refl, refl) refl)
    (refl, refl))
    refl

by_outcome : (condvars : CondvarState) (task : ℕ) (now : Moment) (made : Call) → ends_wait made ≡ false → condvar_step condvars task now made ≡ done condvars task now (condvar_call condvars task made)
by_outcome condvars task now (call.WaitEnd part) other = absurd (true≢false other)
by_outcome condvars task now (call.WaitAbandon part) other = absurd (true≢false other)
by_outcome condvars task now _ other = refl

-- each call of the condition variable part is known by its outcome
pub condvars_known : Known 5 (λ part. true) (λ (condvars : CondvarState). condvars.objects) condvar_call (λ condvars task now. wait_ending condvars task now (wait_of condvars.objects.waits task)) condvar_step
condvars_known = record {
  whole = λ old new same. ap (λ (o : ObjectsState Condvar CondvarWait). record { objects = o }) same;
  calls = λ condvars task now made other. ap (seen_as (λ (s : CondvarState). s.objects)) (by_outcome condvars task now made other);
  fits = fits;
  looks_at = looks_at;
  owns = refl;
  ends = λ condvars task now part. refl;
  ends_fit = λ condvars task now. ends_fit condvars task now (wait_of condvars.objects.waits task);
  abandons = λ condvars task now part. abandon_is condvars.objects task;
}
