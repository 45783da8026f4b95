-- Each call of the mutex part is known by its outcome.
use Rattle.std.proofs.Common.{◌≡◌, ◌==◌, ℕ, true, false, Option, Some, None, nat_lt, is_some, refl, ap}
use Rattle.std.proofs.lemmas.Bool.{true≢false}
use Rattle.osal_base.specs.declared.time.Moment.{Moment}
use Rattle.osal_base.specs.declared.time.Timeout.TheVariants as timeout
use Rattle.osal_object.specs.declared.waits.WaitRecord.{WaitRecord}
use Rattle.osal_idtable.specs.Table.{Active}
use Rattle.osal_idtable.specs.Holds.{is_held}
use Rattle.osal_object.specs.Waits.{wait_of}
use Rattle.osal_object.specs.Objects.{ObjectsState}
use Rattle.osal_object.specs.Outcomes.{looks}
use Rattle.osal_object.proofs.Moves.{either}
use Rattle.osal_object.proofs.Carried.{FitsEnding, abandon_is}
use Rattle.osal_mutex.specs.declared.mutex.Lock.{Lock}
use Rattle.osal_mutex.specs.declared.mutex.Lock.TheVariants as lock
use Rattle.osal_mutex.specs.declared.mutex.Mutex.{Mutex}
use Rattle.osal_mutex.specs.Mutexes.{MutexState, mutex_at, is_owned, nesting_limit, done, take_of, give_of, taken_of, taken_from, take_ending}
use Rattle.osal_call.specs.declared.call.Call.{Call}
use Rattle.osal_call.specs.declared.call.Call.TheVariants as call
use Rattle.osal_call.specs.Signature.{part_of, subject_of, is_refused_before, timeout_of, ends_wait}
use Rattle.osal_mutex.specs.Mutexes.{mutex_call, mutex_step}
use Rattle.osal_laws.proofs.Known.{Known, seen_as}
use Rattle.osal_laws.proofs.Suits.{is_holding, Suits}

take_fits : (mutexes : MutexState) (task id : ℕ) (mutex : Mutex) (lock_now : Lock) → is_some (mutex_at mutexes id) ≡ true → Suits false mutexes.objects timeout.Pend (take_of task id mutex lock_now)
take_fits mutexes task id mutex lock.Free there = tt
take_fits mutexes task id mutex (lock.Owned owner depth) there =
    either (Suits false mutexes.objects timeout.Pend) (owner == task) _ _
    (either (Suits false mutexes.objects timeout.Pend) (nat_lt depth nesting_limit) _ _ tt tt)
    (refl, refl, (there, refl, tt))

give_fits : (mutexes : MutexState) (task id : ℕ) (mutex : Mutex) (lock_now : Lock) → Suits false mutexes.objects timeout.Check (give_of task id mutex lock_now)
give_fits mutexes task id mutex lock.Free = tt
give_fits mutexes task id mutex (lock.Owned owner depth) =
    either (Suits false mutexes.objects timeout.Check) (owner == task) _ _ tt tt

fits : (mutexes : MutexState) (task : ℕ) (made : Call) → ends_wait made ≡ false → Suits (is_holding made) mutexes.objects (timeout_of made) (mutex_call task made)
fits mutexes task (call.MutSemTake id) other = λ active at.
    take_fits mutexes task id active.object active.object.lock (ap is_some at)
fits mutexes task (call.MutSemGive id) other = λ active at.
    give_fits mutexes task id active.object active.object.lock
fits mutexes task (call.MutSemDelete id) other = λ active at.
    either (Suits false mutexes.objects timeout.Check) (is_held (Some active)) _ _ tt
    (either (Suits false mutexes.objects timeout.Check) (is_owned active.object.lock) _ _ tt tt)
fits mutexes task (call.MutSemInfo id) other = λ active at. tt
fits mutexes task (call.Hold id) other = refl
fits mutexes task (call.Release id) other = refl
fits mutexes task _ other = tt

looks_at : (task : ℕ) (made : Call) (id : ℕ) → part_of made ≡ 4 → subject_of task made ≡ Some id → is_refused_before made ≡ false → looks (mutex_call task made) ≡ Some id
looks_at task (call.MutSemTake id) other own on may = on
looks_at task (call.MutSemGive id) other own on may = on
looks_at task (call.MutSemDelete id) other own on may = on
looks_at task (call.MutSemInfo id) other own on may = on
looks_at task (call.Hold id) other own on may = on
looks_at task (call.Release id) other own on may = on
looks_at task _ other own on may = absurd (cc)

taken_fits : (wait : WaitRecord ℕ) (task : ℕ) (mutex : Mutex) (lock_now : Lock) → FitsEnding (Some wait) (taken_of task wait.what mutex lock_now)
taken_fits wait task mutex lock.Free = (refl, refl)
taken_fits wait task mutex (lock.Owned owner depth) = refl

from_fits : (wait : WaitRecord ℕ) (task : ℕ) (found : Option (Active Mutex)) → FitsEnding (Some wait) (taken_from task wait.what found)
from_fits wait task None = refl
from_fits wait task (Some active) = taken_fits wait task active.object active.object.lock

ends_fit : (mutexes : MutexState) (task : ℕ) (found : Option (WaitRecord ℕ)) → FitsEnding found (take_ending mutexes task found)
ends_fit mutexes task None = refl
ends_fit mutexes task (Some wait) = from_fits wait task (mutex_at mutexes wait.what)

by_outcome : (mutexes : MutexState) (task : ℕ) (now : Moment) (made : Call) → ends_wait made ≡ false → mutex_step mutexes task now made ≡ done mutexes task now (mutex_call task made)
by_outcome mutexes task now (call.WaitEnd part) other = absurd (true≢false other)
by_outcome mutexes task now (call.WaitAbandon part) other = absurd (true≢false other)
by_outcome mutexes task now _ other = refl

-- each call of the mutex part is known by its outcome
pub mutexes_known : Known 4 (λ part. true) (λ (mutexes : MutexState). mutexes.objects) (λ mutexes task made. mutex_call task made) (λ mutexes task now. take_ending mutexes task (wait_of mutexes.objects.waits task)) mutex_step
mutexes_known = record {
  whole = λ old new same. ap (λ (o : ObjectsState Mutex ℕ). record { objects = o }) same;
  calls = λ mutexes task now made other. ap (seen_as (λ (s : MutexState). s.objects)) (by_outcome mutexes task now made other);
  fits = λ mutexes task made other. fits mutexes task made other;
  looks_at = λ mutexes task made id own on may. looks_at task made id own on may;
  owns = refl;
  ends = λ mutexes task now part. refl;
  ends_fit = λ mutexes task now. ends_fit mutexes task (wait_of mutexes.objects.waits task);
  abandons = λ mutexes task now part. abandon_is mutexes.objects task;
}
