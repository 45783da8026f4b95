-- Each call of the binary semaphore part is known by its outcome.
use Rattle.std.proofs.Common.{◌≡◌, ℕ, true, false, Option, Some, None, is_some, refl, ap}
use Rattle.std.proofs.lemmas.Bool.{cond_both, true≢false}
use Rattle.osal_base.specs.declared.time.Moment.{Moment}
use Rattle.osal_base.specs.Time.{is_check}
use Rattle.osal_object.specs.declared.waits.WaitRecord.{WaitRecord}
use Rattle.osal_object.specs.Waits.{wait_of, is_due}
use Rattle.osal_object.specs.Objects.{ObjectsState}
use Rattle.osal_object.specs.Outcomes.{looks}
use Rattle.osal_object.proofs.Moves.{either}
use Rattle.osal_object.proofs.Carried.{FitsEnding, abandon_is}
use Rattle.osal_sem.specs.declared.binary.BinSem.{BinSem}
use Rattle.osal_sem.specs.Binary.{BinSemState, bin_sem_at, is_full, done, take_ending}
use Rattle.osal_call.specs.declared.call.Call.{Call}
use Rattle.osal_call.specs.declared.call.Call.TheVariants as call
use Rattle.osal_call.specs.Signature.{part_of, subject_of, is_refused_before, timeout_of, ends_wait}
use Rattle.osal_sem.specs.Binary.{bin_sem_call, bin_sem_step}
use Rattle.osal_laws.proofs.Known.{Known, seen_as}
use Rattle.osal_laws.proofs.Suits.{is_holding, Suits}

fits : (sems : BinSemState) (made : Call) → ends_wait made ≡ false → Suits (is_holding made) sems.objects (timeout_of made) (bin_sem_call made)
fits sems (call.BinSemGive id) other = λ active at. tt
fits sems (call.BinSemFlush id) other = λ active at. tt
fits sems (call.BinSemInfo id) other = λ active at. tt
fits sems (call.BinSemTake id wait) other = λ active at.
    either (Suits false sems.objects wait) active.object.full _ _ tt
    (cond_both (is_check wait) _ _ (Suits false sems.objects wait) (λ check. tt) (λ may. (refl, may, (ap is_some at, refl, tt))))
fits sems (call.Hold id) other = refl
fits sems (call.Release id) other = refl
fits sems _ other = tt

looks_at : (task : ℕ) (made : Call) (id : ℕ) → part_of made ≡ 3 → subject_of task made ≡ Some id → is_refused_before made ≡ false → looks (bin_sem_call made) ≡ Some id
looks_at task (call.BinSemGive id) other own on may = on
looks_at task (call.BinSemFlush id) other own on may = on
looks_at task (call.BinSemTake id wait) other own on may = on
looks_at task (call.BinSemDelete id) other own on may = on
looks_at task (call.BinSemInfo id) other own on may = on
looks_at task (call.Hold id) other own on may = on
looks_at task (call.Release id) other own on may = on
looks_at task _ other own on may = absurd (cc)

ends_fit : (sems : BinSemState) (now : Moment) (found : Option (WaitRecord ℕ)) → FitsEnding found (take_ending sems now found)
ends_fit sems now None = refl
ends_fit sems now (Some wait) =
    either (FitsEnding (Some wait)) wait.released _ _ (refl, refl)
    (either (FitsEnding (Some wait)) (is_full (bin_sem_at sems wait.what)) _ _ (refl, refl)
    (either (FitsEnding (Some wait)) (is_due wait now) _ _ (refl, refl) refl))

by_outcome : (sems : BinSemState) (task : ℕ) (now : Moment) (made : Call) → ends_wait made ≡ false → bin_sem_step sems task now made ≡ done sems task now (bin_sem_call made)
by_outcome sems task now (call.WaitEnd part) other = absurd (true≢false other)
by_outcome sems task now (call.WaitAbandon part) other = absurd (true≢false other)
by_outcome sems task now _ other = refl

-- each call of the binary semaphore part is known by its outcome
pub bin_sems_known : Known 3 (λ part. true) (λ (sems : BinSemState). sems.objects) (λ sems task made. bin_sem_call made) (λ sems task now. take_ending sems now (wait_of sems.objects.waits task)) bin_sem_step
bin_sems_known = record {
  whole = λ old new same. ap (λ (o : ObjectsState BinSem ℕ). record { objects = o }) same;
  calls = λ sems task now made other. ap (seen_as (λ (s : BinSemState). s.objects)) (by_outcome sems task now made other);
  fits = λ sems task made other. fits sems made other;
  looks_at = λ sems task made id own on may. looks_at task made id own on may;
  owns = refl;
  ends = λ sems task now part. refl;
  ends_fit = λ sems task now. ends_fit sems now (wait_of sems.objects.waits task);
  abandons = λ sems task now part. abandon_is sems.objects task;
}
