-- Each call of the queue part is known by its outcome.
use Rattle.std.proofs.Common.{◌≡◌, ◌==◌, ℕ, true, false, List, [], ◌∷◌, length, nat_lt, Option, Some, None, is_some, refl, ap, ◌∙◌}
use Rattle.std.proofs.lemmas.Bool.{cond_both, true≢false}
use Rattle.osal_base.specs.declared.time.Moment.{Moment}
use Rattle.osal_base.specs.declared.time.Timeout.{Timeout}
use Rattle.osal_base.specs.declared.time.Timeout.TheVariants as timeout
use Rattle.osal_base.specs.Time.{is_check}
use Rattle.osal_object.specs.declared.waits.WaitRecord.{WaitRecord}
use Rattle.osal_idtable.specs.Table.{Active}
use Rattle.osal_object.specs.Waits.{wait_of, is_due}
use Rattle.osal_object.specs.Objects.{ObjectsState}
use Rattle.osal_object.specs.Outcomes.{looks}
use Rattle.osal_object.proofs.Moves.{either}
use Rattle.osal_object.proofs.Carried.{FitsEnding, abandon_is}
use Rattle.osal_queue.specs.Queue.{Queue, may_be_sized}
use Rattle.osal_queue.specs.Queues.{QueueState, queue_at, done, queue_put, get_first, get_late, got_first, got_from, get_ending}
use Rattle.osal_call.specs.declared.call.Call.{Call}
use Rattle.osal_call.specs.declared.call.Call.TheVariants as call
use Rattle.osal_call.specs.Signature.{part_of, subject_of, is_refused_before, timeout_of, ends_wait}
use Rattle.osal_queue.specs.Queues.{queue_call, queue_step}
use Rattle.osal_laws.proofs.Known.{Known, seen_as}
use Rattle.osal_laws.proofs.Suits.{is_holding, Suits}

first_fits : (queues : QueueState) (id : ℕ) (wait : Timeout) (active : Active Queue) (messages : List (List ℕ)) → queue_at queues id ≡ Some active → Suits false queues.objects wait (get_first id wait active.object messages)
first_fits queues id wait active [] at =
    cond_both (is_check wait) _ _ (Suits false queues.objects wait) (λ check. tt) (λ may. (refl, may, (ap is_some at, refl, tt)))
first_fits queues id wait active (message ∷ messages) at = tt

fits : (queues : QueueState) (task : ℕ) (made : Call) → ends_wait made ≡ false → Suits (is_holding made) queues.objects (timeout_of made) (queue_call task made)
fits queues task (call.QueueCreate name depth size) other =
    either (Suits false queues.objects timeout.Check) (may_be_sized depth size) _ _ tt tt
fits queues task (call.QueuePut id payload) other =
    either (Suits false queues.objects timeout.Check) (length payload.bytes == 0) _ _ tt
    (λ active at.
    either (Suits false queues.objects timeout.Check) (nat_lt active.object.size (length payload.bytes)) _ _ tt
    (either (Suits false queues.objects timeout.Check) (nat_lt (length active.object.messages) active.object.depth) _ _ tt tt))
fits queues task (call.QueueGet id n wait) other = λ active at.
    either (Suits false queues.objects wait) (nat_lt n active.object.size) _ _ tt
    (first_fits queues id wait active active.object.messages at)
fits queues task (call.QueueInfo id) other = λ active at. tt
fits queues task (call.Hold id) other = refl
fits queues task (call.Release id) other = refl
fits queues task _ other = tt

-- a put of a message that has bytes looks at its queue
put_looks : (id : ℕ) (message : List ℕ) → length message == 0 ≡ false → looks (queue_put id message) ≡ Some id
put_looks id message may = rw (may) refl

looks_at : (task : ℕ) (made : Call) (id : ℕ) → part_of made ≡ 1 → subject_of task made ≡ Some id → is_refused_before made ≡ false → looks (queue_call task made) ≡ Some id
looks_at task (call.QueuePut other payload) id own on may = put_looks other payload.bytes may ∙ on
looks_at task (call.QueueGet other n wait) id own on may = on
looks_at task (call.QueueDelete other) id own on may = on
looks_at task (call.QueueInfo other) id own on may = on
looks_at task (call.Hold other) id own on may = on
looks_at task (call.Release other) id own on may = on
looks_at task _ id own on may = absurd (cc)

late_fits : (now : Moment) (wait : WaitRecord ℕ) → FitsEnding (Some wait) (get_late now wait)
late_fits now wait = either (FitsEnding (Some wait)) (is_due wait now) _ _ (refl, refl) refl

got_fits : (now : Moment) (wait : WaitRecord ℕ) (queue : Queue) (messages : List (List ℕ)) → FitsEnding (Some wait) (got_first now wait queue messages)
got_fits now wait queue [] = late_fits now wait
got_fits now wait queue (message ∷ messages) = (refl, refl)

from_fits : (now : Moment) (wait : WaitRecord ℕ) (found : Option (Active Queue)) → FitsEnding (Some wait) (got_from now wait found)
from_fits now wait None = late_fits now wait
from_fits now wait (Some active) = got_fits now wait active.object active.object.messages

ends_fit : (queues : QueueState) (now : Moment) (found : Option (WaitRecord ℕ)) → FitsEnding found (get_ending queues now found)
ends_fit queues now None = refl
ends_fit queues now (Some wait) = from_fits now wait (queue_at queues wait.what)

by_outcome : (queues : QueueState) (task : ℕ) (now : Moment) (made : Call) → ends_wait made ≡ false → queue_step queues task now made ≡ done queues task now (queue_call task made)
by_outcome queues task now (call.WaitEnd part) other = absurd (true≢false other)
by_outcome queues task now (call.WaitAbandon part) other = absurd (true≢false other)
by_outcome queues task now _ other = refl

-- each call of the queue part is known by its outcome
pub queues_known : Known 1 (λ part. true) (λ (queues : QueueState). queues.objects) (λ queues task made. queue_call task made) (λ queues task now. get_ending queues now (wait_of queues.objects.waits task)) queue_step
queues_known = record {
  whole = λ old new same. ap (λ (o : ObjectsState Queue ℕ). record { objects = o }) same;
  calls = λ queues task now made other. ap (seen_as (λ (s : QueueState). s.objects)) (by_outcome queues task now made other);
  fits = λ queues task made other. fits queues task made other;
  looks_at = λ queues task made id own on may. looks_at task made id own on may;
  owns = refl;
  ends = λ queues task now part. refl;
  ends_fit = λ queues task now. ends_fit queues now (wait_of queues.objects.waits task);
  abandons = λ queues task now part. abandon_is queues.objects task;
}
