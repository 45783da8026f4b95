-- The values of objects keep to their limits in every history.
use Rattle.std.proofs.Common.{◌≡◌, ◌≤◌, ◌==◌, ℕ, zero, suc, true, false, List, [], ◌∷◌, ◌++◌, length, nat_lt, Option, Some, None, refl, subst, arith, length-append}
use Rattle.std.specs.List.{AllByRecursion}
use Rattle.std.proofs.lemmas.Bool.{cond_both}
use Rattle.std.proofs.lemmas.Bool.Decides.{nat_tests}
use Rattle.osal_base.specs.declared.id.ObjType.TheVariants as kind
use Rattle.osal_base.specs.declared.time.Moment.{Moment}
use Rattle.osal_base.specs.declared.time.Timeout.{Timeout}
use Rattle.osal_base.specs.Identifier.{type_number}
use Rattle.osal_base.specs.Limits.{lowest_priority}
use Rattle.osal_base.specs.Time.{is_check}
use Rattle.osal_idtable.specs.Table.{Active}
use Rattle.osal_idtable.specs.Holds.{is_held}
use Rattle.osal_idtable.proofs.WellFormed.{no_active}
use Rattle.osal_object.specs.declared.waits.WaitRecord.{WaitRecord}
use Rattle.osal_object.specs.Waits.{wait_of, is_due}
use Rattle.osal_object.proofs.Moves.{either}
use Rattle.osal_object.proofs.Records.{all_more}
use Rattle.osal_task.specs.declared.part.Task.{Task}
use Rattle.osal_task.specs.Delays.{delay_ending}
use Rattle.osal_queue.specs.Queue.{Queue, may_be_sized}
use Rattle.osal_queue.specs.Queues.{QueueState, queue_at, get_first, get_late, got_first, got_from, get_ending}
use Rattle.osal_sem.specs.declared.counting.CountSem.{CountSem}
use Rattle.osal_sem.specs.Counting.{CountSemState, count_sem_at, value_of, value_limit, take_ending as count_ending}
use Rattle.osal_mutex.specs.declared.mutex.Lock.{Lock}
use Rattle.osal_mutex.specs.declared.mutex.Lock.TheVariants as lock
use Rattle.osal_mutex.specs.declared.mutex.Mutex.{Mutex}
use Rattle.osal_mutex.specs.Mutexes.{MutexState, mutex_at, is_owned, nesting_limit, lock_given, take_of, give_of, taken_of, taken_from, take_ending}
use Rattle.osal_call.specs.declared.call.Call.{Call}
use Rattle.osal_call.specs.declared.call.Call.TheVariants as call
use Rattle.osal_call.specs.declared.call.Entry.{Entry}
use Rattle.osal_machine.specs.Parts.{PartState, Tasks, Queues, CountSems, Mutexes, part_step}
use Rattle.osal_task.specs.Calls.{task_call, task_step}
use Rattle.osal_queue.specs.Queues.{queue_call, queue_step}
use Rattle.osal_sem.specs.Counting.{count_sem_call, count_sem_step}
use Rattle.osal_mutex.specs.Mutexes.{mutex_call, mutex_step}
use Rattle.osal_machine.specs.Step.{MachineState, opening, part_in}
use Rattle.osal_machine.specs.History.{after_entry, replay_from}
use Rattle.osal_laws.specs.Values.{HasPriority, IsFilled, HasValue, IsDeep, AreBounded, ValuesAreBounded}
use Rattle.osal_laws.proofs.Own.{after_part, by_number}
use Rattle.osal_laws.proofs.TaskKnown.{tasks_known}
use Rattle.osal_laws.proofs.QueueKnown.{queues_known}
use Rattle.osal_laws.proofs.CountSemKnown.{count_sems_known}
use Rattle.osal_laws.proofs.MutexKnown.{mutexes_known}
use Rattle.osal_laws.proofs.Valued.{Gives, GivesLast, all_of, each_of, known_all}

-- calls of the task part give no priority above 255
priorities : (task : ℕ) (made : Call) → Gives HasPriority (task_call task made)
priorities task (call.TaskCreate name body stack priority) =
    cond_both (nat_lt lowest_priority priority) _ _ (Gives HasPriority) (λ t. tt) (λ t. grind (arith, nat_tests))
priorities task (call.TaskDelete id) = λ active has.
    either (Gives HasPriority) active.object.marked _ _ tt (either (Gives HasPriority) (is_held (Some active)) _ _ tt (has, tt))
priorities task (call.TaskSetPriority id priority) =
    cond_both (nat_lt lowest_priority priority) _ _ (Gives HasPriority) (λ t. tt)
    (λ t active has. let low : priority ≤ lowest_priority = grind (arith, nat_tests) in (low, tt))
priorities task (call.TaskInfo id) = λ active has. tt
priorities task (call.TaskDelay ms) = either (Gives HasPriority) (ms == 0) _ _ tt tt
priorities task call.Checkpoint = λ active has. either (Gives HasPriority) active.object.marked _ _ tt tt
priorities task (call.Hold id) = λ active has. either (Gives HasPriority) active.object.marked _ _ tt tt
priorities task _ = tt

delays : (now : Moment) (found : Option (WaitRecord (Unit {0}))) → GivesLast HasPriority (delay_ending now found)
delays now None = tt
delays now (Some wait) = either (GivesLast HasPriority) (is_due wait now) _ _ tt tt

-- a queue with one message less is filled no more
less_filled : (queue : Queue) (message : List ℕ) (messages : List (List ℕ)) → queue.messages ≡ message ∷ messages → IsFilled queue → IsFilled (record queue { messages = messages })
less_filled queue message messages is filled =
    let few = filled.few in
    let fewer : length queue.messages ≡ suc (length messages) = rw is refl in
    record {
      few = omega arith;
      each = (subst (AllByRecursion (λ message. (1 ≤ length message) × (length message ≤ queue.size))) is filled.each).1;
    }

first_filled : (id : ℕ) (wait : Timeout) (queue : Queue) (messages : List (List ℕ)) → queue.messages ≡ messages → IsFilled queue → Gives IsFilled (get_first id wait queue messages)
first_filled id wait queue [] is filled = either (Gives IsFilled) (is_check wait) _ _ tt tt
first_filled id wait queue (message ∷ messages) is filled = (less_filled queue message messages is filled, tt)

put_filled : (queue : Queue) (message : List ℕ) → (length message == 0) ≡ false → nat_lt queue.size (length message) ≡ false → nat_lt (length queue.messages) queue.depth ≡ true → IsFilled queue → IsFilled (record queue { messages = queue.messages ++ message ∷ [] })
put_filled queue message some small room filled =
    let more = length-append queue.messages (message ∷ []) in
    let has : 1 ≤ length message = grind (arith, nat_tests) in
    let fits : length message ≤ queue.size = grind (arith, nat_tests) in
    record {
      few = grind (arith, nat_tests);
      each = all_more (λ message. (1 ≤ length message) × (length message ≤ queue.size)) queue.messages message filled.each (has, fits);
    }

-- calls of the queue part leave queues filled
fillings : (task : ℕ) (made : Call) → Gives IsFilled (queue_call task made)
fillings task (call.QueueCreate name depth size) =
    either (Gives IsFilled) (may_be_sized depth size) _ _ (record { few = omega arith; each = tt }) tt
fillings task (call.QueuePut id payload) =
    cond_both (length payload.bytes == 0) _ _ (Gives IsFilled) (λ t. tt)
    (λ some active filled. cond_both (nat_lt active.object.size (length payload.bytes)) _ _ (Gives IsFilled) (λ t. tt)
    (λ small. cond_both (nat_lt (length active.object.messages) active.object.depth) _ _ (Gives IsFilled)
    (λ room. (put_filled active.object payload.bytes some small room filled, tt))
    (λ t. tt)))
fillings task (call.QueueGet id n wait) = λ active filled.
    either (Gives IsFilled) (nat_lt n active.object.size) _ _ tt
    (first_filled id wait active.object active.object.messages refl filled)
fillings task (call.QueueInfo id) = λ active filled. tt
fillings task _ = tt

late : (now : Moment) (wait : WaitRecord ℕ) → GivesLast IsFilled (get_late now wait)
late now wait = either (GivesLast IsFilled) (is_due wait now) _ _ tt tt

got_filled : (now : Moment) (wait : WaitRecord ℕ) (queue : Queue) (messages : List (List ℕ)) → queue.messages ≡ messages → IsFilled queue → GivesLast IsFilled (got_first now wait queue messages)
got_filled now wait queue [] is filled = late now wait
got_filled now wait queue (message ∷ messages) is filled = (less_filled queue message messages is filled, tt)

from_filled : (now : Moment) (wait : WaitRecord ℕ) (found : Option (Active Queue)) → ((active : Active Queue) → found ≡ Some active → IsFilled active.object) → GivesLast IsFilled (got_from now wait found)
from_filled now wait None filled = late now wait
from_filled now wait (Some active) filled =
    got_filled now wait active.object active.object.messages refl (filled active refl)

gets : (queues : QueueState) (now : Moment) (found : Option (WaitRecord ℕ)) → AreBounded (Queues queues) → GivesLast IsFilled (get_ending queues now found)
gets queues now None all = tt
gets queues now (Some wait) all = from_filled now wait (queue_at queues wait.what) (all wait.what)

-- calls of the counting semaphore part give no value above the greatest
values : (made : Call) → Gives HasValue (count_sem_call made)
values (call.CountSemCreate name value) =
    cond_both (nat_lt value_limit value) _ _ (Gives HasValue) (λ t. tt) (λ t. grind (arith, nat_tests))
values (call.CountSemGive id) = λ active has.
    cond_both (nat_lt active.object.value value_limit) _ _ (Gives HasValue) (λ t. (grind (arith, nat_tests), tt)) (λ t. tt)
values (call.CountSemTake id wait) = λ active has.
    either (Gives HasValue) (nat_lt 0 active.object.value) _ _ (omega arith, tt) (either (Gives HasValue) (is_check wait) _ _ tt tt)
values (call.CountSemInfo id) = λ active has. tt
values _ = tt

value_there : (found : Option (Active CountSem)) → ((active : Active CountSem) → found ≡ Some active → HasValue active.object) → value_of found ≤ value_limit
value_there None has = omega arith
value_there (Some active) has = has active refl

counts : (sems : CountSemState) (now : Moment) (found : Option (WaitRecord ℕ)) → AreBounded (CountSems sems) → GivesLast HasValue (count_ending sems now found)
counts sems now None all = tt
counts sems now (Some wait) all =
    let has = value_there (count_sem_at sems wait.what) (all wait.what) in
    either (GivesLast HasValue) (nat_lt 0 (value_of (count_sem_at sems wait.what))) _ _ (omega arith, tt)
    (either (GivesLast HasValue) (is_due wait now) _ _ tt tt)

-- a mutex has a lock of a depth that may be
abbrev IsLocked : Mutex → Type 0
IsLocked mutex = IsDeep mutex.lock

take_deep : (task id : ℕ) (mutex : Mutex) (held : Lock) → IsDeep held → Gives IsLocked (take_of task id mutex held)
take_deep task id mutex lock.Free deep = ((omega arith, omega arith), tt)
take_deep task id mutex (lock.Owned owner depth) deep =
    either (Gives IsLocked) (owner == task) _ _
    (cond_both (nat_lt depth nesting_limit) _ _ (Gives IsLocked) (λ t. ((omega arith, grind (arith, nat_tests)), tt)) (λ t. tt))
    tt

given_deep : (task depth : ℕ) → depth ≤ nesting_limit → IsDeep (lock_given task depth)
given_deep task zero low = tt
given_deep task (suc zero) low = tt
given_deep task (suc (suc depth)) low = (omega arith, omega arith)

give_deep : (task id : ℕ) (mutex : Mutex) (held : Lock) → IsDeep held → Gives IsLocked (give_of task id mutex held)
give_deep task id mutex lock.Free deep = tt
give_deep task id mutex (lock.Owned owner depth) deep =
    either (Gives IsLocked) (owner == task) _ _ (given_deep task depth deep.1, tt) tt

-- calls of the mutex part leave locks of a depth that may be
depths : (task : ℕ) (made : Call) → Gives IsLocked (mutex_call task made)
depths task (call.MutSemTake id) = λ active deep. take_deep task id active.object active.object.lock deep
depths task (call.MutSemGive id) = λ active deep. give_deep task id active.object active.object.lock deep
depths task (call.MutSemDelete id) = λ active deep.
    either (Gives IsLocked) (is_held (Some active)) _ _ tt (either (Gives IsLocked) (is_owned active.object.lock) _ _ tt tt)
depths task (call.MutSemInfo id) = λ active deep. tt
depths task _ = tt

taken_deep : (task id : ℕ) (mutex : Mutex) (held : Lock) → GivesLast IsLocked (taken_of task id mutex held)
taken_deep task id mutex lock.Free = ((omega arith, omega arith), tt)
taken_deep task id mutex (lock.Owned owner depth) = tt

taken_from_deep : (task id : ℕ) (found : Option (Active Mutex)) → GivesLast IsLocked (taken_from task id found)
taken_from_deep task id None = tt
taken_from_deep task id (Some active) = taken_deep task id active.object active.object.lock

takes : (mutexes : MutexState) (task : ℕ) (found : Option (WaitRecord ℕ)) → GivesLast IsLocked (take_ending mutexes task found)
takes mutexes task None = tt
takes mutexes task (Some wait) = taken_from_deep task wait.what (mutex_at mutexes wait.what)

-- a call of a part keeps the values of its objects within their limits
part_bounded : (part : PartState) (task : ℕ) (now : Moment) (made : Call) → AreBounded part → AreBounded (part_step part task now made).1
part_bounded (Tasks tasks) task now made all =
    each_of HasPriority (task_step tasks task now made).1.objects.table (known_all HasPriority tasks_known tasks task now (all_of HasPriority tasks.objects.table all) (priorities task) (delays now (wait_of tasks.objects.waits task)) made)
part_bounded (Queues queues) task now made all =
    each_of IsFilled (queue_step queues task now made).1.objects.table (known_all IsFilled queues_known queues task now (all_of IsFilled queues.objects.table all) (fillings task) (gets queues now (wait_of queues.objects.waits task) all) made)
part_bounded (CountSems sems) task now made all =
    each_of HasValue (count_sem_step sems task now made).1.objects.table (known_all HasValue count_sems_known sems task now (all_of HasValue sems.objects.table all) values (counts sems now (wait_of sems.objects.waits task) all) made)
part_bounded (Mutexes mutexes) task now made all =
    each_of IsLocked (mutex_step mutexes task now made).1.objects.table (known_all IsLocked mutexes_known mutexes task now (all_of IsLocked mutexes.objects.table all) (depths task) (takes mutexes task (wait_of mutexes.objects.waits task)) made)
part_bounded _ task now made all = tt

bounded_after : (part : ℕ) (entries : List Entry) (state : MachineState) → AreBounded (part_in part state) → AreBounded (part_in part (replay_from state entries))
bounded_after part [] state all = all
bounded_after part (entry ∷ entries) state all =
    bounded_after part entries (after_entry state entry)
    (after_part state entry.task entry.now entry.call part AreBounded all (part_bounded (part_in part state) entry.task entry.now entry.call all))

-- in every history the values of objects are within their limits
pub values_bounded : ValuesAreBounded
values_bounded limits entries part =
    bounded_after part entries (opening limits)
    (by_number (λ n p. AreBounded p) (opening limits)
    (λ id active is. absurd (no_active Task (type_number kind.Task) limits.tasks id active is))
    (λ id active is. absurd (no_active Queue (type_number kind.Queue) limits.queues id active is))
    (λ id active is. absurd (no_active CountSem (type_number kind.CountSem) limits.count_sems id active is))
    tt
    (λ id active is. absurd (no_active Mutex (type_number kind.Mutex) limits.mutexes id active is))
    tt tt tt tt (λ n. tt) part)
