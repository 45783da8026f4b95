-- What each step of the object layer does to the open waits.
use Rattle.std.proofs.Common.{◌≡◌, ℕ, Bool, true, false, List, nat_lt, Option, Some, None, is_some, Result, Ok, Err, refl, sym, ◌∙◌}
use Rattle.std.proofs.lemmas.Bool.{false≢true}
use Rattle.osal_base.specs.declared.name.NameFault.{NameFault}
use Rattle.osal_base.specs.declared.reply.Answer.{Answer}
use Rattle.osal_base.specs.declared.status.Status.{Status}
use Rattle.osal_base.specs.declared.time.Moment.{Moment}
use Rattle.osal_base.specs.declared.time.Timeout.{Timeout}
use Rattle.osal_base.specs.Name.{name_fault}
use Rattle.osal_base.specs.Reply.{Replied, is_waits}
use Rattle.osal_base.specs.Time.{is_check, deadline_of}
use Rattle.osal_idtable.specs.declared.table.IdFault.{IdFault}
use Rattle.osal_idtable.specs.declared.table.ReserveFault.{ReserveFault}
use Rattle.osal_object.specs.declared.waits.WaitRecord.{WaitRecord}
use Rattle.osal_idtable.specs.Table.{Active, TableState, Reserved, active_at}
use Rattle.osal_idtable.specs.Steps.{reserve_step, remove_step, find_id}
use Rattle.osal_idtable.specs.Faults.{answered, found_id, unless, under_name}
use Rattle.osal_object.specs.Waits.{wait_of, wait_fault, waits_on}
use Rattle.osal_object.specs.Objects.{ObjectsState, found_by, find_reply, info_reply, created, create_step, delete_step, held_by_caller, hold_call_step, released_by_caller, release_call_step, caller_hold_limit}
use Rattle.osal_object.specs.Waiting.{begun, begin_step, ended, end_wait, abandoned, abandon_step, release_waits}
use Rattle.osal_idtable.proofs.Holding.{either}
use Rattle.osal_object.proofs.OpenWaits.{WaitsSeen, seen_of, SameWaits, same_waits, IsOpened, IsClosed, released_same, with_opened, without_closed}

-- a call of a task leaves the open waits, or answers that it has to wait, and the task has a wait from now on
pub data IsWaitStep (old : WaitsSeen) (task : ℕ) (wait : Timeout) (answer : Answer) (new : WaitsSeen) : Type 0 where
  Goes : is_waits answer ≡ false → SameWaits old new → IsWaitStep old task wait answer new
  Waits : is_waits answer ≡ true → is_check wait ≡ false → IsOpened old new task wait → IsWaitStep old task wait answer new

-- the end of a task's wait is refused where none is open, waits on, or closes the wait
pub data IsWaitEnd (old : WaitsSeen) (task : ℕ) (answer : Answer) (new : WaitsSeen) : Type 0 where
  Refuses : old.waits task ≡ false → is_waits answer ≡ false → IsWaitEnd old task answer new
  Stays : old.waits task ≡ true → is_waits answer ≡ true → IsWaitEnd old task answer new
  Ends : is_waits answer ≡ false → old.waits task ≡ true → IsClosed old new task → IsWaitEnd old task answer new

module _ {old new : WaitsSeen} {task : ℕ} {answer : Answer} where
  -- a call that may not wait does not
  pub goes_on : {wait : Timeout} → is_check wait ≡ true → IsWaitStep old task wait answer new → (is_waits answer ≡ false) × SameWaits old new
  goes_on check (Goes answered same) = (answered, same)
  goes_on check (Waits answered may opened) = absurd (false≢true (sym may ∙ check))

  -- an end that does not wait on closes the wait
  pub end_closes : old.waits task ≡ true → is_waits answer ≡ false → IsWaitEnd old task answer new → IsClosed old new task
  end_closes open_wait ends (Refuses none answered) = absurd (false≢true (sym none ∙ open_wait))
  end_closes open_wait ends (Stays some answered) = absurd (false≢true (sym ends ∙ answered))
  end_closes open_wait ends (Ends answered some closed) = closed

  -- an end that waits on has an open wait
  pub end_waits : is_waits answer ≡ true → IsWaitEnd old task answer new → old.waits task ≡ true
  end_waits waits (Refuses none answered) = absurd (false≢true (sym answered ∙ waits))
  end_waits waits (Stays some answered) = some
  end_waits waits (Ends answered some closed) = some

-- a call that leaves the open waits and does not wait
pub goes : {seen : WaitsSeen} {task : ℕ} {wait : Timeout} {answer : Answer} → is_waits answer ≡ false → IsWaitStep seen task wait answer seen
goes answered = Goes answered (same_waits _)

found_answered : (o : Option ℕ) → is_waits (found_id o).answer ≡ false
found_answered None = refl
found_answered (Some id) = refl

found_by_answered : {T : Type 0} (table : TableState T) (name : List ℕ) (fault : Option NameFault) → is_waits (found_by table name fault).answer ≡ false
found_by_answered table name (Some fault) = refl
found_by_answered table name None = found_answered (find_id table name)

-- a find does not wait
pub find_answered : {T W : Type 0} (objects : ObjectsState T W) (name : List ℕ) → is_waits (find_reply objects name).answer ≡ false
find_answered objects name = found_by_answered objects.table name (name_fault name)

-- an info does not wait
pub info_answered : {T : Type 0} (number : T → ℕ) (o : Option (Active T)) → is_waits (info_reply number o).answer ≡ false
info_answered number None = refl
info_answered number (Some active) = refl

-- a removal does not wait
removed_answered : {T : Type 0} (r : Result T IdFault) → is_waits (answered r).answer ≡ false
removed_answered (Ok object) = refl
removed_answered (Err fault) = refl

module _ {T W : Type 0} (objects : ObjectsState T W) where
  -- what a step of a task that may wait so long does to the open waits
  abbrev pub Steps : ℕ → Timeout → Replied × ObjectsState T W → Type 0
  Steps task wait stepped = IsWaitStep (seen_of objects.waits) task wait stepped.0.answer (seen_of stepped.1.waits)

  module _ {task : ℕ} {wait : Timeout} where
    created_goes : (object : T) (r : Result Reserved ReserveFault) (table : TableState T) → Steps task wait (created objects object r table)
    created_goes object (Err fault) table = goes refl
    created_goes object (Ok reserved) table = goes refl

    -- a create
    pub create_goes : (name : Option (List ℕ)) (object : T) → Steps task wait (create_step objects name object)
    create_goes name object =
        created_goes object (reserve_step objects.table name).0 (reserve_step objects.table name).1

    -- a delete
    pub delete_goes : (id : ℕ) → Steps task wait (delete_step objects id)
    delete_goes id = goes (removed_answered (remove_step objects.table id).0)

    held_goes : (id : ℕ) (o : Option (Active T)) → Steps task wait (held_by_caller objects id o)
    held_goes id None = goes refl
    held_goes id (Some active) =
        either (Steps task wait) (nat_lt active.holds caller_hold_limit) _ _ (goes refl) (goes refl)

    -- a hold
    pub hold_goes : (id : ℕ) → Steps task wait (hold_call_step objects id)
    hold_goes id = held_goes id (active_at objects.table id)

    released_goes : (id : ℕ) (o : Option (Active T)) → Steps task wait (released_by_caller objects id o)
    released_goes id None = goes refl
    released_goes id (Some active) =
        either (Steps task wait) (nat_lt (waits_on objects.waits id) active.holds) _ _ (goes refl) (goes refl)

    -- the end of a hold
    pub release_goes : (id : ℕ) → Steps task wait (release_call_step objects id)
    release_goes id = released_goes id (active_at objects.table id)

    -- a release of waits, which ends none
    pub marks : {answer : Answer} (test : WaitRecord W → Bool) → is_waits answer ≡ false → IsWaitStep (seen_of objects.waits) task wait answer (seen_of (release_waits objects test).waits)
    marks test answered = Goes answered (released_same objects.waits test)

  begun_steps : (one : WaitRecord W) (timeout : Timeout) (now : Moment) → is_check timeout ≡ false → one.deadline ≡ deadline_of timeout now → (o : Option Status) → Steps one.task timeout (begun objects one o)
  begun_steps one timeout now may is (Some fault) = goes refl
  begun_steps one timeout now may is None = Waits refl may (with_opened objects.waits one timeout now is)

  -- a wait of a call that may wait so long begins, or is refused
  pub begin_steps : (one : WaitRecord W) (timeout : Timeout) (now : Moment) → is_check timeout ≡ false → one.deadline ≡ deadline_of timeout now → Steps one.task timeout (begin_step objects one)
  begin_steps one timeout now may is = begun_steps one timeout now may is (wait_fault objects.waits one.task)

  ended_closed : (task : ℕ) (o : Option (WaitRecord W)) → is_some o ≡ true → IsClosed (seen_of objects.waits) (seen_of (ended objects task o).waits) task
  ended_closed task None some = absurd (false≢true some)
  ended_closed task (Some one) some = without_closed objects.waits task

  -- an open wait ends
  pub end_closed : (task : ℕ) → is_some (wait_of objects.waits task) ≡ true → IsClosed (seen_of objects.waits) (seen_of (end_wait objects task).waits) task
  end_closed task some = ended_closed task (wait_of objects.waits task) some

  abandoned_closed : (task : ℕ) (o : Option (WaitRecord W)) → is_some o ≡ true → IsClosed (seen_of objects.waits) (seen_of (end_wait objects task).waits) task → IsClosed (seen_of objects.waits) (seen_of (abandoned objects task o).1.waits) task
  abandoned_closed task None some closed = absurd (false≢true some)
  abandoned_closed task (Some one) some closed = closed

  -- an open wait that is given up ends
  pub abandon_closed : (task : ℕ) → is_some (wait_of objects.waits task) ≡ true → IsClosed (seen_of objects.waits) (seen_of (abandon_step objects task).1.waits) task
  abandon_closed task some = abandoned_closed task (wait_of objects.waits task) some (end_closed task some)

module _ {S : Type 0} (seen : S → WaitsSeen) (state : S) where
  -- what a step of a part does to its open waits
  abbrev pub StepsIn : ℕ → Timeout → Replied × S → Type 0
  StepsIn task wait stepped = IsWaitStep (seen state) task wait stepped.0.answer (seen stepped.1)

  module _ {task : ℕ} {wait : Timeout} where
    unless_goes : (fault : Option NameFault) (otherwise : Replied × S) → StepsIn task wait otherwise → StepsIn task wait (unless fault state otherwise)
    unless_goes (Some fault) otherwise steps = goes refl
    unless_goes None otherwise steps = steps

    -- a step under a name
    pub name_goes : (name : List ℕ) (otherwise : Replied × S) → StepsIn task wait otherwise → StepsIn task wait (under_name name state otherwise)
    name_goes name otherwise steps = unless_goes (name_fault name) otherwise steps
