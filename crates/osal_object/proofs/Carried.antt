-- What follows of a call that is an outcome: it is one move, it leaves the state where it is refused, and it waits only so long.
use Rattle.std.proofs.Common.{◌≡◌, ◌++◌, ℕ, true, false, List, [], ◌∷◌, map, Option, Some, None, is_some, refl, ap, sym, subst, ◌∙◌, arith}
use Rattle.osal_base.specs.declared.name.NameFault.{NameFault}
use Rattle.osal_base.specs.declared.reply.Answer.{Answer}
use Rattle.osal_base.specs.declared.status.Status.{Status}
use Rattle.osal_base.specs.declared.time.Moment.{Moment}
use Rattle.osal_base.specs.declared.time.Timeout.{Timeout}
use Rattle.osal_base.specs.Name.{name_fault}
use Rattle.osal_base.specs.declared.status.Status.TheVariants as status
use Rattle.osal_base.specs.Reply.{Replied, refusal, is_waits}
use Rattle.osal_idtable.specs.Table.{Active, active_at}
use Rattle.osal_idtable.specs.Steps.{take_out, unheld}
use Rattle.osal_base.specs.Time.{is_check, deadline_of}
use Rattle.osal_object.specs.declared.waits.WaitRecord.{WaitRecord}
use Rattle.osal_idtable.specs.Faults.{answered, name_status, unless}
use Rattle.osal_object.specs.Waits.{new_wait, wait_of, wait_fault}
use Rattle.osal_object.specs.Waiting.{begun, begin_step, end_wait, abandoned, abandon_step}
use Rattle.osal_object.specs.Objects.{ObjectsState, held_by_caller, released_by_caller}
use Rattle.osal_object.specs.Moves.{Change, Begin, End, Create as MakeMove, Remove as RemoveMove, Hold as HoldChange, Release as ReleaseChange, Changes, AreApart, AreAllowed, after_changes, changed}
use Rattle.osal_object.specs.Outcomes.{Write, Put, Mark, Outcome, Refuse, Named, On, Give, Go, Find, Make, Remove, Leave, Hold, Release, Wait, WaitAfter, Ending, NoWait, WaitsOn, Ends, as_change, written, waited, found_then, carried_out, looks, ended_as, given_up}
use Rattle.osal_object.proofs.OpenWaits.{WaitsSeen, seen_of, SameWaits, same_waits, IsOpened, IsClosed, released_same, with_opened}
use Rattle.osal_object.proofs.WaitSteps.{Goes, Waits, IsWaitEnd, Refuses, Stays, Ends as Closes, Steps, end_closes, goes, find_answered, create_goes, delete_goes, hold_goes, release_goes, begin_steps, end_closed}
use Rattle.osal_base.specs.Reply.{is_refusal}
use Rattle.osal_object.proofs.Moves.{IsMove, stays, changes}
use Rattle.osal_object.proofs.Refusals.{Leaves, same, fails, create_keeps, delete_keeps, hold_keeps, release_keeps, begin_keeps}

-- the same waits, and then the same again
same_then : {old new later : WaitsSeen} → SameWaits old new → SameWaits new later → SameWaits old later
same_then first then = record {
  all = λ task. then.all task ∙ first.all task;
  fewer = λ now. omega (arith, first.fewer now, then.fewer now);
}

opened_then : {old new later : WaitsSeen} {task : ℕ} {wait : Timeout} → IsOpened old new task wait → SameWaits new later → IsOpened old later task wait
opened_then {task = task} first then = record {
  own = then.all task ∙ first.own;
  others = λ other ne. then.all other ∙ first.others other ne;
  more = λ now. omega (arith, first.more now, then.fewer now);
}

closed_after : {old new later : WaitsSeen} {task : ℕ} → SameWaits old new → IsClosed new later task → IsClosed old later task
closed_after first then = record {
  own = then.own;
  others = λ other ne. then.others other ne ∙ first.all other;
  fewer = λ now. omega (arith, first.fewer now, then.fewer now);
}

module _ {T W : Type 0} where
  -- an outcome fits a call that may wait so long: it waits only so long, and on active objects, on each once
  abbrev pub Fits : ObjectsState T W → Timeout → Outcome T W → Type 0
  Fits objects wait (Wait what on timeout) = (timeout ≡ wait) × (is_check wait ≡ false) × AreApart objects.table on
  Fits objects wait (WaitAfter what on timeout writes) =
      (timeout ≡ wait) × (is_check wait ≡ false) × AreApart objects.table on
  Fits objects wait (On id does) =
      (active : Active T) → active_at objects.table id ≡ Some active → Fits objects wait (does active)
  Fits objects wait (Named name does) = Fits objects wait does
  Fits objects wait other = Unit {0}

  -- an ending fits the open wait that a task has or has not
  abbrev pub FitsEnding : Option (WaitRecord W) → Ending T W → Type 0
  FitsEnding found NoWait = is_some found ≡ false
  FitsEnding found WaitsOn = is_some found ≡ true
  FitsEnding found (Ends reply writes) = (is_some found ≡ true) × (is_waits reply.answer ≡ false)

  -- what holds of a refusal, and of what is done with an object that is there, holds of a call on an object
  pub of_found : (P : Replied × ObjectsState T W → Type 0) (objects : ObjectsState T W) (does : Active T → Replied × ObjectsState T W) (found : Option (Active T)) → P (refusal status.ErrInvalidId, objects) → ((active : Active T) → found ≡ Some active → P (does active)) → P (found_then objects does found)
  of_found P objects does None none some = none
  of_found P objects does (Some active) none some = some active refl

  -- what holds of each refusal, and of what is done under a name that may be, holds of a call under a name
  pub of_named : (P : Replied × ObjectsState T W → Type 0) (objects : ObjectsState T W) (does : Replied × ObjectsState T W) (fault : Option NameFault) → ((by : Status) → P (refusal by, objects)) → P does → P (unless fault objects does)
  of_named P objects does (Some fault) refused done = refused (name_status fault)
  of_named P objects does None refused done = done

  -- writes may be made
  writes_allowed : (objects : ObjectsState T W) (writes : List (Write T W)) → AreAllowed objects (map as_change writes)
  writes_allowed objects [] = tt
  writes_allowed objects (Put id object ∷ writes) = (tt, writes_allowed (changed objects (as_change (Put id object))) writes)
  writes_allowed objects (Mark test ∷ writes) = (tt, writes_allowed (changed objects (as_change (Mark test))) writes)

  -- they are one move
  pub written_moves : (objects : ObjectsState T W) (writes : List (Write T W)) → IsMove objects (written objects writes)
  written_moves objects writes =
      record { move = Changes (map as_change writes); may = writes_allowed objects writes; is = refl }

  -- and then the end of a wait
  end_allowed : (objects : ObjectsState T W) (task : ℕ) (writes : List (Write T W)) → AreAllowed objects (map as_change writes ++ End task ∷ [])
  end_allowed objects task [] = (tt, tt)
  end_allowed objects task (Put id object ∷ writes) = (tt, end_allowed (changed objects (as_change (Put id object))) task writes)
  end_allowed objects task (Mark test ∷ writes) = (tt, end_allowed (changed objects (as_change (Mark test))) task writes)

  after_end : (objects : ObjectsState T W) (task : ℕ) (made : List (Change T W)) → end_wait (after_changes objects made) task ≡ after_changes objects (made ++ End task ∷ [])
  after_end objects task [] = refl
  after_end objects task (change ∷ made) = after_end (changed objects change) task made

  one_same : (objects : ObjectsState T W) (write : Write T W) → SameWaits (seen_of objects.waits) (seen_of (changed objects (as_change write)).waits)
  one_same objects (Put id object) = same_waits _
  one_same objects (Mark test) = released_same objects.waits test

  -- writes leave the open waits
  written_same : (objects : ObjectsState T W) (writes : List (Write T W)) → SameWaits (seen_of objects.waits) (seen_of (written objects writes).waits)
  written_same objects [] = same_waits _
  written_same objects (write ∷ writes) =
      same_then (one_same objects write) (written_same (changed objects (as_change write)) writes)

  module _ (objects : ObjectsState T W) (task : ℕ) (now : Moment) where
    wait_moves : (wait : WaitRecord W) (writes : List (Write T W)) (fault : Option Status) → wait_fault objects.waits wait.task ≡ fault → AreApart objects.table wait.on → IsMove objects (waited objects wait writes fault).1
    wait_moves wait writes (Some fault) is apart = stays objects
    wait_moves wait writes None is apart = record {
      move = Changes (Begin wait ∷ map as_change writes);
      may = (apart, writes_allowed (begin_step objects wait).1 writes);
      is = ap (λ o. written (begun objects wait o).1 writes) (sym is);
    }

    pub outcome_moves : (wait : Timeout) (outcome : Outcome T W) → Fits objects wait outcome → IsMove objects (carried_out objects task now outcome).1
    outcome_moves wait (Refuse fault) fits = stays objects
    outcome_moves wait (On id does) fits =
        of_found (λ s. IsMove objects s.1) objects _ (active_at objects.table id) (stays objects) (λ active at. outcome_moves wait (does active) (fits active at))
    outcome_moves wait (Give number bytes writes) fits = written_moves objects writes
    outcome_moves wait (Find name) fits = stays objects
    outcome_moves wait (Named name does) fits =
        of_named (λ s. IsMove objects s.1) objects (carried_out objects task now does) (name_fault name) (λ by. stays objects) (outcome_moves wait does fits)
    outcome_moves wait Go fits = stays objects
    outcome_moves wait (Make name object) fits = record { move = MakeMove (Some name) object []; may = (tt, tt); is = refl }
    outcome_moves wait (Remove id) fits = record { move = RemoveMove id; may = tt; is = refl }
    outcome_moves wait (Leave id) fits = record { move = RemoveMove id; may = tt; is = refl }
    outcome_moves wait (Hold id) fits = changes objects (HoldChange id) tt
    outcome_moves wait (Release id) fits = changes objects (ReleaseChange id) tt
    outcome_moves wait (Wait what on timeout) fits =
        changes objects (Begin (new_wait task what on timeout now)) fits.2
    outcome_moves wait (WaitAfter what on timeout writes) fits =
        wait_moves (new_wait task what on timeout now) writes (wait_fault objects.waits task) refl fits.2

    wait_keeps : (wait : WaitRecord W) (writes : List (Write T W)) (fault : Option Status) → Leaves is_refusal objects (waited objects wait writes fault)
    wait_keeps wait writes (Some fault) = same
    wait_keeps wait writes None = fails refl

    pub outcome_keeps : (outcome : Outcome T W) → Leaves is_refusal objects (carried_out objects task now outcome)
    outcome_keeps (Refuse fault) = same
    outcome_keeps (On id does) =
        of_found (Leaves is_refusal objects) objects _ (active_at objects.table id) same (λ active at. outcome_keeps (does active))
    outcome_keeps (Give number bytes writes) = fails refl
    outcome_keeps (Find name) = same
    outcome_keeps (Named name does) =
        of_named (Leaves is_refusal objects) objects (carried_out objects task now does) (name_fault name) (λ by. same) (outcome_keeps does)
    outcome_keeps Go = same
    outcome_keeps (Leave id) = fails refl
    outcome_keeps (Make name object) = create_keeps objects (Some name) object
    outcome_keeps (Remove id) = delete_keeps objects id
    outcome_keeps (Hold id) = hold_keeps objects id
    outcome_keeps (Release id) = release_keeps objects id
    outcome_keeps (Wait what on timeout) = begin_keeps objects (new_wait task what on timeout now)
    outcome_keeps (WaitAfter what on timeout writes) =
        wait_keeps (new_wait task what on timeout now) writes (wait_fault objects.waits task)

    wait_steps : (what : W) (on : List ℕ) (wait : Timeout) (writes : List (Write T W)) → is_check wait ≡ false → (fault : Option Status) → Steps objects task wait (waited objects (new_wait task what on wait now) writes fault)
    wait_steps what on wait writes may (Some fault) = goes refl
    wait_steps what on wait writes may None =
        Waits refl may (opened_then (with_opened objects.waits (new_wait task what on wait now) wait now refl) (written_same _ writes))

    pub outcome_waits : (wait : Timeout) (outcome : Outcome T W) → Fits objects wait outcome → Steps objects task wait (carried_out objects task now outcome)
    outcome_waits wait (Refuse fault) fits = goes refl
    outcome_waits wait (On id does) fits =
        of_found (Steps objects task wait) objects _ (active_at objects.table id) (goes refl) (λ active at. outcome_waits wait (does active) (fits active at))
    outcome_waits wait (Give number bytes writes) fits = Goes refl (written_same objects writes)
    outcome_waits wait (Find name) fits = goes (find_answered objects name)
    outcome_waits wait (Named name does) fits =
        of_named (Steps objects task wait) objects (carried_out objects task now does) (name_fault name) (λ by. goes refl) (outcome_waits wait does fits)
    outcome_waits wait Go fits = goes refl
    outcome_waits wait (Leave id) fits = goes refl
    outcome_waits wait (Make name object) fits = create_goes objects (Some name) object
    outcome_waits wait (Remove id) fits = delete_goes objects id
    outcome_waits wait (Hold id) fits = hold_goes objects id
    outcome_waits wait (Release id) fits = release_goes objects id
    outcome_waits wait (Wait what on timeout) fits =
        begin_steps objects (new_wait task what on timeout now) wait now fits.1 (ap (λ t. deadline_of t now) fits.0)
    outcome_waits wait (WaitAfter what on timeout writes) fits =
        subst (λ t. Steps objects task t (carried_out objects task now (WaitAfter what on timeout writes))) fits.0
        (wait_steps what on timeout writes (ap is_check fits.0 ∙ fits.1) (wait_fault objects.waits task))

  module _ (objects : ObjectsState T W) (task : ℕ) where
    pub ending_moves : (ending : Ending T W) → IsMove objects (ended_as objects task ending).1
    ending_moves NoWait = stays objects
    ending_moves WaitsOn = stays objects
    ending_moves (Ends reply writes) = record {
      move = Changes (map as_change writes ++ End task ∷ []);
      may = end_allowed objects task writes;
      is = after_end objects task (map as_change writes);
    }

    pub ending_stays : (found : Option (WaitRecord W)) (ending : Ending T W) → FitsEnding found ending → Leaves is_waits objects (ended_as objects task ending)
    ending_stays found NoWait fits = same
    ending_stays found WaitsOn fits = same
    ending_stays found (Ends reply writes) fits = fails fits.1

    pub ending_ends : (ending : Ending T W) → FitsEnding (wait_of objects.waits task) ending → IsWaitEnd (seen_of objects.waits) task (ended_as objects task ending).0.answer (seen_of (ended_as objects task ending).1.waits)
    ending_ends NoWait fits = Refuses fits refl
    ending_ends WaitsOn fits = Stays fits refl
    ending_ends (Ends reply writes) fits =
        let kept = written_same objects writes in
        Closes fits.1 fits.0 (closed_after kept (end_closed (written objects writes) task (kept.all task ∙ fits.0)))

  module _ (objects : ObjectsState T W) (task : ℕ) (now : Moment) where
    -- a call that looks at an identifier under which nothing stands is refused by that
    pub gone_refused : (outcome : Outcome T W) (id : ℕ) → looks outcome ≡ Some id → active_at objects.table id ≡ None → (carried_out objects task now outcome).0 ≡ refusal status.ErrInvalidId
    gone_refused (On other does) id is none =
        let same : other ≡ id = cc in
        ap (λ o. (found_then objects (λ active. carried_out objects task now (does active)) o).0) (ap (active_at objects.table) same ∙ none)
    gone_refused (Remove other) id is none =
        let same : other ≡ id = cc in
        ap (λ (o : Option (Active T)). answered (take_out objects.table other (unheld o)).0) (ap (active_at objects.table) same ∙ none)
    gone_refused (Hold other) id is none =
        let same : other ≡ id = cc in
        ap (λ (o : Option (Active T)). (held_by_caller objects other o).0) (ap (active_at objects.table) same ∙ none)
    gone_refused (Release other) id is none =
        let same : other ≡ id = cc in
        ap (λ (o : Option (Active T)). (released_by_caller objects other o).0) (ap (active_at objects.table) same ∙ none)
    gone_refused _ id is none = cc

module _ {T W : Type 0} (objects : ObjectsState T W) (task : ℕ) where
  -- a wait that is given up is one move
  pub given_up_moves : IsMove objects (ended_as objects task (given_up (wait_of objects.waits task))).1
  given_up_moves = ending_moves objects task (given_up (wait_of objects.waits task))

  given_up_fits : (found : Option (WaitRecord W)) → FitsEnding {T = T} found (given_up found)
  given_up_fits None = refl
  given_up_fits (Some wait) = (refl, refl)

  given_up_keeps : (found : Option (WaitRecord W)) → Leaves is_refusal objects (ended_as objects task (given_up found))
  given_up_keeps None = same
  given_up_keeps (Some wait) = fails refl

  -- and leaves the state where it is refused
  pub abandon_leaves : Leaves is_refusal objects (ended_as objects task (given_up (wait_of objects.waits task)))
  abandon_leaves = given_up_keeps (wait_of objects.waits task)

  abandoned_is : (found : Option (WaitRecord W)) → abandoned objects task found ≡ ended_as objects task (given_up found)
  abandoned_is None = refl
  abandoned_is (Some wait) = refl

  -- a task that gives its open wait up ends it so
  pub abandon_is : abandon_step objects task ≡ ended_as objects task (given_up (wait_of objects.waits task))
  abandon_is = abandoned_is (wait_of objects.waits task)

  closes_then : {old new : WaitsSeen} {answer : Answer} → old.waits task ≡ true → is_waits answer ≡ false → IsWaitEnd old task answer new → IsClosed old new task
  closes_then some answers by = end_closes some answers by

  given_up_answers : (found : Option (WaitRecord W)) → is_waits (ended_as objects task (given_up found)).0.answer ≡ false
  given_up_answers None = refl
  given_up_answers (Some wait) = refl

  -- and closes the wait, where there is one
  pub given_up_closed : is_some (wait_of objects.waits task) ≡ true → IsClosed (seen_of objects.waits) (seen_of (ended_as objects task (given_up (wait_of objects.waits task))).1.waits) task
  given_up_closed some =
      closes_then some (given_up_answers (wait_of objects.waits task))
      (ending_ends objects task (given_up (wait_of objects.waits task)) (given_up_fits (wait_of objects.waits task)))
