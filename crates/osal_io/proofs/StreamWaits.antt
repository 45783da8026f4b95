-- What a call of the io part does to the open waits of the streams, and where it leaves the part.
use Rattle.std.proofs.Common.{◌≡◌, ℕ, Bool, true, false, List, [], ◌∷◌, nat_lt, Option, Some, None, is_some, Result, Ok, Err, refl, sym, ap, subst, ◌∙◌}
use Rattle.std.proofs.lemmas.Bool.{both_ways}
use Rattle.osal_base.specs.declared.status.Status.TheVariants as status
use Rattle.osal_base.specs.declared.time.Moment.{Moment}
use Rattle.osal_base.specs.declared.time.Timeout.{Timeout}
use Rattle.osal_base.specs.Reply.{Replied, is_waits}
use Rattle.osal_idtable.specs.declared.table.ReserveFault.{ReserveFault}
use Rattle.osal_idtable.specs.Table.{Active, TableState, Reserved, active_at}
use Rattle.osal_idtable.specs.Steps.{reserve_step}
use Rattle.osal_object.specs.Moves.{Change, Put, Hold, Release, Begin, End, Mark, Move, Create, Remove, Changes, changed, after_changes, moved}
use Rattle.osal_object.specs.Objects.{ObjectsState, created, create_step, held_by_caller, released_by_caller, caller_hold_limit}
use Rattle.osal_object.specs.Waits.{WaitsState, new_wait, wait_of, waits_on}
use Rattle.osal_object.specs.Waiting.{end_wait}
use Rattle.osal_object.proofs.Moves.{either}
use Rattle.osal_object.proofs.OpenWaits.{WaitsSeen, seen_of, SameWaits, same_waits, IsClosed}
use Rattle.osal_object.proofs.Refusals.{Leaves, same, fails, within, begin_keeps}
use Rattle.osal_object.proofs.WaitSteps.{IsWaitStep, Goes, IsWaitEnd, Refuses, Stays, Ends, begin_steps, end_closed}
use Rattle.osal_io.specs.Io.{IoState, Stepped, refused}
use Rattle.osal_io.proofs.Awaits.{IsIoCall, Now, Begins, IsIoEnd, Refused, WaitsOn, Over}
use Rattle.osal_io.proofs.Below.{below, refused_leaves}
use Rattle.osal_io.proofs.IoSteps.{IoTurns, OfStreams, OfFiles}
use Rattle.osal_io.proofs.Makes.{Makes, SuitChanges, SuitsMove}
use Rattle.osal_io.proofs.Tried.{Grown, Same, New}

module _ {T W : Type 0} where
  module _ (objects : ObjectsState T W) where
    held_waits : (id : ℕ) (found : Option (Active T)) → (held_by_caller objects id found).1.waits ≡ objects.waits
    held_waits id None = refl
    held_waits id (Some active) =
        either (λ (s : Replied × ObjectsState T W). s.1.waits ≡ objects.waits) (nat_lt active.holds caller_hold_limit) _ _ refl refl

    released_waits : (id : ℕ) (found : Option (Active T)) → (released_by_caller objects id found).1.waits ≡ objects.waits
    released_waits id None = refl
    released_waits id (Some active) =
        either (λ (s : Replied × ObjectsState T W). s.1.waits ≡ objects.waits) (nat_lt (waits_on objects.waits id) active.holds) _ _ refl refl

    created_waits : (object : T) (r : Result Reserved ReserveFault) (table : TableState T) → (created objects object r table).1.waits ≡ objects.waits
    created_waits object (Err fault) table = refl
    created_waits object (Ok reserved) table = refl

    -- a create leaves the open waits
    pub create_waits : (name : Option (List ℕ)) (object : T) → (create_step objects name object).1.waits ≡ objects.waits
    create_waits name object =
        created_waits object (reserve_step objects.table name).0 (reserve_step objects.table name).1

  changes_waits : (holding : Bool) (objects : ObjectsState T W) (changes : List (Change T W)) → SuitChanges holding changes → (after_changes objects changes).waits ≡ objects.waits
  changes_waits holding objects [] suit = refl
  changes_waits holding objects (Put id object ∷ changes) suit = changes_waits holding (changed objects (Put id object)) changes suit.1
  changes_waits holding objects (Hold id ∷ changes) suit =
      changes_waits holding (changed objects (Hold id)) changes suit.1 ∙ held_waits objects id (active_at objects.table id)
  changes_waits holding objects (Release id ∷ changes) suit =
      changes_waits holding (changed objects (Release id)) changes suit.1 ∙ released_waits objects id (active_at objects.table id)
  changes_waits holding objects (Begin wait ∷ changes) suit = absurd suit.0
  changes_waits holding objects (End task ∷ changes) suit = absurd suit.0
  changes_waits holding objects (Mark test ∷ changes) suit = absurd suit.0

  move_waits : (holding : Bool) (objects : ObjectsState T W) (move : Move T W) → SuitsMove holding move → (moved objects move).waits ≡ objects.waits
  move_waits holding objects (Create name object changes) suits =
      changes_waits false (create_step objects name object).1 changes suits ∙ create_waits objects name object
  move_waits holding objects (Remove id) suits = refl
  move_waits holding objects (Changes changes) suits = changes_waits holding objects changes suits

  -- what a call without waits makes of a table leaves its open waits
  pub makes_waits : {holding : Bool} {old new : ObjectsState T W} → Makes holding old new → new.waits ≡ old.waits
  makes_waits {holding} {old} makes =
      ap (λ (o : ObjectsState T W). o.waits) makes.is ∙ move_waits holding old makes.move makes.suits

-- streams that are the same or have a new one have the open waits that they had
pub grown_waits : {old new : ObjectsState _ _} → Grown old new → new.waits ≡ old.waits
grown_waits (Same same) = ap (λ (o : ObjectsState _ _). o.waits) same
grown_waits {old} (New made is) = ap (λ (o : ObjectsState _ _). o.waits) is ∙ create_waits old None made

turned_waits : {holding : Bool} {old new : IoState} → IoTurns holding old new → new.streams.waits ≡ old.streams.waits
turned_waits (OfStreams streams systems directories) = makes_waits streams
turned_waits (OfFiles streams files) = ap (λ (o : ObjectsState _ _). o.waits) streams

-- waits that are the same are seen as the same
seen_same : {W : Type 0} (old new : WaitsState W) → new ≡ old → SameWaits (seen_of old) (seen_of new)
seen_same old new is = subst (λ w. SameWaits (seen_of old) (seen_of w)) (sym is) (same_waits (seen_of old))

-- what is seen of the open waits of the streams
abbrev pub seen_in : IoState → WaitsSeen
seen_in io = seen_of io.streams.waits

module _ (io : IoState) (task : ℕ) (now : Moment) where
  -- a call that ends no wait leaves the open waits, or its task waits
  pub call_waits : {holding : Bool} {wait : Timeout} {stepped : Stepped} → IsIoCall holding io task now wait stepped → IsWaitStep (seen_in io) task wait stepped.0.answer (seen_in stepped.1)
  call_waits {stepped = stepped} (Now step) =
      Goes step.answers (seen_same io.streams.waits stepped.1.streams.waits (turned_waits step.turns))
  call_waits {wait = wait} (Begins what on may apart is) =
      subst (λ (s : Stepped). IsWaitStep (seen_in io) task wait s.0.answer (seen_in s.1)) (sym is)
      (begin_steps io.streams (new_wait task what on wait now) wait now may refl)

  -- one that answers a code below 0 leaves the part
  pub call_keeps : {holding : Bool} {wait : Timeout} {stepped : Stepped} → IsIoCall holding io task now wait stepped → Leaves below io stepped
  call_keeps (Now step) = step.keeps
  call_keeps {wait = wait} (Begins what on may apart is) =
      subst (Leaves below io) (sym is)
      (within (λ streams. record io { streams = streams }) (refused_leaves (begin_keeps io.streams (new_wait task what on wait now))))

module _ (io : IoState) (task : ℕ) where
  over_closed : (before : Stepped) → Grown io.streams before.1.streams → is_some (wait_of io.streams.waits task) ≡ true → IsClosed (seen_in io) (seen_of (end_wait before.1.streams task).waits) task
  over_closed before grown some =
      let same = grown_waits grown in
      subst (λ w. IsClosed (seen_of w) (seen_of (end_wait before.1.streams task).waits) task) same
      (end_closed before.1.streams task (ap (λ w. is_some (wait_of w task)) same ∙ some))

module _ (io : IoState) (task : ℕ) {stepped : Stepped} where
  -- the end of a wait is refused, waits on, or ends it
  pub end_waits : IsIoEnd io task stepped → IsWaitEnd (seen_in io) task stepped.0.answer (seen_in stepped.1)
  end_waits (Refused none is) =
      subst (λ (s : Stepped). IsWaitEnd (seen_in io) task s.0.answer (seen_in s.1)) (sym is) (Refuses none refl)
  end_waits (WaitsOn some is) =
      subst (λ (s : Stepped). IsWaitEnd (seen_in io) task s.0.answer (seen_in s.1)) (sym is) (Stays some refl)
  end_waits (Over some before answers grown systems directories is) =
      subst (λ (s : Stepped). IsWaitEnd (seen_in io) task s.0.answer (seen_in s.1)) (sym is)
      (Ends answers some (over_closed io task before grown some))

  -- the end of a wait that waits on leaves the part
  pub end_stays : IsIoEnd io task stepped → Leaves is_waits io stepped
  end_stays (Refused none is) = subst (Leaves is_waits io) (sym is) same
  end_stays (WaitsOn some is) = subst (Leaves is_waits io) (sym is) same
  end_stays (Over some before answers grown systems directories is) = subst (Leaves is_waits io) (sym is) (fails answers)

  -- where the task has no wait its end is refused, and leaves the part
  pub end_refuses : IsIoEnd io task stepped → is_some (wait_of io.streams.waits task) ≡ false → stepped ≡ refused io status.ErrIncorrectObjState
  end_refuses (Refused gone is) none = is
  end_refuses (WaitsOn some is) none = absurd (both_ways _ none some)
  end_refuses (Over some before answers grown systems directories is) none = absurd (both_ways _ none some)
