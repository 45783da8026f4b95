-- The end of an open wait that does not wait on gives its holds back, in the objects on which it stood.
use Rattle.std.proofs.Common.{◌≡◌, ◌+◌, ℕ, Bool, true, false, cond, List, [], ◌∷◌, map, find, Option, Some, None, is_some, refl, sym, ap, subst, ◌∙◌, arith}
use Rattle.std.proofs.lemmas.Bool.{cond_both, both_ways}
use Rattle.osal_base.specs.declared.time.Moment.{Moment}
use Rattle.osal_base.specs.Reply.{Replied, is_waits}
use Rattle.osal_object.specs.declared.waits.WaitRecord.{WaitRecord}
use Rattle.osal_idtable.specs.Table.{Active, active_at}
use Rattle.osal_idtable.specs.Steps.{reserve_step}
use Rattle.osal_object.specs.Waits.{is_of, wait_of, waits_on, stands_on, released_if}
use Rattle.osal_object.specs.Objects.{ObjectsState, create_step}
use Rattle.osal_object.specs.Waiting.{ended, end_wait}
use Rattle.osal_object.specs.Moves.{End, Create, Changes, changed, IsAllowed}
use Rattle.osal_object.specs.Outcomes.{Write, Put, Mark, Ending, NoWait, WaitsOn, Ends, as_change, written, ended_as}
use Rattle.osal_object.specs.ObjectLaws.{IsCounted, holds_of}
use Rattle.osal_object.proofs.Activity.{change_alike, create_grows}
use Rattle.osal_object.proofs.Apart.{none_stand}
use Rattle.osal_object.proofs.Balance.{balanced_ended}
use Rattle.osal_object.proofs.Carried.{FitsEnding}
use Rattle.osal_object.proofs.Counted.{holds_are_counted}
use Rattle.osal_object.proofs.HeldEach.{put_holds}
use Rattle.osal_object.proofs.Records.{share, count_less}
use Rattle.osal_file.specs.Held.{is_of_directory}
use Rattle.osal_io.specs.declared.awaited.Awaited.{Awaited}
use Rattle.osal_io.specs.declared.part.Stream.{Stream}
use Rattle.osal_io.specs.Io.{IoState, is_of_stream}
use Rattle.osal_io.proofs.Awaits.{IsIoEnd, Refused, WaitsOn as StillWaits, Over}
use Rattle.osal_io.proofs.Makes.{makes_new, makes_balanced}
use Rattle.osal_io.proofs.StreamWaits.{create_waits}
use Rattle.osal_io.proofs.Tried.{Grown, Same, New}
use Rattle.osal_call.specs.declared.call.Call.{Call}
use Rattle.osal_call.specs.declared.call.Call.TheVariants as call
use Rattle.osal_machine.specs.Parts.{Io}
use Rattle.osal_laws.specs.Laws.{holds_in}
use Rattle.osal_laws.specs.Steps.{stands, stands_in}
use Rattle.osal_laws.proofs.Known.{Known}
use Rattle.osal_laws.proofs.NewObjects.{created_new}

-- one for a test that passes, else none
abbrev pub one_if : Bool → ℕ
one_if test = cond test 1 0

-- holds that fall by so many where something is there fall by so many
fallen : {T : Type 0} (some : ℕ) (x y : Option (Active T)) → is_some y ≡ is_some x → ((a b : Active T) → x ≡ Some a → y ≡ Some b → a.holds ≡ b.holds + some) → (is_some x ≡ false → some ≡ 0) → holds_of x ≡ holds_of y + some
fallen some None None alike falls none = let zero = none refl in omega arith
fallen some None (Some b) alike falls none = absurd (both_ways false refl (sym alike))
fallen some (Some a) None alike falls none = absurd (both_ways false refl alike)
fallen some (Some a) (Some b) alike falls none = falls a b refl refl

found_same : {W : Type 0} (own : Bool) (id : ℕ) (here other : WaitRecord W) (rest more : Option (WaitRecord W)) → stands_on id here ≡ stands_on id other → stands id rest ≡ stands id more → stands id (cond own (Some here) rest) ≡ stands id (cond own (Some other) more)
found_same true id here other rest more one others = one
found_same false id here other rest more one others = others

released_stands : {W : Type 0} (test : WaitRecord W → Bool) (task id : ℕ) (waits : List (WaitRecord W)) → stands id (find (is_of task) (map (released_if test) waits)) ≡ stands id (find (is_of task) waits)
released_stands test task id [] = refl
released_stands {W = W} test task id (wait ∷ waits) =
    let rest = released_stands test task id waits in
    cond_both (test wait) _ _
    (λ (w : WaitRecord W). stands id (cond (is_of task w) (Some w) (find (is_of task) (map (released_if test) waits))) ≡ stands id (cond (is_of task wait) (Some wait) (find (is_of task) waits)))
    (λ t. found_same (is_of task wait) id (record wait { released = true }) wait _ _ refl rest)
    (λ t. found_same (is_of task wait) id wait wait _ _ refl rest)

module _ {T W : Type 0} where
  -- after some writes the objects are held as before, and the wait of a task stands where it stood
  record IsSame (task : ℕ) (old new : ObjectsState T W) : Type 0 where
    counted : IsCounted new
    holds : (id : ℕ) → holds_of (active_at old.table id) ≡ holds_of (active_at new.table id)
    standing : (id : ℕ) → stands id (wait_of new.waits task) ≡ stands id (wait_of old.waits task)

  one_allowed : (objects : ObjectsState T W) (write : Write T W) → IsAllowed objects (as_change write)
  one_allowed objects (Put id object) = tt
  one_allowed objects (Mark test) = tt

  same_holds : (objects : ObjectsState T W) (write : Write T W) (id : ℕ) → holds_of (active_at objects.table id) ≡ holds_of (active_at (changed objects (as_change write)).table id)
  same_holds objects (Put at object) id =
      let same = fallen 0 (active_at objects.table id) (active_at (changed objects (as_change (Put at object))).table id) (change_alike objects (as_change (Put at object)) id)
      (λ a b was now. let holds = put_holds objects.table at object (active_at objects.table at) refl id a b was now in omega arith)
      (λ none. refl) in
      omega arith
  same_holds objects (Mark test) id = refl

  same_standing : (task : ℕ) (objects : ObjectsState T W) (write : Write T W) (id : ℕ) → stands id (wait_of (changed objects (as_change write)).waits task) ≡ stands id (wait_of objects.waits task)
  same_standing task objects (Put at object) id = refl
  same_standing task objects (Mark test) id = released_stands test task id objects.waits.records

  written_same : (task : ℕ) (objects : ObjectsState T W) (writes : List (Write T W)) → IsCounted objects → IsSame task objects (written objects writes)
  written_same task objects [] counted = record { counted = counted; holds = λ id. refl; standing = λ id. refl }
  written_same task objects (write ∷ writes) counted =
      let next = changed objects (as_change write) in
      let rest = written_same task next writes ((holds_are_counted T W).1 objects (Changes (as_change write ∷ [])) counted (one_allowed objects write, tt)) in
      record {
        counted = rest.counted;
        holds = λ id. same_holds objects write id ∙ rest.holds id;
        standing = λ id. rest.standing id ∙ same_standing task objects write id;
      }

  -- writes leave the holds of objects counted
  pub written_counted : (task : ℕ) (objects : ObjectsState T W) (writes : List (Write T W)) → IsCounted objects → IsCounted (written objects writes)
  written_counted task objects writes counted = let same = written_same task objects writes counted in same.counted

  -- a task's wait is over: the objects on which it stood have one hold less
  abbrev pub GivesBack : ℕ → ObjectsState T W → ObjectsState T W → Type 0
  GivesBack task old new =
      (id : ℕ) → holds_of (active_at old.table id) ≡ holds_of (active_at new.table id) + one_if (stands id (wait_of old.waits task))

  module _ (task : ℕ) where
    ended_gives : (objects : ObjectsState T W) → IsCounted objects → (found : Option (WaitRecord W)) → wait_of objects.waits task ≡ found → (id : ℕ) → is_some (active_at (ended objects task found).table id) ≡ is_some (active_at objects.table id) → holds_of (active_at objects.table id) ≡ holds_of (active_at (ended objects task found).table id) + one_if (stands id found)
    ended_gives objects counted None is id alike = omega arith
    ended_gives objects counted (Some wait) is id alike =
        let fewer = count_less id (is_of task) objects.waits.records wait (counted.once task) is in
        fallen (share id wait) (active_at objects.table id) (active_at (ended objects task (Some wait)).table id) alike
        (λ a b was now. let both = balanced_ended objects counted task (Some wait) is id a b was now in omega arith)
        (λ none. let all = none_stand objects.table id none objects.waits.records counted.standing in omega arith)

    end_gives : (objects : ObjectsState T W) → IsCounted objects → GivesBack task objects (end_wait objects task)
    end_gives objects counted id =
        ended_gives objects counted (wait_of objects.waits task) refl id (change_alike objects (End task) id)

    -- the end of an open wait that does not wait on
    ending_gives : (objects : ObjectsState T W) (ending : Ending T W) → IsCounted objects → is_some (wait_of objects.waits task) ≡ true → FitsEnding (wait_of objects.waits task) ending → is_waits (ended_as objects task ending).0.answer ≡ false → GivesBack task objects (ended_as objects task ending).1
    ending_gives objects NoWait counted some fits over = absurd (both_ways _ fits some)
    ending_gives objects WaitsOn counted some fits over = absurd (both_ways true over refl)
    ending_gives objects (Ends reply writes) counted some fits over = λ id.
        let same = written_same task objects writes counted in
        same.holds id ∙ end_gives (written objects writes) same.counted id
        ∙ ap (λ b. holds_of (active_at (end_wait (written objects writes) task).table id) + one_if b) (same.standing id)

-- holds that stay where something is there before and after, and are none where it is new
same_held : {T : Type 0} (x y : Option (Active T)) → (is_some x ≡ true → is_some y ≡ true) → ((a b : Active T) → x ≡ Some a → y ≡ Some b → b.holds ≡ a.holds) → (is_some x ≡ false → (b : Active T) → y ≡ Some b → b.holds ≡ 0) → holds_of x ≡ holds_of y
same_held None None stays same new = refl
same_held None (Some b) stays same new = sym (new refl b refl)
same_held (Some a) None stays same new = absurd (both_ways false refl (stays refl))
same_held (Some a) (Some b) stays same new = sym (same a b refl refl)

-- a create leaves the holds of what is there, and holds nothing
created_holds : {T W : Type 0} (objects : ObjectsState T W) (name : Option (List ℕ)) (object : T) (id : ℕ) → holds_of (active_at objects.table id) ≡ holds_of (active_at (create_step objects name object).1.table id)
created_holds objects name object id =
    same_held (active_at objects.table id) (active_at (create_step objects name object).1.table id)
    (create_grows objects name object (reserve_step objects.table name).0 id)
    (λ a b was now.
    let both = makes_balanced (makes_new objects name object) id a b was now in
    let waits = ap (λ w. waits_on w id) (create_waits objects name object) in
    omega arith)
    (λ none b now. created_new objects id none b name object (reserve_step objects.table name).0 now)

chosen_gives : (stream directory own : Bool) (x : ℕ) {a b c y z : ℕ} → a ≡ x + one_if own → b ≡ y → c ≡ z → cond stream a (cond directory b c) ≡ cond stream x (cond directory y z) + one_if (cond stream own false)
chosen_gives true directory own x given others more = given
chosen_gives false true own x given others more = omega arith
chosen_gives false false own x given others more = omega arith

module _ (io : IoState) (task : ℕ) (counted : IsCounted io.streams) where
  grown_gives : (new : ObjectsState Stream Awaited) → Grown io.streams new → GivesBack task io.streams (end_wait new task)
  grown_gives new (Same same) =
      subst (λ o. GivesBack task io.streams (end_wait o task)) (sym same) (end_gives task io.streams counted)
  grown_gives new (New made is) =
      let start = (create_step io.streams None made).1 in
      let also = (holds_are_counted Stream Awaited).1 io.streams (Create None made []) counted (tt, tt) in
      subst (λ o. GivesBack task io.streams (end_wait o task)) (sym is)
      (λ id. created_holds io.streams None made id ∙ end_gives task start also id
      ∙ ap (λ w. holds_of (active_at (end_wait start task).table id) + one_if (stands id (wait_of w task))) (create_waits io.streams None made))

  -- the end of a wait on streams, beside which one may be made
  pub io_gives : (stepped : Replied × IoState) → IsIoEnd io task stepped → is_some (wait_of io.streams.waits task) ≡ true → is_waits stepped.0.answer ≡ false → (id : ℕ) → holds_in (Io io) id ≡ holds_in (Io stepped.1) id + one_if (stands_in (Io io) task id)
  io_gives stepped (Refused none is) some over = absurd (both_ways _ none some)
  io_gives stepped (StillWaits also is) some over =
      absurd (both_ways (is_waits stepped.0.answer) over (ap (λ (s : Replied × IoState). is_waits s.0.answer) is))
  io_gives stepped (Over also before answers grown systems directories is) some over =
      subst (λ (s : Replied × IoState). (id : ℕ) → holds_in (Io io) id ≡ holds_in (Io s.1) id + one_if (stands_in (Io io) task id)) (sym is)
      (λ id. chosen_gives (is_of_stream id) (is_of_directory id) (stands id (wait_of io.streams.waits task)) (holds_of (active_at (end_wait before.1.streams task).table id)) (grown_gives before.1.streams grown id)
      (ap (λ o. holds_of (active_at o.table id)) (sym directories)) (ap (λ o. holds_of (active_at o.table id)) (sym systems)))

-- the end of an open wait of a part that is known by its endings
pub known_gives : {S T W : Type 0} {number : ℕ} {own : ℕ → Bool} {objects : S → ObjectsState T W} {outcome : _} {ending : S → ℕ → Moment → Ending T W} {step : S → ℕ → Moment → Call → Replied × S} → Known number own objects outcome ending step → (old : S) (task : ℕ) (now : Moment) → IsCounted (objects old) → is_some (wait_of (objects old).waits task) ≡ true → is_waits (step old task now (call.WaitEnd number)).0.answer ≡ false → GivesBack task (objects old) (objects (step old task now (call.WaitEnd number)).1)
known_gives {number = number} {objects = objects} {ending = ending} known old task now counted some =
    subst (λ (s : Replied × ObjectsState _ _). is_waits s.0.answer ≡ false → GivesBack task (objects old) s.1)
    (sym (known.ends old task now number ∙ ap (λ b. ended_as (objects old) task (cond b (ending old task now) NoWait)) known.owns))
    (ending_gives task (objects old) (ending old task now) counted some (known.ends_fit old task now))
