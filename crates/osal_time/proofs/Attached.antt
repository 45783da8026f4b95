-- Each timebase has active timers of its own, each once, and each active timer stands in the list of its timebase,
-- whatever the calls of the part.
use Rattle.std.proofs.Common.{◌≡◌, ◌<◌, ◌+◌, ◌==◌, ◌&&◌, ℕ, false, cond, List, [], ◌∷◌, length, nat_eq, nat_lt, is_some, Option, Some, None, Result, Ok, Err, refl, sym, ap, subst, ◌∙◌, inl, inr, arith}
use Rattle.std.specs.List.{IsDistinct}
use Rattle.std.proofs.lemmas.Bool.{both_ways, cases_eq, cond_both}
use Rattle.std.proofs.lemmas.Bool.Decides.{nat_tests}
use Rattle.std.proofs.lemmas.List.Elements.{Contains-append_left, Contains-push}
use Rattle.osal_base.specs.declared.id.ObjType.TheVariants as kind
use Rattle.osal_base.specs.declared.limits.Limits.{Limits}
use Rattle.osal_base.specs.declared.name.NameFault.{NameFault}
use Rattle.osal_base.specs.declared.name.NameFault.TheVariants as fault
use Rattle.osal_base.specs.declared.time.Moment.{Moment}
use Rattle.osal_base.specs.Identifier.{type_number}
use Rattle.osal_base.specs.Limits.{Fits}
use Rattle.osal_base.specs.Name.{name_fault}
use Rattle.osal_base.specs.Reply.{Replied}
use Rattle.osal_idtable.specs.declared.table.IdFault.{IdFault}
use Rattle.osal_idtable.specs.declared.table.IdFault.TheVariants as id_fault
use Rattle.osal_idtable.specs.declared.table.ReserveFault.{ReserveFault}
use Rattle.osal_idtable.specs.declared.table.ReserveFault.TheVariants as reserve_fault
use Rattle.osal_idtable.specs.Table.{Active, Reserved, replaced}
use Rattle.osal_idtable.specs.Steps.{reserve_step, take_out, unheld}
use Rattle.osal_idtable.specs.Faults.{answered, unless}
use Rattle.osal_idtable.specs.WellFormed.{IsWellFormed}
use Rattle.osal_object.specs.Objects.{ObjectsState, with_table, with_value, created, create_step, delete_step, hold_call_step, release_call_step}
use Rattle.osal_object.specs.Moves.{Move, Put, Hold, Release, Create, Remove, Changes, moved}
use Rattle.osal_object.specs.Outcomes.{Outcome, On, written, carried_out}
use Rattle.osal_object.proofs.Carried.{of_found}
use Rattle.osal_object.proofs.ByCalls.{tables_stay_well_formed}
use Rattle.osal_object.proofs.Counted.{issued_inactive}
use Rattle.osal_idtable.proofs.Holding.{either}
use Rattle.osal_object.proofs.SameObjects.{object_of, object_at, written_here, put_elsewhere, taken_elsewhere, caller_hold_same, caller_release_same, create_keeps, created_here}
use Rattle.osal_object.proofs.Shapes.{move_shape}
use Rattle.osal_idtable.proofs.WellFormed.{no_active, stays_well_formed}
use Rattle.osal_time.specs.Timebase.{Timebase, new_timebase, with_timer, without_timer, sum_limit}
use Rattle.osal_call.specs.Firing.{timer_limit}
use Rattle.osal_time.specs.declared.timer.Setting.{Setting}
use Rattle.osal_time.specs.declared.timer.Timer.{Timer}
use Rattle.osal_time.specs.Time.{TimeState, time_start, timebase_at, timer_at, in_timebases, in_timers, in_both, is_timer, advance_step, done, held, released}
use Rattle.osal_time.specs.Ticks.{run_of, removal_of, timebase_tick, timebase_delete}
use Rattle.osal_time.specs.Timers.{new_timer, attached, made_for, set_at, timer_set, detached_from, detached, timer_delete}
use Rattle.osal_time.specs.Attachment.{IsAttached, IsListed, HasOwnTimers, AreAttached, TimersStayAttached}
use Rattle.osal_time.proofs.Each.{Each, of_object, each_put, each_delete, each_left, each_made, each_create, each_hold, each_release}
use Rattle.osal_time.proofs.Kept.{one_timebase, attached_at, in_list, others_left, still_attached, still_listed, put_lists, put_listed, still_own, own_more, own_less}

-- a timer is in the list of its timebase
abbrev StandsInList : TimeState → ℕ → Timer → Type 0
StandsInList time id timer = IsListed time timer.timebase id

-- each timer is
abbrev EachListed : TimeState → Type 0
EachListed time = Each (StandsInList time) time.timers.table.active

once_none : IsDistinct nat_eq []
unfolding IsDistinct
once_none = tt

module _ (capacity : ℕ) (time : TimeState) (task : ℕ) (now : Moment) (all : AreAttached capacity time) where
  -- a step leaves timers and timebases attached
  abbrev Keeps : Replied × TimeState → Type 0
  Keeps stepped = AreAttached capacity stepped.1

  -- an outcome over the timebases, or over the timers, leaves them so
  abbrev OnTimebasesKeeps : Outcome Timebase (Unit {0}) → Type 0
  OnTimebasesKeeps outcome = Keeps (in_timebases time (carried_out time.timebases task now outcome))

  abbrev OnTimersKeeps : Outcome Timer (Unit {0}) → Type 0
  OnTimersKeeps outcome = Keeps (in_timers time (carried_out time.timers task now outcome))

  -- a call on a timebase, or on a timer, where it does so on each that is there
  on_timebase : (id : ℕ) (does : Active Timebase → Outcome Timebase (Unit {0})) → ((active : Active Timebase) → timebase_at time id ≡ Some active → OnTimebasesKeeps (does active)) → OnTimebasesKeeps (On id does)
  on_timebase id does each =
      of_found (λ s. Keeps (in_timebases time s)) time.timebases (λ active. carried_out time.timebases task now (does active)) (timebase_at time id) all each

  on_timer : (id : ℕ) (does : Active Timer → Outcome Timer (Unit {0})) → ((active : Active Timer) → timer_at time id ≡ Some active → OnTimersKeeps (does active)) → OnTimersKeeps (On id does)
  on_timer id does each =
      of_found (λ s. Keeps (in_timers time s)) time.timers (λ active. carried_out time.timers task now (does active)) (timer_at time id) all each

  own : Each (HasOwnTimers time) time.timebases.table.active
  own id timebase = of_object (HasOwnTimers time id) (timebase_at time id) timebase (all.each id)

  listed : EachListed time
  listed id timer = of_object (StandsInList time id) (timer_at time id) timer (all.listed id)

  -- a move of the timers leaves them so, where each timebase has its own timers afterwards, and lists them
  after_move : (new : TimeState) (move : Move Timer (Unit {0})) → new.timers ≡ moved time.timers move → Each (HasOwnTimers new) new.timebases.table.active → EachListed new → AreAttached capacity new
  after_move new move is each lists = record {
    each = λ id active there. each id active.object (ap object_of there);
    listed = λ id active there. lists id active.object (ap object_of there);
    timers = subst (λ (timers : ObjectsState Timer (Unit {0})). IsWellFormed timers.table) (sym is)
        (tables_stay_well_formed Timer (Unit {0}) time.timers move all.timers);
    room = ap (λ (timers : ObjectsState Timer (Unit {0})). timers.table.capacity) is ∙ (move_shape time.timers move).capacity ∙ all.room;
  }

  -- the timebases change, each has its own timers, and each timer stays listed
  timebases_keep : (timebases : ObjectsState Timebase (Unit {0})) → Each (HasOwnTimers time) timebases.table.active → ((timebase timer : ℕ) → IsListed time timebase timer → IsListed (record time { timebases = timebases }) timebase timer) → AreAttached capacity (record time { timebases = timebases })
  timebases_keep timebases each still =
      let new = record time { timebases = timebases } in
      after_move new (Changes []) refl
      (λ id timebase is. still_own time new id timebase (each id timebase is) (λ timer. still_attached time new id timer refl))
      (λ id timer is. still timer.timebase id (listed id timer is))

  -- the timers change, each stays attached, and each is listed
  timers_keep : (move : Move Timer (Unit {0})) → ((timebase timer : ℕ) → IsAttached time timebase timer → IsAttached (record time { timers = moved time.timers move }) timebase timer) → Each (StandsInList time) (moved time.timers move).table.active → AreAttached capacity (record time { timers = moved time.timers move })
  timers_keep move still lists =
      let new = record time { timers = moved time.timers move } in
      after_move new move refl (λ id timebase is. still_own time new id timebase (own id timebase is) (still id))
      (λ id timer is. still_listed time new timer.timebase id refl (lists id timer is))

  timebase_create_keeps : (name : List ℕ) (fault : Option NameFault) → Keeps (in_timebases time (unless fault time.timebases (create_step time.timebases (Some name) new_timebase)))
  timebase_create_keeps name (Some fault) = all
  timebase_create_keeps name None =
      let made = create_step time.timebases (Some name) new_timebase in
      timebases_keep made.1
      (each_create (HasOwnTimers time) time.timebases name new_timebase own
      (λ id. record { few = omega arith; once = once_none; own = tt }))
      (λ timebase timer was. still_listed time (record time { timebases = made.1 }) timebase timer (create_keeps time.timebases (Some name) new_timebase (reserve_step time.timebases.table (Some name)).0 refl timebase (ap is_some was.there)) was)

  run_keeps : (id usecs : ℕ) (active : Active Timebase) → timebase_at time id ≡ Some active → OnTimebasesKeeps (run_of time.timers.table id usecs active)
  run_keeps id usecs active is =
      let was = all.each id active is in
      let later : Timebase = record active.object { sum = active.object.sum + usecs } in
      let new = record time { timebases = with_value time.timebases id later } in
      either OnTimebasesKeeps (nat_lt sum_limit (active.object.sum + usecs)) _ _ all
      (timebases_keep new.timebases
      (each_put (HasOwnTimers time) time.timebases id later (λ other timebase ne. own other timebase) (record { few = was.few; once = was.once; own = was.own }))
      (λ timebase timer. put_listed time new id active is later refl timebase timer (λ there. there)))

  tick_keeps : (id usecs : ℕ) → Keeps (done time task now (timebase_tick time id usecs))
  tick_keeps id usecs =
      either OnTimebasesKeeps (usecs == 0) _ _ all (on_timebase id (run_of time.timers.table id usecs) (run_keeps id usecs))

  -- a timebase without timers lists none, so that each other one lists what it did
  bare_lists : (id : ℕ) (active : Active Timebase) → timebase_at time id ≡ Some active → nat_lt 0 (length active.object.timers) ≡ false → (timebase timer : ℕ) → IsListed time timebase timer → IsListed (record time { timebases = (delete_step time.timebases id).1 }) timebase timer
  bare_lists id active is bare timebase timer was =
      let new = record time { timebases = (delete_step time.timebases id).1 } in
      elim (cases_eq timebase id) [
        | inl same ↦
            let there = in_list time id timer active is (subst (λ one. IsListed time one timer) same was) in
            let place = there.1 in
            absurd (grind (arith, nat_tests))
        | inr ne ↦
            still_listed time new timebase timer (taken_elsewhere time.timebases.table id (unheld (timebase_at time id)) timebase ne) was
      ]

  delete_keeps : (id : ℕ) → Keeps (done time task now (timebase_delete id))
  delete_keeps id =
      on_timebase id (removal_of id)
      (λ active is. cond_both (nat_lt 0 (length active.object.timers)) _ _ OnTimebasesKeeps
      (λ attached. all)
      (λ bare. timebases_keep (delete_step time.timebases id).1 (each_delete (HasOwnTimers time) time.timebases id own) (bare_lists id active is bare)))

  -- another setting leaves each timer at its timebase
  set_still : (id : ℕ) (active : Active Timer) (setting : Option Setting) → timer_at time id ≡ Some active → (timebase timer : ℕ) → IsAttached time timebase timer → IsAttached (record time { timers = with_value time.timers id (record active.object { setting = setting }) }) timebase timer
  set_still id active setting is timebase timer was =
      let set : Timer = record active.object { setting = setting } in
      let new = record time { timers = with_value time.timers id set } in
      elim (cases_eq timer id) [
        | inl same ↦
            attached_at new timebase timer set
            (ap (object_at new.timers.table) same
            ∙ ap (λ found. object_at (replaced time.timers.table id set found) id) is
            ∙ written_here time.timers.table id (record active { object = set }))
            (one_timebase time active.object.timebase timebase id (record { active = active; there = is; own = refl })
            (subst (IsAttached time timebase) same was))
        | inr ne ↦ still_attached time new timebase timer (put_elsewhere time.timers.table id set (timer_at time id) timer ne) was
      ]

  set_at_keeps : (id start interval : ℕ) (active : Active Timer) → timer_at time id ≡ Some active → OnTimersKeeps (set_at time id start interval active)
  set_at_keeps id start interval active is =
      timers_keep (Changes (Put id _ ∷ [])) (set_still id active _ is)
      (each_put (StandsInList time) time.timers id _ (λ other timer ne. listed other timer) (all.listed id active is))

  set_keeps : (id start interval : ℕ) → Keeps (done time task now (timer_set time id start interval))
  set_keeps id start interval =
      either OnTimersKeeps ((start == 0) && (interval == 0)) _ _ all
      (on_timer id (set_at time id start interval) (set_at_keeps id start interval))

  -- a new timer is attached to a timebase that has room for it
  attach_keeps : (name : List ℕ) (id handler : ℕ) (active : Active Timebase) → timebase_at time id ≡ Some active → length active.object.timers < timer_limit → (r : Result Reserved ReserveFault) → (reserve_step time.timers.table (Some name)).0 ≡ r → Keeps (in_both time (created time.timers (new_timer id handler) r (reserve_step time.timers.table (Some name)).1) (λ made. attached id made.number (Some active)))
  attach_keeps name id handler active is room (Err reserve_fault.NameTaken) issued = all
  attach_keeps name id handler active is room (Err reserve_fault.NoFreeIds) issued = all
  attach_keeps name id handler active is room (Ok reserved) issued =
      let timer = new_timer id handler in
      let longer = with_timer active.object reserved.id in
      let table = (reserve_step time.timers.table (Some name)).1 in
      let new = record time {
        timebases = with_value time.timebases id longer;
        timers = (created time.timers timer (Ok reserved) table).1;
      } in
      let still : (timebase other : ℕ) → IsAttached time timebase other → IsAttached new timebase other =
      λ timebase other was. still_attached time new timebase other (create_keeps time.timers (Some name) timer (Ok reserved) issued other (ap is_some was.there)) was in
      let fresh : (other : ℕ) → IsAttached time id other → reserved.id ≡ other → ⊥ =
      λ other was same. both_ways (is_some (timer_at time reserved.id)) (issued_inactive time.timers.table (Some name) reserved issued) (ap (λ k. is_some (timer_at time k)) same ∙ ap is_some was.there) in
      after_move new (Create (Some name) timer []) (sym (ap (λ r. (created time.timers timer r table).1) issued))
      (each_put (HasOwnTimers new) time.timebases id longer
      (λ other timebase ne there. still_own time new other timebase (own other timebase there) (still other))
      (own_more time new id active.object (all.each id active is) reserved.id room fresh (still id)
      (attached_at new id reserved.id timer (created_here time.timers (Some name) timer reserved issued) refl)))
      (each_made (StandsInList new) time.timers name timer reserved
      (λ other timer there. put_listed time new id active is longer refl timer.timebase other (Contains-append_left active.object.timers (reserved.id ∷ []) other) (listed other timer there))
      (put_lists time new id active is longer refl reserved.id (Contains-push active.object.timers reserved.id)))

  -- a timer is made for a timebase and attached to it
  abbrev MadeKeeps : ℕ → Option (Active Timebase) → Outcome Timer (Unit {0}) → Type 0
  MadeKeeps id found outcome =
      Keeps (in_both time (carried_out time.timers task now outcome) (λ made. attached id made.number found))

  made_keeps : (name : List ℕ) (id handler : ℕ) (found : Option (Active Timebase)) → timebase_at time id ≡ found → MadeKeeps id found (made_for name id handler found)
  made_keeps name id handler None is = all
  made_keeps name id handler (Some active) is =
      cond_both (nat_lt (length active.object.timers) timer_limit) _ _ (MadeKeeps id (Some active))
      (λ room. attach_keeps name id handler active is (grind (arith, nat_tests)) (reserve_step time.timers.table (Some name)).0 refl)
      (λ full. all)

  add_keeps : (name : List ℕ) (id handler : ℕ) (fault : Option NameFault) → Keeps (in_both time (unless fault time.timers (carried_out time.timers task now (made_for name id handler (timebase_at time id)))) (λ made. attached id made.number (timebase_at time id)))
  add_keeps name id handler (Some fault.Empty) = all
  add_keeps name id handler (Some fault.TooLong) = all
  add_keeps name id handler (Some fault.HasZero) = all
  add_keeps name id handler None = made_keeps name id handler (timebase_at time id) refl

  module _ (id : ℕ) (active : Active Timer) (is : timer_at time id ≡ Some active) (free : nat_lt 0 active.holds ≡ false) where
    -- the timers without this one
    abbrev others : ObjectsState Timer (Unit {0})
    others = with_table time.timers (take_out time.timers.table id (Ok active.object)).1

    -- they are what a removal leaves
    is_removal : others ≡ (delete_step time.timers id).1
    is_removal =
        sym (ap (λ r. with_table time.timers (take_out time.timers.table id r).1)
        (ap unheld is ∙ ap (λ held. cond held (Err id_fault.ObjectInUse) (Ok active.object)) free))

    -- a timer is removed, and these are the timebases then
    abbrev without : ObjectsState Timebase (Unit {0}) → TimeState
    without timebases = record time { timebases = timebases; timers = others }

    others_still : (timebases : ObjectsState Timebase (Unit {0})) (timebase other : ℕ) → (other ≡ id → ⊥) → IsAttached time timebase other → IsAttached (without timebases) timebase other
    others_still timebases timebase other ne =
        still_attached time (without timebases) timebase other (taken_elsewhere time.timers.table id (Ok active.object) other ne)

    -- a timebase that the timer is not attached to has its own timers still
    elsewhere : (timebases : ObjectsState Timebase (Unit {0})) (other : ℕ) (timebase : Timebase) → (other ≡ active.object.timebase → ⊥) → HasOwnTimers time other timebase → HasOwnTimers (without timebases) other timebase
    elsewhere timebases other timebase ne was =
        still_own time (without timebases) other timebase was
        (λ timer one. others_still timebases other timer
        (λ same. ne (one_timebase time other active.object.timebase timer one (record { active = active; there = ap (timer_at time) same ∙ is; own = refl })))
        one)

    -- the timers that are left are listed where each other one stays so
    left_listed : (timebases : ObjectsState Timebase (Unit {0})) → ((timebase other : ℕ) → (other ≡ id → ⊥) → IsListed time timebase other → IsListed (without timebases) timebase other) → EachListed (without timebases)
    left_listed timebases still =
        each_left (StandsInList (without timebases)) time.timers id active.object
        (λ other timer ne there. still timer.timebase other ne (listed other timer there))

    removed_keeps : (found : Option (Active Timebase)) → timebase_at time active.object.timebase ≡ found → AreAttached capacity (without (written time.timebases (detached_from active.object.timebase id found)))
    removed_keeps None at =
        after_move (without time.timebases) (Remove id) is_removal
        (λ other timebase there. elsewhere time.timebases other timebase
        (λ same. let none : None ≡ Some timebase = sym (ap (object_at time.timebases.table) same ∙ ap object_of at) ∙ there in cc)
        (own other timebase there))
        (left_listed time.timebases (λ timebase other ne. still_listed time (without time.timebases) timebase other refl))
    removed_keeps (Some found) at =
        let timebases = written time.timebases (detached_from active.object.timebase id (Some found)) in
        after_move (without timebases) (Remove id) is_removal
        (each_put (HasOwnTimers (without timebases)) time.timebases active.object.timebase _
        (λ other timebase ne there. elsewhere timebases other timebase ne (own other timebase there))
        (own_less time (without timebases) active.object.timebase found.object (all.each active.object.timebase found at) id
        (others_still timebases active.object.timebase)))
        (left_listed timebases
        (λ timebase other ne. put_listed time (without timebases) active.object.timebase found at (without_timer found.object id) refl timebase other (others_left id other ne found.object.timers)))

  -- a timer that is taken out, or is not, is detached from its timebase, or is not
  abbrev TakenKeeps : ℕ → Option (Active Timer) → Result Timer IdFault → Type 0
  TakenKeeps id found r =
      Keeps (in_both time (answered (take_out time.timers.table id r).0, with_table time.timers (take_out time.timers.table id r).1) (λ removed. detached time id found))

  taken_keeps : (id : ℕ) (found : Option (Active Timer)) → timer_at time id ≡ found → TakenKeeps id found (unheld found)
  taken_keeps id None is = all
  taken_keeps id (Some active) is =
      cond_both (nat_lt 0 active.holds) _ _ (TakenKeeps id (Some active))
      (λ held. all)
      (λ free. removed_keeps id active is free (timebase_at time active.object.timebase) refl)

  remove_keeps : (id : ℕ) → Keeps (done time task now (timer_delete time id))
  remove_keeps id = taken_keeps id (timer_at time id) refl

  hold_keeps : (id : ℕ) → Keeps (done time task now (held id))
  hold_keeps id =
      either (λ call. Keeps (done time task now call)) (is_timer id) _ _
      (timers_keep (Changes (Hold id ∷ [])) (λ timebase timer. still_attached time _ timebase timer (caller_hold_same time.timers id (timer_at time id) refl timer))
      (each_hold (StandsInList time) time.timers id listed))
      (timebases_keep (hold_call_step time.timebases id).1
      (each_hold (HasOwnTimers time) time.timebases id own)
      (λ timebase timer. still_listed time _ timebase timer (caller_hold_same time.timebases id (timebase_at time id) refl timebase)))

  release_keeps : (id : ℕ) → Keeps (done time task now (released id))
  release_keeps id =
      either (λ call. Keeps (done time task now call)) (is_timer id) _ _
      (timers_keep (Changes (Release id ∷ [])) (λ timebase timer. still_attached time _ timebase timer (caller_release_same time.timers id (timer_at time id) refl timer))
      (each_release (StandsInList time) time.timers id listed))
      (timebases_keep (release_call_step time.timebases id).1
      (each_release (HasOwnTimers time) time.timebases id own)
      (λ timebase timer. still_listed time _ timebase timer (caller_release_same time.timebases id (timebase_at time id) refl timebase)))

  advance_keeps : (to : ℕ) → Keeps (advance_step time to)
  advance_keeps to =
      let new = record time { moment = record { ms = to } } in
      either Keeps (nat_lt time.moment.ms to) _ _
      (after_move new (Changes []) refl
      (λ id timebase is. still_own time new id timebase (own id timebase is) (λ timer. still_attached time new id timer refl))
      (λ id timer is. still_listed time new timer.timebase id refl (listed id timer is)))
      all

-- nothing is there at the start
start_attached : (limits : Limits) → Fits limits → AreAttached limits.timers (time_start limits)
start_attached limits fits = record {
  each = λ id active is. absurd (no_active Timebase (type_number kind.Timebase) limits.timebases id active is);
  listed = λ id active is. absurd (no_active Timer (type_number kind.Timer) limits.timers id active is);
  timers = (stays_well_formed Timer).0 (type_number kind.Timer) limits.timers fits.timers;
  room = refl;
}

-- timers stay attached to their timebases
pub timers_stay_attached : (limits : Limits) → TimersStayAttached limits
timers_stay_attached limits = record {
  start = start_attached limits;
  create = λ time task now name all. timebase_create_keeps limits.timers time task now all name (name_fault name);
  tick = λ time task now id usecs all. tick_keeps limits.timers time task now all id usecs;
  delete = λ time task now id all. delete_keeps limits.timers time task now all id;
  add = λ time task now name timebase handler all. add_keeps limits.timers time task now all name timebase handler (name_fault name);
  set = λ time task now id start interval all. set_keeps limits.timers time task now all id start interval;
  remove = λ time task now id all. remove_keeps limits.timers time task now all id;
  hold = λ time task now id all. hold_keeps limits.timers time task now all id;
  release = λ time task now id all. release_keeps limits.timers time task now all id;
  advance = λ time task now to all. advance_keeps limits.timers time task now all to;
}
