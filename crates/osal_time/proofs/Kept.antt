-- The timers of a timebase as the objects change: which stay attached and listed, and how one comes or goes.
use Rattle.std.proofs.Common.{◌≡◌, ◌<◌, ◌==◌, ◌++◌, ℕ, Bool, true, false, not, List, [], ◌∷◌, filter, length, nat_eq, Option, Some, None, refl, sym, ap, subst, ◌∙◌, inl, inr, arith}
use Rattle.std.specs.Cmp.{nat_eq_equiv}
use Rattle.std.specs.List.{AllByRecursion, Contains, IsDistinct}
use Rattle.std.proofs.lemmas.Bool.{both_ways, cases_eq, cond_both, eq-eqb, eqb-true}
use Rattle.std.proofs.lemmas.List.{length-append}
use Rattle.std.proofs.lemmas.Map.Views.{any-filter_same, Contains-from_any, list_any-from_Contains}
use Rattle.osal_idtable.specs.Table.{Active, replaced}
use Rattle.osal_object.specs.Objects.{ObjectsState, with_value}
use Rattle.osal_idtable.proofs.Holding.{either}
use Rattle.osal_idtable.proofs.Keyed.{apart}
use Rattle.osal_object.proofs.Records.{all_kept, all_more, fewer_kept}
use Rattle.osal_object.proofs.SameObjects.{object_of, object_at, put_elsewhere, written_here}
use Rattle.osal_time.specs.Timebase.{Timebase, with_timer, without_timer}
use Rattle.osal_call.specs.Firing.{timer_limit}
use Rattle.osal_time.specs.declared.timer.Timer.{Timer}
use Rattle.osal_time.specs.Time.{TimeState, timebase_at, timer_at}
use Rattle.osal_time.specs.Attachment.{IsAttached, IsListed, HasOwnTimers}

-- what holds of each element because another thing does
all_so : {E : Type 0} (P Q : E → Type 0) → ((x : E) → P x → Q x) → (xs : List E) → AllByRecursion P xs → AllByRecursion Q xs
all_so P Q so [] all = tt
all_so P Q so (x ∷ xs) all = (so x all.0, all_so P Q so xs all.1)

-- a new timer behind the others
once_more : (timers : List ℕ) (timer : ℕ) → IsDistinct nat_eq timers → AllByRecursion (λ other. (other == timer) ≡ false) timers → IsDistinct nat_eq (timers ++ timer ∷ [])
unfolding IsDistinct
once_more [] timer once new = (tt, tt)
once_more (other ∷ timers) timer once new = (
  all_more (λ one. (other == one) ≡ false) timers timer once.0 new.0,
  once_more timers timer once.1 new.1,
)

-- no timer stands twice among those that are left
once_left : (left : ℕ → Bool) (timers : List ℕ) → IsDistinct nat_eq timers → IsDistinct nat_eq (filter left timers)
unfolding IsDistinct
once_left left [] once = tt
once_left left (timer ∷ timers) once =
    let rest = once_left left timers once.1 in
    either (IsDistinct nat_eq) (left timer) _ _
    (all_kept (λ other. (timer == other) ≡ false) left timers once.0, rest) rest

-- a timer that is there, with this timebase, is attached to it
attached_by : (time : TimeState) (timebase id : ℕ) (timer : Timer) (found : Option (Active Timer)) → timer_at time id ≡ found → object_of found ≡ Some timer → timer.timebase ≡ timebase → IsAttached time timebase id
attached_by time timebase id timer None is there own = cc
attached_by time timebase id timer (Some active) is there own =
    let same : active.object ≡ timer = cc in
    record { active = active; there = is; own = ap (λ (one : Timer). one.timebase) same ∙ own }

-- a timer is attached to one timebase alone
pub one_timebase : (time : TimeState) (timebase other timer : ℕ) → IsAttached time timebase timer → IsAttached time other timer → timebase ≡ other
one_timebase time timebase other timer one two =
    let found : Some one.active ≡ Some two.active = sym one.there ∙ two.there in
    let same : one.active ≡ two.active = cc in
    sym one.own ∙ ap (λ (active : Active Timer). active.object.timebase) same ∙ two.own

-- a timer with this timebase is attached to it
pub attached_at : (time : TimeState) (timebase id : ℕ) (timer : Timer) → object_at time.timers.table id ≡ Some timer → timer.timebase ≡ timebase → IsAttached time timebase id
attached_at time timebase id timer = attached_by time timebase id timer (timer_at time id) refl

listed_by : (time : TimeState) (timebase timer : ℕ) (object : Timebase) (found : Option (Active Timebase)) → timebase_at time timebase ≡ found → object_of found ≡ Some object → Contains object.timers timer → IsListed time timebase timer
listed_by time timebase timer object None is there listed = cc
listed_by time timebase timer object (Some active) is there listed =
    let same : object ≡ active.object = cc in
    record { active = active; there = is; listed = subst (λ (one : Timebase). Contains one.timers timer) same listed }

-- a timer in the list of a timebase that is there is listed
pub listed_at : (time : TimeState) (timebase timer : ℕ) (object : Timebase) → object_at time.timebases.table timebase ≡ Some object → Contains object.timers timer → IsListed time timebase timer
listed_at time timebase timer object = listed_by time timebase timer object (timebase_at time timebase) refl

-- a timer is in the list that its timebase is found to have
pub in_list : (time : TimeState) (timebase timer : ℕ) (active : Active Timebase) → timebase_at time timebase ≡ Some active → IsListed time timebase timer → Contains active.object.timers timer
in_list time timebase timer active is was =
    let found : Some was.active ≡ Some active = sym was.there ∙ is in
    let same : was.active ≡ active = cc in
    subst (λ (one : Active Timebase). Contains one.object.timers timer) same was.listed

-- a timer that is not the one that is detached stays in the list
pub others_left : (id timer : ℕ) → (timer ≡ id → ⊥) → (timers : List ℕ) → Contains timers timer → Contains (filter (λ other. not (other == id)) timers) timer
others_left id timer ne timers there =
    let passes : (other : ℕ) → nat_eq timer other ≡ true → not (nat_eq other id) ≡ true =
    λ other same. ap (λ one. not (nat_eq one id)) (sym (eqb-true timer other same)) ∙ ap not (apart timer id ne) in
    Contains-from_any eqb-true timer (filter (λ other. not (other == id)) timers)
    (any-filter_same (nat_eq timer) (λ other. not (other == id)) true passes timers ∙ list_any-from_Contains nat_eq_equiv timer timers there)

module _ (old new : TimeState) where
  -- a timer that stays as it is stays attached
  pub still_attached : (timebase timer : ℕ) → object_at new.timers.table timer ≡ object_at old.timers.table timer → IsAttached old timebase timer → IsAttached new timebase timer
  still_attached timebase timer same was =
      attached_at new timebase timer was.active.object (same ∙ ap object_of was.there) was.own

  -- a timer stays listed where its timebase stays as it is
  pub still_listed : (timebase timer : ℕ) → object_at new.timebases.table timebase ≡ object_at old.timebases.table timebase → IsListed old timebase timer → IsListed new timebase timer
  still_listed timebase timer same was =
      listed_at new timebase timer was.active.object (same ∙ ap object_of was.there) was.listed

  module _ (id : ℕ) (active : Active Timebase) (is : timebase_at old id ≡ Some active) (object : Timebase) (put : new.timebases ≡ with_value old.timebases id object) where
    -- what is put in the place of a timebase is there
    put_there : object_at new.timebases.table id ≡ Some object
    put_there =
        ap (λ (timebases : ObjectsState Timebase (Unit {0})). object_at timebases.table id) put
        ∙ ap (λ found. object_at (replaced old.timebases.table id object found) id) is
        ∙ written_here old.timebases.table id (record active { object = object })

    -- a timer in the list that is put there is listed
    pub put_lists : (timer : ℕ) → Contains object.timers timer → IsListed new id timer
    put_lists timer there = listed_at new id timer object put_there there

    -- a timer stays listed where it stays in the list of the one timebase that changes
    pub put_listed : (timebase timer : ℕ) → (Contains active.object.timers timer → Contains object.timers timer) → IsListed old timebase timer → IsListed new timebase timer
    put_listed timebase timer keeps was =
        elim (cases_eq timebase id) [
          | inl same ↦
              subst (λ one. IsListed new one timer) (sym same)
              (put_lists timer (keeps (in_list old id timer active is (subst (λ one. IsListed old one timer) same was))))
          | inr ne ↦
              still_listed timebase timer
              (ap (λ (timebases : ObjectsState Timebase (Unit {0})). object_at timebases.table timebase) put
              ∙ put_elsewhere old.timebases.table id object (timebase_at old id) timebase ne)
              was
        ]

  module _ (id : ℕ) (timebase : Timebase) (was : HasOwnTimers old id timebase) where
    -- a timebase keeps its timers where each stays attached
    pub still_own : ((timer : ℕ) → IsAttached old id timer → IsAttached new id timer) → HasOwnTimers new id timebase
    still_own still = record {
      few = was.few;
      once = was.once;
      own = all_so (IsAttached old id) (IsAttached new id) still timebase.timers was.own;
    }

    -- a timer that was not there is attached behind the others
    pub own_more : (timer : ℕ) → length timebase.timers < timer_limit → ((other : ℕ) → IsAttached old id other → timer ≡ other → ⊥) → ((other : ℕ) → IsAttached old id other → IsAttached new id other) → IsAttached new id timer → HasOwnTimers new id (with_timer timebase timer)
    own_more timer room fresh still attached =
        let long = length-append timebase.timers (timer ∷ []) in record {
          few = omega arith;
          once = once_more timebase.timers timer was.once
              (all_so (IsAttached old id) _ (λ other one. apart other timer (λ same. fresh other one (sym same))) timebase.timers was.own);
          own = all_more (IsAttached new id) timebase.timers timer
              (all_so (IsAttached old id) (IsAttached new id) still timebase.timers was.own) attached;
        }

    own_left : (timer : ℕ) → ((other : ℕ) → (other ≡ timer → ⊥) → IsAttached old id other → IsAttached new id other) → (timers : List ℕ) → AllByRecursion (IsAttached old id) timers → AllByRecursion (IsAttached new id) (filter (λ other. not (other == timer)) timers)
    own_left timer still [] all = tt
    own_left timer still (other ∷ timers) all =
        let rest = own_left timer still timers all.1 in
        cond_both (not (other == timer)) _ _ (AllByRecursion (IsAttached new id))
        (λ differs. (still other (λ same. both_ways (not (other == timer)) (ap not (eq-eqb other timer same)) differs) all.0, rest))
        (λ same. rest)

    -- a timer is detached, and the others stay
    pub own_less : (timer : ℕ) → ((other : ℕ) → (other ≡ timer → ⊥) → IsAttached old id other → IsAttached new id other) → HasOwnTimers new id (without_timer timebase timer)
    own_less timer still =
        let fewer = fewer_kept (λ other. not (other == timer)) timebase.timers in
        let few = was.few in record {
          few = omega arith;
          once = once_left (λ other. not (other == timer)) timebase.timers was.once;
          own = own_left timer still timebase.timers was.own;
        }
