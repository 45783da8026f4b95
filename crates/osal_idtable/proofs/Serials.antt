-- The course of serials only goes on, and so no identifier comes twice between two wraps.
use Rattle.std.proofs.Common.{◌≡◌, ◌<◌, ◌≤◌, ◌⊎◌, ◌+◌, ◌-◌, ◌^◌, ℕ, zero, suc, min, Bool, true, false, cond, find, List, [], ◌∷◌, nat_lt, Option, Some, None, Result, Ok, Err, refl, sym, ap, subst, ◌∙◌, inl, inr, arith}
use Rattle.std.proofs.lemmas.Bool.{cases_lt}
use Rattle.osal_base.specs.Identifier.{compose}
use Rattle.osal_idtable.specs.declared.place.Place.{Place}
use Rattle.osal_idtable.specs.declared.table.ReserveFault.TheVariants as reserve_fault
use Rattle.osal_idtable.specs.declared.table.IdFault.{IdFault}
use Rattle.osal_idtable.specs.Table.{Active, TableState, Reserved, is_name_taken, active_at, replaced, hold_limit}
use Rattle.osal_idtable.specs.Next.{after, candidates, place_of, next_place, is_free_at}
use Rattle.osal_idtable.specs.Steps.{issue, reserve_step, settle, take_out, unheld, claimed}
use Rattle.osal_idtable.specs.Holds.{held, released}
use Rattle.osal_idtable.specs.Laws.{IsGreater, Call, Reserve, Finalize, Put, Remove, Claim, Hold, Release, called, after_calls, SerialsRise, NotReissued}
use Rattle.osal_idtable.proofs.Holding.{either}
use Rattle.std.specs.FinMap as map

-- the second place is the first or later, or the wrap count is at its greatest
abbrev Reached : Place → Place → Type 0
Reached first second =
    (2 ^ 64 - 1 ≤ second.wraps) ⊎ ((first.wraps < second.wraps) ⊎ ((first.wraps ≡ second.wraps) × (first.serial ≤ second.serial)))

-- the second place is later, or the wrap count is at its greatest
abbrev Past : Place → Place → Type 0
Past first second =
    (2 ^ 64 - 1 ≤ second.wraps) ⊎ ((first.wraps < second.wraps) ⊎ ((first.wraps ≡ second.wraps) × (first.serial < second.serial)))

weaken : (first second : Place) → Past first second → Reached first second
weaken first second (inl most) = inl most
weaken first second (inr (inl more)) = inr (inl more)
weaken first second (inr (inr same)) = inr (inr (same.0, omega arith))

module _ (capacity : ℕ) (first : Place) where
  within_wrap : (place : Place) → Reached first place → Past first (record { serial = place.serial + 1; wraps = place.wraps })
  within_wrap place (inl most) = inl most
  within_wrap place (inr (inl more)) = inr (inl more)
  within_wrap place (inr (inr same)) = inr (inr (same.0, omega arith))

  least : (place : Place) → Reached first place → (2 ^ 64 - 1 ≤ place.wraps) ⊎ (first.wraps ≤ place.wraps)
  least place (inl most) = inl most
  least place (inr (inl more)) = inr (omega arith)
  least place (inr (inr same)) = inr (omega arith)

  next_wrap : (place : Place) (serial : ℕ) → Reached first place → Past first (record { serial = serial; wraps = min (place.wraps + 1) (2 ^ 64 - 1) })
  next_wrap place serial reached =
      elim (cases_lt (place.wraps + 1) (2 ^ 64 - 1)) [
        | inr most ↦ inl (omega arith)
        | inl room ↦ elim (least place reached) [
          | inl most ↦ inl (omega arith)
          | inr more ↦ inr (inl (omega arith))
        ]
      ]

  after_past : (place : Place) → Reached first place → Past first (after capacity place)
  after_past place reached =
      either (Past first) (nat_lt (place.serial + 1) 65535) _ _ (within_wrap place reached) (next_wrap place _ reached)

  find_past : (free : Place → Bool) (n : ℕ) (place found : Place) → Reached first place → find free (candidates capacity n place) ≡ Some found → Past first found
  find_past free zero place found reached is = cc
  find_past free (suc n) place found reached is =
      let past = after_past place reached in
      elim (free (after capacity place)) as (λ b. cond b (Some (after capacity place)) (find free (candidates capacity n (after capacity place))) ≡ Some found → Past first found) [
        | true ↦ λ e. let same : after capacity place ≡ found = cc in rw same at past
        | false ↦ λ e. find_past free n (after capacity place) found (weaken first _ past) e
      ] is

greater : (first second : Place) → first.wraps < 2 ^ 64 - 1 → Past first second → IsGreater first second
greater first second room (inl most) = inl (omega arith)
greater first second room (inr past) = past

same_serial : (first second : Place) (kind : ℕ) → compose kind second.serial ≡ compose kind first.serial → first.wraps < 2 ^ 64 - 1 → Past first second → first.wraps < second.wraps
same_serial first second kind same room (inl most) = omega arith
same_serial first second kind same room (inr (inl more)) = more
same_serial first second kind same room (inr (inr later)) = absurd (omega arith)

module _ {T : Type 0} where
  -- a reservation that was answered: the place that it took
  pub record Issued (table : TableState T) (reserved : Reserved) (o : Option Place) (new : TableState T) : Type 0 where
    pub place : Place
    pub found : o ≡ Some place
    pub id : reserved.id ≡ compose table.kind place.serial
    pub at : place_of new ≡ place

  -- what is answered was issued at the next place
  pub issued : (table : TableState T) (name : Option (List ℕ)) (b : Bool) (o : Option Place) (reserved : Reserved) → (cond b (Err reserve_fault.NameTaken, table) (issue table name o)).0 ≡ Ok reserved → Issued table reserved o (cond b (Err reserve_fault.NameTaken, table) (issue table name o)).1
  issued table name true o reserved is = cc
  issued table name false None reserved is = cc
  issued table name false (Some place) reserved is = record {
    place = place;
    found = refl;
    id = (let same : record { id = compose table.kind place.serial; name = name } ≡ reserved = cc in ap (λ r. r.id) (sym same));
    at = refl;
  }

  reached : (table : TableState T) (name : Option (List ℕ)) (first : Place) (b : Bool) (o : Option Place) → next_place table ≡ o → Reached first (place_of table) → Reached first (place_of (cond b (Err reserve_fault.NameTaken, table) (issue table name o)).1)
  reached table name first true o is before = before
  reached table name first false None is before = before
  reached table name first false (Some place) is before =
      weaken first place (find_past table.capacity first (is_free_at table) table.capacity (place_of table) place before is)

  -- a table of the same type at the same place in the course
  abbrev Stays : TableState T → TableState T → Type 0
  Stays old new = (new.kind ≡ old.kind) × (place_of new ≡ place_of old)

  stays : (table : TableState T) → Stays table table
  stays table = (refl, refl)

  -- a finalization leaves the course of serials
  pub settle_stays : (table : TableState T) (id : ℕ) (o : Option (Option (List ℕ))) (value : Option T) → Stays table (settle table id o value)
  settle_stays table id None value = (refl, refl)
  settle_stays table id (Some name) None = (refl, refl)
  settle_stays table id (Some name) (Some object) = (refl, refl)

  put_stays : (table : TableState T) (id : ℕ) (object : T) (o : Option (Active T)) → Stays table (replaced table id object o)
  put_stays table id object None = (refl, refl)
  put_stays table id object (Some a) = (refl, refl)

  take_stays : (table : TableState T) (id : ℕ) (r : Result T IdFault) → Stays table (take_out table id r).1
  take_stays table id (Ok object) = (refl, refl)
  take_stays table id (Err fault) = (refl, refl)

  claim_stays : (table : TableState T) (id : ℕ) (o : Option (Active T)) → Stays table (claimed table id o).1
  claim_stays table id None = (refl, refl)
  claim_stays table id (Some a) =
      either (λ (p : Result (Reserved × T) IdFault × TableState T). Stays table p.1) (nat_lt 0 a.holds) _ _ (refl, refl) (refl, refl)

  hold_stays : (table : TableState T) (id : ℕ) (o : Option (Active T)) → Stays table (held table id o).1
  hold_stays table id None = (refl, refl)
  hold_stays table id (Some a) =
      either (λ (p : Result (Unit {0}) IdFault × TableState T). Stays table p.1) (nat_lt a.holds hold_limit) _ _ (refl, refl) (refl, refl)

  release_stays : (table : TableState T) (id : ℕ) (o : Option (Active T)) → Stays table (released table id o).1
  release_stays table id None = (refl, refl)
  release_stays table id (Some a) =
      either (λ (p : Result (Unit {0}) IdFault × TableState T). Stays table p.1) (nat_lt 0 a.holds) _ _ (refl, refl) (refl, refl)

  reserve_kind : (table : TableState T) (name : Option (List ℕ)) (b : Bool) (o : Option Place) → (cond b (Err reserve_fault.NameTaken, table) (issue table name o)).1.kind ≡ table.kind
  reserve_kind table name true o = refl
  reserve_kind table name false None = refl
  reserve_kind table name false (Some place) = refl

  -- where a table has come, seen from a place
  abbrev Came : Place → ℕ → TableState T → Type 0
  Came first kind table = (table.kind ≡ kind) × Reached first (place_of table)

  came_as : (first : Place) (kind : ℕ) (old new : TableState T) → Stays old new → Came first kind old → Came first kind new
  came_as first kind old new same came = (same.0 ∙ came.0, subst (Reached first) (sym same.1) came.1)

  came_by : (first : Place) (kind : ℕ) (table : TableState T) (call : Call T) → Came first kind table → Came first kind (called table call)
  came_by first kind table (Reserve name) came =
      (reserve_kind table name (is_name_taken table name) (next_place table) ∙ came.0, reached table name first (is_name_taken table name) (next_place table) refl came.1)
  came_by first kind table (Finalize id value) came =
      came_as first kind table (called table (Finalize id value)) (settle_stays table id (map.get table.reserved id) value) came
  came_by first kind table (Put id object) came = came_as first kind table (called table (Put id object)) (put_stays table id object (active_at table id)) came
  came_by first kind table (Remove id) came = came_as first kind table (called table (Remove id)) (take_stays table id (unheld (active_at table id))) came
  came_by first kind table (Claim id) came = came_as first kind table (called table (Claim id)) (claim_stays table id (active_at table id)) came
  came_by first kind table (Hold id) came = came_as first kind table (called table (Hold id)) (hold_stays table id (active_at table id)) came
  came_by first kind table (Release id) came = came_as first kind table (called table (Release id)) (release_stays table id (active_at table id)) came

  came : (first : Place) (kind : ℕ) (table : TableState T) (calls : List (Call T)) → Came first kind table → Came first kind (after_calls table calls)
  came first kind table [] before = before
  came first kind table (call ∷ calls) before = came first kind (called table call) calls (came_by first kind table call before)

-- each reservation moves the course on
pub serials_rise : (T : Type 0) → SerialsRise T
serials_rise T table name reserved room is =
    let got = issued table name (is_name_taken table name) (next_place table) reserved is in
    let past = find_past table.capacity (place_of table) (is_free_at table) table.capacity (place_of table) got.place (inr (inr (refl, omega arith))) got.found in
    subst (IsGreater (place_of table)) (sym got.at) (greater (place_of table) got.place room past)

-- an identifier comes again only after a wrap
pub not_reissued : (T : Type 0) → NotReissued T
not_reissued T table name reserved is calls other again is_again same room =
    let got = issued table name (is_name_taken table name) (next_place table) reserved is in
    let start = (reserve_step table name).1 in
    let later = after_calls start calls in
    let first = place_of start in
    let arrived = came first table.kind start calls (reserve_kind table name (is_name_taken table name) (next_place table), inr (inr (refl, omega arith))) in
    let got_again = issued later other (is_name_taken later other) (next_place later) again is_again in
    let past = find_past later.capacity first (is_free_at later) later.capacity (place_of later) got_again.place arrived.1 got_again.found in
    let serials : compose table.kind got_again.place.serial ≡ compose table.kind first.serial =
    ap (λ kind. compose kind got_again.place.serial) (sym arrived.0) ∙ sym got_again.id ∙ same ∙ got.id ∙ ap (λ p. compose table.kind p.serial) (sym got.at) in
    let wraps : (reserve_step later other).1.wraps ≡ got_again.place.wraps = ap (λ p. p.wraps) got_again.at in
    let more = same_serial first got_again.place table.kind serials room past in
    subst (λ n. first.wraps < n) (sym wraps) more
