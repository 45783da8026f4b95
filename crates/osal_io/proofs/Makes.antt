-- What a call makes of one table of identifiers: a create, a removal, or changes that a call without waits makes.
use Rattle.std.proofs.Common.{◌≡◌, ◌+◌, ℕ, Bool, true, false, List, [], ◌∷◌, Option, Some, None, is_some, Result, Ok, Err, refl, sym, ap, subst, ◌∙◌, inl, inr, arith}
use Rattle.std.specs.FinMap as map
use Rattle.std.proofs.lemmas.Bool.{cases_eq, both_ways}
use Rattle.osal_idtable.specs.declared.table.IdFault.{IdFault}
use Rattle.osal_idtable.specs.declared.table.ReserveFault.{ReserveFault}
use Rattle.osal_idtable.specs.Table.{Active, TableState, Reserved, active_at}
use Rattle.osal_idtable.specs.Steps.{reserve_step, finalize_step, take_out, unheld}
use Rattle.osal_idtable.proofs.WellFormed.{gone_here, gone_there}
use Rattle.osal_object.specs.Objects.{ObjectsState, with_table, with_value, created, create_step, delete_step, hold_call_step, release_call_step}
use Rattle.osal_object.specs.Waits.{waits_on}
use Rattle.osal_object.specs.Moves.{Change, Put, Hold, Release, Begin, End, Mark, Move, Create, Remove, Changes, changed, after_changes, moved, AreAllowed, HoldNone, MayMove}
use Rattle.osal_object.proofs.Activity.{Grows, change_alike, changes_alike, create_grows, reserve_active, settle_elsewhere}
use Rattle.osal_object.proofs.Balance.{AreBalanced, balanced_put}
use Rattle.osal_object.proofs.Counted.{issued_inactive}
use Rattle.osal_object.proofs.HeldEach.{there, one_there}
use Rattle.osal_object.proofs.Moves.{IsMove, is_there}
use Rattle.osal_call.specs.declared.call.Call.{Call}
use Rattle.osal_call.specs.declared.call.Call.TheVariants as call

-- whether a call is a hold or a release
abbrev pub is_holding : Call → Bool
is_holding (call.Hold id) = true
is_holding (call.Release id) = true
is_holding other = false

-- what is active is what was, but for one identifier
abbrev pub AllButOne : (ℕ → Bool) → (ℕ → Bool) → Type 0
AllButOne old new = (at : ℕ) × ((q : ℕ) → (q ≡ at → ⊥) → new q ≡ old q)

taken_one : {T : Type 0} (table : TableState T) (id : ℕ) (r : Result T IdFault) → AllButOne (λ q. is_some (active_at table q)) (λ q. is_some (active_at (take_out table id r).1 q))
taken_one table id (Err fault) = (id, λ q ne. refl)
taken_one table id (Ok object) = (id, λ q ne. ap is_some (gone_there table.active id q ne))

module _ {T W : Type 0} where
  -- a change puts another object, or holds or releases one where its call does
  abbrev pub SuitsChange : Bool → Change T W → Type 0
  SuitsChange holding (Put id object) = Unit {0}
  SuitsChange holding (Hold id) = holding ≡ true
  SuitsChange holding (Release id) = holding ≡ true
  SuitsChange holding (Begin wait) = ⊥
  SuitsChange holding (End task) = ⊥
  SuitsChange holding (Mark test) = ⊥

  -- each of some changes does
  abbrev pub SuitChanges : Bool → List (Change T W) → Type 0
  SuitChanges holding [] = Unit {0}
  SuitChanges holding (change ∷ changes) = SuitsChange holding change × SuitChanges holding changes

  -- a removal always suits, changes where each does, and a create where they only put other objects
  abbrev pub SuitsMove : Bool → Move T W → Type 0
  SuitsMove holding (Create name object changes) = SuitChanges false changes
  SuitsMove holding (Remove id) = Unit {0}
  SuitsMove holding (Changes changes) = SuitChanges holding changes

  -- such a move leads from the old objects to the new
  pub record Makes (holding : Bool) (old new : ObjectsState T W) : Type 0 where
    pub move : Move T W
    pub suits : SuitsMove holding move
    pub is : new ≡ moved old move

  -- nothing changes
  pub makes_none : {holding : Bool} {old new : ObjectsState T W} → new ≡ old → Makes holding old new
  makes_none same = record { move = Changes []; suits = tt; is = same }

  -- a create
  pub makes_new : {holding : Bool} (objects : ObjectsState T W) (name : Option (List ℕ)) (object : T) → Makes holding objects (create_step objects name object).1
  makes_new objects name object = record { move = Create name object []; suits = tt; is = refl }

  -- a removal
  pub makes_less : {holding : Bool} (objects : ObjectsState T W) (id : ℕ) → Makes holding objects (delete_step objects id).1
  makes_less objects id = record { move = Remove id; suits = tt; is = refl }

  -- another object
  pub makes_other : {holding : Bool} (objects : ObjectsState T W) (id : ℕ) (object : T) → Makes holding objects (with_value objects id object)
  makes_other objects id object = record { move = Changes (Put id object ∷ []); suits = (tt, tt); is = refl }

  -- a hold
  pub makes_held : (objects : ObjectsState T W) (id : ℕ) → Makes true objects (hold_call_step objects id).1
  makes_held objects id = record { move = Changes (Hold id ∷ []); suits = (refl, tt); is = refl }

  -- the end of a hold
  pub makes_released : (objects : ObjectsState T W) (id : ℕ) → Makes true objects (release_call_step objects id).1
  makes_released objects id = record { move = Changes (Release id ∷ []); suits = (refl, tt); is = refl }

  -- suitable changes may be made
  changes_allowed : (holding : Bool) (objects : ObjectsState T W) (changes : List (Change T W)) → SuitChanges holding changes → AreAllowed objects changes
  changes_allowed holding objects [] suit = tt
  changes_allowed holding objects (Put id object ∷ changes) suit =
      (tt, changes_allowed holding (changed objects (Put id object)) changes suit.1)
  changes_allowed holding objects (Hold id ∷ changes) suit =
      (tt, changes_allowed holding (changed objects (Hold id)) changes suit.1)
  changes_allowed holding objects (Release id ∷ changes) suit =
      (tt, changes_allowed holding (changed objects (Release id)) changes suit.1)
  changes_allowed holding objects (Begin wait ∷ changes) suit = absurd suit.0
  changes_allowed holding objects (End task ∷ changes) suit = absurd suit.0
  changes_allowed holding objects (Mark test ∷ changes) suit = absurd suit.0

  -- without a call that holds, they hold nothing
  none_held : (changes : List (Change T W)) → SuitChanges false changes → HoldNone changes
  none_held [] suit = tt
  none_held (Put id object ∷ changes) suit = (tt, none_held changes suit.1)
  none_held (Hold id ∷ changes) suit = absurd (both_ways false refl suit.0)
  none_held (Release id ∷ changes) suit = (tt, none_held changes suit.1)
  none_held (Begin wait ∷ changes) suit = absurd suit.0
  none_held (End task ∷ changes) suit = absurd suit.0
  none_held (Mark test ∷ changes) suit = absurd suit.0

  move_allowed : (holding : Bool) (objects : ObjectsState T W) (move : Move T W) → SuitsMove holding move → MayMove objects move
  move_allowed holding objects (Create name object changes) suits =
      (changes_allowed false (create_step objects name object).1 changes suits, none_held changes suits)
  move_allowed holding objects (Remove id) suits = tt
  move_allowed holding objects (Changes changes) suits = changes_allowed holding objects changes suits

  -- this is one move
  pub makes_move : {holding : Bool} {old new : ObjectsState T W} → Makes holding old new → IsMove old new
  makes_move {holding} {old} makes =
      record { move = makes.move; may = move_allowed holding old makes.move makes.suits; is = makes.is }

  created_one : (objects : ObjectsState T W) (name : Option (List ℕ)) (object : T) (r : Result Reserved ReserveFault) → AllButOne (is_there objects) (is_there (created objects object r (reserve_step objects.table name).1).1)
  created_one objects name object (Err fault) = (0, λ q ne. refl)
  created_one objects name object (Ok reserved) = (
    reserved.id,
    λ q ne.
        ap is_some (settle_elsewhere (reserve_step objects.table name).1 reserved.id (map.get (reserve_step objects.table name).1.reserved reserved.id) object q ne)
        ∙ ap (λ m. is_some (map.get m q)) (reserve_active objects.table name),
  )

  moved_one : (objects : ObjectsState T W) (move : Move T W) → AllButOne (is_there objects) (is_there (moved objects move))
  moved_one objects (Create name object changes) =
      let one = created_one objects name object (reserve_step objects.table name).0 in
      (one.0, λ q ne. changes_alike (create_step objects name object).1 changes q ∙ one.1 q ne)
  moved_one objects (Remove id) = taken_one objects.table id (unheld (active_at objects.table id))
  moved_one objects (Changes changes) = (0, λ q ne. changes_alike objects changes q)

  -- a move makes at most one identifier active or not active
  pub move_one : {old new : ObjectsState T W} → IsMove old new → AllButOne (is_there old) (is_there new)
  move_one {old} by = subst (λ (o : ObjectsState T W). AllButOne (is_there old) (is_there o)) (sym by.is) (moved_one old by.move)

  -- at most one identifier becomes active or not active
  pub makes_one : {holding : Bool} {old new : ObjectsState T W} → Makes holding old new → AllButOne (is_there old) (is_there new)
  makes_one {old = old} makes =
      subst (λ (o : ObjectsState T W). AllButOne (is_there old) (is_there o)) (sym makes.is) (moved_one old makes.move)

  -- where what is active stands as it did, and no wait comes or goes, the holds are balanced
  kept_balanced : (objects : ObjectsState T W) (table : TableState T) → ((q : ℕ) (a b : Active T) → active_at objects.table q ≡ Some a → active_at table q ≡ Some b → active_at objects.table q ≡ Some b) → AreBalanced objects (with_table objects table)
  kept_balanced objects table kept = λ q a b was now.
      ap (λ (x : Active T). x.holds + waits_on objects.waits q) (one_there (active_at objects.table q) b a (kept q a b was now) was)

  same_balanced : (objects : ObjectsState T W) → AreBalanced objects objects
  same_balanced objects = kept_balanced objects objects.table (λ q a b was now. now)

  -- one after the other, where what is active stays
  pub then_balanced : (old new later : ObjectsState T W) → Grows old.table new.table → AreBalanced old new → AreBalanced new later → AreBalanced old later
  then_balanced old new later grows first then = λ q a c was now.
      let between = there (active_at new.table q) (grows q (ap is_some was)) in
      let one = first q a between.0 was between.1 in
      let other = then q between.0 c between.1 now in
      omega arith

  puts_balanced : (objects : ObjectsState T W) (changes : List (Change T W)) → SuitChanges false changes → AreBalanced objects (after_changes objects changes)
  puts_balanced objects [] suit = same_balanced objects
  puts_balanced objects (Put id object ∷ changes) suit =
      let next = changed objects (Put id object) in
      then_balanced objects next (after_changes next changes) (λ q some. change_alike objects (Put id object) q ∙ some) (balanced_put objects id object) (puts_balanced next changes suit.1)
  puts_balanced objects (Hold id ∷ changes) suit = absurd (both_ways false refl suit.0)
  puts_balanced objects (Release id ∷ changes) suit = absurd (both_ways false refl suit.0)
  puts_balanced objects (Begin wait ∷ changes) suit = absurd suit.0
  puts_balanced objects (End task ∷ changes) suit = absurd suit.0
  puts_balanced objects (Mark test ∷ changes) suit = absurd suit.0

  created_balanced : (objects : ObjectsState T W) (name : Option (List ℕ)) (object : T) (r : Result Reserved ReserveFault) → (reserve_step objects.table name).0 ≡ r → AreBalanced objects (created objects object r (reserve_step objects.table name).1).1
  created_balanced objects name object (Err fault) is = same_balanced objects
  created_balanced objects name object (Ok reserved) is =
      let between = (reserve_step objects.table name).1 in
      kept_balanced objects (finalize_step between reserved.id (Some object))
      (λ q a b was now. elim (cases_eq q reserved.id) [
        | inl same ↦
            absurd (both_ways _ (ap (λ k. is_some (active_at objects.table k)) same ∙ issued_inactive objects.table name reserved is) (ap is_some was))
        | inr ne ↦
            sym (settle_elsewhere between reserved.id (map.get between.reserved reserved.id) object q ne ∙ ap (λ m. map.get m q) (reserve_active objects.table name))
            ∙ now
      ])

  taken_balanced : (objects : ObjectsState T W) (id : ℕ) (r : Result T IdFault) → AreBalanced objects (with_table objects (take_out objects.table id r).1)
  taken_balanced objects id (Err fault) = same_balanced objects
  taken_balanced objects id (Ok object) =
      kept_balanced objects (take_out objects.table id (Ok object)).1
      (λ q a b was now. elim (cases_eq q id) [
        | inl same ↦
            let none : map.get (map.remove objects.table.active id) q ≡ None = ap (map.get (map.remove objects.table.active id)) same ∙ gone_here objects.table.active id in
            absurd (both_ways _ (ap is_some none) (ap is_some now))
        | inr ne ↦ sym (gone_there objects.table.active id q ne) ∙ now
      ])

  moved_balanced : (objects : ObjectsState T W) (move : Move T W) → SuitsMove false move → AreBalanced objects (moved objects move)
  moved_balanced objects (Create name object changes) suits =
      let new = (create_step objects name object).1 in
      then_balanced objects new (after_changes new changes) (create_grows objects name object (reserve_step objects.table name).0) (created_balanced objects name object (reserve_step objects.table name).0 refl) (puts_balanced new changes suits)
  moved_balanced objects (Remove id) suits = taken_balanced objects id (unheld (active_at objects.table id))
  moved_balanced objects (Changes changes) suits = puts_balanced objects changes suits

  -- a call that neither holds nor releases leaves the holds of what is active before and after
  pub makes_balanced : {old new : ObjectsState T W} → Makes false old new → AreBalanced old new
  makes_balanced {old} makes =
      subst (λ (o : ObjectsState T W). AreBalanced old o) (sym makes.is) (moved_balanced old makes.move makes.suits)
