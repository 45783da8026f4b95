-- Changes leave the wrap count of a table: only a reservation moves it.
use Rattle.std.proofs.Common.{◌≡◌, ℕ, List, [], ◌∷◌, nat_lt, Option, Some, None, Result, refl, ◌∙◌}
use Rattle.osal_base.specs.declared.status.Status.{Status}
use Rattle.osal_base.specs.Reply.{Replied}
use Rattle.osal_idtable.specs.declared.table.IdFault.{IdFault}
use Rattle.osal_idtable.specs.Table.{Active, TableState, active_at, hold_limit, replaced}
use Rattle.osal_idtable.specs.Holds.{held, hold_step, released, release_step}
use Rattle.osal_object.specs.declared.waits.WaitRecord.{WaitRecord}
use Rattle.osal_object.specs.Waits.{wait_fault, wait_of, waits_on}
use Rattle.osal_object.specs.Objects.{ObjectsState, held_by_caller, released_by_caller, caller_hold_limit}
use Rattle.osal_object.specs.Waiting.{hold_each, release_each, begun, ended}
use Rattle.osal_object.specs.Moves.{Change, Put, Hold, Release, Begin, End, Mark, changed, after_changes}
use Rattle.osal_idtable.proofs.Holding.{either}

module _ {T : Type 0} where
  -- both tables have wrapped as often
  abbrev pub SameWraps : TableState T → TableState T → Type 0
  SameWraps old new = new.wraps ≡ old.wraps

  put_wraps : (table : TableState T) (id : ℕ) (object : T) (o : Option (Active T)) → SameWraps table (replaced table id object o)
  put_wraps table id object None = refl
  put_wraps table id object (Some a) = refl

  hold_wraps : (table : TableState T) (id : ℕ) (o : Option (Active T)) → SameWraps table (held table id o).1
  hold_wraps table id None = refl
  hold_wraps table id (Some a) =
      either (λ (p : Result (Unit {0}) IdFault × TableState T). SameWraps table p.1) (nat_lt a.holds hold_limit) _ _ refl refl

  release_wraps : (table : TableState T) (id : ℕ) (o : Option (Active T)) → SameWraps table (released table id o).1
  release_wraps table id None = refl
  release_wraps table id (Some a) =
      either (λ (p : Result (Unit {0}) IdFault × TableState T). SameWraps table p.1) (nat_lt 0 a.holds) _ _ refl refl

  holds_wraps : (table : TableState T) (ids : List ℕ) → SameWraps table (hold_each table ids)
  holds_wraps table [] = refl
  holds_wraps table (id ∷ ids) = holds_wraps (hold_step table id).1 ids ∙ hold_wraps table id (active_at table id)

  releases_wraps : (table : TableState T) (ids : List ℕ) → SameWraps table (release_each table ids)
  releases_wraps table [] = refl
  releases_wraps table (id ∷ ids) =
      releases_wraps (release_step table id).1 ids ∙ release_wraps table id (active_at table id)

module _ {T W : Type 0} (objects : ObjectsState T W) where
  caller_hold_wraps : (id : ℕ) (o : Option (Active T)) → SameWraps objects.table (held_by_caller objects id o).1.table
  caller_hold_wraps id None = refl
  caller_hold_wraps id (Some a) =
      either (λ (p : Replied × ObjectsState T W). SameWraps objects.table p.1.table) (nat_lt a.holds caller_hold_limit) _ _ refl refl

  caller_release_wraps : (id : ℕ) (o : Option (Active T)) → SameWraps objects.table (released_by_caller objects id o).1.table
  caller_release_wraps id None = refl
  caller_release_wraps id (Some a) =
      either (λ (p : Replied × ObjectsState T W). SameWraps objects.table p.1.table) (nat_lt (waits_on objects.waits id) a.holds) _ _ refl refl

  begin_wraps : (wait : WaitRecord W) (o : Option Status) → SameWraps objects.table (begun objects wait o).1.table
  begin_wraps wait None = holds_wraps objects.table wait.on
  begin_wraps wait (Some fault) = refl

  end_wraps : (task : ℕ) (o : Option (WaitRecord W)) → SameWraps objects.table (ended objects task o).table
  end_wraps task None = refl
  end_wraps task (Some wait) = releases_wraps objects.table wait.on

  change_wraps : (change : Change T W) → SameWraps objects.table (changed objects change).table
  change_wraps (Put id object) = put_wraps objects.table id object (active_at objects.table id)
  change_wraps (Hold id) = caller_hold_wraps id (active_at objects.table id)
  change_wraps (Release id) = caller_release_wraps id (active_at objects.table id)
  change_wraps (Begin wait) = begin_wraps wait (wait_fault objects.waits wait.task)
  change_wraps (End task) = end_wraps task (wait_of objects.waits task)
  change_wraps (Mark test) = refl

module _ {T W : Type 0} where
  -- changes leave the wrap count
  pub changes_wraps : (objects : ObjectsState T W) (changes : List (Change T W)) → SameWraps objects.table (after_changes objects changes).table
  changes_wraps objects [] = refl
  changes_wraps objects (change ∷ changes) =
      changes_wraps (changed objects change) changes ∙ change_wraps objects change
