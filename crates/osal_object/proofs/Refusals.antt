-- A refused step leaves what it found: a step of the object layer, and one of a part over it.
use Rattle.std.proofs.Common.{◌≡◌, ℕ, Bool, true, false, List, nat_lt, Option, Some, None, Result, Ok, Err, refl, ap}
use Rattle.std.proofs.lemmas.Bool.{both_ways}
use Rattle.osal_base.specs.declared.name.NameFault.{NameFault}
use Rattle.osal_base.specs.declared.reply.Answer.{Answer}
use Rattle.osal_base.specs.declared.status.Status.{Status}
use Rattle.osal_base.specs.Name.{name_fault}
use Rattle.osal_base.specs.Reply.{Replied}
use Rattle.osal_idtable.specs.declared.table.IdFault.{IdFault}
use Rattle.osal_idtable.specs.declared.table.ReserveFault.{ReserveFault}
use Rattle.osal_object.specs.declared.waits.WaitRecord.{WaitRecord}
use Rattle.osal_idtable.specs.Table.{Active, TableState, Reserved, active_at}
use Rattle.osal_idtable.specs.Steps.{reserve_step, take_out, unheld}
use Rattle.osal_idtable.specs.Faults.{answered, unless, under_name}
use Rattle.osal_object.specs.Waits.{wait_of, wait_fault, waits_on}
use Rattle.osal_object.specs.Objects.{ObjectsState, with_table, created, create_step, delete_step, held_by_caller, hold_call_step, released_by_caller, release_call_step, caller_hold_limit}
use Rattle.osal_object.specs.Waiting.{begun, begin_step, abandoned, abandon_step}
use Rattle.osal_base.specs.Reply.{is_refusal}
use Rattle.osal_object.proofs.Moves.{either}

-- a step whose answer passes a test leaves what it found
pub record Leaves {S : Type 0} (test : Answer → Bool) (old : S) (stepped : Replied × S) : Type 0 where
  pub left : test stepped.0.answer ≡ true → stepped.1 ≡ old

-- a step that leaves it, whatever the answer
pub same : {S : Type 0} {test : Answer → Bool} {old : S} {answered : Replied} → Leaves test old (answered, old)
same = record { left = λ passes. refl }

-- a step whose answer fails the test
pub fails : {S : Type 0} {test : Answer → Bool} {old : S} {stepped : Replied × S} → test stepped.0.answer ≡ false → Leaves test old stepped
fails answers = record { left = λ passes. absurd (both_ways _ answers passes) }

-- a step of what a part has is a step of the part
pub within : {A B : Type 0} (part : A → B) {test : Answer → Bool} {old : A} {stepped : Replied × A} → Leaves test old stepped → Leaves test (part old) (stepped.0, part stepped.1)
within part leaves = record { left = λ passes. ap part (leaves.left passes) }

module _ {S : Type 0} (state : S) where
  unless_keeps : (fault : Option NameFault) (otherwise : Replied × S) → Leaves is_refusal state otherwise → Leaves is_refusal state (unless fault state otherwise)
  unless_keeps (Some fault) otherwise keeps = same
  unless_keeps None otherwise keeps = keeps

  -- a step under a name
  pub name_keeps : (name : List ℕ) (otherwise : Replied × S) → Leaves is_refusal state otherwise → Leaves is_refusal state (under_name name state otherwise)
  name_keeps name otherwise keeps = unless_keeps (name_fault name) otherwise keeps

module _ {T W : Type 0} (objects : ObjectsState T W) where
  -- a refused step leaves the objects and waits
  abbrev Keeps : Replied × ObjectsState T W → Type 0
  Keeps stepped = Leaves is_refusal objects stepped

  created_keeps : (object : T) (r : Result Reserved ReserveFault) (table : TableState T) → Keeps (created objects object r table)
  created_keeps object (Err fault) table = same
  created_keeps object (Ok reserved) table = fails refl

  -- a create
  pub create_keeps : (name : Option (List ℕ)) (object : T) → Keeps (create_step objects name object)
  create_keeps name object =
      created_keeps object (reserve_step objects.table name).0 (reserve_step objects.table name).1

  removal_keeps : (id : ℕ) (r : Result T IdFault) → Keeps (answered (take_out objects.table id r).0, with_table objects (take_out objects.table id r).1)
  removal_keeps id (Err fault) = same
  removal_keeps id (Ok object) = fails refl

  -- a delete
  pub delete_keeps : (id : ℕ) → Keeps (delete_step objects id)
  delete_keeps id = removal_keeps id (unheld (active_at objects.table id))

  held_keeps : (id : ℕ) (o : Option (Active T)) → Keeps (held_by_caller objects id o)
  held_keeps id None = same
  held_keeps id (Some active) =
      either Keeps (nat_lt active.holds caller_hold_limit) _ _ (fails refl) same

  -- a hold
  pub hold_keeps : (id : ℕ) → Keeps (hold_call_step objects id)
  hold_keeps id = held_keeps id (active_at objects.table id)

  released_keeps : (id : ℕ) (o : Option (Active T)) → Keeps (released_by_caller objects id o)
  released_keeps id None = same
  released_keeps id (Some active) =
      either Keeps (nat_lt (waits_on objects.waits id) active.holds) _ _ (fails refl) same

  -- the end of a hold
  pub release_keeps : (id : ℕ) → Keeps (release_call_step objects id)
  release_keeps id = released_keeps id (active_at objects.table id)

  begun_keeps : (wait : WaitRecord W) (fault : Option Status) → Keeps (begun objects wait fault)
  begun_keeps wait (Some fault) = same
  begun_keeps wait None = fails refl

  -- the begin of a wait
  pub begin_keeps : (wait : WaitRecord W) → Keeps (begin_step objects wait)
  begin_keeps wait = begun_keeps wait (wait_fault objects.waits wait.task)

  abandoned_keeps : (task : ℕ) (o : Option (WaitRecord W)) → Keeps (abandoned objects task o)
  abandoned_keeps task None = same
  abandoned_keeps task (Some wait) = fails refl

  -- a wait that is given up
  pub abandon_keeps : (task : ℕ) → Keeps (abandon_step objects task)
  abandon_keeps task = abandoned_keeps task (wait_of objects.waits task)
