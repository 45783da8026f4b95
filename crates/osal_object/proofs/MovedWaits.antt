-- No task waits twice after a move where none did before.
use Rattle.std.proofs.Common.{◌≡◌, ℕ, not, List, [], ◌∷◌, nat_lt, Option, Some, None, Result, Ok, Err, refl, sym, ap, ◌∙◌}
use Rattle.std.specs.List.{list_any}
use Rattle.std.proofs.lemmas.Bool.{eqb-true}
use Rattle.osal_base.specs.declared.status.Status.{Status}
use Rattle.osal_base.specs.Reply.{Replied}
use Rattle.osal_idtable.specs.declared.table.ReserveFault.{ReserveFault}
use Rattle.osal_object.specs.declared.waits.WaitRecord.{WaitRecord}
use Rattle.osal_idtable.specs.Table.{Active, TableState, Reserved, active_at}
use Rattle.osal_idtable.specs.Steps.{reserve_step}
use Rattle.osal_idtable.specs.Sound.{AtMostOne}
use Rattle.osal_object.specs.Waits.{is_of, wait_of, wait_fault, waits_on}
use Rattle.osal_object.specs.Objects.{ObjectsState, created, create_step, held_by_caller, released_by_caller, caller_hold_limit}
use Rattle.osal_object.specs.Waiting.{begun, ended}
use Rattle.osal_object.specs.Moves.{Change, Put, Hold, Release, Begin, End, Mark, Move, Create, Remove, Changes, changed, after_changes, moved}
use Rattle.osal_object.proofs.Balance.{may_begin}
use Rattle.osal_idtable.proofs.Holding.{either}
use Rattle.osal_object.proofs.Records.{none_found, once_more, once_kept, once_released}

module _ {T W : Type 0} (task : ℕ) where
  -- a task has at most one open wait
  abbrev pub WaitsOnce : ObjectsState T W → Type 0
  WaitsOnce objects = AtMostOne (is_of task) objects.waits.records

  module _ (objects : ObjectsState T W) (once : WaitsOnce objects) where
    once_held : (id : ℕ) (o : Option (Active T)) → WaitsOnce (held_by_caller objects id o).1
    once_held id None = once
    once_held id (Some active) = either (λ (p : Replied × ObjectsState T W). WaitsOnce p.1) (nat_lt active.holds caller_hold_limit) _ _ once once

    once_given : (id : ℕ) (o : Option (Active T)) → WaitsOnce (released_by_caller objects id o).1
    once_given id None = once
    once_given id (Some active) = either (λ (p : Replied × ObjectsState T W). WaitsOnce p.1) (nat_lt (waits_on objects.waits id) active.holds) _ _ once once

    once_begun : (wait : WaitRecord W) (o : Option Status) → wait_fault objects.waits wait.task ≡ o → WaitsOnce (begun objects wait o).1
    once_begun wait (Some fault) is = once
    once_begun wait None is =
        let none = none_found (is_of wait.task) objects.waits.records (may_begin objects.waits wait.task is).free in
        once_more (is_of task) objects.waits.records wait once (λ own. ap (λ k. list_any (is_of k) objects.waits.records) (sym (eqb-true wait.task task own)) ∙ none)

    once_ended : (other : ℕ) (o : Option (WaitRecord W)) → WaitsOnce (ended objects other o)
    once_ended other None = once
    once_ended other (Some wait) = once_kept (is_of task) (λ one. not (is_of other one)) objects.waits.records once

    once_changed : (change : Change T W) → WaitsOnce (changed objects change)
    once_changed (Put id object) = once
    once_changed (Hold id) = once_held id (active_at objects.table id)
    once_changed (Release id) = once_given id (active_at objects.table id)
    once_changed (Begin wait) = once_begun wait (wait_fault objects.waits wait.task) refl
    once_changed (End other) = once_ended other (wait_of objects.waits other)
    once_changed (Mark test) = once_released test task objects.waits.records once

    once_created : (object : T) (r : Result Reserved ReserveFault) (table : TableState T) → WaitsOnce (created objects object r table).1
    once_created object (Err fault) table = once
    once_created object (Ok reserved) table = once

  once_after : (objects : ObjectsState T W) (changes : List (Change T W)) → WaitsOnce objects → WaitsOnce (after_changes objects changes)
  once_after objects [] once = once
  once_after objects (change ∷ changes) once = once_after (changed objects change) changes (once_changed objects once change)

  -- a task has at most one open wait after a move where it had at most one before
  pub once_moved : (objects : ObjectsState T W) (move : Move T W) → WaitsOnce objects → WaitsOnce (moved objects move)
  once_moved objects (Create name object changes) once =
      once_after (create_step objects name object).1 changes (once_created objects once object (reserve_step objects.table name).0 (reserve_step objects.table name).1)
  once_moved objects (Remove id) once = once
  once_moved objects (Changes changes) once = once_after objects changes once
