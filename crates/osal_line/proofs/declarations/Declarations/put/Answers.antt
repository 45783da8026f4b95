use Rattle.std.proofs.Common.{refl}
use Rattle.std.proofs.lemmas.Map.Text.{btree_map_updates_str}
use Rattle.osal_line.specs.declared.declarations.Declarations.{Declarations}
use Rattle.osal_line.proofs.Declaring.{task_put, handler_put}
use Rattle.osal_line.proofs.declarations.Declarations.put.Goals as goal

pub returns-in_ok-insert-in-Task : goal.returns-in_ok-insert-in-Task
returns-in_ok-insert-in-Task c =
    let old = c.args.self.now in
    let new : Declarations = record { tasks = c.insert.new.self; handlers = old.handlers } in
    rw c.in-Task.is (task_put old new c.args.name.now c.args.place (btree_map_updates_str c.args.name.now old.tasks new.tasks _ c.in_ok-insert-in-Task.ensures.updates) refl)

pub returns-in_ok-insert-in-Handler : goal.returns-in_ok-insert-in-Handler
returns-in_ok-insert-in-Handler c =
    let old = c.args.self.now in
    let new : Declarations = record { tasks = old.tasks; handlers = c.insert-in-Handler.new.self } in
    rw c.in-Handler.is (handler_put old new c.args.name.now c.args.place (btree_map_updates_str c.args.name.now old.handlers new.handlers _ c.in_ok-insert-in-Handler.ensures.updates) refl)
