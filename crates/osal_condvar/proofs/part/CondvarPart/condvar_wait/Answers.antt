use Rattle.std.proofs.Common.{ap, ◌∙◌, rules, is_some}
use Rattle.osal_base.specs.Reply.{Replied}
use Rattle.osal_object.specs.Moves.{Begin}
use Rattle.osal_object.specs.Objects.{ObjectsState}
use Rattle.osal_idtable.specs.Table.{active_at}
use Rattle.osal_object.proofs.Activity.{change_alike}
use Rattle.osal_condvar.specs.declared.condvar.Condvar.{Condvar}
use Rattle.osal_condvar.specs.declared.condvar.CondvarWait.{CondvarWait}
use Rattle.osal_condvar.proofs.part.CondvarPart.condvar_wait.Goals as goal

-- the condition variable is active before the wait begins, and a wait that begins removes nothing
pub put-requires : goal.put-requires
put-requires c =
    let stays = change_alike c.self.inside.objects (Begin c.waiting_call.result) c.args.id in
    let same = ap (λ (p : Replied × ObjectsState Condvar CondvarWait). is_some (active_at p.1.table c.args.id)) c.begin-ack.ensures ∙ stays in
    search rules
