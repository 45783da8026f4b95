use Rattle.std.proofs.Common.{◌≡◌, true, [], ◌∷◌, ap, ◌∙◌}
use Rattle.osal_base.specs.Reply.{replied, is_waits}
use Rattle.osal_io.specs.declared.awaited.Awaited.TheVariants as awaited
use Rattle.osal_io.specs.Sockets.{receive_now}
use Rattle.osal_io.proofs.StreamCalls.{receive_tries}
use Rattle.osal_io.proofs.Waited.{waited_as}
use Rattle.osal_io.proofs.part.IoPart.socket_recv.Goals as goal

pub returns-in-Waits : goal.returns-in-Waits
returns-in-Waits c =
    let io = c.args.self.now in
    let ack = c.receive_now-ack in
    let waits : is_waits ack.result.answer ≡ true = ap is_waits c.in-Waits.is in
    let began = waited_as io (receive_now io c.args.id c.args.n c.args.wait) _ ack.new.self ack.ensures waits (receive_tries io c.args.id c.args.n c.args.wait).stays
    c.args.task c.args.now (awaited.Receive c.args.id c.args.n) (c.args.id ∷ []) c.args.wait (replied c.begin_on.result [], c.begin_on.new.self) c.begin_on.ensures in
    ap (λ room. (replied c.begin_on.result room, c.begin_on.new.self)) c.clear.ensures ∙ began
