use Rattle.std.proofs.Common.{ap, sym, ◌∙◌}
use Rattle.osal_base.specs.Reply.{replied}
use Rattle.osal_io.specs.Calls.{io_step}
use Rattle.osal_io.proofs.part.IoPart.apply_within.Goals as goal

pub returns-in-SocketBind : goal.returns-in-SocketBind
returns-in-SocketBind c = λ task now.
    ap (λ room. (replied c.socket_bind.result room, c.socket_bind.new.self)) c.requires.empty ∙ c.socket_bind.ensures
    ∙ ap (io_step c.args.self.now task now) (sym c.in-SocketBind.is)
