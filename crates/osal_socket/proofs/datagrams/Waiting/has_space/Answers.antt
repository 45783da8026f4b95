use Rattle.std.proofs.Common.{refl}
use Rattle.osal_socket.proofs.Stored.{length-datagrams}
use Rattle.osal_socket.proofs.datagrams.Waiting.has_space.Goals as goal

pub returns : goal.returns
returns c =
    rw (← c.self.view_is, length-datagrams c.self.inside.ports.items c.self.inside.messages.messages c.self.invariant.each, c.len.ensures.len) refl
