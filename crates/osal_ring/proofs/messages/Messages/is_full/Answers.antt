use Rattle.std.proofs.Common.{refl}
use Rattle.osal_ring.proofs.Cut.{length-cut}
use Rattle.osal_ring.proofs.messages.Messages.is_full.Goals as goal

pub returns : goal.returns
returns c = rw (← c.self.view_is, length-cut, c.len.ensures.len) refl
