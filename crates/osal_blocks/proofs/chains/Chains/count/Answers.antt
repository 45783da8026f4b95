use Rattle.std.proofs.Common.{refl}
use Rattle.osal_blocks.proofs.Walks.{length-blocks_at}
use Rattle.osal_blocks.proofs.chains.Chains.count.Goals as goal

pub returns : goal.returns
returns c =
    rw (← c.self.view_is, length-blocks_at c.self.inside.next.items c.self.inside.ends.items c.args.list, c.from.ensures, c.ends_at.ensures, c.as_slice.ensures.value) refl
