use Rattle.std.proofs.Common.{sym, subst}
use Rattle.osal_volume.specs.Volume.{fresh}
use Rattle.osal_volume.proofs.Held.{Held, held_fresh, held_is, held_whole}
use Rattle.osal_volume.proofs.volume.Volume.mkfs.Goals as goal

pub invariant_of-result : goal.invariant_of-result
invariant_of-result c =
    held_whole (subst (λ nodes. Held nodes c.in_ok-blocks.blocks (fresh c.args.blocks)) (sym c.in_ok-tree.ensures) (held_fresh c.in_ok-blocks.blocks c.args.blocks c.in_ok-blocks.ensures))

pub returns : goal.returns
returns c =
    held_is (subst (λ nodes. Held nodes c.in_ok-blocks.blocks (fresh c.args.blocks)) (sym c.in_ok-tree.ensures) (held_fresh c.in_ok-blocks.blocks c.args.blocks c.in_ok-blocks.ensures))
