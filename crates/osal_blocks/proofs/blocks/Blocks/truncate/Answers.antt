use Rattle.std.proofs.Common.{set, arith}
use Rattle.osal_blocks.proofs.Whole.{most_blocks, whole-emptied, state-emptied, free-emptied, sound}
use Rattle.osal_blocks.proofs.blocks.Blocks.truncate.Goals as goal

pub transfer-requires-clause-room : goal.transfer-requires-clause-room
transfer-requires-clause-room c =
    let most = most_blocks c.self.inside.store.items c.self.inside.chains c.self.inside.lengths.items c.self.inside.reserved c.self.invariant c.args.file c.requires in
    omega (arith, most, c.count-count.ensures, c.self.invariant.counts c.args.file c.requires)

pub invariant_of-self : goal.invariant_of-self
invariant_of-self c =
    whole-emptied c.self.inside.store.items c.self.inside.chains c.self.inside.lengths.items c.self.inside.reserved c.self.invariant c.args.file c.requires c.transfer.new.self
    (rw c.count-count.ensures at c.transfer.ensures.moved)

pub returns-clause-bytes : goal.returns-clause-bytes
returns-clause-bytes c =
    rw (← c.self.view_is)
    (state-emptied c.self.inside.store.items c.self.inside.chains c.self.inside.lengths.items c.self.inside.reserved c.self.invariant c.args.file c.requires c.transfer.new.self
    (rw c.count-count.ensures at c.transfer.ensures.moved))

pub returns-clause-free : goal.returns-clause-free
returns-clause-free c =
    rw (← c.self.view_is)
    (free-emptied c.self.inside.store.items c.self.inside.chains c.self.inside.lengths.items c.self.inside.reserved c.self.invariant c.args.file c.requires c.transfer.new.self
    (rw c.count-count.ensures at c.transfer.ensures.moved))

pub returns-clause-sound : goal.returns-clause-sound
returns-clause-sound c =
    sound c.self.inside.store.items c.transfer.new.self (set c.self.inside.lengths.items c.args.file 0) c.self.inside.reserved
    (whole-emptied c.self.inside.store.items c.self.inside.chains c.self.inside.lengths.items c.self.inside.reserved c.self.invariant c.args.file c.requires c.transfer.new.self
    (rw c.count-count.ensures at c.transfer.ensures.moved))
