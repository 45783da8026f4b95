use Rattle.std.proofs.Common.{◌<◌}
use Rattle.osal_blocks.specs.Chains.{ends_at}
use Rattle.osal_blocks.proofs.Walks.{length-blocks_at}
use Rattle.osal_blocks.proofs.Shifted.{first_within, last_within, moved-shifted, threaded-shifted}
use Rattle.osal_blocks.proofs.ends.shift.Goals as goal

some : (c : goal.After-slice_known-2-1) → 0 < (ends_at c.args.ends.now c.args.from).count
some c = rw (length-blocks_at c.args.next.now c.args.ends.now c.args.from) at c.requires.some

room : (c : goal.After-slice_known-2-1) → (ends_at c.args.ends.now c.args.to).count < 4096
room c = rw (length-blocks_at c.args.next.now c.args.ends.now c.args.to) at c.requires.room

pub bounds-next-from : goal.bounds-next-from
bounds-next-from c =
    rw (c.from.ensures, c.ends_at-source.ensures)
    (first_within c.args.next.now c.args.ends.now c.args.from c.args.to c.requires.from c.requires.to c.requires.two (some c) (room c) c.requires.threaded)

pub with_last-requires : goal.with_last-requires
with_last-requires c =
    rw c.ends_at-target.ensures (rw (length-blocks_at c.args.next.now c.args.ends.now c.args.to) at c.requires.room)

some_then : (c : goal.After-link-arg-1) → 0 < (ends_at c.args.ends.now c.args.from).count
some_then c = rw (length-blocks_at c.args.next.now c.args.ends.now c.args.from) at c.requires.some

room_then : (c : goal.After-link-arg-1) → (ends_at c.args.ends.now c.args.to).count < 4096
room_then c = rw (length-blocks_at c.args.next.now c.args.ends.now c.args.to) at c.requires.room

pub link-requires : goal.link-requires
link-requires c =
    rw c.ends_at-target.ensures
    (last_within c.args.next.now c.args.ends.now c.args.from c.args.to c.requires.from c.requires.to c.requires.two (some_then c) (room_then c) c.requires.threaded)

some_last : (c : goal.After-slice_known-3-1) → 0 < (ends_at c.args.ends.now c.args.from).count
some_last c = rw (length-blocks_at c.args.next.now c.args.ends.now c.args.from) at c.requires.some

room_last : (c : goal.After-slice_known-3-1) → (ends_at c.args.ends.now c.args.to).count < 4096
room_last c = rw (length-blocks_at c.args.next.now c.args.ends.now c.args.to) at c.requires.room

pub returns-clause-moved : goal.returns-clause-moved
returns-clause-moved c =
    rw (c.link.ensures, c.with_last.ensures, c.from.ensures, c.ends_at-target.ensures, c.ends_at-source.ensures)
    (moved-shifted c.args.next.now c.args.ends.now c.args.from c.args.to c.requires.from c.requires.to c.requires.two (some_last c) (room_last c) c.requires.threaded)

pub returns-clause-threaded : goal.returns-clause-threaded
returns-clause-threaded c =
    rw (c.link.ensures, c.with_last.ensures, c.from.ensures, c.ends_at-target.ensures, c.ends_at-source.ensures)
    (threaded-shifted c.args.next.now c.args.ends.now c.args.from c.args.to c.requires.from c.requires.to c.requires.two (some_last c) (room_last c) c.requires.threaded)
