use Rattle.std.proofs.Common.{◌<◌, ◌≤◌, ◌+◌, ℕ, List, length, slice_index, ap, sym, ◌∙◌, arith}
use Rattle.osal_blocks.specs.Chains.{chains_in, blocks_at, ends_at}
use Rattle.osal_blocks.proofs.Walks.{walk_within, walk_shorter, length-blocks_at, blocks_at-chains_in}
use Rattle.osal_blocks.proofs.chains.Chains.at.Goals as goal

pub walk-requires : goal.walk-requires
walk-requires c =
    let next = c.self.inside.next.items in
    let ends = c.self.inside.ends.items in
    let there : c.args.place ≤ length (blocks_at (chains_in next ends) c.args.list) = rw (← c.self.view_is) at c.requires.place in
    let steps : c.args.place ≤ (ends_at ends c.args.list).count = rw (length-blocks_at next ends c.args.list) at there in
    rw (c.as_slice-2.ensures.value, c.ends_at-first.ensures, c.as_slice.ensures.value)
    (record {
      few = c.self.invariant.apart.few;
      within = λ k below.
          let same = walk_shorter next (ends_at ends c.args.list).first c.args.place (ends_at ends c.args.list).count k below (omega arith) in
          rw same (walk_within next ends c.args.list k c.self.invariant.apart (omega arith));
    })

pub returns-clause-value : goal.returns-clause-value
returns-clause-value c =
    let next = c.self.inside.next.items in
    let ends = c.self.inside.ends.items in
    rw (c.walk.ensures, c.as_slice-2.ensures.value, c.ends_at-first.ensures, c.as_slice.ensures.value, ← c.self.view_is)
    (λ within.
    let steps : c.args.place < (ends_at ends c.args.list).count = rw (length-blocks_at next ends c.args.list) at within in
    walk_shorter next (ends_at ends c.args.list).first (c.args.place + 1) (ends_at ends c.args.list).count c.args.place (omega arith) steps
    ∙ ap (λ (l : List ℕ). slice_index l c.args.place) (sym (blocks_at-chains_in next ends c.args.list)))
