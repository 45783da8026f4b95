use Rattle.std.proofs.Common.{◌≡◌, ◌≤◌, ◌+◌, ap, sym, ◌∙◌, arith}
use Rattle.osal_blocks.specs.Blocks.{blocks_for, blocks_of, bytes_of, free}
use Rattle.osal_blocks.specs.Sound.{blocks_in}
use Rattle.osal_blocks.proofs.Whole.{most_blocks, free_is, file_length}
use Rattle.osal_blocks.proofs.blocks.Blocks.fitting.Goals as goal

-- the free blocks and those of the file are few
few : (c : goal.After-count) → c.free.result + c.count.result ≤ 4096
few c =
    let most = most_blocks c.self.inside.store.items c.self.inside.chains c.self.inside.lengths.items c.self.inside.reserved c.self.invariant c.args.file c.requires in
    let spare = free_is c.self.inside.store.items c.self.inside.chains c.self.inside.lengths.items c.self.inside.reserved c.self.invariant c.args.file c.requires in
    let counted : c.free.result ≡ free (blocks_in c.self.inside.store.items c.self.inside.chains c.self.inside.lengths.items c.self.inside.reserved) =
    rw (← c.self.view_is) at c.free.ensures.value in
    omega (arith, most, spare, counted, c.count.ensures, c.self.invariant.counts c.args.file c.requires)

pub overflow_add-most : goal.overflow_add-most
overflow_add-most c = omega (arith, few c)

pub overflow_mul-most : goal.overflow_mul-most
overflow_mul-most c = omega (arith, few c)

pub returns-clause-value : goal.returns-clause-value
returns-clause-value c =
    let own : c.count.result ≡ blocks_of (bytes_of c.args.self.now c.args.file) =
    rw (← c.self.view_is)
    (c.count.ensures ∙ (c.self.invariant.counts c.args.file c.requires ∙ ap blocks_for (sym (file_length c.self.inside.store.items c.self.inside.chains c.self.inside.lengths.items c.self.inside.reserved c.self.invariant c.args.file c.requires)))) in
    omega (arith, own, c.free.ensures.value)
