use Rattle.std.proofs.Common.{◌≡◌, ◌-◌, ℕ, List, min, get_or, take, drop, ap, sym, ◌∙◌, arith}
use Rattle.osal_blocks.specs.Chains.{blocks_at}
use Rattle.osal_blocks.proofs.Copied.{reads_is}
use Rattle.osal_blocks.proofs.Whole.{file_length, file_bytes}
use Rattle.osal_blocks.proofs.blocks.Blocks.read.Goals as goal

pub read-requires-clause-there : goal.read-requires-clause-there
read-requires-clause-there c =
    let length_is : c.length.result ≡ get_or c.self.inside.lengths.items c.args.file 0 =
    (rw (← c.self.view_is) at c.length.ensures) ∙ file_length c.self.inside.store.items c.self.inside.chains c.self.inside.lengths.items c.self.inside.reserved c.self.invariant c.args.file c.requires.file in
    omega (arith, length_is, c.self.invariant.counts c.args.file c.requires.file)

pub returns-then-count-gt0-clause-bytes : goal.returns-then-count-gt0-clause-bytes
returns-then-count-gt0-clause-bytes c =
    let length_is : c.length.result ≡ get_or c.self.inside.lengths.items c.args.file 0 =
    (rw (← c.self.view_is) at c.length.ensures) ∙ file_length c.self.inside.store.items c.self.inside.chains c.self.inside.lengths.items c.self.inside.reserved c.self.invariant c.args.file c.requires.file in
    let count : c.min-count.result ≡ min (get_or c.self.inside.lengths.items c.args.file 0 - c.args.place) c.args.n = omega (arith, length_is) in
    rw (← c.self.view_is)
    (reads_is c.self.inside.store.items (blocks_at c.self.inside.chains c.args.file) c.read.new.room (get_or c.self.inside.lengths.items c.args.file 0) c.args.place c.args.n c.min-count.result count
    (rw c.as_slice.ensures.value at c.read.ensures)
    ∙ ap (λ (l : List ℕ). take c.args.n (drop c.args.place l)) (sym (file_bytes c.self.inside.store.items c.self.inside.chains c.self.inside.lengths.items c.self.inside.reserved c.self.invariant c.args.file c.requires.file)))
