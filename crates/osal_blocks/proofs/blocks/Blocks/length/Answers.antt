use Rattle.std.proofs.Common.{sym, ◌∙◌, arith}
use Rattle.std.proofs.lemmas.List.{get_or_read}
use Rattle.osal_blocks.proofs.Whole.{file_length}
use Rattle.osal_blocks.proofs.blocks.Blocks.length.Goals as goal

pub returns : goal.returns
returns c =
    let lengths = c.self.inside.lengths.items in
    let length_is = get_or_read lengths c.args.file c.index.result.now (omega (arith, c.self.invariant.files, c.requires)) c.index.ensures 0 in
    rw (← c.self.view_is)
    (length_is ∙ sym (file_length c.self.inside.store.items c.self.inside.chains lengths c.self.inside.reserved c.self.invariant c.args.file c.requires))
