use Rattle.std.proofs.Common.{List, ℕ, [], ap, ◌∙◌}
use Rattle.osal_blocks.specs.Blocks.{bytes_of, with_file}
use Rattle.osal_blocks.proofs.Written.{filled-emptied, bytes_of-other}
use Rattle.osal_blocks.proofs.blocks.Blocks.copy.Goals as goal

pub returns : goal.returns
returns c =
    filled-emptied c.args.self.now c.truncate.new.self c.fill.new.self c.args.to (bytes_of c.args.self.now c.args.from) c.truncate.ensures.bytes
    (c.fill.ensures ∙ ap (λ (l : List ℕ). with_file c.truncate.new.self c.args.to l)
    (bytes_of-other c.args.self.now c.truncate.new.self c.args.to c.args.from [] c.requires.two c.truncate.ensures.bytes))
