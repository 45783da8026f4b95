use Rattle.osal_blocks.specs.Blocks.{bytes_of}
use Rattle.osal_blocks.proofs.Written.{filled-emptied}
use Rattle.osal_blocks.proofs.blocks.Blocks.copy_from.Goals as goal

pub returns : goal.returns
returns c =
    filled-emptied c.args.self.now c.truncate.new.self c.fill_from.new.self c.args.to (bytes_of c.args.other.now c.args.from) c.truncate.ensures.bytes
    c.fill_from.ensures
