use Rattle.std.proofs.Common.{take, arith}
use Rattle.osal_blocks.proofs.Written.{written-padded}
use Rattle.osal_blocks.proofs.blocks.Blocks.write.Goals as goal

pub returns-then-count-gt0-clause-bytes : goal.returns-then-count-gt0-clause-bytes
returns-then-count-gt0-clause-bytes c = λ some.
    written-padded c.args.self.now c.pad.new.self c.put.new.self c.args.file c.args.place (take c.fitting-count.result c.args.payload.now)
    (omega (arith, c.fitting-count.ensures.sound.files, c.requires.file)) c.pad.ensures c.put.ensures
