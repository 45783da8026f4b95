use Rattle.std.proofs.Common.{arith}
use Rattle.osal_line.proofs.Splitting.{front_none, front_more}
use Rattle.osal_line.proofs.words.word_rest.Goals as goal

pub loop-i-init : goal.loop-i-init
loop-i-init c = (c.requires, front_none c.args.phase c.args.bytes.now c.requires)

pub loop-i-preserved : goal.loop-i-preserved
loop-i-preserved c =
    (c.in-Some.ensures.0, front_more c.args.phase c.loop-i.at c.in-Some.next c.args.bytes.now c.loop-i.i (omega arith) c.loop-i.invariant.1 c.in-Some.ensures)
