use Rattle.std.proofs.Common.{sym, ◌∙◌, arith}
use Rattle.osal_tree.proofs.Paths.{too_short}
use Rattle.osal_file.proofs.paths.is_within.Goals as goal

pub returns-then-i-at : goal.returns-then-i-at
returns-then-i-at c =
    sym (too_short c.args.upper.now c.args.at.now c.loop-i.i c.loop-i-test.true (let past = c.if-i-at.true in omega arith)) ∙ c.loop-i.invariant
