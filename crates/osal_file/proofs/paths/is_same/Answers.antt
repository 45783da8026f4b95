use Rattle.std.proofs.Common.{sym, ◌∙◌}
use Rattle.osal_file.proofs.Same.{same_where, differ_where}
use Rattle.osal_file.proofs.paths.is_same.Goals as goal

pub returns-then-at-other : goal.returns-then-at-other
returns-then-at-other c = sym (differ_where c.args.at.now c.args.other.now c.if-at-other.true)

pub returns : goal.returns
returns c = c.is_within.ensures ∙ sym (same_where c.args.at.now c.args.other.now c.if-at-other.false)
