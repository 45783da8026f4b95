use Rattle.std.proofs.Common.{◌∙◌, sym, arith}
use Rattle.osal_line.proofs.Arrows.{nowhere, before_more, from_more, before_here, from_here}
use Rattle.osal_line.proofs.expectation.arrow_place.Goals as goal

pub loop-i-preserved : goal.loop-i-preserved
loop-i-preserved c =
    let words = c.args.words.now in
    let plain = sym c.if-is_arrow.ensures in
    (before_more words nowhere c.loop-i.i (omega arith) plain c.loop-i.invariant.0, c.loop-i.invariant.1 ∙ from_more words nowhere c.loop-i.i (omega arith) plain)

pub returns-then-is_arrow : goal.returns-then-is_arrow
returns-then-is_arrow c =
    let words = c.args.words.now in
    let arrow = sym c.if-is_arrow.ensures in
    record {
      within = omega arith;
      before = before_here words nowhere c.loop-i.i (omega arith) arrow c.loop-i.invariant.0;
      from = c.loop-i.invariant.1 ∙ from_here words nowhere c.loop-i.i (omega arith) arrow;
    }
