-- A plain byte makes the run longer; another ends it.
use Rattle.std.proofs.Common.{refl, arith}
use Rattle.osal_spelling.proofs.Runs.{plain_more, run_ends}
use Rattle.osal_spelling.proofs.spelling.push_quoted_bytes.Goals as goal
use Rattle.osal_spelling.proofs.spelling.push_quoted_bytes.Goals.{then-not-is_plain+in_ok-push_bytes+in_ok-push_quoted_byte, else-not-is_plain}

pub loop-at-preserved : goal.loop-at-preserved
loop-at-preserved c =
    elim c.if-not-is_plain.branch [
      | then-not-is_plain+in_ok-push_bytes+in_ok-push_quoted_byte w ↦
          let ended = run_ends c.loop-at.out.items c.args.out.now.items c.args.bytes.now c.loop-at.from c.loop-at.at c.loop-at.invariant.within c.loop-at-test.true c.loop-at.invariant.spelled in
          record { within = omega arith; spelled = cc (w.in_ok-push_bytes.ensures, w.in_ok-push_quoted_byte.ensures) }
      | else-not-is_plain w ↦
          let longer = plain_more c.loop-at.out.items c.args.out.now.items c.args.bytes.now c.loop-at.from c.loop-at.at c.loop-at.invariant.within c.loop-at-test.true (w.if-not-is_plain.ensures refl) c.loop-at.invariant.spelled in
          record { within = omega arith; spelled = cc }
    ]
