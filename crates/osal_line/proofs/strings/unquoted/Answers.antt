use Rattle.std.proofs.Common.{◌∙◌, ap, arith}
use Rattle.osal_line.proofs.Quotes.{next_kept, byte_kept}
use Rattle.osal_line.proofs.strings.unquoted.Goals as goal
use Rattle.osal_line.proofs.strings.unquoted.Goals.{in-Next, in-Byte+in_ok-push-in-Byte}

pub loop-i-preserved : goal.loop-i-preserved
loop-i-preserved c =
    elim c.match-string_turn.branch [
      | in-Next w ↦ next_kept c.loop-i.text.items c.match-string_turn.text.items c.args.bytes.now _ c.loop-i.phase w.in-Next.next c.match-string_turn.phase c.string_turn.result c.loop-i.i (omega arith) c.string_turn.ensures.turned c.string_turn.ensures.digit w.in-Next.is w.phase-is (ap (λ v. v.items) w.text-is) c.loop-i.invariant.1
      | in-Byte+in_ok-push-in-Byte w ↦ byte_kept c.loop-i.text.items c.match-string_turn.text.items c.args.bytes.now _ c.loop-i.phase c.match-string_turn.phase c.string_turn.result w.in-Byte.byte c.loop-i.i (omega arith) c.string_turn.ensures.turned w.in-Byte.is w.phase-is (ap (λ v. v.items) w.text-is ∙ w.in_ok-push-in-Byte.ensures.items) c.loop-i.invariant.1
    ]
