-- The line is its pieces, in order.
use Rattle.std.proofs.Common.{append_assoc}
use Rattle.osal_report.specs.Report.{total_text}
use Rattle.osal_report.proofs.summary.push_total.Goals as goal

pub returns : goal.returns
unfolding total_text
returns c =
    rw (c.in_ok-push_counts.ensures, c.in_ok-push_decimal.ensures, c.in_ok-push_bytes.ensures) (simp append_assoc)
