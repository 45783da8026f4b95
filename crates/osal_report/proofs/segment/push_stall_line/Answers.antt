-- The line is its pieces, in order.
use Rattle.std.proofs.Common.{append_assoc}
use Rattle.osal_report.specs.Report.{stall_line}
use Rattle.osal_report.proofs.segment.push_stall_line.Goals as goal

pub returns : goal.returns
unfolding stall_line
returns c =
    rw (c.in_ok-push_bytes-4.ensures, c.in_ok-push_bytes-3.ensures, c.name.ensures, c.in_ok-push_bytes-2.ensures, c.in_ok-push_decimal.ensures, c.from.ensures, c.in_ok-push_bytes.ensures) (simp append_assoc)
