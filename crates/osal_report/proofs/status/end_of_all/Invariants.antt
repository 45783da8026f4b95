-- What is read and what is left make the whole.
use Rattle.std.proofs.Common.{◌≡◌, ◌==◌, ◌&&◌, ◌||◌, not, drop}
use Rattle.osal_runs.specs.Segments.{segments_of}
use Rattle.osal_report.specs.Report.{all_failed}
use Rattle.osal_report.specs.Ends.{some_stalls}
use Rattle.osal_report.proofs.status.end_of_all.Given as goal

abbrev pub invariant-loop-i : goal.invariant-loop-i
invariant-loop-i l = record {
  stalled : (l.all.stalled || some_stalls (segments_of l.app (drop l.i l.entries))) ≡ some_stalls (segments_of l.app l.entries);
  passes : (not l.all.fails && (all_failed (segments_of l.app (drop l.i l.entries)) == 0)) ≡ (all_failed (segments_of l.app l.entries) == 0);
}
