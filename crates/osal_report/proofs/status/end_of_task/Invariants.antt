-- What is read and what is left make the whole.
use Rattle.std.proofs.Common.{◌==◌, drop}
use Rattle.osal_script.specs.Script.{start_of, reached}
use Rattle.osal_report.specs.Cases.{cases_from, failed}
use Rattle.osal_report.specs.Report.{is_stalled}
use Rattle.osal_runs.specs.Spans.{span_of}
use Rattle.osal_report.proofs.Reading.{Ends}
use Rattle.osal_report.proofs.status.end_of_task.Given as goal

abbrev pub invariant-loop-entry : goal.invariant-loop-entry
invariant-loop-entry l =
    Ends l.reading.cursor l.reading.fails (span_of l.app l.id (drop l.entry-index l.entries)) (is_stalled (reached (start_of l.app.bodies l.body) (span_of l.app l.id l.entries)).phase) (failed (cases_from (start_of l.app.bodies l.body) (span_of l.app l.id l.entries)) == 0)
