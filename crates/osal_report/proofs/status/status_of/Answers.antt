-- The open waits are those of the scripts that stall.
use Rattle.std.proofs.Common.{◌==◌, ap, ◌∙◌}
use Rattle.osal_runs.specs.Segments.{segments_of}
use Rattle.osal_report.specs.Report.{all_failed}
use Rattle.osal_report.specs.Ends.{some_stalls}
use Rattle.osal_report.proofs.Statuses.{status_by_end}
use Rattle.osal_report.proofs.status.status_of.Goals as goal

pub returns : goal.returns
returns c =
    let stalls = c.end_of_all-end.ensures.stalled ∙ ap (λ entries. some_stalls (segments_of c.args.app.now entries)) c.entries.ensures in
    let passes = c.end_of_all-end.ensures.passes ∙ ap (λ entries. all_failed (segments_of c.args.app.now entries) == 0) c.entries.ensures in
    c.status.ensures
    ∙ status_by_end c.args.app.now c.args.journal.now.entries c.end_of_all-end.result.stalled c.end_of_all-end.result.fails c.bodies.ensures.later c.requires stalls passes
