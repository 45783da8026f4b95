-- The drafts are those of the journal's segments.
use Rattle.std.proofs.Common.{◌≡◌, map, ap, ◌∙◌}
use Rattle.osal_runs.specs.Segments.{segments_of}
use Rattle.osal_report.specs.Draft.{draft_of}
use Rattle.osal_report.proofs.Drafted.{counted_drafts}
use Rattle.osal_report.proofs.Totals.{report_of_drafts}
use Rattle.osal_report.proofs.summary.report.Goals as goal

pub written-requires : goal.written-requires
written-requires c = rw (c.as_slice.ensures.value, c.in_ok-drafts.ensures) (counted_drafts _)

pub returns : goal.returns
returns c =
    let is : c.as_slice.result.now ≡ map draft_of (segments_of c.args.app.now c.args.journal.now.entries) = c.as_slice.ensures.value ∙ c.in_ok-drafts.ensures ∙ ap (λ entries. map draft_of (segments_of c.args.app.now entries)) c.entries.ensures in
    c.in_ok-text.ensures.text ∙ report_of_drafts (segments_of c.args.app.now c.args.journal.now.entries) c.as_slice.result.now is
