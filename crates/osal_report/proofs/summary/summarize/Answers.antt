-- The drafts are those of the journal's segments, and tell how their scripts end.
use Rattle.std.proofs.Common.{◌≡◌, map, ap, ◌∙◌}
use Rattle.std.specs.List.{list_any, sum_by}
use Rattle.osal_runs.specs.Segments.{segments_of}
use Rattle.osal_report.specs.Report.{is_stalled}
use Rattle.osal_report.specs.Draft.{DraftState, draft_of}
use Rattle.osal_report.proofs.Drafted.{counted_drafts}
use Rattle.osal_report.proofs.Totals.{stalled_of_drafts, failed_of_drafts, report_of_drafts}
use Rattle.osal_report.proofs.Statuses.{none_fails, status_by_end}
use Rattle.osal_report.proofs.summary.summarize.Goals as goal

pub written-requires : goal.written-requires
written-requires c = rw (c.as_slice.ensures.value, c.in_ok-drafts.ensures) (counted_drafts _)

pub returns-clause-report : goal.returns-clause-report
returns-clause-report c =
    let is : c.as_slice.result.now ≡ map draft_of (segments_of c.args.app.now c.args.journal.now.entries) = c.as_slice.ensures.value ∙ c.in_ok-drafts.ensures ∙ ap (λ entries. map draft_of (segments_of c.args.app.now entries)) c.entries.ensures in
    c.in_ok-report.ensures.text ∙ report_of_drafts (segments_of c.args.app.now c.args.journal.now.entries) c.as_slice.result.now is

pub returns-clause-status : goal.returns-clause-status
returns-clause-status c =
    let segments = segments_of c.args.app.now c.args.journal.now.entries in
    let drafts = c.in_ok-drafts.ensures ∙ ap (λ entries. map draft_of (segments_of c.args.app.now entries)) c.entries.ensures in
    let stalls = c.some_stalled.ensures ∙ ap (list_any (λ (draft : DraftState). is_stalled draft.script.phase)) (c.as_slice-2.ensures.value ∙ drafts) ∙ stalled_of_drafts segments in
    let fails = c.in_ok-report.ensures.fail ∙ ap (sum_by (λ (draft : DraftState). draft.fail)) (c.as_slice.ensures.value ∙ drafts) ∙ failed_of_drafts segments in
    status_by_end c.args.app.now c.args.journal.now.entries c.some_stalled.result _ c.bodies.ensures.later c.requires stalls (none_fails _ _ fails)
