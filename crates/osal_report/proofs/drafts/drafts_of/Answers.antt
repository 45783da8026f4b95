-- Each entry joins its task's draft and may begin one.
use Rattle.std.proofs.Common.{ap, ◌++◌, ◌∙◌, map, arith}
use Rattle.osal_runs.specs.Segments.{begun}
use Rattle.osal_report.specs.Draft.{draft_of, joined_drafts}
use Rattle.osal_report.proofs.Drafted.{drafts_more, counted_drafts}
use Rattle.osal_report.proofs.drafts.drafts_of.Goals as goal

pub join-requires-clause-counted : goal.join-requires-clause-counted
join-requires-clause-counted c = rw c.loop-entry.invariant.drafts (counted_drafts _)

pub loop-entry-preserved : goal.loop-entry-preserved
loop-entry-preserved c = record {
  drafts =
      c.in_ok-begin.ensures.begun
      ∙ ap (λ drafts. drafts ++ map draft_of (begun c.args.app.now c.entry-item.result)) (c.in_ok-join.ensures.joined ∙ ap (λ drafts. joined_drafts drafts c.entry-item.result) c.loop-entry.invariant.drafts)
      ∙ drafts_more c.args.app.now c.args.entries.now c.loop-entry.entry-index c.entry-item.result (omega arith) c.entry-item.is;
  index = c.in_ok-begin.ensures.index;
}
