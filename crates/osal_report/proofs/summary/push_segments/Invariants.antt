-- What was pushed and counted is that of the drafts so far, and each case has a line.
use Rattle.std.proofs.Common.{◌≡◌, ◌≤◌, ◌+◌, ◌++◌, length, take}
use Rattle.std.specs.List.{flat_map, sum_by}
use Rattle.osal_report.specs.Draft.{DraftState, draft_text}
use Rattle.osal_report.proofs.summary.push_segments.Given as goal

abbrev pub invariant-loop-draft : goal.invariant-loop-draft
invariant-loop-draft l = record {
  text : l.out.items ≡ l.initial.out.items ++ flat_map draft_text (take l.draft-index l.drafts);
  pass : l.counts.pass ≡ sum_by (λ (draft : DraftState). draft.pass) (take l.draft-index l.drafts);
  fail : l.counts.fail ≡ sum_by (λ (draft : DraftState). draft.fail) (take l.draft-index l.drafts);
  few : l.counts.pass + l.counts.fail ≤ length l.out.items;
}
