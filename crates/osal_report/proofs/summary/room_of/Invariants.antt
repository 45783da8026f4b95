-- The room so far is at most that of the drafts' texts, and a frame for each.
use Rattle.std.proofs.Common.{◌≤◌, ◌+◌, ◌*◌, length, take}
use Rattle.std.specs.List.{flat_map}
use Rattle.osal_report.specs.Draft.{draft_text}
use Rattle.osal_report.proofs.summary.room_of.Given as goal

abbrev pub invariant-loop-draft : goal.invariant-loop-draft
invariant-loop-draft l =
    l.room ≤ length (flat_map draft_text (take l.draft-index l.drafts)) + 160 * l.draft-index + 100
