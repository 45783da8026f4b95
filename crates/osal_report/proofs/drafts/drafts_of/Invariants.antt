-- The drafts are those of the segments of the entries so far, and the index finds the newest of each task.
use Rattle.std.proofs.Common.{◌≡◌, [], map, take}
use Rattle.std.specs.Ordering.{nat_cmp}
use Rattle.std.specs.BTreeMap.{get}
use Rattle.osal_runs.specs.Segments.{segments_from}
use Rattle.osal_report.specs.Draft.{draft_of, IsIndex}
use Rattle.osal_report.proofs.drafts.drafts_of.Given as goal

abbrev pub invariant-loop-entry : goal.invariant-loop-entry
invariant-loop-entry l = record {
  drafts : l.drafts.list.items ≡ map draft_of (segments_from l.app [] (take l.entry-index l.entries));
  index : IsIndex (get nat_cmp l.drafts.newest) l.drafts.list.items;
}
