-- How long the text of a segment is at least.
use Rattle.std.proofs.Common.{◌≤◌, ◌+◌, ◌*◌, ℕ, List, length, arith}
use Rattle.std.proofs.lemmas.List.{length-append}
use Rattle.osal_report.specs.Report.{segment_name, begin_text, end_text}
use Rattle.osal_report.specs.Draft.{DraftState, draft_text, draft_how}

-- a segment's identifier stands before its task's name
in_name : (id : ℕ) (name : List ℕ) → length name ≤ length (segment_name id name)
unfolding segment_name
in_name id name = simp length-append (omega arith)

-- the first line has the name in it
in_begin : (id : ℕ) (name : List ℕ) → length name ≤ length (begin_text id name)
unfolding begin_text
in_begin id name = simp length-append (omega (arith, in_name id name))

-- the last line has it too
in_end : (id : ℕ) (name how : List ℕ) (pass fail : ℕ) → length name ≤ length (end_text id name how pass fail)
unfolding end_text
in_end id name how pass fail = simp length-append (omega (arith, in_name id name))

-- a segment's text has its cases and twice its name
pub holds_names : (draft : DraftState) → length draft.lines + 2 * length draft.name ≤ length (draft_text draft)
holds_names draft =
    simp length-append (omega (arith, in_begin draft.id draft.name, in_end draft.id draft.name (draft_how draft) draft.pass draft.fail))
