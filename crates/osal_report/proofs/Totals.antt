-- What the drafts say together.
use Rattle.std.proofs.Common.{◌≡◌, ◌≤◌, ◌+◌, ◌++◌, ◌||◌, List, [], ◌∷◌, ℕ, cond, length, map, refl, ap, ◌∙◌, arith}
use Rattle.std.specs.List.{flat_map, list_any, sum_by}
use Rattle.std.proofs.lemmas.List.{length-append, length-map}
use Rattle.std.proofs.lemmas.List.Sums.{sum_by-cons}
use Rattle.osal_script.specs.Script.{Pending}
use Rattle.osal_script.specs.Cursor.{first_line}
use Rattle.osal_runs.specs.Segments.{Segment, script_in}
use Rattle.osal_report.specs.Cases.{cases_of, cases_text, passed, failed}
use Rattle.osal_report.specs.Report.{is_stalled, how_text, stall_of, begin_text, end_text, total_text, segment_text, segments_text, all_passed, all_failed, report_of}
use Rattle.osal_report.specs.Ends.{stalls, some_stalls}
use Rattle.osal_report.specs.Draft.{DraftState, draft_of, draft_text, stall_of_line, IsCounted}

-- a draft's text has a line for each of its cases
counted_text : (draft : DraftState) → IsCounted draft → draft.pass + draft.fail ≤ length (draft_text draft)
counted_text draft counted = simp length-append (omega arith)

-- no case is counted that has no line
pub counted_more : (out after : List ℕ) (pass fail : ℕ) (draft : DraftState) → pass + fail ≤ length out → IsCounted draft → after ≡ out ++ draft_text draft → pass + draft.pass + (fail + draft.fail) ≤ length after
counted_more out after pass fail draft few counted is =
    rw is (simp length-append (omega (arith, counted_text draft counted)))

stall_of_first : (pending : List Pending) → stall_of_line (first_line pending) ≡ stall_of pending
stall_of_first [] = refl
stall_of_first (next ∷ pending) = refl

-- the text of a segment's draft is the segment's
text_of_draft : (segment : Segment) → draft_text (draft_of segment) ≡ segment_text segment
text_of_draft segment =
    ap
    (λ stall. begin_text segment.id segment.name ++ (cases_text 1 (cases_of segment) ++ (cond (is_stalled (script_in segment).phase) stall [] ++ end_text segment.id segment.name (how_text segment) (passed (cases_of segment)) (failed (cases_of segment)))))
    (stall_of_first (script_in segment).pending)

-- and so for all of them
pub texts_of_drafts : (segments : List Segment) → flat_map draft_text (map draft_of segments) ≡ segments_text segments
texts_of_drafts [] = refl
texts_of_drafts (segment ∷ segments) =
    ap (λ text. text ++ flat_map draft_text (map draft_of segments)) (text_of_draft segment)
    ∙ ap (λ rest. segment_text segment ++ rest) (texts_of_drafts segments)

-- the drafts count the cases that pass
pub passed_of_drafts : (segments : List Segment) → sum_by (λ (draft : DraftState). draft.pass) (map draft_of segments) ≡ all_passed segments
passed_of_drafts [] = refl
passed_of_drafts (segment ∷ segments) =
    sum_by-cons (λ (draft : DraftState). draft.pass) (draft_of segment) (map draft_of segments)
    ∙ ap (λ rest. passed (cases_of segment) + rest) (passed_of_drafts segments)

-- and those that do not
pub failed_of_drafts : (segments : List Segment) → sum_by (λ (draft : DraftState). draft.fail) (map draft_of segments) ≡ all_failed segments
failed_of_drafts [] = refl
failed_of_drafts (segment ∷ segments) =
    sum_by-cons (λ (draft : DraftState). draft.fail) (draft_of segment) (map draft_of segments)
    ∙ ap (λ rest. failed (cases_of segment) + rest) (failed_of_drafts segments)

-- a draft's script has an open wait where its segment's has one
pub stalled_of_drafts : (segments : List Segment) → list_any (λ (draft : DraftState). is_stalled draft.script.phase) (map draft_of segments) ≡ some_stalls segments
stalled_of_drafts [] = refl
stalled_of_drafts (segment ∷ segments) =
    ap (λ rest. stalls segment || rest) (stalled_of_drafts segments)

-- the drafts' texts and counts make the report
pub report_of_drafts : (segments : List Segment) (drafts : List DraftState) → drafts ≡ map draft_of segments → flat_map draft_text drafts ++ total_text (length drafts) (sum_by (λ (draft : DraftState). draft.pass) drafts) (sum_by (λ (draft : DraftState). draft.fail) drafts) ≡ report_of segments
report_of_drafts segments drafts is =
    rw (is, length-map, passed_of_drafts, failed_of_drafts, texts_of_drafts) refl
