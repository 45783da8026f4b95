-- The drafts of segments go on as the segments do.
use Rattle.std.proofs.Common.{◌≡◌, ◌==◌, ◌<◌, ◌≤◌, ◌+◌, ◌++◌, ◌||◌, List, [], ◌∷◌, ℕ, Bool, true, false, cond, Option, Some, None, is_some, length, get_or, take, map, refl, sym, ap, ◌∙◌, arith}
use Rattle.std.specs.List.{AllByRecursion}
use Rattle.std.proofs.lemmas.List.{length-append, map-append, take_more}
use Rattle.osal_call.specs.declared.call.Entry.{Entry}
use Rattle.osal_script.specs.App.{Application}
use Rattle.osal_runs.specs.Segments.{Segment, has_segment, joined, begun, recorded, segments_from}
use Rattle.osal_report.specs.Cases.{Case, passes, case_mark, case_text, cases_text, cases_of, passed, failed}
use Rattle.osal_report.specs.Draft.{draft_of, IsCounted, place_before, newest_place, noted_if, joined_drafts}
use Rattle.osal_report.proofs.Pushed.{either, draft_push}

some_before : (own : Bool) (rest : Option ℕ) → (own || is_some rest) ≡ is_some (place_before own rest)
some_before true None = refl
some_before false None = refl
some_before true (Some place) = refl
some_before false (Some place) = refl

-- an identifier has a draft where it has a segment
has_draft : (segments : List Segment) (id : ℕ) → has_segment segments id ≡ is_some (newest_place (map draft_of segments) id)
has_draft [] id = refl
has_draft (segment ∷ segments) id =
    ap (λ rest. (segment.id == id) || rest) (has_draft segments id)
    ∙ some_before (segment.id == id) (newest_place (map draft_of segments) id)

join_step : (segment : Segment) (segments after : List Segment) (entry : Entry) (has own : Bool) (place : Option ℕ) → has ≡ is_some place → map draft_of after ≡ noted_if (map draft_of segments) place entry → map draft_of (cond has (segment ∷ after) (cond own (record segment { entries = segment.entries ++ entry ∷ [] } ∷ segments) (segment ∷ segments))) ≡ noted_if (draft_of segment ∷ map draft_of segments) (place_before own place) entry
join_step segment segments after entry true own None h e = cc
join_step segment segments after entry false true None h e = ap (λ d. d ∷ map draft_of segments) (draft_push segment entry)
join_step segment segments after entry false false None h e = refl
join_step segment segments after entry true own (Some place) h e = ap (λ ds. draft_of segment ∷ ds) e
join_step segment segments after entry false own (Some place) h e = cc

-- an entry joins the draft of the segment that it joins
joined_drafted : (segments : List Segment) (entry : Entry) → map draft_of (joined segments entry) ≡ joined_drafts (map draft_of segments) entry
joined_drafted [] entry = refl
joined_drafted (segment ∷ segments) entry =
    join_step segment segments (joined segments entry) entry (has_segment segments entry.task) (segment.id == entry.task) (newest_place (map draft_of segments) entry.task) (has_draft segments entry.task) (joined_drafted segments entry)

-- the segments go on by one entry
pub segments_push : (app : Application) (segments : List Segment) (entries : List Entry) (entry : Entry) → segments_from app segments (entries ++ entry ∷ []) ≡ recorded app (segments_from app segments entries) entry
segments_push app segments [] entry = refl
segments_push app segments (first ∷ entries) entry = segments_push app (recorded app segments first) entries entry

-- and so do their drafts
pub drafts_push : (app : Application) (entries : List Entry) (entry : Entry) → map draft_of (segments_from app [] (entries ++ entry ∷ [])) ≡ joined_drafts (map draft_of (segments_from app [] entries)) entry ++ map draft_of (begun app entry)
drafts_push app entries entry =
    let before = segments_from app [] entries in
    ap (map draft_of) (segments_push app [] entries entry)
    ∙ map-append draft_of (joined before entry) (begun app entry)
    ∙ ap (λ ds. ds ++ map draft_of (begun app entry)) (joined_drafted before entry)

-- the drafts of the entries up to a place, with the entry at that place
pub drafts_more : (app : Application) (entries : List Entry) (i : ℕ) (entry : Entry) → i < length entries → entry ≡ get_or entries i entry → joined_drafts (map draft_of (segments_from app [] (take i entries))) entry ++ map draft_of (begun app entry) ≡ map draft_of (segments_from app [] (take (i + 1) entries))
drafts_more app entries i entry within is =
    sym (drafts_push app (take i entries) entry)
    ∙ ap (λ es. map draft_of (segments_from app [] es)) (ap (λ e. take i entries ++ e ∷ []) is ∙ sym (take_more entries i entry within))

mark_long : (pass : Bool) (case : Case) → passes case ≡ pass → 1 ≤ length (case_mark case)
mark_long true case e = rw e (omega arith)
mark_long false case e = rw e (omega arith)

-- the line of a case is not empty
case_long : (number : ℕ) (case : Case) → 1 ≤ length (case_text number case)
unfolding case_text
case_long number case = simp length-append (omega (arith, mark_long (passes case) case refl))

-- each case has a line
pub counted_cases : (number : ℕ) (cases : List Case) → passed cases + failed cases ≤ length (cases_text number cases)
counted_cases number [] = omega arith
counted_cases number (case ∷ cases) =
    simp length-append (omega (arith, either (passes case), case_long number case, counted_cases (number + 1) cases))

-- the draft of each segment has a line for each of its cases
pub counted_drafts : (segments : List Segment) → AllByRecursion IsCounted (map draft_of segments)
counted_drafts [] = tt
counted_drafts (segment ∷ segments) = (counted_cases 1 (cases_of segment), counted_drafts segments)
