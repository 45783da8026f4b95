-- What one more entry adds to a segment.
use Rattle.std.proofs.Common.{◌≡◌, ◌+◌, ◌-◌, ◌<◌, ◌++◌, List, [], ◌∷◌, ℕ, Bool, true, false, cond, Some, length, refl, sym, ap, ◌∙◌, append_assoc, arith}
use Rattle.std.specs.Prelude.{slice_get}
use Rattle.std.proofs.lemmas.List.{append-nil, length_push, get_or_push}
use Rattle.std.proofs.lemmas.Option.{slice_get-get_or}
use Rattle.osal_call.specs.declared.call.Entry.{Entry}
use Rattle.osal_script.specs.Script.{ScriptState, start_of, after_entry, reached}
use Rattle.osal_runs.proofs.Segments.{reached_push}
use Rattle.osal_runs.specs.Segments.{Segment, script_in}
use Rattle.osal_report.specs.Cases.{Case, passes, case_by, case_text, cases_text, cases_from, passed, failed}
use Rattle.osal_report.specs.Report.{is_exit_entry}
use Rattle.osal_report.specs.Draft.{DraftState, draft_of, noted}

-- the cases of a script with one more entry are those so far and the one that the entry makes
pub cases_push : (state : ScriptState) (entries : List Entry) (entry : Entry) → cases_from state (entries ++ entry ∷ []) ≡ cases_from state entries ++ case_by (reached state entries) entry
cases_push state [] entry = append-nil _
cases_push state (first ∷ entries) entry =
    ap (λ cases. case_by state first ++ cases) (cases_push (after_entry state first) entries entry)
    ∙ sym (append_assoc (case_by state first) (cases_from (after_entry state first) entries) _)

-- the cases that pass in a front and in the rest
pub passed_append : (front rest : List Case) → passed (front ++ rest) ≡ passed front + passed rest
passed_append [] rest = omega arith
passed_append (case ∷ front) rest = omega (arith, passed_append front rest)

-- the cases that fail in a front and in the rest
pub failed_append : (front rest : List Case) → failed (front ++ rest) ≡ failed front + failed rest
failed_append [] rest = omega arith
failed_append (case ∷ front) rest = omega (arith, failed_append front rest)

-- a case either passes or fails
pub either : (pass : Bool) → cond pass 1 0 + cond pass 0 1 ≡ 1
either true = refl
either false = refl

-- the lines of a front, and those of the rest with the numbers that come next
pub cases_text_append : (number : ℕ) (front rest : List Case) → cases_text number (front ++ rest) ≡ cases_text number front ++ cases_text (number + (passed front + failed front)) rest
cases_text_append number [] rest =
    let none : number + (passed [] + failed []) ≡ number = omega arith in rw none
cases_text_append number (case ∷ front) rest =
    let next : number + 1 + (passed front + failed front) ≡ number + (passed (case ∷ front) + failed (case ∷ front)) = omega (arith, either (passes case)) in
    rw (cases_text_append (number + 1) front rest, next) (sym (append_assoc (case_text number case) (cases_text (number + 1) front) _))

-- the entry is the last one
pub last_push : (entries : List Entry) (entry : Entry) → slice_get (entries ++ entry ∷ []) (length (entries ++ entry ∷ []) - 1) ≡ Some entry
last_push entries entry =
    let within : length (entries ++ entry ∷ []) - 1 < length (entries ++ entry ∷ []) = omega (arith, length_push entries entry) in
    let behind : length entries ≡ length (entries ++ entry ∷ []) - 1 = omega (arith, length_push entries entry) in
    slice_get-get_or (entries ++ entry ∷ []) _ entry within ∙ ap Some (get_or_push entries entry entry _ behind)

-- two drafts of one task are equal where their parts are
same_draft : {id : ℕ} {name : List ℕ} {script script' : ScriptState} {pass pass' fail fail' : ℕ} {lines lines' : List ℕ} {exits exits' : Bool} → script ≡ script' → pass ≡ pass' → fail ≡ fail' → lines ≡ lines' → exits ≡ exits' → ◌≡◌ {A = DraftState} (record { id = id; name = name; script = script; pass = pass; fail = fail; lines = lines; exits = exits }) (record { id = id; name = name; script = script'; pass = pass'; fail = fail'; lines = lines'; exits = exits' })
same_draft by_script by_pass by_fail by_lines by_exits = cc

-- the draft of a segment with one more entry
pub draft_push : (segment : Segment) (entry : Entry) → draft_of (record segment { entries = segment.entries ++ entry ∷ [] }) ≡ noted (draft_of segment) entry
draft_push segment entry =
    let start = start_of segment.bodies segment.body in
    let front = cases_from start segment.entries in
    let one = case_by (script_in segment) entry in
    let cases = cases_push start segment.entries entry in
    let pass = ap passed cases ∙ passed_append front one in
    let fail = ap failed cases ∙ failed_append front one in
    let next : 1 + (passed front + failed front) ≡ passed front + failed front + 1 = omega arith in
    let lines = ap (cases_text 1) cases ∙ cases_text_append 1 front one ∙ ap (λ n. cases_text 1 front ++ cases_text n one) next in
    let script = reached_push start segment.entries entry in
    let exits = ap is_exit_entry (last_push segment.entries entry) in
    same_draft script pass fail lines exits
