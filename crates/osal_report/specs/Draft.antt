-- What a draft keeps of a segment while the journal is read.
use Rattle.std.specs.Prelude.{◌≡◌, ◌==◌, ◌≤◌, ◌+◌, ◌++◌, codes, List, [], ◌∷◌, ℕ, zero, suc, length, Bool, Option, Some, None, if◌then◌else◌}
use Rattle.osal_call.specs.declared.call.Entry.{Entry}
use Rattle.osal_script.specs.Script.{ScriptState, after_entry}
use Rattle.osal_runs.specs.Segments.{Segment, script_in}
use Rattle.osal_line.specs.declared.line.Line.{Line}
use Rattle.osal_script.specs.Cursor.{first_line}
use Rattle.osal_line.specs.Calls.{call_name}
use Rattle.osal_report.specs.Cases.{case_by, cases_of, cases_text, passed, failed}
use Rattle.osal_report.specs.Report.{is_exit, ends_in_exit, is_stalled, how_by_phase, stall_line, begin_text, end_text}

-- a task, how far its script has come, how many of its cases pass and fail, their lines, and whether its last entry
-- is its exit
pub record DraftState : Type 0 where
  pub id : ℕ
  pub name : List ℕ
  pub script : ScriptState
  pub pass : ℕ
  pub fail : ℕ
  pub lines : List ℕ
  pub exits : Bool

-- the draft of a segment
abbrev pub draft_of : Segment → DraftState
draft_of segment = record {
  id = segment.id;
  name = segment.name;
  script = script_in segment;
  pass = passed (cases_of segment);
  fail = failed (cases_of segment);
  lines = cases_text 1 (cases_of segment);
  exits = ends_in_exit segment.entries;
}

-- the draft with one more entry of its task
abbrev pub noted : DraftState → Entry → DraftState
noted draft entry = record {
  id = draft.id;
  name = draft.name;
  script = after_entry draft.script entry;
  pass = draft.pass + passed (case_by draft.script entry);
  fail = draft.fail + failed (case_by draft.script entry);
  lines = draft.lines ++ cases_text (draft.pass + draft.fail + 1) (case_by draft.script entry);
  exits = is_exit entry.call;
}

-- the line of a wait that is open at this line
abbrev pub stall_of_line : Option Line → List ℕ
stall_of_line None = []
stall_of_line (Some line) = stall_line line.number (call_name line.call)

-- where a draft's script has an open wait, the line that waits
abbrev pub draft_stall : DraftState → List ℕ
draft_stall draft = if is_stalled draft.script.phase then stall_of_line (first_line draft.script.pending) else []

-- how a draft's task ended
abbrev pub draft_how : DraftState → List ℕ
draft_how draft = if draft.exits then codes " DONE" else how_by_phase draft.script.phase

-- the text of a draft's segment
abbrev pub draft_text : DraftState → List ℕ
draft_text draft =
    begin_text draft.id draft.name
    ++ (draft.lines
    ++ (draft_stall draft ++ end_text draft.id draft.name (draft_how draft) draft.pass draft.fail))

-- a draft has a line for each of its cases
abbrev pub IsCounted : DraftState → Type 0
IsCounted draft = draft.pass + draft.fail ≤ length draft.lines

-- the place of the newest draft of an identifier, by whether the first is of it and where the newest of the others is
abbrev pub place_before : Bool → Option ℕ → Option ℕ
place_before own None = if own then Some 0 else None
place_before own (Some place) = Some (suc place)

-- the place of the newest draft of an identifier, if there is one
abbrev pub newest_place : List DraftState → ℕ → Option ℕ
newest_place [] id = None
newest_place (draft ∷ drafts) id = place_before (draft.id == id) (newest_place drafts id)

-- an index finds the newest draft of each identifier
abbrev pub IsIndex : (ℕ → Option ℕ) → List DraftState → Type 0
IsIndex index drafts = (id : ℕ) → index id ≡ newest_place drafts id

-- the drafts with one more entry in the one at a place
abbrev pub noted_at : List DraftState → ℕ → Entry → List DraftState
noted_at [] place entry = []
noted_at (draft ∷ drafts) zero entry = noted draft entry ∷ drafts
noted_at (draft ∷ drafts) (suc place) entry = draft ∷ noted_at drafts place entry

-- the same, if there is a place
abbrev pub noted_if : List DraftState → Option ℕ → Entry → List DraftState
noted_if drafts None entry = drafts
noted_if drafts (Some place) entry = noted_at drafts place entry

-- the drafts with one more entry in the newest one of its task
abbrev pub joined_drafts : List DraftState → Entry → List DraftState
joined_drafts drafts entry = noted_if drafts (newest_place drafts entry.task) entry
