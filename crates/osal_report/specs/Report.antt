-- The report of a journal.
use Rattle.std.specs.Prelude.{◌++◌, ◌+◌, Option, Some, None, length, slice_get, ◌-◌, List, [], ◌∷◌, ℕ, Bool, true, false, codes, if◌then◌else◌}
use Rattle.std.specs.Fmt.{decimal}
use Rattle.osal_call.specs.declared.call.Call.{Call}
use Rattle.osal_call.specs.declared.call.Call.TheVariants as call
use Rattle.osal_call.specs.declared.call.Entry.{Entry}
use Rattle.osal_script.specs.declared.phase.Phase.{Phase}
use Rattle.osal_script.specs.declared.phase.Phase.TheVariants as phase
use Rattle.osal_script.specs.App.{Application}
use Rattle.osal_script.specs.Script.{Pending}
use Rattle.osal_runs.specs.Segments.{Segment, script_in, segments_of}
use Rattle.osal_spelling.specs.Spelling.{id_text}
use Rattle.osal_line.specs.Calls.{call_name}
use Rattle.osal_report.specs.Cases.{cases_of, cases_text, passed, failed}

-- whether a call is the exit of a task
abbrev pub is_exit : Call → Bool
is_exit call.TaskExit = true
is_exit other = false

-- whether an entry is there and is the exit of a task
abbrev pub is_exit_entry : Option Entry → Bool
is_exit_entry None = false
is_exit_entry (Some entry) = is_exit entry.call

-- whether the last entry is the exit of a task
abbrev pub ends_in_exit : List Entry → Bool
ends_in_exit entries = is_exit_entry (slice_get entries (length entries - 1))

-- whether a script that has come to this phase has an open wait
abbrev pub is_stalled : Phase → Bool
is_stalled phase.Before = false
is_stalled phase.At = false
is_stalled (phase.Waiting part) = true
is_stalled (phase.Leaving part) = true
is_stalled phase.Ended = false

-- how a script that has come to this phase ended
abbrev pub how_by_phase : Phase → List ℕ
how_by_phase phase.Before = codes " CUT"
how_by_phase phase.At = codes " CUT"
how_by_phase (phase.Waiting part) = codes " STALLED"
how_by_phase (phase.Leaving part) = codes " STALLED"
how_by_phase phase.Ended = codes " DELETED"

-- how a task ended: by its exit, by a deletion, in a wait, or not at all
abbrev pub how_text : Segment → List ℕ
how_text segment =
    if ends_in_exit segment.entries then codes " DONE" else how_by_phase (script_in segment).phase

-- the line of a wait that is open
unfoldable pub stall_line : ℕ → List ℕ → List ℕ
stall_line number name = codes "[STALL] line " ++ (decimal number ++ (32 ∷ [] ++ (name ++ 10 ∷ [])))

-- the same, for the line that comes next
abbrev pub stall_of : List Pending → List ℕ
stall_of [] = []
stall_of (next ∷ pending) = stall_line next.line.number (call_name next.line.call)

-- where a segment has an open wait, the line that waits
abbrev pub stall_text : Segment → List ℕ
stall_text segment =
    if is_stalled (script_in segment).phase then stall_of (script_in segment).pending else []

-- the counts at a line's end
unfoldable pub counts_text : ℕ → ℕ → List ℕ
counts_text pass fail =
    codes " PASS " ++ (decimal pass ++ (codes " FAIL " ++ (decimal fail ++ 10 ∷ [])))

-- the identifier and the name of a segment
unfoldable pub segment_name : ℕ → List ℕ → List ℕ
segment_name id name = id_text id ++ (32 ∷ [] ++ name)

-- the first line of a segment
unfoldable pub begin_text : ℕ → List ℕ → List ℕ
begin_text id name = codes "[BEGIN] " ++ (segment_name id name ++ 10 ∷ [])

-- the last line of a segment
unfoldable pub end_text : ℕ → List ℕ → List ℕ → ℕ → ℕ → List ℕ
end_text id name how pass fail =
    codes "[  END] " ++ (segment_name id name ++ (how ++ counts_text pass fail))

-- the last line of a report
unfoldable pub total_text : ℕ → ℕ → ℕ → List ℕ
total_text tasks pass fail =
    codes "[TOTAL] TASKS " ++ (decimal tasks ++ counts_text pass fail)

-- a segment: its first line, its cases, the line that waits, and its last line
abbrev pub segment_text : Segment → List ℕ
segment_text segment =
    begin_text segment.id segment.name
    ++ (cases_text 1 (cases_of segment)
    ++ (stall_text segment
    ++ end_text segment.id segment.name (how_text segment) (passed (cases_of segment)) (failed (cases_of segment))))

-- some segments, in order
abbrev pub segments_text : List Segment → List ℕ
segments_text [] = []
segments_text (segment ∷ segments) = segment_text segment ++ segments_text segments

-- how many cases of some segments pass
abbrev pub all_passed : List Segment → ℕ
all_passed [] = 0
all_passed (segment ∷ segments) = passed (cases_of segment) + all_passed segments

-- how many do not
abbrev pub all_failed : List Segment → ℕ
all_failed [] = 0
all_failed (segment ∷ segments) = failed (cases_of segment) + all_failed segments

-- the report by its segments
abbrev pub report_of : List Segment → List ℕ
report_of segments =
    segments_text segments ++ total_text (length segments) (all_passed segments) (all_failed segments)

-- the report of a journal of the application
abbrev pub report_text : Application → List Entry → List ℕ
report_text app entries = report_of (segments_of app entries)
