-- The cases of a segment: the lines with an expectation that were answered, and whether they pass.
use Rattle.std.specs.Prelude.{◌==◌, ◌&&◌, ◌+◌, ◌^◌, ◌++◌, List, [], ◌∷◌, ℕ, Bool, true, false, Option, Some, None, pos, codes, nat_lt, is_some, if◌then◌else◌}
use Rattle.std.specs.Fmt.{decimal}
use Rattle.std.specs.Ordering.{int_eq}
use Rattle.std.specs.Str.{bytes_eq}
use Rattle.std.proofs.Common.{ℤ}
use Rattle.osal_base.specs.declared.reply.Answer.{Answer}
use Rattle.osal_base.specs.declared.reply.Answer.TheVariants as answer
use Rattle.osal_base.specs.Reply.{Replied, reply_of, is_waits}
use Rattle.osal_call.specs.declared.call.Call.{Call}
use Rattle.osal_call.specs.declared.call.Entry.{Entry}
use Rattle.osal_line.specs.declared.line.ScriptCall.{ScriptCall}
use Rattle.osal_line.specs.declared.line.ScriptCall.TheVariants as script
use Rattle.osal_line.specs.declared.line.Line.{Line}
use Rattle.osal_line.specs.declared.expectation.Expect.{Expect}
use Rattle.osal_line.specs.declared.expectation.Value.{Value}
use Rattle.osal_line.specs.declared.expectation.Value.TheVariants as value
use Rattle.osal_line.specs.Calls.{call_name, register_of}
use Rattle.osal_script.specs.declared.phase.Phase.{Phase}
use Rattle.osal_script.specs.declared.phase.Phase.TheVariants as phase
use Rattle.osal_script.specs.Script.{Pending, ScriptState, start_of, is_checkpoint, after_entry}
use Rattle.osal_runs.specs.Segments.{Segment}
use Rattle.osal_spelling.specs.Spelling.{id_text, code_text, answer_text, quoted}

-- whether a call gives an identifier: those that set a register do
abbrev pub gives_id : ScriptCall → Bool
gives_id call = is_some (register_of call)

-- a number as a call's line spells it: an identifier's text where the call gives one
abbrev pub number_text : ScriptCall → ℕ → List ℕ
number_text call number =
    if gives_id call && nat_lt number (2 ^ 32) then id_text number else decimal number

-- whether the code of a call's success is a count or a place, and no status
abbrev pub counts : ScriptCall → Bool
counts (script.Read id n wait) = true
counts (script.Write id payload) = true
counts (script.Lseek id offset whence) = true
counts (script.SocketSend id payload port) = true
counts (script.SocketRecv id n wait) = true
counts other = false

-- a code as a call's line spells it
abbrev pub code_in : ScriptCall → ℤ → List ℕ
code_in call code = if counts call && int_eq code (pos 0) then codes "0" else code_text code

-- an answer as a call's line spells it
abbrev pub answer_in : ScriptCall → Answer → List ℕ
answer_in call (answer.Code code) = code_in call code
answer_in call other = answer_text other

-- a line with its expectation, and the reply that it got
pub record Case : Type 0 where
  pub line : Line
  pub expect : Expect
  pub reply : Replied

-- whether an answer is the code that is expected
abbrev pub is_code : ℤ → Answer → Bool
is_code code (answer.Code other) = int_eq other code
is_code code answer.Waits = false
is_code code answer.Go = false
is_code code answer.Deleted = false

-- whether a reply has the value that is expected
abbrev pub is_value : Option Value → Replied → Bool
is_value None reply = true
is_value (Some (value.Number number)) reply = reply.number == number
is_value (Some (value.Text text)) reply = bytes_eq reply.bytes text

-- whether a case passes
abbrev pub passes : Case → Bool
passes case = is_code case.expect.code case.reply.answer && is_value case.expect.value case.reply

-- the value of a reply, in the kind that is expected
abbrev pub got_value : ScriptCall → Option Value → Replied → List ℕ
got_value call None reply = []
got_value call (Some (value.Number number)) reply = 32 ∷ number_text call reply.number
got_value call (Some (value.Text text)) reply = 32 ∷ quoted reply.bytes

-- the value that is expected
abbrev pub wanted_value : ScriptCall → Option Value → List ℕ
wanted_value call None = []
wanted_value call (Some (value.Number number)) = 32 ∷ number_text call number
wanted_value call (Some (value.Text text)) = 32 ∷ quoted text

-- how a case's line in the report begins
abbrev pub case_mark : Case → List ℕ
case_mark case = if passes case then codes "[ PASS] " else codes "[ FAIL] "

-- what was wanted, where it was not got
abbrev pub case_wanted : Case → List ℕ
case_wanted case =
    if passes case then []
    else codes " expected "
    ++ (code_in case.line.call case.expect.code ++ wanted_value case.line.call case.expect.value)

-- the line of a case, with its number in its segment
unfoldable pub case_text : ℕ → Case → List ℕ
case_text number case =
    case_mark case ++ (decimal number ++ (codes " line " ++ (decimal case.line.number
    ++ (32 ∷ [] ++ (call_name case.line.call ++ (32 ∷ [] ++ (answer_in case.line.call case.reply.answer
    ++ (got_value case.line.call case.expect.value case.reply
    ++ (case_wanted case ++ 10 ∷ [])))))))))

-- the lines of cases, numbered from a number on
abbrev pub cases_text : ℕ → List Case → List ℕ
cases_text number [] = []
cases_text number (case ∷ cases) = case_text number case ++ cases_text (number + 1) cases

-- how many cases pass
abbrev pub passed : List Case → ℕ
passed [] = 0
passed (case ∷ cases) = (if passes case then 1 else 0) + passed cases

-- how many do not
abbrev pub failed : List Case → ℕ
failed [] = 0
failed (case ∷ cases) = (if passes case then 0 else 1) + failed cases

-- the case of a line, where it has an expectation
abbrev pub case_of : Line → Option Expect → Replied → List Case
case_of line None reply = []
case_of line (Some expect) reply = record { line = line; expect = expect; reply = reply } ∷ []

-- the case of the line that comes next
abbrev pub case_of_next : List Pending → Replied → List Case
case_of_next [] reply = []
case_of_next (next ∷ pending) reply = case_of next.line next.line.expect reply

-- the case of a line that was answered: one that waits is not answered yet
abbrev pub case_at_line : List Pending → Replied → List Case
case_at_line pending reply = if is_waits reply.answer then [] else case_of_next pending reply

-- the case of a wait that ended: a checkpoint in a wait is no answer
abbrev pub case_at_end : Call → List Pending → Replied → List Case
case_at_end made pending reply = if is_checkpoint made then [] else case_of_next pending reply

-- the case that a call makes in a phase: checkpoints make none, nor does a wait that is given up
abbrev pub case_in : Phase → List Pending → Call → Replied → List Case
case_in phase.Before pending made reply = []
case_in phase.At pending made reply = case_at_line pending reply
case_in (phase.Waiting part) pending made reply = case_at_end made pending reply
case_in (phase.Leaving part) pending made reply = []
case_in phase.Ended pending made reply = []

-- the case that an entry makes
abbrev pub case_by : ScriptState → Entry → List Case
case_by state entry = case_in state.phase state.pending entry.call (reply_of entry.reply)

-- the cases of a script's entries, in order
abbrev pub cases_from : ScriptState → List Entry → List Case
cases_from state [] = []
cases_from state (entry ∷ entries) = case_by state entry ++ cases_from (after_entry state entry) entries

-- the cases of a segment
abbrev pub cases_of : Segment → List Case
cases_of segment = cases_from (start_of segment.bodies segment.body) segment.entries
