-- How a line is read whose words are known.
use Rattle.std.proofs.Common.{◌≡◌, ◌+◌, ◌^◌, ℕ, List, [], ◌∷◌, true, false, cond, Option, Some, None, Result, Ok, Err, leb, refl, ap, ◌∙◌}
use Rattle.osal_call.specs.declared.word.CallWord.{CallWord}
use Rattle.osal_line.specs.declared.kind.BodyKind.{BodyKind}
use Rattle.osal_line.specs.declared.kind.BodyKind.TheVariants as kind
use Rattle.osal_line.specs.declared.line.ScriptCall.{ScriptCall}
use Rattle.osal_line.specs.declared.line.ScriptCall.TheVariants as script
use Rattle.osal_line.specs.declared.expectation.Expect.{Expect}
use Rattle.osal_line.specs.declared.grammar.FirstWord.TheVariants as first
use Rattle.osal_line.specs.Values.{string_of, is_body_name, number_below}
use Rattle.osal_line.specs.Vocabulary.{first_word}
use Rattle.osal_line.specs.Registers.{Registers, register_at}
use Rattle.osal_line.specs.Declarations.{declared, later_number}
use Rattle.osal_line.specs.Grammar.{call_of_words}
use Rattle.osal_line.specs.Tasks.{task_create_of}
use Rattle.osal_line.specs.Queues.{queue_create_of, queue_put_of}
use Rattle.osal_line.specs.Expectation.{before_arrow, from_arrow, expectation_of}
use Rattle.osal_price.specs.Handlers.{is_handler}
use Rattle.osal_script.specs.declared.item.Item.{Item}
use Rattle.osal_script.specs.App.{ScriptBody}
use Rattle.osal_reading.specs.declared.fault.FaultKind.{FaultKind}
use Rattle.osal_reading.specs.declared.fault.FaultKind.TheVariants as fault
use Rattle.osal_reading.specs.Draft.{OpenBody, Reading, begun}
use Rattle.osal_reading.specs.Reading.{with_line, is_comment, read_words, read_lines}
use Rattle.osal_make.proofs.Forms.{Form, HasWords}

-- a line is read by its words, and the rest of the text behind it
pub line_read : (line : List ℕ) (words lines : List (List ℕ)) (number next : ℕ) (reading : Reading) (read : Result Reading FaultKind) → HasWords line words → number + 1 ≡ next → read_words (later_number (begun reading) (declared lines)) reading number words ≡ read → read_lines (line ∷ lines) number (Ok reading) ≡ read_lines lines next read
line_read line words lines number next reading read form next-is read-is =
    let later = later_number (begun reading) (declared lines) in
    ap (λ (f : Form). read_lines lines (number + 1) (cond f.long (Err fault.Long) (cond f.clean (read_words later reading number f.words) (Err fault.Byte)))) form
    ∙ ap (λ (v : Result Reading FaultKind). read_lines lines (number + 1) v) read-is
    ∙ ap (λ (n : ℕ). read_lines lines n read) next-is

-- the same of a line that names no body
pub plain_line_read : (line : List ℕ) (words lines : List (List ℕ)) (number next : ℕ) (reading : Reading) (read : Result Reading FaultKind) → HasWords line words → number + 1 ≡ next → ((later : BodyKind → List ℕ → Option ℕ) → read_words later reading number words ≡ read) → read_lines (line ∷ lines) number (Ok reading) ≡ read_lines lines next read
plain_line_read line words lines number next reading read form next-is read-is =
    line_read line words lines number next reading read form next-is (read-is (later_number (begun reading) (declared lines)))

-- the registers of these names
abbrev pub named : List (List ℕ) → Registers
named names = record { names = names; over = false; undeclared = false }

-- the body of a task that is still to end: its name, its items, how many call lines and repeats they are, how many repeats
-- are open, and the names of its registers
abbrev pub task_body : List ℕ → List Item → ℕ → ℕ → List (List ℕ) → OpenBody
task_body name items count repeats names =
    record { name = name; kind = kind.Task; items = items; count = count; repeats = repeats; registers = named names }

-- a body is open behind some bodies
abbrev pub open_in : List ScriptBody → OpenBody → Reading
open_in bodies body = record { header = true; bodies = bodies; open_body = Some body }

-- no body is open behind them
abbrev pub closed : List ScriptBody → Reading
closed bodies = record { header = true; bodies = bodies; open_body = None }

-- a call line joins its body
pub call_read : (later : BodyKind → List ℕ → Option ℕ) (bodies : List ScriptBody) (body : OpenBody) (number : ℕ) (call : CallWord) (word : List ℕ) (words : List (List ℕ)) (made : ScriptCall) (registers : Registers) (expect : Option Expect) → is_comment word ≡ false → first_word word ≡ Some (first.Call call) → is_handler body.kind ≡ false → call_of_words later call (before_arrow words) body.registers ≡ Some (made, registers) → expectation_of (from_arrow words) ≡ Some expect → registers.over ≡ false → registers.undeclared ≡ false → leb 4096 body.count ≡ false → read_words later (open_in bodies body) number (word ∷ words) ≡ Ok (open_in bodies (with_line body number (made, registers) expect))
call_read later bodies body number call word words made registers expect no_comment first-is task made-is expect-is fits known few =
    rw (no_comment, first-is, task, made-is, expect-is, task, fits, few, known) refl

-- a creation of a task, by what its words stand for
pub task_made : (later : List ℕ → Option ℕ) (register name body stack priority text : List ℕ) (registers after : Registers) (r b s p : ℕ) → register_at registers register ≡ Some (r, after) → string_of name ≡ Some text → is_body_name body ≡ true → later body ≡ Some b → number_below (2 ^ 32) stack ≡ Some s → number_below (2 ^ 32) priority ≡ Some p → task_create_of later (register ∷ name ∷ body ∷ stack ∷ priority ∷ []) registers ≡ Some (script.TaskCreate r text b s p, after)
task_made later register name body stack priority text registers after r b s p register-is name-is is_body body-is stack-is priority-is =
    rw (register-is, name-is, is_body, body-is, stack-is, priority-is) refl

-- a creation of a queue
pub queue_made : (register name depth size text : List ℕ) (registers after : Registers) (r d s : ℕ) → register_at registers register ≡ Some (r, after) → string_of name ≡ Some text → number_below (2 ^ 32) depth ≡ Some d → number_below (2 ^ 32) size ≡ Some s → queue_create_of (register ∷ name ∷ depth ∷ size ∷ []) registers ≡ Some (script.QueueCreate r text d s, after)
queue_made register name depth size text registers after r d s register-is name-is depth-is size-is =
    rw (register-is, name-is, depth-is, size-is) refl

-- a put of a string
pub put_made : (register name text : List ℕ) (registers after : Registers) (r : ℕ) → register_at registers register ≡ Some (r, after) → string_of name ≡ Some text → queue_put_of (register ∷ name ∷ []) registers ≡ Some (script.QueuePut r text, after)
put_made register name text registers after r register-is name-is = rw (register-is, name-is) refl
