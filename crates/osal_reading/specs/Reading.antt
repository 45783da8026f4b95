-- The text of an application: its reading, or the first line that breaks a rule with the rule that it breaks.
use Rattle.std.specs.Prelude.{◌==◌, ◌+◌, ◌-◌, ◌||◌, ◌&&◌, ◌++◌, List, [], ◌∷◌, ℕ, Bool, true, false, not, Option, Some, None, Result, Ok, Err, codes, length, nat_lt, nat_le, is_some, if◌then◌else◌}
use Rattle.std.specs.List.{list_all}
use Rattle.std.specs.Str.{bytes_eq}
use Rattle.osal_line.specs.declared.kind.BodyKind.{BodyKind}
use Rattle.osal_line.specs.declared.kind.BodyKind.TheVariants as kind
use Rattle.osal_line.specs.declared.line.ScriptCall.{ScriptCall}
use Rattle.osal_line.specs.declared.expectation.Expect.{Expect}
use Rattle.osal_call.specs.declared.word.CallWord.{CallWord}
use Rattle.osal_line.specs.declared.grammar.FirstWord.{FirstWord}
use Rattle.osal_line.specs.declared.grammar.FirstWord.TheVariants as first
use Rattle.osal_line.specs.Words.{lines_of, words_of, is_line_byte}
use Rattle.osal_line.specs.Vocabulary.{first_word}
use Rattle.osal_line.specs.Declarations.{declared, later_number}
use Rattle.osal_line.specs.Registers.{Registers}
use Rattle.osal_line.specs.Grammar.{call_of_words}
use Rattle.osal_line.specs.Expectation.{before_arrow, from_arrow, expectation_of}
use Rattle.osal_price.specs.Handlers.{is_handler, needs_task, may_wait}
use Rattle.osal_script.specs.declared.item.Item.TheVariants as item
use Rattle.osal_reading.specs.declared.fault.FaultKind.{FaultKind}
use Rattle.osal_reading.specs.declared.fault.FaultKind.TheVariants as fault
use Rattle.osal_reading.specs.declared.fault.AppFault.{AppFault}
use Rattle.osal_script.specs.App.{Application}
use Rattle.osal_reading.specs.Draft.{OpenBody, Reading, unread, begun}
use Rattle.osal_reading.specs.Blocks.{with_body, read_body, read_repeat, read_end}

-- the body with one more call line
abbrev pub with_line : OpenBody → ℕ → ScriptCall × Registers → Option Expect → OpenBody
with_line body number call expect =
    record body {
      items = body.items ++ item.Call (record { number = number; call = call.0; expect = expect }) ∷ [];
      count = body.count + 1;
      registers = call.1;
    }

-- the rule that a call breaks in its body, if it breaks one: it waits where it may not, it is one too many, or it names a
-- body that is not declared later
abbrev pub fault_of_call : OpenBody → ScriptCall × Registers → Option FaultKind
fault_of_call body call =
    if is_handler body.kind && may_wait call.0 then Some fault.Argument
    else (if call.1.over || nat_le 4096 body.count then Some fault.Many
    else (if call.1.undeclared then Some fault.Body
    else None))

-- a body with one more line, unless the line breaks a rule
abbrev pub joined : OpenBody → Option FaultKind → Result OpenBody FaultKind
joined longer (Some kind) = Err kind
joined longer None = Ok longer

-- a call line whose words are right joins its body, where it breaks no rule there
abbrev pub join_line : OpenBody → ℕ → Option (ScriptCall × Registers) → Option (Option Expect) → Result OpenBody FaultKind
join_line body number None expect = Err fault.Argument
join_line body number (Some call) None = Err fault.Argument
join_line body number (Some call) (Some expect) = joined (with_line body number call expect) (fault_of_call body call)

-- what a call line makes of its body, where later lines declare bodies of these kinds and numbers
abbrev pub body_after : (BodyKind → List ℕ → Option ℕ) → OpenBody → ℕ → CallWord → List (List ℕ) → Result OpenBody FaultKind
body_after later body number call words =
    join_line body number (call_of_words later call (before_arrow words) body.registers) (expectation_of (from_arrow words))

-- a call line stands in a body: in a handler none that only a task may make
abbrev pub read_call : (BodyKind → List ℕ → Option ℕ) → Reading → Option OpenBody → ℕ → CallWord → List (List ℕ) → Result Reading FaultKind
read_call later reading None number call words = Err fault.Place
read_call later reading (Some body) number call words =
    if is_handler body.kind && needs_task call then Err fault.Place
    else with_body reading (body_after later body number call words)

-- a line after the header, by its first word
abbrev pub read_by_word : (BodyKind → List ℕ → Option ℕ) → Reading → ℕ → Option FirstWord → List (List ℕ) → Result Reading FaultKind
read_by_word later reading number None words = Err fault.Word
read_by_word later reading number (Some first.Header) words = Err fault.Place
read_by_word later reading number (Some first.Task) words = read_body reading kind.Task reading.open_body words
read_by_word later reading number (Some first.Handler) words = read_body reading kind.Handler reading.open_body words
read_by_word later reading number (Some first.Repeat) words = read_repeat reading reading.open_body words
read_by_word later reading number (Some first.End) words = read_end reading reading.open_body words
read_by_word later reading number (Some (first.Call call)) words =
    read_call later reading reading.open_body number call words

-- a word that makes its line a comment
abbrev pub is_comment : List ℕ → Bool
is_comment [] = false
is_comment (byte ∷ bytes) = byte == 35

-- the header: two words
abbrev pub is_header : List (List ℕ) → Bool
is_header (name ∷ version ∷ []) = bytes_eq name (codes "osal-app") && bytes_eq version (codes "1")
is_header words = false

-- the words of a line: none and a comment are skipped, and the first other line is the header
abbrev pub read_words : (BodyKind → List ℕ → Option ℕ) → Reading → ℕ → List (List ℕ) → Result Reading FaultKind
read_words later reading number [] = Ok reading
read_words later reading number (word ∷ words) =
    if is_comment word then Ok reading
    else (if reading.header then read_by_word later reading number (first_word word) words
    else (if is_header (word ∷ words) then Ok (record reading { header = true })
    else Err fault.Header))

-- a line of that number
abbrev pub read_line : (BodyKind → List ℕ → Option ℕ) → Reading → ℕ → List ℕ → Result Reading FaultKind
read_line later reading number line =
    if nat_lt 255 (length line) then Err fault.Long
    else (if list_all is_line_byte line then read_words later reading number (words_of line)
    else Err fault.Byte)

-- the end of the text, whose line would have that number
abbrev pub read_finish : Reading → ℕ → Result Application AppFault
read_finish reading number =
    if not reading.header then Err (record { line = number; kind = fault.Header })
    else (if is_some reading.open_body || length reading.bodies == 0 then Err (record { line = number; kind = fault.End })
    else Ok (record { version = 1; bodies = reading.bodies }))

-- the lines from one on; a body that a line names is declared by the lines behind it
abbrev pub read_lines : List (List ℕ) → ℕ → Result Reading FaultKind → Result Application AppFault
read_lines lines number (Err kind) = Err (record { line = number - 1; kind = kind })
read_lines [] number (Ok reading) = read_finish reading number
read_lines (line ∷ lines) number (Ok reading) =
    read_lines lines (number + 1) (read_line (later_number (begun reading) (declared lines)) reading number line)

-- the application that a text spells, or its first bad line with the rule that it breaks first
abbrev pub reading_of : List ℕ → Result Application AppFault
reading_of bytes = read_lines (lines_of bytes) 1 (Ok unread)
