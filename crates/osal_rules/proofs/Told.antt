-- A reading tells the first bad line of a text and the first rule that it breaks.
use Rattle.std.proofs.Common.{◌≡◌, ◌+◌, ◌-◌, ◌==◌, ◌||◌, ◌∙◌, ℕ, List, [], ◌∷◌, Bool, true, false, cond, not, Option, Some, None, Result, Ok, Err, length, is_some, option_map, refl, sym, ap, arith}
use Rattle.std.specs.Option.{option_or}
use Rattle.std.proofs.lemmas.List.{length-map}
use Rattle.osal_line.specs.Words.{lines_of}
use Rattle.osal_line.specs.Declarations.{declared, later_number}
use Rattle.osal_script.specs.App.{Application, ScriptBody}
use Rattle.osal_reading.specs.declared.fault.FaultKind.{FaultKind}
use Rattle.osal_reading.specs.declared.fault.FaultKind.TheVariants as fault
use Rattle.osal_reading.specs.Draft.{OpenBody, Reading, unread, one_of}
use Rattle.osal_reading.specs.Draft as draft
use Rattle.osal_reading.specs.Reading.{read_line, read_finish, read_lines, reading_of}
use Rattle.osal_rules.specs.Before.{Before, begun}
use Rattle.osal_rules.specs.Rules.{broken}
use Rattle.osal_rules.specs.After.{after_line}
use Rattle.osal_rules.specs.FirstBad.{broken_at_end, fault_at, first_bad, first_bad_line, told}
use Rattle.osal_rules.proofs.Bodies.{open_of, before_of, names_of, leaves, judged}
use Rattle.osal_rules.proofs.Lines.{at, line_judged}

one_open : (current : Option OpenBody) → one_of current ≡ cond (is_some (option_map open_of current)) 1 0
one_open None = refl
one_open (Some body) = refl

-- so many bodies have begun
begun_alike : (reading : Reading) → draft.begun reading ≡ begun (before_of reading)
begun_alike reading =
    omega (arith, one_open reading.open_body, length-map reading.bodies (λ (body : ScriptBody). body.name))

-- the end of a text, by its tests
end_by : (number : ℕ) (app : Application) (header here there : Bool) → here ≡ there → told (cond (not header) (Err (record { line = number; kind = fault.Header })) (cond here (Err (record { line = number; kind = fault.End })) (Ok app))) ≡ fault_at number (cond (not header) (Some fault.Header) (cond there (Some fault.End) None))
end_by number app false here there same = refl
end_by number app true true there same = ap (λ (test : Bool). fault_at number (cond test (Some fault.End) None)) same
end_by number app true false there same = ap (λ (test : Bool). fault_at number (cond test (Some fault.End) None)) same

open_alike : (current : Option OpenBody) → is_some current ≡ is_some (option_map open_of current)
open_alike None = refl
open_alike (Some body) = refl

end_told : (reading : Reading) (number : ℕ) → told (read_finish reading number) ≡ fault_at number (broken_at_end (before_of reading))
end_told reading number =
    let few : length reading.bodies ≡ length (names_of reading) = sym (length-map reading.bodies (λ body. body.name)) in
    end_by number (record { version = 1; bodies = reading.bodies }) reading.header (is_some reading.open_body || length reading.bodies == 0) _
    (ap (λ (open_now : Bool). open_now || length reading.bodies == 0) (open_alike reading.open_body)
    ∙ ap (λ (n : ℕ). is_some (before_of reading).open_body || n == 0) few)

-- a line that leaves what the rules say is told by them, where the lines behind it are
line_told : (number : ℕ) (lines : List (List ℕ)) (read : Result Reading FaultKind) (rule : Option FaultKind) (after : Before) → ((reading : Reading) → told (read_lines lines (number + 1) (Ok reading)) ≡ first_bad (before_of reading) (number + 1) lines) → leaves read ≡ judged rule after → told (read_lines lines (number + 1) read) ≡ option_or (fault_at number rule) (first_bad after (number + 1) lines)
line_told number lines (Ok reading) None after behind same =
    let here : before_of reading ≡ after = cc in
    behind reading ∙ ap (λ (before : Before). first_bad before (number + 1) lines) here
line_told number lines (Ok reading) (Some kind) after behind same = cc
line_told number lines (Err kind) None after behind same = cc
line_told number lines (Err kind) (Some other) after behind same =
    let one : kind ≡ other = cc in
    let back : number + 1 - 1 ≡ number = omega arith in
    ap (λ (n : ℕ). Some (record { line = n; kind = kind })) back ∙ ap (λ (k : FaultKind). Some (record { line = number; kind = k })) one

lines_told : (lines : List (List ℕ)) (number : ℕ) (reading : Reading) → told (read_lines lines number (Ok reading)) ≡ first_bad (before_of reading) number lines
lines_told [] number reading = end_told reading number
lines_told (line ∷ lines) number reading =
    let same : leaves (read_line (later_number (draft.begun reading) (declared lines)) reading number line) ≡ judged (broken (at reading line lines)) (after_line (at reading line lines)) =
    ap (λ (n : ℕ). leaves (read_line (later_number n (declared lines)) reading number line)) (begun_alike reading) ∙ line_judged reading line lines number in
    line_told number lines (read_line (later_number (draft.begun reading) (declared lines)) reading number line) (broken (at reading line lines)) (after_line (at reading line lines)) (λ (after : Reading). lines_told lines (number + 1) after) same

-- a reading tells the first bad line, or none
pub first_bad_told : (bytes : List ℕ) → told (reading_of bytes) ≡ first_bad_line bytes
first_bad_told bytes = lines_told (lines_of bytes) 1 unread
