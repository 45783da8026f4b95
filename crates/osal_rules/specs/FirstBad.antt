-- The first bad line of a text.
use Rattle.std.specs.Prelude.{◌==◌, ◌+◌, ◌||◌, List, [], ◌∷◌, ℕ, not, Option, Some, None, Result, Ok, Err, length, option_map, if◌then◌else◌}
use Rattle.std.specs.Option.{option_or}
use Rattle.osal_line.specs.Words.{lines_of}
use Rattle.osal_script.specs.App.{Application}
use Rattle.osal_reading.specs.declared.fault.FaultKind.{FaultKind}
use Rattle.osal_reading.specs.declared.fault.FaultKind.TheVariants as fault
use Rattle.osal_reading.specs.declared.fault.AppFault.{AppFault}
use Rattle.osal_rules.specs.Before.{Before, nothing, is_open}
use Rattle.osal_rules.specs.At.{placed}
use Rattle.osal_rules.specs.Rules.{broken}
use Rattle.osal_rules.specs.After.{after_line}

-- the rule that the end of a text breaks: there is no header, or there is no body or an open one
abbrev pub broken_at_end : Before → Option FaultKind
broken_at_end before =
    if not before.header then Some fault.Header
    else (if is_open before || length before.bodies == 0 then Some fault.End else None)

-- the fault of a line of a number, where it breaks a rule
abbrev pub fault_at : ℕ → Option FaultKind → Option AppFault
fault_at number rule = option_map (λ kind. record { line = number; kind = kind }) rule

-- the first bad line of some lines, with the first rule that it breaks; the end counts as the line behind the last
abbrev pub first_bad : Before → ℕ → List (List ℕ) → Option AppFault
first_bad before number [] = fault_at number (broken_at_end before)
first_bad before number (line ∷ behind) =
    option_or (fault_at number (broken (placed before line behind)))
    (first_bad (after_line (placed before line behind)) (number + 1) behind)

-- the first bad line of a text, counted from 1
abbrev pub first_bad_line : List ℕ → Option AppFault
first_bad_line bytes = first_bad nothing 1 (lines_of bytes)

-- the fault that a reading tells, if it tells one
abbrev pub told : Result Application AppFault → Option AppFault
told (Ok app) = None
told (Err fault) = Some fault
