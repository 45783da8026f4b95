-- The lines of a text in their places, and the first rule that one breaks.
use Rattle.std.specs.Prelude.{◌≡◌, ◌++◌, List, [], ◌∷◌, ℕ, zero, suc, true, false, Option, Some, None}
use Rattle.std.specs.List.{list_any}
use Rattle.osal_line.specs.Words.{lines_of}
use Rattle.osal_reading.specs.declared.fault.FaultKind.{FaultKind}
use Rattle.osal_rules.specs.Before.{Before, nothing}
use Rattle.osal_rules.specs.At.{At, placed}
use Rattle.osal_rules.specs.Rules.{breaks, rules}
use Rattle.osal_rules.specs.After.{after_line}

-- the line behind so many others, with what stands before it where these break no rule
abbrev pub line_behind : Before → List (List ℕ) → ℕ → Option At
line_behind before [] count = None
line_behind before (line ∷ behind) zero = Some (placed before line behind)
line_behind before (line ∷ behind) (suc count) =
    line_behind (after_line (placed before line behind)) behind count

-- the same in a text
abbrev pub line_in : List ℕ → ℕ → Option At
line_in bytes count = line_behind nothing (lines_of bytes) count

-- a line breaks a rule, and none of those before it
abbrev pub BreaksFirst : At → FaultKind → Type 0
BreaksFirst at kind =
    (earlier : List FaultKind) × (later : List FaultKind)
    × (rules ≡ earlier ++ kind ∷ later)
    × (list_any (λ rule. breaks rule at) earlier ≡ false)
    × (breaks kind at ≡ true)
