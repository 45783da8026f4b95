-- The line that a reading tells breaks the rule that is told, and none before it.
use Rattle.std.proofs.Common.{◌≡◌, ◌≤◌, ◌+◌, ◌-◌, ◌++◌, ◌∙◌, ℕ, suc, List, [], ◌∷◌, Bool, true, false, cond, Option, Some, None, find, refl, sym, ap, subst, arith}
use Rattle.std.specs.List.{list_any}
use Rattle.std.specs.Option.{option_or}
use Rattle.std.proofs.lemmas.Bool.{or_from}
use Rattle.osal_line.specs.Words.{lines_of}
use Rattle.osal_reading.specs.declared.fault.FaultKind.{FaultKind}
use Rattle.osal_reading.specs.declared.fault.AppFault.{AppFault}
use Rattle.osal_reading.specs.Reading.{reading_of}
use Rattle.osal_rules.specs.Before.{Before, nothing}
use Rattle.osal_rules.specs.At.{At, placed}
use Rattle.osal_rules.specs.Rules.{breaks, rules, broken}
use Rattle.osal_rules.specs.After.{after_line}
use Rattle.osal_rules.specs.FirstBad.{broken_at_end, fault_at, first_bad, told}
use Rattle.osal_rules.specs.Places.{line_behind, line_in, BreaksFirst}
use Rattle.osal_rules.proofs.Told.{first_bad_told}

-- the first element of a list that passes a test
abbrev IsFirst : {A : Type 0} → (A → Bool) → List A → A → Type 0
IsFirst {A} test list found =
    (earlier : List A) × (later : List A) × (list ≡ earlier ++ found ∷ later) × (list_any test earlier ≡ false) × (test found ≡ true)

found_by : {A : Type 0} (test : A → Bool) (first : A) (list : List A) (found : A) (here : Bool) → test first ≡ here → (find test list ≡ Some found → IsFirst test list found) → cond here (Some first) (find test list) ≡ Some found → IsFirst test (first ∷ list) found
found_by test first list found true passes rest e =
    let same : first ≡ found = cc in
    ([], list, ap (λ one. one ∷ list) same, refl, cc)
found_by test first list found false passes rest e =
    let behind : IsFirst test list found = rest e in
    (first ∷ behind.0, behind.1, ap (λ others. first ∷ others) behind.2, or_from (test first) (list_any test behind.0) passes behind.3, behind.4)

find_first : {A : Type 0} (test : A → Bool) (list : List A) (found : A) → find test list ≡ Some found → IsFirst test list found
find_first test [] found e = cc
find_first test (first ∷ list) found e =
    found_by test first list found (test first) refl (find_first test list found) e

broken_first : (at : At) (kind : FaultKind) → broken at ≡ Some kind → BreaksFirst at kind
broken_first at kind e = find_first (λ rule. breaks rule at) rules kind e

fault_line : (number : ℕ) (rule : Option FaultKind) (fault : AppFault) → fault_at number rule ≡ Some fault → number ≡ fault.line
fault_line number None fault e = cc
fault_line number (Some kind) fault e =
    let same : record { line = number; kind = kind } ≡ fault = cc in
    ap (λ (f : AppFault). f.line) same

at_or_behind : (number : ℕ) (rule : Option FaultKind) (behind : Option AppFault) (fault : AppFault) → (behind ≡ Some fault → number + 1 ≤ fault.line) → option_or (fault_at number rule) behind ≡ Some fault → number ≤ fault.line
at_or_behind number None behind fault rest e = omega (arith, rest e)
at_or_behind number (Some kind) behind fault rest e = omega (arith, fault_line number (Some kind) fault e)

-- a bad line stands among those that are read
lines_from : (before : Before) (number : ℕ) (lines : List (List ℕ)) (fault : AppFault) → first_bad before number lines ≡ Some fault → number ≤ fault.line
lines_from before number [] fault e = omega (arith, fault_line number (broken_at_end before) fault e)
lines_from before number (line ∷ behind) fault e =
    let at : At = placed before line behind in
    at_or_behind number (broken at) (first_bad (after_line at) (number + 1) behind) fault (lines_from (after_line at) (number + 1) behind fault) e

-- the line that is told is this one, or stands behind it
here_or_behind : (before : Before) (line : List ℕ) (behind : List (List ℕ)) (number : ℕ) (fault : AppFault) (at : At) (rule : Option FaultKind) → broken (placed before line behind) ≡ rule → (first_bad (after_line (placed before line behind)) (number + 1) behind ≡ Some fault → line_behind (after_line (placed before line behind)) behind (fault.line - (number + 1)) ≡ Some at → BreaksFirst at fault.kind) → option_or (fault_at number rule) (first_bad (after_line (placed before line behind)) (number + 1) behind) ≡ Some fault → line_behind before (line ∷ behind) (fault.line - number) ≡ Some at → BreaksFirst at fault.kind
here_or_behind before line behind number fault at (Some kind) is rest e there =
    let here : At = placed before line behind in
    let none_between : fault.line - number ≡ 0 = omega (arith, fault_line number (Some kind) fault e) in
    let stands : Some here ≡ Some at = ap (line_behind before (line ∷ behind)) (sym none_between) ∙ there in
    let same : here ≡ at = cc in
    let this : record { line = number; kind = kind } ≡ fault = cc in
    subst (λ (a : At). BreaksFirst a fault.kind) same (subst (λ (f : AppFault). BreaksFirst here f.kind) this (broken_first here kind is))
here_or_behind before line behind number fault at None is rest e there =
    let after : Before = after_line (placed before line behind) in
    let one_between : fault.line - number ≡ suc (fault.line - (number + 1)) = omega (arith, lines_from after (number + 1) behind fault e) in
    rest e (ap (line_behind before (line ∷ behind)) (sym one_between) ∙ there)

in_place : (lines : List (List ℕ)) (before : Before) (number : ℕ) (fault : AppFault) (at : At) → first_bad before number lines ≡ Some fault → line_behind before lines (fault.line - number) ≡ Some at → BreaksFirst at fault.kind
in_place [] before number fault at e there = cc
in_place (line ∷ behind) before number fault at e there =
    let here : At = placed before line behind in
    here_or_behind before line behind number fault at (broken here) refl (in_place behind (after_line here) (number + 1) fault at) e there

-- what is told of a line of a text
pub told_broken : (bytes : List ℕ) (fault : AppFault) (at : At) → told (reading_of bytes) ≡ Some fault → line_in bytes (fault.line - 1) ≡ Some at → BreaksFirst at fault.kind
told_broken bytes fault at e there =
    in_place (lines_of bytes) nothing 1 fault at (sym (first_bad_told bytes) ∙ e) there
