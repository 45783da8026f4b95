-- A table of declarations numbers bodies as the lines behind a line do.
use Rattle.std.proofs.Common.{◌≡◌, ◌≤◌, ◌+◌, ◌-◌, ◌&&◌, ℕ, suc, List, [], ◌∷◌, ◌++◌, Bool, true, false, cond, Option, Some, None, Result, Ok, Err, length, take, drop, leb, ltb, option_map, bytes_eq, refl, sym, ap, ◌∙◌, subst, arith, length-drop, length-append}
use Rattle.std.specs.List.{list_all}
use Rattle.std.specs.Option.{option_to_list}
use Rattle.std.proofs.lemmas.Bool.{cond-true, cond-false, le-leb, lt-leb, leb-true, leb-false}
use Rattle.std.proofs.lemmas.List.{take-append-drop, length-take-le, drop-drop, drop_at}
use Rattle.std.proofs.lemmas.Option.{cond_some}
use Rattle.osal_line.specs.declared.kind.BodyKind.{BodyKind}
use Rattle.osal_line.specs.declared.declarations.Declarations.{Declarations}
use Rattle.osal_line.specs.Words.{words_of, is_line_byte}
use Rattle.osal_line.specs.Declarations.{Declared, declared_by, declared, is_kind, one_further, last_place, later_number}
use Rattle.osal_line.specs.Places.{Holds, not_before, number_in}
use Rattle.osal_line.proofs.Declaring.{by_kind, of_no_kind, none_declared}
use Rattle.osal_reading.specs.declared.fault.FaultKind.{FaultKind}
use Rattle.osal_reading.specs.declared.fault.FaultKind.TheVariants as fault
use Rattle.osal_reading.specs.declared.fault.AppFault.{AppFault}
use Rattle.osal_reading.specs.declared.fault.ParseFault.{ParseFault}
use Rattle.osal_reading.specs.declared.fault.ParseFault.TheVariants as parse
use Rattle.osal_reading.specs.declared.fault.Stop.{Stop}
use Rattle.osal_reading.specs.declared.fault.Stop.TheVariants as stop
use Rattle.osal_script.specs.App.{Application}
use Rattle.osal_reading.specs.Draft.{Reading, begun}
use Rattle.osal_reading.specs.Reading.{read_words, read_line, read_lines}
use Rattle.osal_reading.specs.Outcome.{Stops, Refuses, RefusesAt}
use Rattle.osal_reading.proofs.Begun.{HasBegun, line_begun}

cond_none : (b : Bool) (x : ℕ) → cond b (Some x) None ≡ None → b ≡ false
cond_none true x e = cc
cond_none false x e = refl

further_not_before : (n : ℕ) (here : Bool) (found last : Option ℕ) → not_before n found ≡ option_map (λ p. n + p) last → not_before (suc n) (one_further here found) ≡ option_map (λ p. suc n + p) last
further_not_before n here (Some p) (Some q) e =
    let parts = cond_some (leb n p) p (n + q) e in
    cond-true (leb (suc n) (p + 1)) _ _ (le-leb (suc n) (p + 1) (omega (arith, leb-true n p parts.0)))
    ∙ ap Some (omega (arith, parts.1))
further_not_before n here (Some p) None e =
    cond-false (leb (suc n) (p + 1)) _ _ (lt-leb (suc n) (p + 1) (omega (arith, leb-false n p (cond_none (leb n p) p e))))
further_not_before n here None (Some q) e = cc
further_not_before n true None None e = cond-false (leb (suc n) 0) _ _ (lt-leb (suc n) 0 (omega arith))
further_not_before n false None None e = refl

not_before-zero : (found : Option ℕ) → not_before 0 found ≡ option_map (λ p. 0 + p) found
not_before-zero None = refl
not_before-zero (Some p) = cond-true (leb 0 p) _ _ (le-leb 0 p (omega arith)) ∙ ap Some (omega arith)

-- the last place among all bodies, where it is not among the first
number_behind : (front rest : List Declared) (runs : BodyKind) (name : List ℕ) → not_before (length front) (last_place (front ++ rest) runs name) ≡ later_number (length front) rest runs name
number_behind [] rest runs name = not_before-zero (last_place rest runs name)
number_behind (other ∷ front) rest runs name =
    further_not_before (length front) (is_kind other.kind runs && bytes_eq other.name name) (last_place (front ++ rest) runs name) (last_place rest runs name) (number_behind front rest runs name)

-- a table of all bodies numbers those that are left
number_in-rest : (table : Declarations) (bodies rest : List Declared) (first : ℕ) (runs : BodyKind) (name : List ℕ) → Holds table bodies → first ≤ length bodies → drop first bodies ≡ rest → number_in table first runs name ≡ later_number first rest runs name
number_in-rest table bodies rest first runs name holds within rest-is =
    let whole : take first bodies ++ rest ≡ bodies = ap (λ (v : List Declared). take first bodies ++ v) (sym rest-is) ∙ take-append-drop first bodies in
    let long : length (take first bodies) ≡ first = length-take-le first bodies within in
    let Numbers : List Declared → ℕ → Type 0 = λ all n. not_before n (last_place all runs name) ≡ later_number n rest runs name in
    let numbers = subst (λ all. Numbers all (length (take first bodies))) whole (number_behind (take first bodies) rest runs name) in
    ap (not_before first) (holds runs name) ∙ subst (λ n. Numbers bodies n) long numbers

-- a line that declares a body names none
same_words : (f g : BodyKind → List ℕ → Option ℕ) (reading : Reading) (number : ℕ) (words : List (List ℕ)) (body : Declared) → declared_by words ≡ Some body → read_words f reading number words ≡ read_words g reading number words
same_words f g reading number [] body e = cc
same_words f g reading number (word ∷ []) body e = cc
same_words f g reading number (word ∷ other ∷ another ∷ words) body e = cc
same_words f g reading number (word ∷ other ∷ []) body e =
    let P : List ℕ → Type 0 = λ w. read_words f reading number (w ∷ other ∷ []) ≡ read_words g reading number (w ∷ other ∷ []) in
    by_kind P word refl refl (λ no_task no_handler. let none = none_declared word (other ∷ []) (of_no_kind word no_task no_handler) in cc)

line_by : (table : Declarations) (bodies : List Declared) (lines : List (List ℕ)) (reading : Reading) (number : ℕ) (line : List ℕ) (here : Option Declared) → declared_by (words_of line) ≡ here → Holds table bodies → begun reading ≤ length bodies → drop (begun reading) bodies ≡ option_to_list here ++ declared lines → read_line (number_in table (begun reading)) reading number line ≡ read_line (later_number (begun reading) (declared lines)) reading number line
line_by table bodies lines reading number line (Some body) here-is holds within rest-is =
    let same = same_words (number_in table (begun reading)) (later_number (begun reading) (declared lines)) reading number (words_of line) body here-is in
    ap (λ (v : Result Reading FaultKind). cond (ltb 255 (length line)) (Err fault.Long) (cond (list_all is_line_byte line) v (Err fault.Byte))) same
line_by table bodies lines reading number line None here-is holds within rest-is =
    let same : number_in table (begun reading) ≡ later_number (begun reading) (declared lines) = (λ i. λ runs name. number_in-rest table bodies (declared lines) (begun reading) runs name holds within rest-is i) in
    ap (λ (f : BodyKind → List ℕ → Option ℕ). read_line f reading number line) same

-- a line is read by the table as by the lines behind it
line_by_table : (table : Declarations) (bodies : List Declared) (lines : List (List ℕ)) (reading : Reading) (number : ℕ) (line : List ℕ) → Holds table bodies → begun reading ≤ length bodies → drop (begun reading) bodies ≡ declared (line ∷ lines) → read_line (number_in table (begun reading)) reading number line ≡ read_line (later_number (begun reading) (declared lines)) reading number line
line_by_table table bodies lines reading number line holds within rest-is =
    line_by table bodies lines reading number line (declared_by (words_of line)) refl holds within rest-is

-- the bodies behind those that have begun are those that the lines behind a line declare
pub bodies_behind : (later : BodyKind → List ℕ → Option ℕ) (bodies : List Declared) (lines : List (List ℕ)) (reading after : Reading) (number : ℕ) (line : List ℕ) → read_line later reading number line ≡ Ok after → begun reading ≤ length bodies → drop (begun reading) bodies ≡ declared (line ∷ lines) → (begun after ≤ length bodies) × (drop (begun after) bodies ≡ declared lines)
bodies_behind later bodies lines reading after number line read within rest-is =
    let here : List Declared = option_to_list (declared_by (words_of line)) in
    let more : begun after ≡ begun reading + length here = subst (HasBegun (begun reading + length here)) read (line_begun later reading number line) in
    let fits : begun after ≤ length bodies = omega (arith, length-drop (begun reading) bodies, ap length rest-is, length-append here (declared lines)) in
    (fits, ap (λ (n : ℕ). drop n bodies) more ∙ sym (drop-drop (length here) (begun reading) bodies) ∙ ap (drop (length here)) rest-is ∙ drop_at here (declared lines) (length here) refl)

-- the rest of a text is read behind a line that was read by the table
pub read_on : (table : Declarations) (bodies : List Declared) (lines rest : List (List ℕ)) (draft : Reading) (number : ℕ) (line : List ℕ) (read : Result Reading FaultKind) (whole : Result Application AppFault) → Holds table bodies → rest ≡ line ∷ lines → begun draft ≤ length bodies → drop (begun draft) bodies ≡ declared rest → read_lines rest number (Ok draft) ≡ whole → read_line (number_in table (begun draft)) draft number line ≡ read → read_lines lines (number + 1) read ≡ whole
read_on table bodies lines rest draft number line read whole holds rest-is within left so_far by_table =
    let same = line_by_table table bodies lines draft number line holds within (left ∙ ap declared rest-is) in
    ap (λ (v : Result Reading FaultKind). read_lines lines (number + 1) v) (sym by_table ∙ same)
    ∙ ap (λ (v : List (List ℕ)). read_lines v number (Ok draft)) (sym rest-is)
    ∙ so_far

-- a line that is not read refuses the text
pub refused_at : (refused : ParseFault) (stopped : Stop) (lines : List (List ℕ)) (number : ℕ) (read : Result Reading FaultKind) (whole : Result Application AppFault) → RefusesAt refused number stopped → Stops stopped read → read_lines lines (number + 1) read ≡ whole → Refuses refused whole
refused_at (parse.Bad bad) (stop.Rule kind) lines number read whole named stopped so_far =
    let at : number + 1 - 1 ≡ number = omega arith in
    sym so_far
    ∙ ap (λ (v : Result Reading FaultKind). read_lines lines (number + 1) v) stopped
    ∙ ap (λ (n : ℕ). Err (record { line = n; kind = kind })) at
    ∙ ap Err (sym named)
refused_at (parse.Bad bad) stop.OutOfMemory lines number read whole named stopped so_far = absurd named
refused_at parse.OutOfMemory (stop.Rule kind) lines number read whole named stopped so_far = absurd named
refused_at parse.OutOfMemory stop.OutOfMemory lines number read whole named stopped so_far = tt
