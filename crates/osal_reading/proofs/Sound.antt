-- Every application that a text spells has at most 64 bodies, each names later ones alone, and each handler is bare.
use Rattle.std.proofs.Common.{◌≡◌, ◌≤◌, ◌<◌, ◌+◌, ◌==◌, ◌||◌, ◌&&◌, ℕ, suc, List, [], ◌∷◌, Bool, true, false, not, Option, Some, None, Result, Ok, Err, length, option_map, is_some, bytes_eq, refl, sym, ap, ◌∙◌, subst, arith, length-append}
use Rattle.std.specs.Option.{option_to_list}
use Rattle.std.proofs.lemmas.Bool.{cond_both, cond-false, or_parts, or_from, ne_eqb, not_from_true}
use Rattle.osal_line.specs.declared.kind.BodyKind.{BodyKind}
use Rattle.osal_line.specs.declared.kind.BodyKind.TheVariants as kind
use Rattle.osal_line.specs.Words.{lines_of, words_of}
use Rattle.osal_line.specs.Declarations.{Declared, declared_by, declared, is_kind, one_further, last_place, later_number}
use Rattle.osal_line.proofs.Creations.{IsBetween}
use Rattle.osal_reading.specs.declared.fault.FaultKind.{FaultKind}
use Rattle.osal_reading.specs.declared.fault.AppFault.{AppFault}
use Rattle.osal_script.specs.App.{Application, NamesLaterFrom}
use Rattle.osal_reading.specs.Draft.{OpenBody, Reading, unread, one_of, begun}
use Rattle.osal_reading.specs.Reading.{read_line, read_finish, read_lines, reading_of}
use Rattle.osal_reading.specs.Outcome.{IsSound}
use Rattle.osal_reading.proofs.Begun.{HasBegun, line_begun}
use Rattle.osal_reading.proofs.Later.{FitsBelow, LeavesFit, bodies_later, bodies_bare, line_fits}

further_within : (here : Bool) (found : Option ℕ) (n place : ℕ) → ((p : ℕ) → found ≡ Some p → p < n) → one_further here found ≡ Some place → place < suc n
further_within here (Some p) n place within e =
    let here-is : p + 1 ≡ place = cc in
    omega (arith, within p refl)
further_within true None n place within e =
    let here-is : 0 ≡ place = cc in
    omega arith
further_within false None n place within e = cc

last_place_within : (bodies : List Declared) (runs : BodyKind) (name : List ℕ) (place : ℕ) → last_place bodies runs name ≡ Some place → place < length bodies
last_place_within [] runs name place e = cc
last_place_within (other ∷ bodies) runs name place e =
    further_within (is_kind other.kind runs && bytes_eq other.name name) (last_place bodies runs name) (length bodies) place (λ p. last_place_within bodies runs name p) e

mapped_between : (first n : ℕ) (found : Option ℕ) (number : ℕ) → ((p : ℕ) → found ≡ Some p → p < n) → option_map (λ place. first + place) found ≡ Some number → (first ≤ number) × (number < first + n)
mapped_between first n None number within e = cc
mapped_between first n (Some p) number within e =
    let number-is : first + p ≡ number = cc in
    (omega arith, omega (arith, within p refl))

-- the numbers of the bodies that some lines declare
numbers_between : (first : ℕ) (bodies : List Declared) (runs : BodyKind) (total : ℕ) → first + length bodies ≤ total → IsBetween first total (later_number first bodies runs)
numbers_between first bodies runs total fits name number e =
    let within = mapped_between first (length bodies) (last_place bodies runs name) number (λ p. last_place_within bodies runs name p) e in
    (within.0, omega (arith, within.1))

-- an application that is read is sound
abbrev FinishesSound : Result Application AppFault → Type 0
FinishesSound (Ok app) = IsSound app
FinishesSound (Err fault) = Unit {0}

none_open : (current : Option OpenBody) → is_some current ≡ false → one_of current ≡ 0
none_open None e = refl
none_open (Some body) e = cc

finish_sound : (reading : Reading) (number : ℕ) → FitsBelow (begun reading + 0) reading → FinishesSound (read_finish reading number)
finish_sound reading number fits =
    cond_both (not reading.header) _ _ FinishesSound (λ e. tt) (λ e.
    cond_both (is_some reading.open_body || length reading.bodies == 0) _ _ FinishesSound (λ e. tt) (λ e.
    let closed = none_open reading.open_body ((or_parts (is_some reading.open_body) (length reading.bodies == 0) e).0) in
    let same : begun reading + 0 ≡ length reading.bodies = omega (arith, closed) in
    let later = bodies_later 0 (begun reading + 0) reading.bodies fits.done in
    (omega (arith, fits.few), subst (λ n. NamesLaterFrom 0 n reading.bodies) same later, bodies_bare 0 (begun reading + 0) reading.bodies fits.done)))

-- the bodies that have begun and those that are still declared are so many
abbrev CountsTo : ℕ → List (List ℕ) → Result Reading FaultKind → Type 0
CountsTo total lines (Ok reading) = begun reading + length (declared lines) ≡ total
CountsTo total lines (Err kind) = Unit {0}

counts_on : (n total : ℕ) (lines : List (List ℕ)) (read : Result Reading FaultKind) → HasBegun n read → n + length (declared lines) ≡ total → CountsTo total lines read
counts_on n total lines (Ok after) has counts = omega (arith, has)
counts_on n total lines (Err kind) has counts = tt

lines_sound : (lines : List (List ℕ)) (number : ℕ) (read : Result Reading FaultKind) (total : ℕ) (app : Application) → LeavesFit total read → CountsTo total lines read → read_lines lines number read ≡ Ok app → IsSound app
lines_sound lines number (Err kind) total app fits counts e = cc
lines_sound [] number (Ok reading) total app fits counts e =
    subst FinishesSound e (finish_sound reading number (subst (λ n. FitsBelow n reading) (sym counts) fits))
lines_sound (line ∷ lines) number (Ok reading) total app fits counts e =
    let here : List Declared = option_to_list (declared_by (words_of line)) in
    let later : BodyKind → List ℕ → Option ℕ = later_number (begun reading) (declared lines) in
    let between = numbers_between (begun reading) (declared lines) kind.Task total (omega (arith, counts, length-append here (declared lines))) in
    let kept = line_fits total later reading number line between fits in
    let counted = counts_on (begun reading + length here) total lines (read_line later reading number line) (line_begun later reading number line) (omega (arith, counts, length-append here (declared lines))) in
    lines_sound lines (number + 1) (read_line later reading number line) total app kept counted e

-- the application that a text spells
pub reading_sound : (bytes : List ℕ) (app : Application) → reading_of bytes ≡ Ok app → IsSound app
reading_sound bytes app e =
    lines_sound (lines_of bytes) 1 (Ok unread) (length (declared (lines_of bytes))) app (record { few = omega arith; done = tt; current = tt }) (omega arith) e

-- what the end of a text asks for, where it is good
pub finish_allows : (reading draft : Reading) (number : ℕ) → reading ≡ draft → ((app : Application) → read_finish draft number ≡ Ok app → IsSound app) → reading.header ≡ true → is_some reading.open_body ≡ false → 0 < length reading.bodies → IsSound (record { version = 1; bodies = reading.bodies })
finish_allows reading draft number same sound header closed some =
    let app : Application = record { version = 1; bodies = reading.bodies } in
    let filled : (length reading.bodies == 0) ≡ false = ne_eqb (length reading.bodies) 0 (λ e. omega arith) in
    let open_header = cond-false (not reading.header) _ _ (not_from_true reading.header header) in
    let here : read_finish reading number ≡ Ok app = open_header ∙ cond-false (is_some reading.open_body || length reading.bodies == 0) _ _ (or_from (is_some reading.open_body) (length reading.bodies == 0) closed filled) in
    sound app (ap (λ (r : Reading). read_finish r number) (sym same) ∙ here)
