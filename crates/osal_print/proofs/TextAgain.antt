-- The text that is printed of an application that was read is read as it, but for the numbers of its lines.
use Rattle.std.proofs.Common.{◌≡◌, ◌+◌, ◌⊎◌, inl, inr, ℕ, List, [], ◌∷◌, Option, None, Result, Ok, Err, map, codes, refl, sym, ap, subst, ◌∙◌}
use Rattle.std.proofs.lemmas.Bool.{cond_both}
use Rattle.osal_line.specs.declared.kind.BodyKind.{BodyKind}
use Rattle.osal_line.specs.Words.{lines_of, words_of}
use Rattle.osal_line.specs.Declarations.{declared, later_number}
use Rattle.osal_script.specs.App.{Application}
use Rattle.osal_reading.specs.declared.fault.FaultKind.{FaultKind}
use Rattle.osal_reading.specs.Draft.{Reading, unread, begun}
use Rattle.osal_reading.specs.Reading.{is_comment, is_header, read_words, read_line, read_lines, reading_of}
use Rattle.osal_print.specs.Again.{IsAgain, SpellsAgain}
use Rattle.osal_print.specs.PrintText.{print_lines, line_text, print_text}
use Rattle.osal_print.proofs.PlainWords.{plain_stands}
use Rattle.osal_print.proofs.TextLines.{LinesStand, lines_again}
use Rattle.osal_print.proofs.LineKinds.{behind}
use Rattle.osal_print.proofs.LinesRead.{line_read}
use Rattle.osal_print.proofs.RestAgain.{Rest, rest_again}

-- the words of the header
abbrev header : List (List ℕ)
header = codes "osal-app" ∷ codes "1" ∷ []

-- some lines stand behind the header, and are read as an application
record BehindHeader (app : Application) : Type 0 where
  lines : List (List ℕ)
  number : ℕ
  read : read_lines lines number (Ok (behind [] None)) ≡ Ok app

-- a line before the header is skipped, or is the header
abbrev BeforeOr : Reading → Type 0
BeforeOr after = (after ≡ unread) ⊎ (after ≡ behind [] None)

first_read : (later : BodyKind → List ℕ → Option ℕ) (number : ℕ) (words : List (List ℕ)) (after : Reading) → read_words later unread number words ≡ Ok after → BeforeOr after
first_read later number [] after e = inl (cc)
first_read later number (word ∷ words) after e =
    let P : Result Reading FaultKind → Type 0 = λ read. read ≡ Ok after → BeforeOr after in
    cond_both (is_comment word) _ _ P (λ comment e. inl (cc)) (λ no.
    cond_both (is_header (word ∷ words)) _ _ P (λ here e. inr (cc)) (λ other e. cc)) e

line_before : (lines : List (List ℕ)) (number : ℕ) (after : Reading) (app : Application) → BeforeOr after → read_lines lines (number + 1) (Ok after) ≡ Ok app → (read_lines lines (number + 1) (Ok unread) ≡ Ok app → BehindHeader app) → BehindHeader app
line_before lines number after app (inl before) e rest =
    rest (ap (λ (r : Reading). read_lines lines (number + 1) (Ok r)) (sym before) ∙ e)
line_before lines number after app (inr here) e rest = record {
  lines = lines;
  number = number + 1;
  read = ap (λ (r : Reading). read_lines lines (number + 1) (Ok r)) (sym here) ∙ e;
}

next_before : (later : BodyKind → List ℕ → Option ℕ) (line : List ℕ) (lines : List (List ℕ)) (number : ℕ) (next : Result Reading FaultKind) (app : Application) → read_line later unread number line ≡ next → read_lines lines (number + 1) next ≡ Ok app → (read_lines lines (number + 1) (Ok unread) ≡ Ok app → BehindHeader app) → BehindHeader app
next_before later line lines number (Err fault) app next-is e rest = cc
next_before later line lines number (Ok after) app next-is e rest =
    let good = line_read later unread number line after next-is in
    line_before lines number after app (first_read later number (words_of line) after good.read) e rest

-- the header of a text that is read
header_read : (lines : List (List ℕ)) (number : ℕ) (app : Application) → read_lines lines number (Ok unread) ≡ Ok app → BehindHeader app
header_read [] number app e = cc
header_read (line ∷ lines) number app e =
    let later : BodyKind → List ℕ → Option ℕ = later_number (begun unread) (declared lines) in
    next_before later line lines number (read_line later unread number line) app refl e (λ more. header_read lines (number + 1) app more)

-- the printed lines are read again
lines_read_again : (app : Application) (lines : List (List ℕ)) → Rest app lines [] None → IsAgain app (read_lines (map line_text (print_lines app)) 1 (Ok unread))
lines_read_again app lines left =
    subst (λ (ls : List (List (List ℕ))). IsAgain app (read_lines (map line_text ls) 1 (Ok unread))) (sym left.whole)
    (left.reads 2 [] [] (record { bodies_same = refl; items_same = refl }))

-- their words stand alone
lines_stand : (app : Application) (lines : List (List ℕ)) → Rest app lines [] None → LinesStand (print_lines app)
lines_stand app lines left =
    subst LinesStand (sym left.whole)
    ((plain_stands (codes "osal-app") refl, (plain_stands (codes "1") refl, tt)), left.stand)

-- every text that is read as an application has a printed text that spells it again
pub text_again : (text : List ℕ) (app : Application) → reading_of text ≡ Ok app → SpellsAgain (print_text app) app
unfolding print_text
text_again text app e =
    let found = header_read (lines_of text) 1 app e in
    let left = rest_again found.lines [] None found.number app tt found.read in
    subst (λ (ls : List (List ℕ)). IsAgain app (read_lines ls 1 (Ok unread))) (sym (lines_again (print_lines app) (lines_stand app found.lines left)))
    (lines_read_again app found.lines left)
