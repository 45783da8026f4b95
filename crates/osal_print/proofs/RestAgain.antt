-- From any line behind the header on, what is printed of the lines still to come is read again as the same application.
use Rattle.std.proofs.Common.{◌≡◌, ◌==◌, ◌≤◌, ◌+◌, ◌++◌, ℕ, List, [], ◌∷◌, true, false, Option, Some, None, Result, Ok, Err, length, map, flat_map, codes, ltb, refl, sym, ap, subst, ◌∙◌, append_assoc, arith}
use Rattle.std.specs.List.{list_all}
use Rattle.std.specs.Option.{option_to_list}
use Rattle.std.proofs.lemmas.Bool.{cond-true, cond-false, le-ltb, ltb-false}
use Rattle.std.proofs.lemmas.List.{append-nil}
use Rattle.osal_line.specs.declared.kind.BodyKind.{BodyKind}
use Rattle.osal_line.specs.Words.{words_of, is_line_byte}
use Rattle.osal_line.specs.Declarations.{Declared, declared_by, declared, later_number}
use Rattle.osal_script.specs.declared.item.Item.{Item}
use Rattle.osal_script.specs.App.{ScriptBody, Application}
use Rattle.osal_reading.specs.declared.fault.FaultKind.{FaultKind}
use Rattle.osal_reading.specs.Draft.{OpenBody, Reading, one_of, begun}
use Rattle.osal_reading.specs.Reading.{read_words, read_line, read_finish, read_lines}
use Rattle.osal_print.specs.Again.{unnumbered_body, IsAgain}
use Rattle.osal_print.specs.PrintText.{body_name, body_lines, print_lines, line_text}
use Rattle.osal_print.proofs.LineWords.{words_again, line_clean, line_shorter, line_words_clean}
use Rattle.osal_print.proofs.TextLines.{LinesStand}
use Rattle.osal_print.proofs.CallsAgain.{SameBodies}
use Rattle.osal_print.proofs.LineKinds.{behind}
use Rattle.osal_print.proofs.LinesRead.{words_read, line_read}
use Rattle.osal_print.proofs.Declared.{AllDeclared, begun_bodies, Finished, finish_read, bodies_declared}
use Rattle.osal_print.proofs.LaterNames.{later_named}
use Rattle.osal_print.proofs.Progress.{so_far, mirrored_open, HasFew, Match, Prints}
use Rattle.osal_print.proofs.BodiesAgain.{same_long}
use Rattle.osal_print.proofs.LineAgain.{LineAgain, skipped, printed, line_again}

-- what is printed of the lines that are still to come
pub record Rest (app : Application) (lines : List (List ℕ)) (bodies : List ScriptBody) (current : Option OpenBody) : Type 0 where
  pub rest : List (List (List ℕ))
  pub whole : print_lines app ≡ so_far (body_name app) bodies current ++ rest
  pub stand : LinesStand rest
  pub declares : declared (map line_text rest) ≡ declared lines
  pub reads : (number : ℕ) (others : List ScriptBody) (items : List Item) → Match bodies current others items → IsAgain app (read_lines (map line_text rest) number (Ok (behind others (mirrored_open current items))))

-- the end of the printed text
finish_again : (bodies others : List ScriptBody) (number : ℕ) (app : Application) → (length bodies == 0) ≡ false → app ≡ record { version = 1; bodies = bodies } → map unnumbered_body others ≡ map unnumbered_body bodies → IsAgain app (read_finish (behind others None) number)
finish_again bodies others number app some app-is same =
    let full : (length others == 0) ≡ false = ap (λ (n : ℕ). n == 0) (same_long others bodies same) ∙ some in
    let is : read_finish (behind others None) number ≡ Ok (record { version = 1; bodies = others }) = cond-false (length others == 0) _ _ full in
    subst (IsAgain app) (sym is)
    (ap (λ (v : List ScriptBody). record { version = 1; bodies = v }) same ∙ ap (λ (a : Application). record a { bodies = map unnumbered_body a.bodies }) (sym app-is))

none_left : (bodies : List ScriptBody) (current : Option OpenBody) (number : ℕ) (app : Application) → Finished bodies current app → Rest app [] bodies current
none_left bodies current number app end =
    let names : ℕ → List ℕ = body_name app in
    let header : List (List ℕ) = codes "osal-app" ∷ codes "1" ∷ [] in
    let ended : Rest app [] bodies None = record {
      rest = [];
      whole =
          ap (λ (a : Application). header ∷ flat_map (body_lines names) a.bodies) end.app_is
          ∙ sym (append-nil (header ∷ flat_map (body_lines names) bodies))
          ∙ sym (append-nil (so_far names bodies None));
      stand = tt;
      declares = refl;
      reads = λ number others items match. finish_again bodies others number app end.some end.app_is match.bodies_same;
    } in
    subst (λ o. Rest app [] bodies o) (sym end.closed) ended

-- a line that was printed is read by its words
by_words : (later : BodyKind → List ℕ → Option ℕ) (reading : Reading) (number : ℕ) (words : List (List ℕ)) → length (line_text words) ≤ 255 → list_all is_line_byte (line_text words) ≡ true → words_of (line_text words) ≡ words → read_line later reading number (line_text words) ≡ read_words later reading number words
by_words later reading number words short clean again =
    cond-false (ltb 255 (length (line_text words))) _ _ (le-ltb 255 (length (line_text words)) short)
    ∙ cond-true (list_all is_line_byte (line_text words)) _ _ clean
    ∙ ap (λ (v : List (List ℕ)). read_words later reading number v) again

open_same : (current : Option OpenBody) (items : List Item) → one_of (mirrored_open current items) ≡ one_of current
open_same None items = refl
open_same (Some body) items = refl

-- as many bodies have begun in the printed text
begun_same : (bodies others : List ScriptBody) (current : Option OpenBody) (items : List Item) → Match bodies current others items → begun (behind others (mirrored_open current items)) ≡ begun (behind bodies current)
begun_same bodies others current items match =
    omega (arith, same_long others bodies match.bodies_same, open_same current items)

-- a line that is skipped
skip_rest : (app : Application) (line : List ℕ) (lines : List (List ℕ)) (bodies : List ScriptBody) (current : Option OpenBody) → declared_by (words_of line) ≡ None → Rest app lines bodies current → Rest app (line ∷ lines) bodies current
skip_rest app line lines bodies current none left = record {
  rest = left.rest;
  whole = left.whole;
  stand = left.stand;
  declares = left.declares ∙ ap (λ (v : Option Declared). option_to_list v ++ declared lines) (sym none);
  reads = left.reads;
}

-- a line that is printed
print_rest : (app : Application) (line : List ℕ) (lines : List (List ℕ)) (bodies bodies_after : List ScriptBody) (current open_after : Option OpenBody) (words : List (List ℕ)) → length (line_text (words_of line)) ≤ 255 → Prints (later_number (begun (behind bodies current)) (declared lines)) (body_name app) bodies current (words_of line) bodies_after open_after words → Rest app lines bodies_after open_after → Rest app (line ∷ lines) bodies current
print_rest app line lines bodies bodies_after current open_after words short prints left =
    let again = words_again words prints.stand in
    let fits : length (line_text words) ≤ 255 = omega (arith, prints.shorter) in
    record {
      rest = words ∷ left.rest;
      whole =
          left.whole
          ∙ ap (λ (v : List (List (List ℕ))). v ++ left.rest) prints.more
          ∙ append_assoc (so_far (body_name app) bodies current) (words ∷ []) left.rest;
      stand = (prints.stand, left.stand);
      declares =
          ap (λ (v : List (List ℕ)). option_to_list (declared_by v) ++ declared (map line_text left.rest)) again
          ∙ ap (λ (v : Option Declared). option_to_list v ++ declared (map line_text left.rest)) prints.declares
          ∙ ap (λ (v : List Declared). option_to_list (declared_by (words_of line)) ++ v) left.declares;
      reads = λ number others items match.
          let place : Reading = behind others (mirrored_open current items) in
          let Later : ℕ → List Declared → BodyKind → List ℕ → Option ℕ = λ n ds. later_number n ds in
          let to = prints.reads number others items match in
          let read : read_line (later_number (begun place) (declared (map line_text left.rest))) place number (line_text words) ≡ Ok (behind to.printed (mirrored_open open_after to.items)) =
          ap (λ (n : ℕ). read_line (Later n (declared (map line_text left.rest))) place number (line_text words)) (begun_same bodies others current items match)
          ∙ ap (λ (ds : List Declared). read_line (Later (begun (behind bodies current)) ds) place number (line_text words)) left.declares
          ∙ by_words (Later (begun (behind bodies current)) (declared lines)) place number words fits (line_clean words prints.stand) again
          ∙ to.is in
          subst (λ r. IsAgain app (read_lines (map line_text left.rest) (number + 1) r)) (sym read) (left.reads (number + 1) to.printed to.items to.match_after);
    }

-- the later bodies have the names of the application
names_same : (app : Application) (line : List ℕ) (lines : List (List ℕ)) (bodies : List ScriptBody) (current : Option OpenBody) → AllDeclared app (line ∷ lines) bodies current → declared_by (words_of line) ≡ None → SameBodies (later_number (begun (behind bodies current)) (declared lines)) (later_number (begun (behind bodies current)) (declared lines)) (body_name app)
names_same app line lines bodies current all none runs word number e =
    let behind_it = all ∙ ap (λ (v : Option Declared). begun_bodies bodies current ++ (option_to_list v ++ declared lines)) none in
    (later_named app bodies current (declared lines) runs word number behind_it e, e)

-- what becomes of the rest of the lines at one of them
line_rest : (app : Application) (line : List ℕ) (lines : List (List ℕ)) (bodies : List ScriptBody) (current : Option OpenBody) (after : Reading) → length (line_text (words_of line)) ≤ 255 → ((next : List ScriptBody) (open_next : Option OpenBody) → HasFew open_next → after ≡ behind next open_next → Rest app lines next open_next) → HasFew current → LineAgain (later_number (begun (behind bodies current)) (declared lines)) (body_name app) bodies current (words_of line) after → Rest app (line ∷ lines) bodies current
line_rest app line lines bodies current after short rest few (skipped after-is none) =
    skip_rest app line lines bodies current none (rest bodies current few after-is)
line_rest app line lines bodies current after short rest few (printed here) =
    print_rest app line lines bodies here.bodies_after current here.open_after here.line short here.prints (rest here.bodies_after here.open_after here.prints.few here.after_is)

-- the same, where the line was read
read_rest : (app : Application) (line : List ℕ) (lines : List (List ℕ)) (bodies : List ScriptBody) (current : Option OpenBody) (number : ℕ) (next : Result Reading FaultKind) → HasFew current → AllDeclared app (line ∷ lines) bodies current → read_line (later_number (begun (behind bodies current)) (declared lines)) (behind bodies current) number line ≡ next → read_lines lines (number + 1) next ≡ Ok app → ((after : List ScriptBody) (open_after : Option OpenBody) → HasFew open_after → next ≡ Ok (behind after open_after) → Rest app lines after open_after) → Rest app (line ∷ lines) bodies current
read_rest app line lines bodies current number (Err fault) few all next-is e rest = cc
read_rest app line lines bodies current number (Ok after) few all next-is e rest =
    let later : BodyKind → List ℕ → Option ℕ = later_number (begun (behind bodies current)) (declared lines) in
    let good = line_read later (behind bodies current) number line after next-is in
    let kind = words_read later bodies current number (words_of line) after good.read in
    let short : length (line_text (words_of line)) ≤ 255 = omega (arith, line_shorter line, ltb-false 255 (length line) good.fits) in
    let here = line_again later (body_name app) bodies current number (words_of line) after (λ none. names_same app line lines bodies current all none) (line_words_clean line good.clean) short few kind in
    line_rest app line lines bodies current after short (λ next open_next few_next is. rest next open_next few_next (ap Ok is)) few here

-- the rest of the lines from any line behind the header on
pub rest_again : (lines : List (List ℕ)) (bodies : List ScriptBody) (current : Option OpenBody) (number : ℕ) (app : Application) → HasFew current → read_lines lines number (Ok (behind bodies current)) ≡ Ok app → Rest app lines bodies current
rest_again [] bodies current number app few e = none_left bodies current number app (finish_read bodies current number app e)
rest_again (line ∷ lines) bodies current number app few e =
    let next : Result Reading FaultKind = read_line (later_number (begun (behind bodies current)) (declared lines)) (behind bodies current) number line in
    read_rest app line lines bodies current number next few (bodies_declared (line ∷ lines) bodies current number app e) refl e (λ after open_after few_after is.
    rest_again lines after open_after (number + 1) app few_after (ap (λ (r : Result Reading FaultKind). read_lines lines (number + 1) r) (sym is) ∙ e))
