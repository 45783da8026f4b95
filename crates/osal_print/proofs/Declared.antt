-- The bodies of an application are those that have begun before a line and those that the lines from there on declare.
use Rattle.std.proofs.Common.{◌≡◌, ◌==◌, ◌+◌, ◌++◌, ℕ, List, [], ◌∷◌, false, Option, Some, None, Result, Ok, Err, length, map, codes, ltb, refl, sym, ap, subst, ◌∙◌, append_assoc}
use Rattle.std.specs.Option.{option_to_list}
use Rattle.std.proofs.lemmas.Bool.{cond_both}
use Rattle.std.proofs.lemmas.List.{append-nil, map_push}
use Rattle.osal_line.specs.declared.kind.BodyKind.{BodyKind}
use Rattle.osal_line.specs.declared.kind.BodyKind.TheVariants as kind
use Rattle.osal_line.specs.Words.{words_of}
use Rattle.osal_line.specs.Declarations.{Declared, declared_by, declared, later_number}
use Rattle.osal_line.proofs.Declaring.{none_declared}
use Rattle.osal_script.specs.App.{ScriptBody, Application}
use Rattle.osal_reading.specs.declared.fault.FaultKind.{FaultKind}
use Rattle.osal_reading.specs.declared.fault.AppFault.{AppFault}
use Rattle.osal_reading.specs.Draft.{OpenBody, Reading, begun}
use Rattle.osal_reading.specs.Blocks.{empty_body, finished, end_repeat, end_block}
use Rattle.osal_reading.specs.Reading.{with_line, read_line, read_finish, read_lines}
use Rattle.osal_print.specs.PrintText.{kind_word}
use Rattle.osal_print.proofs.LineKinds.{behind, repeated, Begins, LineKind, skips, begins, repeats, ends, calls}
use Rattle.osal_print.proofs.LinesRead.{words_read, line_read}

-- what declares a body
abbrev pub declared_body : ScriptBody → Declared
declared_body body = record { kind = body.kind; name = body.name }

-- what declares the body that is open
abbrev pub declared_open : Option OpenBody → List Declared
declared_open None = []
declared_open (Some body) = record { kind = body.kind; name = body.name } ∷ []

-- the bodies that have begun
abbrev pub begun_bodies : List ScriptBody → Option OpenBody → List Declared
begun_bodies bodies current = map declared_body bodies ++ declared_open current

-- a line leaves the header, and begins the bodies that it declares
pub record BeginsThem (bodies : List ScriptBody) (current : Option OpenBody) (words : List (List ℕ)) (after : Reading) : Type 0 where
  pub bodies_after : List ScriptBody
  pub open_after : Option OpenBody
  pub after_is : after ≡ behind bodies_after open_after
  pub begun_are : begun_bodies bodies_after open_after ≡ begun_bodies bodies current ++ option_to_list (declared_by words)

-- the word of a kind declares a body of that kind
kind_declares : (runs : BodyKind) (name : List ℕ) → declared_by (kind_word runs ∷ name ∷ []) ≡ Some (record { kind = runs; name = name })
kind_declares kind.Task name = refl
kind_declares kind.Handler name = refl

same_begun : (bodies : List ScriptBody) (current next : Option OpenBody) (words : List (List ℕ)) (after : Reading) → declared_by words ≡ None → declared_open next ≡ declared_open current → after ≡ behind bodies next → BeginsThem bodies current words after
same_begun bodies current next words after none same after-is = record {
  bodies_after = bodies;
  open_after = next;
  after_is = after-is;
  begun_are =
      ap (λ (v : List Declared). map declared_body bodies ++ v) same
      ∙ sym (append-nil (begun_bodies bodies current))
      ∙ ap (λ (v : Option Declared). begun_bodies bodies current ++ option_to_list v) (sym none);
}

one_begun : (bodies : List ScriptBody) (current : Option OpenBody) (words : List (List ℕ)) (after : Reading) → Begins bodies current words after → BeginsThem bodies current words after
one_begun bodies current words after line = record {
  bodies_after = bodies;
  open_after = Some (empty_body line.runs line.name);
  after_is = line.after_is;
  begun_are =
      let here : List Declared = record { kind = line.runs; name = line.name } ∷ [] in
      let none : begun_bodies bodies current ≡ map declared_body bodies = ap (begun_bodies bodies) line.none_open ∙ append-nil (map declared_body bodies) in
      let one : option_to_list (declared_by words) ≡ here = ap (λ (v : List (List ℕ)). option_to_list (declared_by v)) line.words_are ∙ ap option_to_list (kind_declares line.runs line.name) in
      ap (λ (v : List Declared). v ++ here) (sym none) ∙ ap (λ (v : List Declared). begun_bodies bodies current ++ v) (sym one);
}

end_begun : (bodies : List ScriptBody) (body : OpenBody) (after : Reading) → after ≡ end_block (behind bodies (Some body)) body → BeginsThem bodies (Some body) (codes "end" ∷ []) after
end_begun bodies body after after-is =
    let P : Reading → Type 0 = λ next. after ≡ next → BeginsThem bodies (Some body) (codes "end" ∷ []) after in
    cond_both (ltb 0 body.repeats) _ _ P (λ inner is. same_begun bodies (Some body) (Some (end_repeat body)) (codes "end" ∷ []) after refl refl is) (λ outer is. record {
      bodies_after = bodies ++ finished body ∷ [];
      open_after = None;
      after_is = is;
      begun_are = ap (λ (v : List Declared). v ++ []) (map_push declared_body bodies (finished body));
    }) after-is

-- what a line begins
pub kind_begun : (later : BodyKind → List ℕ → Option ℕ) (bodies : List ScriptBody) (current : Option OpenBody) (number : ℕ) (words : List (List ℕ)) (after : Reading) → LineKind later bodies current number words after → BeginsThem bodies current words after
kind_begun later bodies current number words after (skips line) =
    same_begun bodies current current words after line.none refl line.after_is
kind_begun later bodies current number words after (begins line) = one_begun bodies current words after line
kind_begun later bodies current number words after (repeats line) =
    same_begun bodies current (Some (repeated line.body line.times)) words after (ap declared_by line.words_are) (sym (ap declared_open line.is_open)) line.after_is
kind_begun later bodies current number words after (ends line) =
    let P : Option OpenBody → List (List ℕ) → Type 0 = λ o w. after ≡ end_block (behind bodies o) line.body → BeginsThem bodies o w after in
    subst (λ w. P current w) (sym line.words_are) (subst (λ o. P o (codes "end" ∷ [])) (sym line.is_open) (end_begun bodies line.body after)) line.after_is
kind_begun later bodies current number words after (calls line) =
    same_begun bodies current (Some (with_line line.body number (line.call, line.registers) line.expect)) words after (ap declared_by line.words_are ∙ none_declared line.word line.arguments line.no_kind) (sym (ap declared_open line.is_open)) line.after_is

-- what the end of a text leaves
pub record Finished (bodies : List ScriptBody) (current : Option OpenBody) (app : Application) : Type 0 where
  pub closed : current ≡ None
  pub some : (length bodies == 0) ≡ false
  pub app_is : app ≡ record { version = 1; bodies = bodies }

pub finish_read : (bodies : List ScriptBody) (current : Option OpenBody) (number : ℕ) (app : Application) → read_finish (behind bodies current) number ≡ Ok app → Finished bodies current app
finish_read bodies (Some body) number app e = cc
finish_read bodies None number app e =
    let P : Result Application AppFault → Type 0 = λ read. read ≡ Ok app → Finished bodies None app in
    cond_both (length bodies == 0) _ _ P (λ none e. cc) (λ some e. record { closed = refl; some = some; app_is = cc }) e

-- the bodies of an application are those that have begun and those that some lines declare
abbrev pub AllDeclared : Application → List (List ℕ) → List ScriptBody → Option OpenBody → Type 0
AllDeclared app lines bodies current = map declared_body app.bodies ≡ begun_bodies bodies current ++ declared lines

-- so are those behind a line, once it is read
line_declared : (later : BodyKind → List ℕ → Option ℕ) (line : List ℕ) (lines : List (List ℕ)) (bodies : List ScriptBody) (current : Option OpenBody) (number : ℕ) (next : Result Reading FaultKind) (app : Application) → read_line later (behind bodies current) number line ≡ next → read_lines lines (number + 1) next ≡ Ok app → ((after : List ScriptBody) (open_after : Option OpenBody) → next ≡ Ok (behind after open_after) → AllDeclared app lines after open_after) → AllDeclared app (line ∷ lines) bodies current
line_declared later line lines bodies current number (Err fault) app next-is e rest = cc
line_declared later line lines bodies current number (Ok after) app next-is e rest =
    let good = line_read later (behind bodies current) number line after next-is in
    let step = kind_begun later bodies current number (words_of line) after (words_read later bodies current number (words_of line) after good.read) in
    rest step.bodies_after step.open_after (ap Ok step.after_is)
    ∙ ap (λ (v : List Declared). v ++ declared lines) step.begun_are
    ∙ append_assoc (begun_bodies bodies current) (option_to_list (declared_by (words_of line))) (declared lines)

-- the bodies of an application, from any of its lines on
pub bodies_declared : (lines : List (List ℕ)) (bodies : List ScriptBody) (current : Option OpenBody) (number : ℕ) (app : Application) → read_lines lines number (Ok (behind bodies current)) ≡ Ok app → AllDeclared app lines bodies current
bodies_declared [] bodies current number app e =
    let end = finish_read bodies current number app e in
    ap (λ (a : Application). map declared_body a.bodies) end.app_is
    ∙ sym (append-nil (map declared_body bodies))
    ∙ ap (begun_bodies bodies) (sym end.closed)
    ∙ sym (append-nil (begun_bodies bodies current))
bodies_declared (line ∷ lines) bodies current number app e =
    let later : BodyKind → List ℕ → Option ℕ = later_number (begun (behind bodies current)) (declared lines) in
    let next : Result Reading FaultKind = read_line later (behind bodies current) number line in
    line_declared later line lines bodies current number next app refl e (λ after open_after is.
    bodies_declared lines after open_after (number + 1) app (ap (λ (r : Result Reading FaultKind). read_lines lines (number + 1) r) (sym is) ∙ e))
