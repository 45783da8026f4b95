-- Each line that is read is skipped, or printed and read again.
use Rattle.std.proofs.Common.{◌≡◌, ◌≤◌, ℕ, List, [], ◌∷◌, ◌++◌, Option, Some, None, length, codes, ltb, sym, ap, subst, ◌∙◌}
use Rattle.std.specs.Fmt.{decimal}
use Rattle.std.proofs.lemmas.Bool.{cond_both}
use Rattle.osal_line.specs.declared.kind.BodyKind.{BodyKind}
use Rattle.osal_line.specs.Declarations.{declared_by}
use Rattle.osal_line.proofs.Declaring.{none_declared}
use Rattle.osal_script.specs.App.{ScriptBody}
use Rattle.osal_reading.specs.Draft.{OpenBody, Reading}
use Rattle.osal_reading.specs.Blocks.{empty_body, finished, end_repeat, end_block}
use Rattle.osal_reading.specs.Reading.{with_line}
use Rattle.osal_print.specs.Words.{call_words}
use Rattle.osal_print.specs.PrintText.{kind_word, line_text}
use Rattle.osal_print.proofs.IsWord.{AreClean}
use Rattle.osal_print.proofs.CallsAgain.{SameBodies}
use Rattle.osal_print.proofs.LineKinds.{behind, Begins, repeated, Repeats, LineKind, skips, begins, repeats, ends, calls}
use Rattle.osal_print.proofs.Progress.{HasFew, Prints}
use Rattle.osal_print.proofs.BodiesAgain.{body_begins, repeat_begins, repeat_ends, body_ends}
use Rattle.osal_print.proofs.CallLines.{call_prints}

-- a line, where it leads, and what is printed of it
pub record Printed (later : BodyKind → List ℕ → Option ℕ) (names : ℕ → List ℕ) (bodies : List ScriptBody) (current : Option OpenBody) (words : List (List ℕ)) (after : Reading) : Type 0 where
  pub bodies_after : List ScriptBody
  pub open_after : Option OpenBody
  pub line : List (List ℕ)
  pub after_is : after ≡ behind bodies_after open_after
  pub prints : Prints later names bodies current words bodies_after open_after line

-- what becomes of a line
pub data LineAgain (later : BodyKind → List ℕ → Option ℕ) (names : ℕ → List ℕ) (bodies : List ScriptBody) (current : Option OpenBody) (words : List (List ℕ)) (after : Reading) : Type 0 where
  skipped : after ≡ behind bodies current → declared_by words ≡ None → LineAgain later names bodies current words after
  printed : Printed later names bodies current words after → LineAgain later names bodies current words after

module _ (later : BodyKind → List ℕ → Option ℕ) (names : ℕ → List ℕ) (bodies : List ScriptBody) (current : Option OpenBody) (words : List (List ℕ)) (after : Reading) (few : HasFew current) where
  begin_printed : Begins bodies current words after → Printed later names bodies current words after
  begin_printed line =
      let longer = Some (empty_body line.runs line.name) in
      let head = kind_word line.runs ∷ line.name ∷ [] in
      let P : Option OpenBody → List (List ℕ) → Type 0 = λ o w. Prints later names bodies o w bodies longer head in
      record {
        bodies_after = bodies;
        open_after = longer;
        line = head;
        after_is = line.after_is;
        prints =
            subst (λ w. P current w) (sym line.words_are) (subst (λ o. P o head) (sym line.none_open)
            (body_begins later names bodies line.runs line.name line.first line.named line.few line.free));
      }

  repeat_printed : Repeats bodies current words after → Printed later names bodies current words after
  repeat_printed line =
      let longer = Some (repeated line.body line.times) in
      let head = codes "repeat" ∷ decimal line.times ∷ [] in
      let P : Option OpenBody → List (List ℕ) → Type 0 = λ o w. Prints later names bodies o w bodies longer head in
      record {
        bodies_after = bodies;
        open_after = longer;
        line = head;
        after_is = line.after_is;
        prints =
            subst (λ w. P current w) (sym line.words_are) (subst (λ o. P o (codes "repeat" ∷ line.count ∷ [])) (sym line.is_open)
            (repeat_begins later names bodies line.body line.count line.times (subst HasFew line.is_open few) line.in_task line.times_are line.few));
      }

end_printed : (later : BodyKind → List ℕ → Option ℕ) (names : ℕ → List ℕ) (bodies : List ScriptBody) (body : OpenBody) (after : Reading) → HasFew (Some body) → after ≡ end_block (behind bodies (Some body)) body → Printed later names bodies (Some body) (codes "end" ∷ []) after
end_printed later names bodies body after few after-is =
    let P : Reading → Type 0 = λ next. after ≡ next → Printed later names bodies (Some body) (codes "end" ∷ []) after in
    cond_both (ltb 0 body.repeats) _ _ P (λ inner is. record {
      bodies_after = bodies;
      open_after = Some (end_repeat body);
      line = codes "end" ∷ [];
      after_is = is;
      prints = repeat_ends later names bodies body few inner;
    }) (λ outer is. record {
      bodies_after = bodies ++ finished body ∷ [];
      open_after = None;
      line = codes "end" ∷ [];
      after_is = is;
      prints = body_ends later names bodies body outer;
    }) after-is

-- what becomes of a line that is read
pub line_again : (later : BodyKind → List ℕ → Option ℕ) (names : ℕ → List ℕ) (bodies : List ScriptBody) (current : Option OpenBody) (number : ℕ) (words : List (List ℕ)) (after : Reading) → (declared_by words ≡ None → SameBodies later later names) → AreClean words → length (line_text words) ≤ 255 → HasFew current → LineKind later bodies current number words after → LineAgain later names bodies current words after
line_again later names bodies current number words after same clean short few (skips line) = skipped line.after_is line.none
line_again later names bodies current number words after same clean short few (begins line) =
    printed (begin_printed later names bodies current words after few line)
line_again later names bodies current number words after same clean short few (repeats line) =
    printed (repeat_printed later names bodies current words after few line)
line_again later names bodies current number words after same clean short few (ends line) =
    let P : Option OpenBody → List (List ℕ) → Type 0 = λ o w. after ≡ end_block (behind bodies o) line.body → Printed later names bodies o w after in
    printed (subst (λ w. P current w) (sym line.words_are) (subst (λ o. P o (codes "end" ∷ [])) (sym line.is_open)
    (end_printed later names bodies line.body after (subst HasFew line.is_open few))) line.after_is)
line_again later names bodies current number words after same clean short few (calls line) =
    let none = ap declared_by line.words_are ∙ none_declared line.word line.arguments line.no_kind in
    printed (record {
      bodies_after = bodies;
      open_after = Some (with_line line.body number (line.call, line.registers) line.expect);
      line = call_words names (record { number = number; call = line.call; expect = line.expect });
      after_is = line.after_is;
      prints = call_prints later names bodies current number words after (same none) clean short few line;
    })
