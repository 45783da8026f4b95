-- Each line that is read behind the header is of one kind.
use Rattle.std.proofs.Common.{◌≡◌, ◌==◌, ◌^◌, ◌&&◌, ℕ, List, [], ◌∷◌, true, false, Option, Some, None, Result, Ok, length, codes, leb, ltb, bytes_eq, option_map, inl, inr, refl, sym, ap, subst, ◌∙◌}
use Rattle.std.specs.List.{list_all}
use Rattle.std.proofs.lemmas.Bool.{cond_both, cases_Bool}
use Rattle.std.proofs.lemmas.Slice.Eq.{bytes_eq-Decides}
use Rattle.osal_call.specs.declared.word.CallWord.{CallWord}
use Rattle.osal_call.specs.Signature.{call_word}
use Rattle.osal_line.specs.declared.kind.BodyKind.{BodyKind}
use Rattle.osal_line.specs.declared.kind.BodyKind.TheVariants as kind
use Rattle.osal_line.specs.declared.line.ScriptCall.{ScriptCall}
use Rattle.osal_line.specs.declared.expectation.Expect.{Expect}
use Rattle.osal_line.specs.declared.grammar.FirstWord.{FirstWord}
use Rattle.osal_line.specs.declared.grammar.FirstWord.TheVariants as first
use Rattle.osal_line.specs.Words.{words_of, is_line_byte}
use Rattle.osal_line.specs.Values.{is_body_name, number_below}
use Rattle.osal_line.specs.Vocabulary.{first_word}
use Rattle.osal_line.specs.Registers.{Registers}
use Rattle.osal_line.specs.Declarations.{kind_of, declared_by}
use Rattle.osal_line.specs.Grammar.{call_of_words}
use Rattle.osal_line.specs.Expectation.{before_arrow, from_arrow, expectation_of}
use Rattle.osal_line.proofs.Declaring.{by_kind, of_no_kind, none_declared}
use Rattle.osal_price.specs.Handlers.{is_handler, needs_task}
use Rattle.osal_script.specs.App.{ScriptBody}
use Rattle.osal_reading.specs.declared.fault.FaultKind.{FaultKind}
use Rattle.osal_reading.specs.Draft.{OpenBody, Reading}
use Rattle.osal_reading.specs.Blocks.{is_taken, begin_body, read_body, begin_repeat, repeat_in, read_repeat, read_end, with_body}
use Rattle.osal_reading.specs.Reading.{with_line, fault_of_call, joined, join_line, read_call, read_by_word, is_comment, read_words, read_line}
use Rattle.osal_print.specs.PrintText.{kind_word}
use Rattle.osal_print.proofs.LineKinds.{behind, Begins, is_many, Repeats, Ends, Calls, LineKind, skips, begins, repeats, ends, calls}

-- what follows from a line that was read
abbrev Reads : Result Reading FaultKind → Reading → Type 0 → Type 0
Reads read after P = read ≡ Ok after → P

begin_read : (bodies : List ScriptBody) (runs : BodyKind) (words : List (List ℕ)) (after : Reading) → (is_handler runs && (length bodies == 0)) ≡ false → begin_body (behind bodies None) runs words ≡ Ok after → Begins bodies None (kind_word runs ∷ words) after
begin_read bodies runs [] after first e = cc
begin_read bodies runs (name ∷ another ∷ words) after first e = cc
begin_read bodies runs (name ∷ []) after first e =
    let P : Result Reading FaultKind → Type 0 = λ read. Reads read after (Begins bodies None (kind_word runs ∷ name ∷ []) after) in
    cond_both (is_body_name name) _ _ P (λ named.
    cond_both (leb 64 (length bodies)) _ _ P (λ many e. cc) (λ few.
    cond_both (is_taken bodies name) _ _ P (λ taken e. cc) (λ free e. record {
      runs = runs;
      name = name;
      words_are = refl;
      none_open = refl;
      first = first;
      named = named;
      few = few;
      free = free;
      after_is = cc;
    }))) (λ other e. cc) e

body_read : (bodies : List ScriptBody) (current : Option OpenBody) (runs : BodyKind) (words : List (List ℕ)) (after : Reading) → read_body (behind bodies current) runs current words ≡ Ok after → Begins bodies current (kind_word runs ∷ words) after
body_read bodies (Some body) runs words after e = cc
body_read bodies None runs words after e =
    let P : Result Reading FaultKind → Type 0 = λ read. Reads read after (Begins bodies None (kind_word runs ∷ words) after) in
    cond_both (is_handler runs && (length bodies == 0)) _ _ P (λ wrong e. cc) (λ first e. begin_read bodies runs words after first e) e

times_read : (bodies : List ScriptBody) (body : OpenBody) (count : List ℕ) (found : Option ℕ) (after : Reading) → is_handler body.kind ≡ false → number_below (2 ^ 32) count ≡ found → with_body (behind bodies (Some body)) (begin_repeat body found) ≡ Ok after → Repeats bodies (Some body) (codes "repeat" ∷ count ∷ []) after
times_read bodies body count None after in_task found-is e = cc
times_read bodies body count (Some times) after in_task found-is e =
    let P : Result OpenBody FaultKind → Type 0 = λ read. Reads (with_body (behind bodies (Some body)) read) after (Repeats bodies (Some body) (codes "repeat" ∷ count ∷ []) after) in
    cond_both (is_many body times) _ _ P (λ many e. cc) (λ few e. record {
      body = body;
      count = count;
      times = times;
      words_are = refl;
      is_open = refl;
      in_task = in_task;
      times_are = found-is;
      few = few;
      after_is = cc;
    }) e

repeat_read : (bodies : List ScriptBody) (current : Option OpenBody) (words : List (List ℕ)) (after : Reading) → read_repeat (behind bodies current) current words ≡ Ok after → Repeats bodies current (codes "repeat" ∷ words) after
repeat_read bodies None words after e = cc
repeat_read bodies (Some body) words after e =
    let P : Result Reading FaultKind → Type 0 = λ read. Reads read after (Repeats bodies (Some body) (codes "repeat" ∷ words) after) in
    cond_both (is_handler body.kind) _ _ P (λ wrong e. cc) (λ in_task e. counted words in_task e) e
  where
    counted : (words : List (List ℕ)) → is_handler body.kind ≡ false → repeat_in (behind bodies (Some body)) body words ≡ Ok after → Repeats bodies (Some body) (codes "repeat" ∷ words) after
    counted [] in_task e = cc
    counted (count ∷ []) in_task e = times_read bodies body count (number_below (2 ^ 32) count) after in_task refl e
    counted (count ∷ another ∷ words) in_task e = cc

end_read : (bodies : List ScriptBody) (current : Option OpenBody) (words : List (List ℕ)) (after : Reading) → read_end (behind bodies current) current words ≡ Ok after → Ends bodies current (codes "end" ∷ words) after
end_read bodies None words after e = cc
end_read bodies (Some body) (another ∷ words) after e = cc
end_read bodies (Some body) [] after e = record { body = body; words_are = refl; is_open = refl; after_is = cc }

-- what is known of the first word of a call line
record CallFirst (word : List ℕ) (called : CallWord) : Type 0 where
  no_kind : kind_of word ≡ None
  called_is : call_word word ≡ Some called
  no_comment : is_comment word ≡ false
  first_is : first_word word ≡ Some (first.Call called)

module _ (later : BodyKind → List ℕ → Option ℕ) (bodies : List ScriptBody) (body : OpenBody) (number : ℕ) (called : CallWord) (word : List ℕ) (words : List (List ℕ)) (after : Reading) (known : CallFirst word called) (may : (is_handler body.kind && needs_task called) ≡ false) where
  fault_read : (made : ScriptCall × Registers) (expect : Option Expect) (fault : Option FaultKind) → call_of_words later called (before_arrow words) body.registers ≡ Some made → expectation_of (from_arrow words) ≡ Some expect → fault_of_call body made ≡ fault → with_body (behind bodies (Some body)) (joined (with_line body number made expect) fault) ≡ Ok after → Calls later bodies (Some body) number (word ∷ words) after
  fault_read made expect (Some fault) made-is expect-is fault-is e = cc
  fault_read made expect None made-is expect-is fault-is e = record {
    body = body;
    word = word;
    called = called;
    arguments = words;
    call = made.0;
    registers = made.1;
    expect = expect;
    words_are = refl;
    no_kind = known.no_kind;
    called_is = known.called_is;
    no_comment = known.no_comment;
    first_is = known.first_is;
    is_open = refl;
    may = may;
    call_is = made-is;
    expect_is = expect-is;
    faultless = fault-is;
    after_is = cc;
  }

  join_read : (made : Option (ScriptCall × Registers)) (expect : Option (Option Expect)) → call_of_words later called (before_arrow words) body.registers ≡ made → expectation_of (from_arrow words) ≡ expect → with_body (behind bodies (Some body)) (join_line body number made expect) ≡ Ok after → Calls later bodies (Some body) number (word ∷ words) after
  join_read None expect made-is expect-is e = cc
  join_read (Some made) None made-is expect-is e = cc
  join_read (Some made) (Some expect) made-is expect-is e =
      fault_read made expect (fault_of_call body made) made-is expect-is refl e

call_read : (later : BodyKind → List ℕ → Option ℕ) (bodies : List ScriptBody) (current : Option OpenBody) (number : ℕ) (called : CallWord) (word : List ℕ) (words : List (List ℕ)) (after : Reading) → CallFirst word called → read_call later (behind bodies current) current number called words ≡ Ok after → Calls later bodies current number (word ∷ words) after
call_read later bodies None number called word words after known e = cc
call_read later bodies (Some body) number called word words after known e =
    let P : Result Reading FaultKind → Type 0 = λ read. Reads read after (Calls later bodies (Some body) number (word ∷ words) after) in
    cond_both (is_handler body.kind && needs_task called) _ _ P (λ wrong e. cc) (λ may e.
    join_read later bodies body number called word words after known may (call_of_words later called (before_arrow words) body.registers) (expectation_of (from_arrow words)) refl refl e) e

-- what holds of each word that begins a line and of every other holds of a word
by_first : (P : List ℕ → Type 0) (word : List ℕ) → P (codes "osal-app") → P (codes "task") → P (codes "handler") → P (codes "repeat") → P (codes "end") → (first_word word ≡ option_map first.Call (call_word word) → bytes_eq word (codes "task") ≡ false → bytes_eq word (codes "handler") ≡ false → P word) → P word
by_first P word header task handler repeat end other =
    elim (cases_Bool (bytes_eq word (codes "osal-app"))) [
      | inl same ↦ subst P (sym ((bytes_eq-Decides word (codes "osal-app")).0 same)) header
      | inr no_header ↦ by_kind P word task handler (λ no_task no_handler.
          elim (cases_Bool (bytes_eq word (codes "repeat"))) [
            | inl same ↦ subst P (sym ((bytes_eq-Decides word (codes "repeat")).0 same)) repeat
            | inr no_repeat ↦ elim (cases_Bool (bytes_eq word (codes "end"))) [
              | inl same ↦ subst P (sym ((bytes_eq-Decides word (codes "end")).0 same)) end
              | inr no_end ↦ other (rw (no_header, no_task, no_handler, no_repeat, no_end) refl) no_task no_handler
            ]
          ])
    ]

module _ (later : BodyKind → List ℕ → Option ℕ) (bodies : List ScriptBody) (current : Option OpenBody) (number : ℕ) (words : List (List ℕ)) (after : Reading) where
  other_read : (word : List ℕ) (call : Option CallWord) → call_word word ≡ call → first_word word ≡ option_map first.Call call → is_comment word ≡ false → kind_of word ≡ None → read_by_word later (behind bodies current) number (option_map first.Call call) words ≡ Ok after → LineKind later bodies current number (word ∷ words) after
  other_read word None called-is first-is no_comment no_kind e = cc
  other_read word (Some called) called-is first-is no_comment no_kind e =
      calls (call_read later bodies current number called word words after (record { no_kind = no_kind; called_is = called-is; no_comment = no_comment; first_is = first-is }) e)

  word_read : (word : List ℕ) → is_comment word ≡ false → read_by_word later (behind bodies current) number (first_word word) words ≡ Ok after → LineKind later bodies current number (word ∷ words) after
  word_read word no_comment e =
      let P : List ℕ → Type 0 = λ w. is_comment w ≡ false → read_by_word later (behind bodies current) number (first_word w) words ≡ Ok after → LineKind later bodies current number (w ∷ words) after in
      by_first P word
      (λ no e. cc)
      (λ no e. begins (body_read bodies current kind.Task words after e))
      (λ no e. begins (body_read bodies current kind.Handler words after e))
      (λ no e. repeats (repeat_read bodies current words after e))
      (λ no e. ends (end_read bodies current words after e))
      (λ first-is no_task no_handler no e.
      other_read word (call_word word) refl first-is no (of_no_kind word no_task no_handler) (ap (λ (f : Option FirstWord). read_by_word later (behind bodies current) number f words) (sym first-is) ∙ e))
      no_comment e

-- a comment declares nothing
comment_declares : (word : List ℕ) (words : List (List ℕ)) → is_comment word ≡ true → declared_by (word ∷ words) ≡ None
comment_declares word words e =
    let P : List ℕ → Type 0 = λ w. is_comment w ≡ true → declared_by (w ∷ words) ≡ None in
    by_kind P word (λ e. cc) (λ e. cc) (λ no_task no_handler e. none_declared word words (of_no_kind word no_task no_handler)) e

-- the words of a line that was read
pub words_read : (later : BodyKind → List ℕ → Option ℕ) (bodies : List ScriptBody) (current : Option OpenBody) (number : ℕ) (words : List (List ℕ)) (after : Reading) → read_words later (behind bodies current) number words ≡ Ok after → LineKind later bodies current number words after
words_read later bodies current number [] after e = skips (record { none = refl; after_is = cc })
words_read later bodies current number (word ∷ words) after e =
    let P : Result Reading FaultKind → Type 0 = λ read. Reads read after (LineKind later bodies current number (word ∷ words) after) in
    cond_both (is_comment word) _ _ P (λ comment e. skips (record { none = comment_declares word words comment; after_is = cc })) (λ no e. word_read later bodies current number words after word no e) e

-- what is known of a line that was read
pub record LineRead (later : BodyKind → List ℕ → Option ℕ) (reading : Reading) (number : ℕ) (line : List ℕ) (after : Reading) : Type 0 where
  pub fits : ltb 255 (length line) ≡ false
  pub clean : list_all is_line_byte line ≡ true
  pub read : read_words later reading number (words_of line) ≡ Ok after

-- it is short, its bytes may stand in a line, and its words were read
pub line_read : (later : BodyKind → List ℕ → Option ℕ) (reading : Reading) (number : ℕ) (line : List ℕ) (after : Reading) → read_line later reading number line ≡ Ok after → LineRead later reading number line after
line_read later reading number line after e =
    let P : Result Reading FaultKind → Type 0 = λ read. Reads read after (LineRead later reading number line after) in
    cond_both (ltb 255 (length line)) _ _ P (λ long e. cc) (λ fits.
    cond_both (list_all is_line_byte line) _ _ P (λ clean e. record { fits = fits; clean = clean; read = e }) (λ dirty e. cc)) e
