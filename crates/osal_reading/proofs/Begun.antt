-- Each good line begins as many bodies as it declares.
use Rattle.std.proofs.Common.{◌≡◌, ◌+◌, ◌^◌, ◌==◌, ◌&&◌, ℕ, List, [], ◌∷◌, false, Option, Some, None, Result, Ok, Err, length, codes, ltb, leb, bytes_eq, option_map, refl, ap, subst, arith}
use Rattle.std.specs.List.{list_all}
use Rattle.std.specs.Option.{option_to_list}
use Rattle.std.proofs.lemmas.Bool.{cond_both}
use Rattle.std.proofs.lemmas.List.{length_push}
use Rattle.osal_line.specs.declared.kind.BodyKind.{BodyKind}
use Rattle.osal_line.specs.declared.kind.BodyKind.TheVariants as kind
use Rattle.osal_call.specs.declared.word.CallWord.{CallWord}
use Rattle.osal_line.specs.declared.grammar.FirstWord.{FirstWord}
use Rattle.osal_line.specs.declared.grammar.FirstWord.TheVariants as first
use Rattle.osal_line.specs.Words.{words_of, is_line_byte}
use Rattle.osal_line.specs.Values.{is_body_name, number_below}
use Rattle.osal_call.specs.Signature.{call_word}
use Rattle.osal_line.specs.Vocabulary.{first_word}
use Rattle.osal_line.specs.Declarations.{Declared, declared_by}
use Rattle.osal_price.specs.Handlers.{is_handler, needs_task}
use Rattle.osal_line.proofs.Declaring.{by_kind, of_no_kind, none_declared}
use Rattle.osal_reading.specs.declared.fault.FaultKind.{FaultKind}
use Rattle.osal_reading.specs.Draft.{OpenBody, Reading, one_of, begun}
use Rattle.osal_reading.specs.Blocks.{is_taken, with_body, begin_body, read_body, begin_repeat, repeat_in, read_repeat, finished, read_end}
use Rattle.osal_reading.specs.Reading.{body_after, read_call, read_by_word, is_comment, is_header, read_words, read_line}

-- a line that is read leaves so many bodies begun
abbrev pub HasBegun : ℕ → Result Reading FaultKind → Type 0
HasBegun n (Ok after) = begun after ≡ n
HasBegun n (Err kind) = Unit {0}

with_body_begun : (reading : Reading) (result : Result OpenBody FaultKind) → HasBegun (length reading.bodies + 1) (with_body reading result)
with_body_begun reading (Ok body) = refl
with_body_begun reading (Err kind) = tt

counted_begun : (reading : Reading) (body : OpenBody) (words : List (List ℕ)) → HasBegun (length reading.bodies + 1) (repeat_in reading body words)
counted_begun reading body [] = tt
counted_begun reading body (times ∷ []) = with_body_begun reading (begin_repeat body (number_below (2 ^ 32) times))
counted_begun reading body (times ∷ another ∷ words) = tt

repeat_begun : (reading : Reading) (current : Option OpenBody) (words : List (List ℕ)) → HasBegun (length reading.bodies + one_of current) (read_repeat reading current words)
repeat_begun reading None words = tt
repeat_begun reading (Some body) words =
    cond_both (is_handler body.kind) _ _ (HasBegun (length reading.bodies + 1)) (λ e. tt) (λ e. counted_begun reading body words)

end_begun : (reading : Reading) (current : Option OpenBody) (words : List (List ℕ)) → HasBegun (length reading.bodies + one_of current) (read_end reading current words)
end_begun reading None words = tt
end_begun reading (Some body) (another ∷ words) = tt
end_begun reading (Some body) [] =
    cond_both (ltb 0 body.repeats) _ _ (λ after. begun after ≡ length reading.bodies + 1) (λ e. refl) (λ e. omega (arith, length_push reading.bodies (finished body)))

call_begun : (later : BodyKind → List ℕ → Option ℕ) (reading : Reading) (current : Option OpenBody) (number : ℕ) (call : CallWord) (words : List (List ℕ)) → HasBegun (length reading.bodies + one_of current) (read_call later reading current number call words)
call_begun later reading None number call words = tt
call_begun later reading (Some body) number call words =
    cond_both (is_handler body.kind && needs_task call) _ _ (HasBegun (length reading.bodies + 1)) (λ e. tt) (λ e. with_body_begun reading (body_after later body number call words))

-- a first word that begins no body
abbrev IsOther : Option FirstWord → Type 0
IsOther None = Unit {0}
IsOther (Some first.Header) = Unit {0}
IsOther (Some first.Task) = ⊥
IsOther (Some first.Handler) = ⊥
IsOther (Some first.Repeat) = Unit {0}
IsOther (Some first.End) = Unit {0}
IsOther (Some (first.Call call)) = Unit {0}

call_is_other : (call : Option CallWord) → IsOther (option_map first.Call call)
call_is_other (Some call) = tt
call_is_other None = tt

is_other : (word : List ℕ) → bytes_eq word (codes "task") ≡ false → bytes_eq word (codes "handler") ≡ false → IsOther (first_word word)
is_other word no_task no_handler =
    cond_both (bytes_eq word (codes "osal-app")) _ _ IsOther (λ e. tt) (λ e.
    rw (no_task, no_handler) (cond_both (bytes_eq word (codes "repeat")) _ _ IsOther (λ e. tt) (λ e.
    cond_both (bytes_eq word (codes "end")) _ _ IsOther (λ e. tt) (λ e. call_is_other (call_word word)))))

other_begun : (later : BodyKind → List ℕ → Option ℕ) (reading : Reading) (number : ℕ) (word : Option FirstWord) (words : List (List ℕ)) → IsOther word → HasBegun (begun reading) (read_by_word later reading number word words)
other_begun later reading number None words other = tt
other_begun later reading number (Some first.Header) words other = tt
other_begun later reading number (Some first.Task) words other = absurd other
other_begun later reading number (Some first.Handler) words other = absurd other
other_begun later reading number (Some first.Repeat) words other = repeat_begun reading reading.open_body words
other_begun later reading number (Some first.End) words other = end_begun reading reading.open_body words
other_begun later reading number (Some (first.Call call)) words other =
    call_begun later reading reading.open_body number call words

-- what a line declares that begins a body of a kind
abbrev named : BodyKind → List (List ℕ) → Option Declared
named runs (name ∷ []) = Some (record { kind = runs; name = name })
named runs words = None

name_begun : (reading : Reading) (runs : BodyKind) (words : List (List ℕ)) → HasBegun (length reading.bodies + 0 + length (option_to_list (named runs words))) (begin_body reading runs words)
name_begun reading runs [] = tt
name_begun reading runs (name ∷ []) =
    let n = length reading.bodies + 0 + 1 in
    cond_both (is_body_name name) _ _ (HasBegun n) (λ e.
    cond_both (leb 64 (length reading.bodies)) _ _ (HasBegun n) (λ e. tt) (λ e.
    cond_both (is_taken reading.bodies name) _ _ (HasBegun n) (λ e. tt) (λ e. omega arith))) (λ e. tt)
name_begun reading runs (name ∷ another ∷ words) = tt

body_begun : (reading : Reading) (runs : BodyKind) (current : Option OpenBody) (words : List (List ℕ)) → HasBegun (length reading.bodies + one_of current + length (option_to_list (named runs words))) (read_body reading runs current words)
body_begun reading runs (Some body) words = tt
body_begun reading runs None words =
    cond_both (is_handler runs && (length reading.bodies == 0)) _ _ (HasBegun (length reading.bodies + 0 + length (option_to_list (named runs words)))) (λ e. tt) (λ e. name_begun reading runs words)

task_begun : (later : BodyKind → List ℕ → Option ℕ) (reading : Reading) (number : ℕ) (words : List (List ℕ)) → HasBegun (begun reading + length (option_to_list (declared_by (codes "task" ∷ words)))) (read_words later reading number (codes "task" ∷ words))
task_begun later reading number [] =
    cond_both reading.header _ _ (HasBegun (begun reading + 0)) (λ e. body_begun reading kind.Task reading.open_body []) (λ e. tt)
task_begun later reading number (name ∷ []) =
    cond_both reading.header _ _ (HasBegun (begun reading + 1)) (λ e. body_begun reading kind.Task reading.open_body (name ∷ [])) (λ e. tt)
task_begun later reading number (name ∷ another ∷ words) =
    cond_both reading.header _ _ (HasBegun (begun reading + 0)) (λ e. body_begun reading kind.Task reading.open_body (name ∷ another ∷ words)) (λ e. tt)

handler_begun : (later : BodyKind → List ℕ → Option ℕ) (reading : Reading) (number : ℕ) (words : List (List ℕ)) → HasBegun (begun reading + length (option_to_list (declared_by (codes "handler" ∷ words)))) (read_words later reading number (codes "handler" ∷ words))
handler_begun later reading number [] =
    cond_both reading.header _ _ (HasBegun (begun reading + 0)) (λ e. body_begun reading kind.Handler reading.open_body []) (λ e. tt)
handler_begun later reading number (name ∷ []) =
    cond_both reading.header _ _ (HasBegun (begun reading + 1)) (λ e. body_begun reading kind.Handler reading.open_body (name ∷ [])) (λ e. tt)
handler_begun later reading number (name ∷ another ∷ words) =
    cond_both reading.header _ _ (HasBegun (begun reading + 0)) (λ e. body_begun reading kind.Handler reading.open_body (name ∷ another ∷ words)) (λ e. tt)

plain_begun : (later : BodyKind → List ℕ → Option ℕ) (reading : Reading) (number : ℕ) (word : List ℕ) (words : List (List ℕ)) → IsOther (first_word word) → HasBegun (begun reading) (read_words later reading number (word ∷ words))
plain_begun later reading number word words other =
    cond_both (is_comment word) _ _ (HasBegun (begun reading)) (λ e. refl) (λ e.
    cond_both reading.header _ _ (HasBegun (begun reading)) (λ e. other_begun later reading number (first_word word) words other) (λ e.
    cond_both (is_header (word ∷ words)) _ _ (HasBegun (begun reading)) (λ e. refl) (λ e. tt)))

words_begun : (later : BodyKind → List ℕ → Option ℕ) (reading : Reading) (number : ℕ) (words : List (List ℕ)) → HasBegun (begun reading + length (option_to_list (declared_by words))) (read_words later reading number words)
words_begun later reading number [] = omega arith
words_begun later reading number (word ∷ words) =
    let P : List ℕ → Type 0 = λ w. HasBegun (begun reading + length (option_to_list (declared_by (w ∷ words)))) (read_words later reading number (w ∷ words)) in
    by_kind P word (task_begun later reading number words) (handler_begun later reading number words) (λ no_task no_handler.
    let Begins : ℕ → Type 0 = λ n. HasBegun n (read_words later reading number (word ∷ words)) in
    let none = ap (λ (v : Option Declared). length (option_to_list v)) (none_declared word words (of_no_kind word no_task no_handler)) in
    subst Begins (omega (arith, none)) (plain_begun later reading number word words (is_other word no_task no_handler)))

-- what is begun after a line
pub line_begun : (later : BodyKind → List ℕ → Option ℕ) (reading : Reading) (number : ℕ) (line : List ℕ) → HasBegun (begun reading + length (option_to_list (declared_by (words_of line)))) (read_line later reading number line)
line_begun later reading number line =
    let n = begun reading + length (option_to_list (declared_by (words_of line))) in
    cond_both (ltb 255 (length line)) _ _ (HasBegun n) (λ e. tt) (λ e.
    cond_both (list_all is_line_byte line) _ _ (HasBegun n) (λ e. words_begun later reading number (words_of line)) (λ e. tt))
