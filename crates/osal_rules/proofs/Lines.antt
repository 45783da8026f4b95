-- A line is read where it breaks no rule, and refused by the first that it breaks.
use Rattle.std.proofs.Common.{◌≡◌, ◌&&◌, ℕ, List, [], ◌∷◌, Bool, true, false, cond, not, Option, Some, None, Result, Ok, Err, length, drop, slice_get, option_and_then, ltb, is_none, refl}
use Rattle.std.specs.List.{list_all}
use Rattle.osal_line.specs.declared.grammar.FirstWord.{FirstWord}
use Rattle.osal_line.specs.declared.grammar.FirstWord.TheVariants as first
use Rattle.osal_line.specs.Words.{words_of, is_line_byte}
use Rattle.osal_line.specs.Vocabulary.{first_word}
use Rattle.osal_script.specs.App.{ScriptBody}
use Rattle.osal_reading.specs.declared.fault.FaultKind.{FaultKind}
use Rattle.osal_reading.specs.declared.fault.FaultKind.TheVariants as fault
use Rattle.osal_reading.specs.Draft.{OpenBody, Reading}
use Rattle.osal_reading.specs.Reading.{read_by_word, is_comment, is_header, read_words, read_line}
use Rattle.osal_rules.specs.Before.{Before}
use Rattle.osal_rules.specs.At.{At, placed, is_skipped, later}
use Rattle.osal_rules.specs.Rules.{is_misplaced, is_ill_formed, is_too_many, is_wrong_body, broken}
use Rattle.osal_rules.specs.After.{after_word, after_line}
use Rattle.osal_rules.proofs.Bodies.{before_of, leaves, judged, rule_before, task_judged, handler_judged, repeat_judged, end_judged}
use Rattle.osal_rules.proofs.Calls.{call_judged}

-- a line behind a reading
abbrev pub at : Reading → List ℕ → List (List ℕ) → At
at reading line behind = placed (before_of reading) line behind

-- the rule that a line of good bytes breaks: whether it is skipped, the header stands before it, and it is the header;
-- its arguments, and what it is
abbrev words_broken : At → Bool → Bool → Bool → List (List ℕ) → Option FirstWord → Option FaultKind
words_broken place skipped header named words what =
    cond (not skipped && not header && not named) (Some fault.Header)
    (cond (not skipped && header && is_none what) (Some fault.Word)
    (cond (not skipped && header && is_misplaced place.before what) (Some fault.Place)
    (cond (not skipped && header && is_ill_formed place words what) (Some fault.Argument)
    (cond (not skipped && header && is_too_many place words what) (Some fault.Many)
    (cond (not skipped && header && is_wrong_body place words what) (Some fault.Body)
    None)))))

-- what stands behind it
abbrev after_words : At → Bool → Bool → List (List ℕ) → Option FirstWord → Before
after_words place skipped header words what =
    cond skipped place.before (cond header (after_word place words what) (record place.before { header = true }))

-- a reading by its parts
abbrev reading_of_parts : Bool → List ScriptBody → Option OpenBody → Reading
reading_of_parts header bodies current = record { header = header; bodies = bodies; open_body = current }

-- a line that counts, by what it is
by_word_judged : (header : Bool) (bodies : List ScriptBody) (current : Option OpenBody) (line : List ℕ) (behind : List (List ℕ)) (number : ℕ) (named : Bool) (what : Option FirstWord) (words : List (List ℕ)) → leaves (read_by_word (later (at (reading_of_parts header bodies current) line behind)) (reading_of_parts header bodies current) number what words) ≡ judged (words_broken (at (reading_of_parts header bodies current) line behind) false true named words what) (after_word (at (reading_of_parts header bodies current) line behind) words what)
by_word_judged header bodies current line behind number named None words = refl
by_word_judged header bodies current line behind number named (Some first.Header) words = refl
by_word_judged header bodies current line behind number named (Some first.Task) words =
    task_judged (reading_of_parts header bodies current) current words
by_word_judged header bodies current line behind number named (Some first.Handler) words =
    handler_judged (reading_of_parts header bodies current) current words
by_word_judged header bodies None line behind number named (Some first.Repeat) words = refl
by_word_judged header bodies (Some body) line behind number named (Some first.Repeat) words =
    repeat_judged (reading_of_parts header bodies (Some body)) body words
by_word_judged header bodies None line behind number named (Some first.End) words = refl
by_word_judged header bodies (Some body) line behind number named (Some first.End) words =
    end_judged (reading_of_parts header bodies (Some body)) body words
by_word_judged header bodies None line behind number named (Some (first.Call word)) words = refl
by_word_judged header bodies (Some body) line behind number named (Some (first.Call word)) words =
    call_judged (later (at (reading_of_parts header bodies (Some body)) line behind)) (reading_of_parts header bodies (Some body)) body number word words

-- a line with a word: it is a comment, it counts, it is the header, or it is none
word_judged : (reading : Reading) (line : List ℕ) (behind : List (List ℕ)) (words : List (List ℕ)) (what : Option FirstWord) (counted : Result Reading FaultKind) (skipped header named : Bool) → leaves counted ≡ judged (words_broken (at reading line behind) false true named words what) (after_word (at reading line behind) words what) → leaves (cond skipped (Ok reading) (cond header counted (cond named (Ok (record reading { header = true })) (Err fault.Header)))) ≡ judged (words_broken (at reading line behind) skipped header named words what) (after_words (at reading line behind) skipped header words what)
word_judged reading line behind words what counted true header named same = refl
word_judged reading line behind words what counted false true named same = same
word_judged reading line behind words what counted false false true same = refl
word_judged reading line behind words what counted false false false same = refl

words_judged : (reading : Reading) (line : List ℕ) (behind : List (List ℕ)) (number : ℕ) (words : List (List ℕ)) → leaves (read_words (later (at reading line behind)) reading number words) ≡ judged (words_broken (at reading line behind) (is_skipped words) reading.header (is_header words) (drop 1 words) (option_and_then first_word (slice_get words 0))) (after_words (at reading line behind) (is_skipped words) reading.header (drop 1 words) (option_and_then first_word (slice_get words 0)))
words_judged reading line behind number [] = refl
words_judged reading line behind number (word ∷ words) =
    let counted : Result Reading FaultKind = read_by_word (later (at reading line behind)) reading number (first_word word) words in
    word_judged reading line behind words (first_word word) counted (is_comment word) reading.header (is_header (word ∷ words))
    (by_word_judged reading.header reading.bodies reading.open_body line behind number (is_header (word ∷ words)) (first_word word) words)

bytes_judged : (read : Result Reading FaultKind) (others : Option FaultKind) (after : Before) (good : Bool) → leaves read ≡ judged others after → leaves (cond good read (Err fault.Byte)) ≡ judged (cond (not good) (Some fault.Byte) others) after
bytes_judged read others after true same = same
bytes_judged read others after false same = refl

-- a line leaves what the rules and what stands behind it say
pub line_judged : (reading : Reading) (line : List ℕ) (behind : List (List ℕ)) (number : ℕ) → leaves (read_line (later (at reading line behind)) reading number line) ≡ judged (broken (at reading line behind)) (after_line (at reading line behind))
line_judged reading line behind number =
    rule_before fault.Long _ _ _ (ltb 255 (length line)) _ refl
    (bytes_judged _ _ _ (list_all is_line_byte line) (words_judged reading line behind number (words_of line)))
