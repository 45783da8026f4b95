-- A line of a text in its place, and what its words say.
use Rattle.std.specs.Prelude.{◌^◌, ◌&&◌, List, [], ◌∷◌, ℕ, Bool, true, not, Option, Some, None, drop, slice_get, option_and_then, if◌then◌else◌}
use Rattle.osal_call.specs.declared.word.CallWord.{CallWord}
use Rattle.osal_line.specs.declared.kind.BodyKind.{BodyKind}
use Rattle.osal_line.specs.declared.line.ScriptCall.{ScriptCall}
use Rattle.osal_line.specs.declared.grammar.FirstWord.{FirstWord}
use Rattle.osal_line.specs.Words.{words_of}
use Rattle.osal_line.specs.Values.{is_body_name, number_below}
use Rattle.osal_line.specs.Vocabulary.{first_word}
use Rattle.osal_line.specs.Declarations.{declared, later_number}
use Rattle.osal_line.specs.Registers.{Registers}
use Rattle.osal_line.specs.Grammar.{call_of_words}
use Rattle.osal_line.specs.Expectation.{before_arrow}
use Rattle.osal_reading.specs.Reading.{is_comment}
use Rattle.osal_rules.specs.Before.{Before, registers_of, begun}

-- a line, with what stands before it and the lines behind it
pub record At : Type 0 where
  pub before : Before
  pub line : List ℕ
  pub behind : List (List ℕ)

-- a line between what stands before it and the lines behind it
abbrev pub placed : Before → List ℕ → List (List ℕ) → At
placed before line behind = record { before = before; line = line; behind = behind }

-- the words of a line
abbrev pub words : At → List (List ℕ)
words at = words_of at.line

-- whether a line of these words is skipped: it has none, or it is a comment
abbrev pub is_skipped : List (List ℕ) → Bool
is_skipped [] = true
is_skipped (word ∷ words) = is_comment word

-- whether a line counts: it is not skipped, and the header stands before it
abbrev pub counts : At → Bool
counts at = not (is_skipped (words at)) && at.before.header

-- what a line is, by its first word
abbrev pub what_it_is : At → Option FirstWord
what_it_is at = option_and_then first_word (slice_get (words at) 0)

-- the words behind the first
abbrev pub arguments : At → List (List ℕ)
arguments at = drop 1 (words at)

-- the body's name that some words are
abbrev pub name_in : List (List ℕ) → Option (List ℕ)
name_in (name ∷ []) = if is_body_name name then Some name else None
name_in words = None

-- the number that some words are
abbrev pub number_in : List (List ℕ) → Option ℕ
number_in (number ∷ []) = number_below (2 ^ 32) number
number_in words = None

-- the numbers of the bodies that the lines behind declare
abbrev pub later : At → BodyKind → List ℕ → Option ℕ
later at = later_number (begun at.before) (declared at.behind)

-- the call that some words make, with the registers of the body behind it
abbrev pub call_in : At → List (List ℕ) → CallWord → Option (ScriptCall × Registers)
call_in at words word = call_of_words (later at) word (before_arrow words) (registers_of at.before.open_body)
