-- What a line expects of its answer, behind an arrow.
use Rattle.std.specs.Prelude.{◌^◌, List, [], ◌∷◌, ℕ, Bool, Option, Some, None, codes, option_map, if◌then◌else◌}
use Rattle.std.specs.Str.{bytes_eq}
use Rattle.osal_line.specs.declared.expectation.Value.{Value}
use Rattle.osal_line.specs.declared.expectation.Value.TheVariants as value
use Rattle.osal_line.specs.declared.expectation.Expect.{Expect}
use Rattle.osal_line.specs.Values.{number_below, code_of, string_of}
use Rattle.osal_line.specs.Arguments.{◌>>=◌}

-- the word that leads to what is expected
abbrev pub is_arrow : List ℕ → Bool
is_arrow word = bytes_eq word (codes "->")

-- the arguments of a line: the words before the arrow
abbrev pub before_arrow : List (List ℕ) → List (List ℕ)
before_arrow [] = []
before_arrow (word ∷ words) = if is_arrow word then [] else word ∷ before_arrow words

-- the arrow and what is expected
abbrev pub from_arrow : List (List ℕ) → List (List ℕ)
from_arrow [] = []
from_arrow (word ∷ words) = if is_arrow word then word ∷ words else from_arrow words

-- a value that is expected: a number of 64 bits, or a string
abbrev pub value_by : List ℕ → Option ℕ → Option Value
value_by word (Some number) = Some (value.Number number)
value_by word None = option_map (λ text. value.Text text) (string_of word)

-- what a line expects: nothing, a code, or a code and a value
abbrev pub expectation_of : List (List ℕ) → Option (Option Expect)
expectation_of [] = Some None
expectation_of (arrow ∷ []) = None
expectation_of (arrow ∷ code ∷ []) = do
  number ← code_of code
  Some (Some (record { code = number; value = None }))
expectation_of (arrow ∷ code ∷ wanted ∷ []) = do
  number ← code_of code
  found ← value_by wanted (number_below (2 ^ 64) wanted)
  Some (Some (record { code = number; value = Some found }))
expectation_of (arrow ∷ code ∷ wanted ∷ another ∷ words) = None
