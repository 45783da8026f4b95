-- The payloads that words spell.
use Rattle.std.specs.Prelude.{List, [], ◌∷◌, ℕ, Bool, Option, Some, None, codes, replicate, if◌then◌else◌}
use Rattle.std.specs.Str.{bytes_eq}
use Rattle.osal_line.specs.Values.{number_below, string_of}
use Rattle.osal_line.specs.Arguments.{◌>>=◌}

-- the word before a count and a byte
abbrev pub is_fill : List ℕ → Bool
is_fill word = bytes_eq word (codes "fill")

-- one byte so many times, at most 8,192
abbrev pub filled : List ℕ → List ℕ → Option (List ℕ)
filled count byte = do
  times ← number_below 8193 count
  filler ← number_below 256 byte
  Some (replicate times filler)

-- a payload: a string, or `fill` with a count and a byte
abbrev pub payload_of : List (List ℕ) → Option (List ℕ)
payload_of (text ∷ []) = string_of text
payload_of (word ∷ count ∷ byte ∷ []) = if is_fill word then filled count byte else None
payload_of words = None
