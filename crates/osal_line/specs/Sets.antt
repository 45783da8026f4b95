-- The sets of registers that a word names.
use Rattle.std.specs.Prelude.{◌==◌, ◌++◌, List, [], ◌∷◌, ℕ, Bool, Option, Some, None, codes, length, nat_lt, if◌then◌else◌}
use Rattle.std.specs.List.{slice_split}
use Rattle.std.specs.Str.{bytes_eq}
use Rattle.osal_line.specs.Registers.{Registers, register_at}
use Rattle.osal_line.specs.Arguments.{◌>>=◌}

-- the byte between two registers
abbrev pub is_comma : ℕ → Bool
is_comma byte = byte == 44

-- what stands before, between and after the commas of a word
abbrev pub parts_of : List ℕ → List (List ℕ)
parts_of word = slice_split is_comma word

-- the most registers of a set
abbrev pub set_limit : ℕ
set_limit = 64

-- the register that a word names, where a set has room for it
abbrev pub next_of : List ℕ → Registers → List ℕ → Option (ℕ × Registers)
next_of set registers word = if nat_lt (length set) set_limit then register_at registers word else None

-- the registers of a set with those that some words name, in their order, where there is room for all
abbrev pub more_of : List ℕ → Registers → List (List ℕ) → Option (List ℕ × Registers)
more_of set registers [] = Some (set, registers)
more_of set registers (word ∷ words) = do
  named ← next_of set registers word
  more_of (set ++ named.0 ∷ []) named.1 words

-- a set of registers: `-` for none, or 1 to 64 of them with a comma between each two
abbrev pub set_at : Registers → List ℕ → Option (List ℕ × Registers)
set_at registers word =
    if bytes_eq word (codes "-") then Some ([], registers) else more_of [] registers (parts_of word)
