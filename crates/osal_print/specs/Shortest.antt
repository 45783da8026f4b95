-- Values at their shortest: numbers, strings, payloads and registers.
use Rattle.std.specs.Prelude.{◌+◌, ◌/◌, ◌%◌, ◌==◌, ◌||◌, ◌&&◌, ◌++◌, List, [], ◌∷◌, ℕ, Bool, false, codes, flat_map, length, nat_lt, if◌then◌else◌}
use Rattle.std.specs.Fmt.{decimal, radix_digits}
use Rattle.std.specs.List.{list_all}
use Rattle.osal_spelling.specs.Spelling.{hex_digit}
use Rattle.osal_line.specs.Words.{is_line_byte}

-- a number in hexadecimal
abbrev pub hexadecimal : ℕ → List ℕ
hexadecimal n = 48 ∷ 120 ∷ radix_digits 16 false n

-- a number in decimal, or in hexadecimal where that is shorter
abbrev pub number_text : ℕ → List ℕ
number_text n = if nat_lt (length (hexadecimal n)) (length (decimal n)) then hexadecimal n else decimal n

-- a byte of a string: the bytes that may stand in a line stand for themselves, blanks among them
abbrev pub string_byte : ℕ → List ℕ
string_byte byte =
    if byte == 34 || byte == 92 then 92 ∷ byte ∷ []
    else (if byte == 10 then codes "\\n"
    else (if is_line_byte byte then byte ∷ []
    else 92 ∷ 120 ∷ hex_digit (byte / 16) ∷ hex_digit (byte % 16) ∷ []))

-- a string
unfoldable pub string_text : List ℕ → List ℕ
string_text bytes = 34 ∷ flat_map string_byte bytes ++ 34 ∷ []

-- the words for one byte so many times
abbrev pub fill_words : ℕ → ℕ → List (List ℕ)
fill_words count byte = codes "fill" ∷ decimal count ∷ decimal byte ∷ []

-- how many bytes they take in a line
abbrev pub fill_length : ℕ → ℕ → ℕ
fill_length count byte = 6 + length (decimal count) + length (decimal byte)

-- whether a fill says these bytes, and is shorter than the string
abbrev pub is_filled : List ℕ → Bool
is_filled [] = false
is_filled (byte ∷ bytes) =
    list_all (λ other. other == byte) bytes
    && nat_lt (fill_length (length (byte ∷ bytes)) byte) (length (string_text (byte ∷ bytes)))

-- the first of some bytes
abbrev pub filler : List ℕ → ℕ
filler [] = 0
filler (byte ∷ bytes) = byte

-- the words of a payload: a string, or a fill where that is shorter
abbrev pub payload_words : List ℕ → List (List ℕ)
payload_words bytes =
    if is_filled bytes then fill_words (length bytes) (filler bytes) else string_text bytes ∷ []

-- the name of a register: a letter, or a digit for those behind the twenty-sixth
abbrev pub register_name : ℕ → List ℕ
register_name register = (if nat_lt register 26 then 97 + register else 22 + register) ∷ []

-- a register
abbrev pub register_text : ℕ → List ℕ
register_text register = 36 ∷ register_name register

-- some registers, each behind a comma
abbrev pub more_registers : List ℕ → List ℕ
more_registers [] = []
more_registers (register ∷ registers) = 44 ∷ register_text register ++ more_registers registers

-- a set of registers: with commas between them, or a dash where there are none
abbrev pub set_text : List ℕ → List ℕ
set_text [] = codes "-"
set_text (register ∷ registers) = register_text register ++ more_registers registers
