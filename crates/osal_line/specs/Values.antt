-- The values that a word stands for: numbers, waits, codes, strings and names.
use Rattle.std.specs.Prelude.{◌||◌, ◌&&◌, ◌==◌, ◌+◌, ◌-◌, ◌*◌, ◌^◌, List, [], ◌∷◌, ℕ, zero, suc, Bool, Option, Some, None, pos, negsuc, codes, find, length, nat_le, nat_lt, option_map, is_some, unwrap_or, if◌then◌else◌}
use Rattle.std.proofs.Common.{ℤ}
use Rattle.std.specs.List.{list_all}
use Rattle.std.specs.Str.{bytes_eq}
use Rattle.osal_base.specs.declared.status.Status.{Status}
use Rattle.osal_base.specs.declared.time.Timeout.{Timeout}
use Rattle.osal_base.specs.declared.time.Timeout.TheVariants as timeout
use Rattle.osal_base.specs.Status.{all_statuses, status_name, number_of}
use Rattle.osal_line.specs.declared.strings.StringPhase.{StringPhase}
use Rattle.osal_line.specs.declared.strings.StringPhase.TheVariants as phase

-- whether a byte lies between two others, both counted
abbrev pub is_between : ℕ → ℕ → ℕ → Bool
is_between low high byte = nat_le low byte && nat_le byte high

-- the value of a digit of either case, for bases up to 16
abbrev pub digit_value : ℕ → Option ℕ
digit_value byte =
    if is_between 48 57 byte then Some (byte - 48)
    else (if is_between 97 102 byte then Some (byte - 87)
    else (if is_between 65 70 byte then Some (byte - 55)
    else None))

-- a number with one more digit, where it stays below the limit
abbrev pub with_digit : ℕ → ℕ → ℕ → Option ℕ → Option ℕ
with_digit base limit number None = None
with_digit base limit number (Some digit) =
    if nat_lt digit base && nat_lt (number * base + digit) limit then Some (number * base + digit) else None

-- a number and the digits after it, where it stays below the limit
abbrev pub digits_after : ℕ → ℕ → List ℕ → Option ℕ → Option ℕ
digits_after base limit [] number = number
digits_after base limit (byte ∷ bytes) None = None
digits_after base limit (byte ∷ bytes) (Some number) =
    digits_after base limit bytes (with_digit base limit number (digit_value byte))

-- the number that some digits spell, where it is below the limit
abbrev pub digits_of : ℕ → ℕ → List ℕ → Option ℕ
digits_of base limit [] = None
digits_of base limit (byte ∷ bytes) = digits_after base limit (byte ∷ bytes) (Some 0)

-- the digits behind `0x`
abbrev pub hex_digits : List ℕ → Option (List ℕ)
hex_digits [] = None
hex_digits (a ∷ []) = None
hex_digits (a ∷ b ∷ bytes) = if a == 48 && b == 120 then Some bytes else None

-- a number in decimal, or in hexadecimal where its digits stand behind `0x`
abbrev pub number_by : ℕ → List ℕ → Option (List ℕ) → Option ℕ
number_by limit word None = digits_of 10 limit word
number_by limit word (Some digits) = digits_of 16 limit digits

-- the number below the limit that a word spells
abbrev pub number_below : ℕ → List ℕ → Option ℕ
number_below limit word = number_by limit word (hex_digits word)

-- a number that is there and is not 0
abbrev pub positive : Option ℕ → Option ℕ
positive None = None
positive (Some zero) = None
positive (Some (suc n)) = Some (suc n)

-- the number below the limit that a word spells, where it is not 0
abbrev pub positive_below : ℕ → List ℕ → Option ℕ
positive_below limit word = positive (number_below limit word)

-- a wait: none, one without a deadline, or one of so many milliseconds
abbrev pub wait_of : List ℕ → Option Timeout
wait_of word =
    if bytes_eq word (codes "check") then Some timeout.Check
    else (if bytes_eq word (codes "pend") then Some timeout.Pend
    else option_map (λ ms. timeout.Ms ms) (positive_below (2 ^ 31) word))

-- zero or less
abbrev pub negated : ℕ → ℤ
negated zero = pos 0
negated (suc n) = negsuc n

-- a decimal number of 32 bits, which may have a minus sign
abbrev pub signed_of : List ℕ → Option ℤ
signed_of [] = None
signed_of (byte ∷ bytes) =
    if byte == 45 then option_map negated (digits_of 10 (2 ^ 31 + 1) bytes)
    else option_map pos (digits_of 10 (2 ^ 31) (byte ∷ bytes))

-- the status that a word names
abbrev pub status_named : List ℕ → Option Status
status_named word = find (λ s. bytes_eq (status_name s) word) all_statuses

-- a code: the number of a status that is named, or a decimal number
abbrev pub code_or_number : List ℕ → Option Status → Option ℤ
code_or_number word (Some status) = Some (number_of status)
code_or_number word None = signed_of word

-- the code that a word stands for
abbrev pub code_of : List ℕ → Option ℤ
code_of word = code_or_number word (status_named word)

-- one more byte before the rest of a string
abbrev pub prepended : ℕ → Option (List ℕ) → Option (List ℕ)
prepended byte rest = option_map (λ bytes. byte ∷ bytes) rest

-- nothing may follow a string's end
abbrev pub at_end : List ℕ → Option (List ℕ)
at_end [] = Some []
at_end (byte ∷ bytes) = None

-- whether a byte is a hexadecimal digit
abbrev pub is_hex : ℕ → Bool
is_hex byte = is_some (digit_value byte)

-- the value of a hexadecimal digit
abbrev pub hex_of : ℕ → ℕ
hex_of byte = unwrap_or (digit_value byte) 0

-- the bytes that the rest of a quotation stands for, to its closing mark
abbrev pub string_from : StringPhase → List ℕ → Option (List ℕ)
string_from at [] = None
string_from phase.Plain (byte ∷ bytes) =
    if byte == 34 then at_end bytes
    else (if byte == 92 then string_from phase.Backslash bytes
    else prepended byte (string_from phase.Plain bytes))
string_from phase.Backslash (byte ∷ bytes) =
    if byte == 34 || byte == 92 then prepended byte (string_from phase.Plain bytes)
    else (if byte == 110 then prepended 10 (string_from phase.Plain bytes)
    else (if byte == 120 then string_from phase.Hex bytes
    else None))
string_from phase.Hex (byte ∷ bytes) =
    if is_hex byte then string_from (phase.HexEnd (hex_of byte)) bytes else None
string_from (phase.HexEnd high) (byte ∷ bytes) =
    if is_hex byte then prepended (16 * high + hex_of byte) (string_from phase.Plain bytes) else None

-- the bytes that a string stands for: a quotation with its escapes
abbrev pub string_of : List ℕ → Option (List ℕ)
string_of [] = None
string_of (byte ∷ bytes) = if byte == 34 then string_from phase.Plain bytes else None

-- a letter, a digit or an underscore
abbrev pub is_name_byte : ℕ → Bool
is_name_byte byte =
    is_between 97 122 byte || is_between 65 90 byte || is_between 48 57 byte || byte == 95

-- whether a word names a body: 1 to 19 letters, digits and underscores
abbrev pub is_body_name : List ℕ → Bool
is_body_name word = nat_lt 0 (length word) && nat_lt (length word) 20 && list_all is_name_byte word

-- a lower case letter, a digit or an underscore
abbrev pub is_register_byte : ℕ → Bool
is_register_byte byte = is_between 97 122 byte || is_between 48 57 byte || byte == 95

-- the name of the register that a word names behind `$`: 1 to 19 bytes
abbrev pub register_name : List ℕ → Option (List ℕ)
register_name [] = None
register_name (byte ∷ bytes) =
    if byte == 36 && nat_lt 0 (length bytes) && nat_lt (length bytes) 20 && list_all is_register_byte bytes
    then Some bytes
    else None
