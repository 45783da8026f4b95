-- How identifiers, codes and bytes are spelled.
use Rattle.std.specs.Prelude.{◌==◌, ◌+◌, ◌/◌, ◌%◌, ◌^◌, ◌||◌, ◌&&◌, ◌++◌, List, [], ◌∷◌, ℕ, Option, Some, None, codes, flat_map, nat_lt, nat_le, if◌then◌else◌}
use Rattle.std.proofs.Common.{ℤ}
use Rattle.std.specs.Fmt.{signed_decimal}
use Rattle.osal_base.specs.declared.status.Status.{Status}
use Rattle.osal_base.specs.declared.reply.Answer.{Answer}
use Rattle.osal_base.specs.declared.reply.Answer.TheVariants as answer
use Rattle.osal_base.specs.Status.{status_of, status_name}

-- a hexadecimal digit in lower case
abbrev pub hex_digit : ℕ → ℕ
hex_digit value = if nat_lt value 10 then 48 + value else 87 + value

-- the digit of a number that stands at a place, counted from the right
abbrev pub hex_at : ℕ → ℕ → ℕ
hex_at number unit = hex_digit (number / unit % 16)

-- an identifier: `0x` and its eight lowest hexadecimal digits
unfoldable pub id_text : ℕ → List ℕ
id_text id =
    48 ∷ 120 ∷ hex_at id (2 ^ 28) ∷ hex_at id (2 ^ 24) ∷ hex_at id (2 ^ 20) ∷ hex_at id (2 ^ 16)
    ∷ hex_at id (2 ^ 12) ∷ hex_at id (2 ^ 8) ∷ hex_at id (2 ^ 4) ∷ hex_at id 1 ∷ []

-- the name of a status, or the number where it is none
abbrev pub code_by : ℤ → Option Status → List ℕ
code_by code (Some status) = status_name status
code_by code None = signed_decimal code

-- a code: the name of its status, or its number
unfoldable pub code_text : ℤ → List ℕ
code_text code = code_by code (status_of code)

-- an answer
abbrev pub answer_text : Answer → List ℕ
answer_text (answer.Code code) = code_text code
answer_text answer.Waits = codes "waits"
answer_text answer.Go = codes "go"
answer_text answer.Deleted = codes "deleted"

-- a byte between quotation marks
abbrev pub quoted_byte : ℕ → List ℕ
quoted_byte byte =
    if byte == 34 || byte == 92 then 92 ∷ byte ∷ []
    else (if nat_le 32 byte && nat_le byte 126 then byte ∷ []
    else 92 ∷ 120 ∷ hex_digit (byte / 16) ∷ hex_digit (byte % 16) ∷ [])

-- bytes between quotation marks
unfoldable pub quoted : List ℕ → List ℕ
quoted bytes = 34 ∷ flat_map quoted_byte bytes ++ 34 ∷ []
