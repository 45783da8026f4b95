-- What the registers hold behind a line.
use Rattle.std.specs.Prelude.{◌%◌, ◌^◌, List, ℕ, Option, Some, None, slice_set, if◌then◌else◌}
use Rattle.osal_base.specs.Reply.{Replied, is_success}

-- the registers after a reply; an identifier is the number of a reply, in 32 bits
abbrev pub registers_after : Option ℕ → Replied → List ℕ → List ℕ
registers_after None reply registers = registers
registers_after (Some register) reply registers =
    if is_success reply.answer then slice_set registers register (reply.number % 2 ^ 32) else registers
