-- What the lines of a body name: its registers, and the bodies of tasks and handlers.
use Rattle.std.specs.Prelude.{◌+◌, ◌++◌, List, [], ◌∷◌, ℕ, Bool, true, false, Option, Some, None, length, nat_lt, option_map, if◌then◌else◌}
use Rattle.std.specs.Str.{bytes_eq}
use Rattle.osal_line.specs.Values.{register_name, is_body_name}

-- the registers that a body has named so far, in the order of their first mention; whether a line named one too
-- many, and whether it named a body that no later line declares
pub record Registers : Type 0 where
  pub names : List (List ℕ)
  pub over : Bool
  pub undeclared : Bool

-- no registers
abbrev pub no_registers : Registers
no_registers = record { names = []; over = false; undeclared = false }

-- where a name stands in a list, counted from a number
abbrev pub place_from : ℕ → List (List ℕ) → List ℕ → Option ℕ
place_from at [] name = None
place_from at (other ∷ others) name = if bytes_eq other name then Some at else place_from (at + 1) others name

-- a name that is there, is new, or is one too many
abbrev pub numbered : Registers → List ℕ → Option ℕ → ℕ × Registers
numbered registers name (Some place) = (place, registers)
numbered registers name None =
    if nat_lt (length registers.names) 32
    then (length registers.names, record registers { names = registers.names ++ name ∷ [] })
    else (0, record registers { over = true })

-- the number of a register, and the registers with it
abbrev pub register_number : Registers → List ℕ → ℕ × Registers
register_number registers name = numbered registers name (place_from 0 registers.names name)

-- a register that is read or set
abbrev pub register_at : Registers → List ℕ → Option (ℕ × Registers)
register_at registers word = option_map (register_number registers) (register_name word)

-- the number of a body that is declared later, or a body that is not
abbrev pub body_number : Registers → Option ℕ → ℕ × Registers
body_number registers (Some number) = (number, registers)
body_number registers None = (0, record registers { undeclared = true })

-- a body that a line names, where later lines declare bodies of these numbers
abbrev pub body_at : (List ℕ → Option ℕ) → Registers → List ℕ → Option (ℕ × Registers)
body_at later registers word = if is_body_name word then Some (body_number registers (later word)) else None
