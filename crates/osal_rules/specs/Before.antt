-- What stands before a line of a text.
use Rattle.std.specs.Prelude.{◌+◌, List, [], ℕ, Bool, false, Option, Some, None, length, is_some, if◌then◌else◌}
use Rattle.osal_line.specs.declared.kind.BodyKind.{BodyKind}
use Rattle.osal_line.specs.Registers.{Registers, no_registers}
use Rattle.osal_price.specs.Handlers.{is_handler}

-- a body that is open: its items are its call lines and repeats so far, its repeats those that are open
pub record Open : Type 0 where
  pub name : List ℕ
  pub kind : BodyKind
  pub items : ℕ
  pub repeats : ℕ
  pub registers : Registers

-- whether the header was there, the names of the bodies that are done, in order, and the body that is open
pub record Before : Type 0 where
  pub header : Bool
  pub bodies : List (List ℕ)
  pub open_body : Option Open

-- what stands before the first line
abbrev pub nothing : Before
nothing = record { header = false; bodies = []; open_body = None }

-- whether a value is there and passes a test
abbrev pub is_some_and : {A : Type 0} → (A → Bool) → Option A → Bool
is_some_and test None = false
is_some_and test (Some value) = test value

-- whether a body is open
abbrev pub is_open : Before → Bool
is_open before = is_some before.open_body

-- whether a handler is open
abbrev pub in_handler : Before → Bool
in_handler before = is_some_and (λ body. is_handler body.kind) before.open_body

-- the registers of a body, or none
abbrev pub registers_of : Option Open → Registers
registers_of None = no_registers
registers_of (Some body) = body.registers

-- how many bodies have begun
abbrev pub begun : Before → ℕ
begun before = length before.bodies + (if is_open before then 1 else 0)
