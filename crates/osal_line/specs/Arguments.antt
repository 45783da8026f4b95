-- The arguments of a call line by their shapes, each with the registers behind it.
use Rattle.std.specs.Prelude.{◌^◌, List, [], ◌∷◌, ℕ, Option, Some, None, option_and_then}
use Rattle.osal_base.specs.declared.time.Timeout.{Timeout}
use Rattle.osal_line.specs.Values.{number_below, string_of, wait_of}
use Rattle.osal_line.specs.Registers.{Registers, register_at}

infixl 10 ◌>>=◌
-- a value that is there, and what follows from it
abbrev pub ◌>>=◌ : {A B : Type 0} → Option A → (A → Option B) → Option B
o >>= f = option_and_then f o

-- the call that is made of some arguments
abbrev pub as_call : {A C : Type 0} → (A → C) → Option (A × Registers) → Option (C × Registers)
as_call make None = None
as_call make (Some read) = Some (make read.0, read.1)

-- an identifier, and no more
abbrev pub only_id : List (List ℕ) → Registers → Option (ℕ × Registers)
only_id (id ∷ []) registers = register_at registers id
only_id words registers = None

-- an identifier and a wait
abbrev pub id_and_wait : List (List ℕ) → Registers → Option ((ℕ × Timeout) × Registers)
id_and_wait (id ∷ wait ∷ []) registers = do
  named ← register_at registers id
  until ← wait_of wait
  Some ((named.0, until), named.1)
id_and_wait words registers = None

-- the register that a call sets, and the name of the object
abbrev pub named_at : Registers → List ℕ → List ℕ → Option ((ℕ × List ℕ) × Registers)
named_at registers register name = do
  named ← register_at registers register
  text ← string_of name
  Some ((named.0, text), named.1)

-- the same, and no more
abbrev pub only_name : List (List ℕ) → Registers → Option ((ℕ × List ℕ) × Registers)
only_name (register ∷ name ∷ []) registers = named_at registers register name
only_name words registers = None

-- the same, and a number
abbrev pub name_and_number : List (List ℕ) → Registers → Option ((ℕ × List ℕ × ℕ) × Registers)
name_and_number (register ∷ name ∷ number ∷ []) registers = do
  named ← named_at registers register name
  value ← number_below (2 ^ 32) number
  Some ((named.0.0, named.0.1, value), named.1)
name_and_number words registers = None

-- an identifier and a number
abbrev pub id_and_number : List (List ℕ) → Registers → Option ((ℕ × ℕ) × Registers)
id_and_number (id ∷ number ∷ []) registers = do
  named ← register_at registers id
  value ← number_below (2 ^ 32) number
  Some ((named.0, value), named.1)
id_and_number words registers = None

-- two numbers
abbrev pub numbers_of : List ℕ → List ℕ → Option (ℕ × ℕ)
numbers_of one another = do
  first ← number_below (2 ^ 32) one
  second ← number_below (2 ^ 32) another
  Some (first, second)

-- two strings
abbrev pub strings_of : List ℕ → List ℕ → Option (List ℕ × List ℕ)
strings_of one another = do
  first ← string_of one
  second ← string_of another
  Some (first, second)
