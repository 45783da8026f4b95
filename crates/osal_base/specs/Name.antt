-- The names of objects: 1 to 19 bytes, none of them zero.
use Rattle.std.specs.Prelude.{◌≡◌, ◌≤◌, List, ℕ, Option, Some, None, Bool, false, length, nat_lt, ◌==◌, if◌then◌else◌}
use Rattle.std.specs.List.{list_any}
use Rattle.osal_base.specs.declared.name.NameFault.{NameFault}
use Rattle.osal_base.specs.declared.name.NameFault.TheVariants as fault

-- some byte is zero
abbrev pub has_zero : List ℕ → Bool
has_zero bytes = list_any (λ b. b == 0) bytes

-- these bytes are a name
pub record IsName (bytes : List ℕ) : Type 0 where
  pub some : 1 ≤ length bytes
  pub short : length bytes ≤ 19
  pub no_zero : has_zero bytes ≡ false

-- the first reason why bytes are no name
abbrev pub name_fault : List ℕ → Option NameFault
name_fault bytes =
    if length bytes == 0 then Some fault.Empty
    else (if nat_lt 19 (length bytes) then Some fault.TooLong
    else (if has_zero bytes then Some fault.HasZero
    else None))
