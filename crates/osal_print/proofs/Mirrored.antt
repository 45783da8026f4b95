-- The registers of a body under their printed names.
use Rattle.std.proofs.Common.{ℕ, zero, suc, List, [], ◌∷◌, ◌++◌, length}
use Rattle.osal_line.specs.Registers.{Registers}
use Rattle.osal_print.specs.Shortest.{register_name}

-- the printed names of the first registers
abbrev pub printed_names : ℕ → List (List ℕ)
printed_names zero = []
printed_names (suc n) = printed_names n ++ register_name n ∷ []

-- the registers of a body under their printed names
abbrev pub mirrored : Registers → Registers
mirrored registers = record registers { names = printed_names (length registers.names) }
