-- What is known of each of two values that were read together.
use Rattle.std.proofs.Common.{◌≡◌, ℕ, Option, Some, None, option_and_then, ap}
use Rattle.std.proofs.lemmas.Option.{none-some, same_Some}
use Rattle.osal_line.specs.Registers.{Registers}

-- two values that are a pair
pub pair_parts : {A B : Type 0} (first : Option A) (second : Option B) (made : A × B) → option_and_then (λ a. option_and_then (λ b. Some (a, b)) second) first ≡ Some made → (first ≡ Some made.0) × (second ≡ Some made.1)
pair_parts None second made read = absurd (none-some made read)
pair_parts (Some a) None made read = absurd (none-some made read)
pair_parts (Some a) (Some b) made read =
    let same = same_Some (a, b) made read in (ap (λ m. Some m.0) same, ap (λ m. Some m.1) same)

-- a register and a value that stand before the registers
pub named_parts : {A : Type 0} (named : Option (ℕ × Registers)) (value : Option A) (made : (ℕ × A) × Registers) → option_and_then (λ r. option_and_then (λ a. Some ((r.0, a), r.1)) value) named ≡ Some made → (named ≡ Some (made.0.0, made.1)) × (value ≡ Some made.0.1)
named_parts None value made read = absurd (none-some made read)
named_parts (Some named) None made read = absurd (none-some made read)
named_parts (Some named) (Some a) made read =
    let same = same_Some ((named.0, a), named.1) made read in
    (ap (λ m. Some (m.0.0, m.1)) same, ap (λ m. Some m.0.1) same)
