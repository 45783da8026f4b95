-- Faults of the outside: a count that never falls, and rises exactly where a call fails.
use Rattle.std.specs.Prelude.{◌≡◌, ◌≤◌, ◌+◌, ◌-◌, ◌^◌, ℕ, min, Bool, true, false, Result, Option, Some, None}
use Rattle.std.specs.Result.{is_err}

-- the count rose, or stands at its last value
abbrev pub Rose : ℕ → ℕ → Type 0
Rose before now = (before ≤ now) × (min (before + 1) (2 ^ 64 - 1) ≤ now)

-- the count rose if there was a fault, and else it stayed
abbrev pub RoseIf : Bool → ℕ → ℕ → Type 0
RoseIf true before now = Rose before now
RoseIf false before now = now ≡ before

-- the count rose if the call failed, and else it stayed
abbrev pub HasCause : {T E : Type 0} → ℕ → ℕ → Result T E → Type 0
HasCause before now result = RoseIf (is_err result) before now

-- what is told before is told after, and then this holds of the two; where nothing is told, nothing is said
abbrev pub WhereTold : {A : Type 0} → Option A → Option A → (A → A → Type 0) → Type 0
WhereTold None None holds = Unit {0}
WhereTold (Some before) (Some after) holds = holds before after
WhereTold None (Some after) holds = ⊥
WhereTold (Some before) None holds = ⊥
