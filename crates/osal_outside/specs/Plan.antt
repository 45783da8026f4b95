-- Faults of the outside that happen on purpose, at the calls that a plan lists.
use Rattle.std.specs.Prelude.{ℕ, ◌+◌, ◌-◌, ◌^◌, min, Bool, ◌==◌, List}
use Rattle.std.specs.List.{list_any}

-- the numbers of the calls that fail, the calls so far, and the faults so far
pub record FaultPlan : Type 0 where
  pub fails : List ℕ
  pub calls : ℕ
  pub faults : ℕ

-- one more, or the same at the last value of a count
abbrev pub next_count : ℕ → ℕ
next_count n = min (n + 1) (2 ^ 64 - 1)

-- the next call is one that fails
abbrev pub is_due : FaultPlan → Bool
is_due plan = list_any (λ n. n == next_count plan.calls) plan.fails

-- the plan after a call that went well
abbrev pub counted : FaultPlan → FaultPlan
counted plan = record { fails = plan.fails; calls = next_count plan.calls; faults = plan.faults }

-- the plan after a call that failed
abbrev pub failed : FaultPlan → FaultPlan
failed plan = record { fails = plan.fails; calls = next_count plan.calls; faults = next_count plan.faults }

-- the plan at the start
abbrev pub planned : List ℕ → FaultPlan
planned fails = record { fails = fails; calls = 0; faults = 0 }
