-- The slots from a number on are empty: no task goes on in them, and none waits.
use Rattle.std.proofs.Common.{◌≡◌, ◌<◌, ◌≤◌, ℕ, Bool, false, List, Option, slice_index_or, inl, inr, sym, ap, ◌∙◌}
use Rattle.std.proofs.lemmas.Bool.{cases_lt}
use Rattle.osal_machine.specs.Step.{MachineState}
use Rattle.osal_exec.specs.Running.{Running, runner_at, EmptyFrom, can_run, is_lost, NoneRuns, NoneIsLost, AreMembers}
use Rattle.osal_exec.specs.Driving.{Drive, Since}

-- what is so of each slot below a number and of each from it on is so of each
everywhere : (P : ℕ → Type 0) (used slot : ℕ) → (slot < used → P slot) → (used ≤ slot → P slot) → P slot
everywhere P used slot below past =
    elim (cases_lt slot used) [
      | inl less ↦ below less
      | inr more ↦ past more
    ]

-- the members are known where those of the slots below are, and none has a slot from there on
pub members_all : (state : MachineState) (runners : List (Option Running)) (used : ℕ) → EmptyFrom runners used → (members : List Bool) → AreMembers state runners members used → ((slot : ℕ) → used ≤ slot → slot < 64 → slice_index_or members slot false ≡ false) → AreMembers state runners members 64
members_all state runners used rest members told others slot within =
    everywhere (λ at. slice_index_or members at false ≡ can_run state (runner_at runners at)) used slot (told slot)
    (λ past. others slot past within ∙ sym (ap (can_run state) (rest slot past)))

module _ (old new : Drive) (used : ℕ) (rest : EmptyFrom old.runners used) where
  -- where none goes on in the slots below, none does
  pub since_none_runs : Since old new (NoneRuns old.state old.runners used) → Since old new (NoneRuns old.state old.runners 64)
  since_none_runs (inl grown) = inl grown
  since_none_runs (inr none) =
      inr (none.0, λ slot within. everywhere (λ at. can_run old.state (runner_at old.runners at) ≡ false) used slot (none.1 slot) (λ past. ap (can_run old.state) (rest slot past)))

  -- where none waits in the slots below, none does
  pub since_none_is_lost : Since old new (NoneIsLost old.state old.runners used) → Since old new (NoneIsLost old.state old.runners 64)
  since_none_is_lost (inl grown) = inl grown
  since_none_is_lost (inr none) =
      inr (none.0, λ slot within. everywhere (λ at. is_lost old.state (runner_at old.runners at) ≡ false) used slot (none.1 slot) (λ past. ap (is_lost old.state) (rest slot past)))
