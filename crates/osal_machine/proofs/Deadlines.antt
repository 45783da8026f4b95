-- The least deadline of the machine is the least of those of its parts.
use Rattle.std.proofs.Common.{◌≡◌, ℕ, List, [], ◌∷◌, Option, Some, None, refl, sym, ap, ◌∙◌}
use Rattle.osal_base.specs.declared.time.Moment.{Moment}
use Rattle.osal_object.specs.Deadlines.{least, sooner}
use Rattle.osal_object.proofs.Deadlines.{least_append}
use Rattle.osal_machine.specs.Step.{MachineState, part_in}
use Rattle.osal_machine.specs.OpenWaits.{part_numbers, deadlines_of}
use Rattle.osal_machine.specs.Deadlines.{deadlines_among, next_deadline}

-- what is found in each of some parts is the least of its deadlines
abbrev pub AreLeast : Moment → MachineState → List ℕ → List (Option ℕ) → Type 0
AreLeast now state [] [] = Unit {0}
AreLeast now state (part ∷ parts) (found ∷ others) =
    (found ≡ least (deadlines_of now (part_in part state))) × AreLeast now state parts others
AreLeast now state parts found = ⊥

-- what is found in a part, and what is found in the others
pub both : {A B : Type 0} → A → B → A × B
both here others = (here, others)

-- the least of what is found
abbrev pub soonest : List (Option ℕ) → Option ℕ
soonest [] = None
soonest (found ∷ others) = sooner found (soonest others)

-- what is found is not later than nothing
pub none_sooner : (found : Option ℕ) → sooner found None ≡ found
none_sooner None = refl
none_sooner (Some number) = refl

soonest_least : (now : Moment) (state : MachineState) (parts : List ℕ) (found : List (Option ℕ)) → AreLeast now state parts found → soonest found ≡ least (deadlines_among now state parts)
soonest_least now state [] [] are = refl
soonest_least now state (part ∷ parts) (found ∷ others) are =
    (λ i. sooner (are.0 i) (soonest_least now state parts others are.1 i))
    ∙ sym (least_append (deadlines_of now (part_in part state)) (deadlines_among now state parts))
soonest_least now state _ _ are = absurd are

-- what is found in the parts is what is found in the machine
pub next_of_parts : (state : MachineState) (now : Moment) (found : List (Option ℕ)) (all : Option ℕ) → all ≡ soonest found → now ≡ state.time.moment → AreLeast now state part_numbers found → all ≡ next_deadline state
next_of_parts state now found all is at are =
    is ∙ soonest_least now state part_numbers found are ∙ ap (λ m. least (deadlines_among m state part_numbers)) at
