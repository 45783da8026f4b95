-- What holds of any open waits holds of those of each part.
use Rattle.std.proofs.Common.{ℕ, Bool, false, List, [], is_some}
use Rattle.osal_object.specs.Deadlines.{deadlines_in}
use Rattle.osal_object.specs.Waits.{WaitsState, wait_of, no_waits}
use Rattle.osal_object.proofs.OpenWaits.{WaitsSeen, seen_of}
use Rattle.osal_machine.specs.Parts.{PartState}
use Rattle.osal_laws.proofs.Places.{by_waits}
pub use Rattle.osal_laws.proofs.KnownParts.{seen_in}

-- what holds of the open waits of any part holds of those of each
pub of_each : (P : WaitsSeen → Type 0) → ((W : Type 0) (waits : WaitsState W) → P (seen_of waits)) → (part : PartState) → P (seen_in part)
of_each P all part =
    by_waits (λ look. P (record {
      waits = λ task. look Bool (λ W waits. is_some (wait_of waits task)) false;
      due = λ now. look (List ℕ) (λ W waits. deadlines_in now waits.records) [];
    }))
    all (all (Unit {0}) (no_waits 0)) part
