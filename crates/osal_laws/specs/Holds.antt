-- Whose holds an object has: those of accepted holds that no release has given back, and those of open waits.
use Rattle.std.specs.Prelude.{◌≡◌, ◌==◌, ◌&&◌, ◌+◌, ◌++◌, ℕ, List, [], ◌∷◌, Bool, true, false, if◌then◌else◌}
use Rattle.osal_base.specs.declared.limits.Limits.{Limits}
use Rattle.osal_base.specs.Limits.{Fits}
use Rattle.osal_base.specs.Reply.{is_success}
use Rattle.osal_object.specs.Waits.{waits_on}
use Rattle.osal_call.specs.declared.call.Call.{Call}
use Rattle.osal_call.specs.declared.call.Call.TheVariants as call
use Rattle.osal_call.specs.declared.call.Entry.{Entry}
use Rattle.osal_call.specs.Signature.{part_of_id}
use Rattle.osal_machine.specs.Parts.{PartState, on_objects}
use Rattle.osal_machine.specs.Step.{MachineState, part_in, is_active}
use Rattle.osal_machine.specs.History.{IsLegal, after_entry, replay}
use Rattle.osal_laws.specs.Laws.{MakesActive, holds_in}

-- whether a call is a hold of an identifier
abbrev pub is_hold_of : ℕ → Call → Bool
is_hold_of id (call.Hold other) = other == id
is_hold_of id other = false

-- whether a call is a release of an identifier
abbrev pub is_release_of : ℕ → Call → Bool
is_release_of id (call.Release other) = other == id
is_release_of id other = false

-- how many of some entries are of a call that passes a test, and succeeded
abbrev pub accepted : (Call → Bool) → List Entry → ℕ
accepted test [] = 0
accepted test (entry ∷ entries) =
    (if test entry.call && is_success entry.reply.answer then 1 else 0) + accepted test entries

-- how many open waits of a part stand on an object
abbrev pub waits_in : PartState → ℕ → ℕ
waits_in part id = on_objects (λ T W objects. waits_on objects.waits id) 0 part id

-- an identifier is active after each of some entries
abbrev pub StaysActive : MachineState → ℕ → List Entry → Type 0
StaysActive state id [] = Unit {0}
StaysActive state id (entry ∷ entries) =
    (is_active (after_entry state entry) id ≡ true) × StaysActive (after_entry state entry) id entries

-- since an identifier became active its holds, and as many more as were given back, are the accepted holds and the open
-- waits that stand on it
abbrev pub HoldsAreThoseMade : Type 0
HoldsAreThoseMade =
    (limits : Limits) (before : List Entry) (first : Entry) (after : List Entry) (id : ℕ)
    → Fits limits
    → IsLegal limits (before ++ first ∷ after)
    → MakesActive limits before first id
    → StaysActive (replay limits (before ++ first ∷ [])) id after
    → holds_in (part_in (part_of_id id) (replay limits (before ++ first ∷ after))) id + accepted (is_release_of id) after
    ≡ accepted (is_hold_of id) after + waits_in (part_in (part_of_id id) (replay limits (before ++ first ∷ after))) id
