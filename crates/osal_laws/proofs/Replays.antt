-- Every history moves the objects of each part, and the laws of objects hold of it.
use Rattle.std.proofs.Common.{◌≡◌, ℕ, Bool, false, List, [], ◌∷◌, ◌++◌, refl, ap, sym, subst, ◌∙◌}
use Rattle.std.proofs.lemmas.Bool.{both_ways}
use Rattle.osal_idtable.specs.Table.{active_at}
use Rattle.osal_object.specs.Objects.{ObjectsState}
use Rattle.osal_object.proofs.Activity.{held_objects_stay}
use Rattle.osal_object.proofs.ActiveOnce.{not_active_again}
use Rattle.osal_call.specs.declared.call.Entry.{Entry}
use Rattle.osal_call.specs.Call.{part_of_id}
use Rattle.osal_machine.specs.Parts.{PartState, is_active_in}
use Rattle.osal_machine.specs.Step.{MachineState, opening, part_in}
use Rattle.osal_machine.specs.History.{after_entry, replay_from, replay}
use Rattle.osal_laws.specs.Laws.{HeldObjectsAreKept, WrapCountRises, holds_in, wraps_in}
use Rattle.osal_object.specs.ObjectLaws.{holds_of}
use Rattle.osal_laws.proofs.Histories.{replay_push, replay_split}
use Rattle.osal_object.proofs.Moves.{IsMove, AreMoves, none_moved, first_moved, is_there, gone_unheld, IsRise, Rises, active_again}
use Rattle.osal_laws.proofs.Places.{Place, by_place}

module _ {T W : Type 0} {of : MachineState → ObjectsState T W} (place : Place of) where
  -- an entry makes one move of the objects of a kind
  pub entry_moves : (state : MachineState) (entry : Entry) → IsMove (of state) (of (after_entry state entry))
  entry_moves state entry = place.moves state entry.task entry.now entry.call

  -- any entries make moves of them
  pub replay_moves : (entries : List Entry) (state : MachineState) → AreMoves (of state) (of (replay_from state entries))
  replay_moves [] state = none_moved (of state)
  replay_moves (entry ∷ entries) state =
      let next = after_entry state entry in
      first_moved (of state) (of next) (of (replay_from next entries)) (entry_moves state entry) (replay_moves entries next)

  -- the wrap count rises between two entries that make an identifier active
  rises_in : (id : ℕ) (old : MachineState) (first : Entry) (between : List Entry) (second : Entry) → let start = after_entry old first in let later = replay_from start between in Rises id (of old) (of start) (of later) (of (after_entry later second))
  rises_in id old first between second =
      let start = after_entry old first in
      let later = replay_from start between in
      active_again (not_active_again T W) id (of old) (of start) (of later) (of (after_entry later second)) (entry_moves old first) (replay_moves between start) (entry_moves later second)

kept_by_number : (state : MachineState) (entry : Entry) (id number : ℕ) → is_active_in (part_in number (after_entry state entry)) id ≡ false → holds_in (part_in number state) id ≡ 0
kept_by_number state entry id number =
    by_place (λ look. look Bool (λ T W objects. is_there objects id) false (after_entry state entry) ≡ false → look ℕ (λ T W objects. holds_of (active_at objects.table id)) 0 state ≡ 0)
    (λ T W of place. gone_unheld (held_objects_stay T W) (of state) (of (after_entry state entry)) id (entry_moves place state entry))
    (λ gone. refl) number id

-- what an entry removes has no holds
pub held_kept : HeldObjectsAreKept
held_kept limits before entry id there gone =
    kept_by_number (replay limits before) entry id (part_of_id id)
    (ap (λ s. is_active_in (part_in (part_of_id id) s) id) (sym (replay_push (opening limits) before entry)) ∙ gone)

-- the wrap count of an identifier's table in a part rises where it was not active, was, was not, and is active again
abbrev RisesIn : ℕ → PartState → PartState → PartState → PartState → Type 0
RisesIn id old start later new =
    IsRise (is_active_in old id) (is_active_in start id) (is_active_in later id) (is_active_in new id) (wraps_in start id) (wraps_in new id)

rises_by_number : (id : ℕ) (old : MachineState) (first : Entry) (between : List Entry) (second : Entry) (number : ℕ) → let start = after_entry old first in let later = replay_from start between in RisesIn id (part_in number old) (part_in number start) (part_in number later) (part_in number (after_entry later second))
rises_by_number id old first between second number =
    let start = after_entry old first in
    let later = replay_from start between in
    by_place (λ look.
    let there : MachineState → Bool = look Bool (λ T W objects. is_there objects id) false in
    let wraps : MachineState → ℕ = look ℕ (λ T W objects. objects.table.wraps) 0 in
    IsRise (there old) (there start) (there later) (there (after_entry later second)) (wraps start) (wraps (after_entry later second)))
    (λ T W of place. rises_in place id old first between second)
    (λ was is. absurd (both_ways false refl is)) number id

-- the wrap count rises between two entries that make an identifier active
pub wraps_rise : WrapCountRises
wraps_rise limits before first between second id one two =
    let part : MachineState → PartState = part_in (part_of_id id) in
    let old = replay limits before in
    let later = replay limits (before ++ first ∷ between) in
    let new = replay limits ((before ++ first ∷ between) ++ second ∷ []) in
    let at_start = replay_push (opening limits) before first in
    let at_later = replay_split (opening limits) before first between in
    let at_new = replay_push (opening limits) (before ++ first ∷ between) second in
    let of_states = rises_by_number id old first between second (part_of_id id) in
    let of_later = subst (λ s. RisesIn id (part old) (part (after_entry old first)) (part s) (part (after_entry s second))) (sym at_later) of_states in
    let of_new = subst (λ s. RisesIn id (part old) (part (after_entry old first)) (part later) (part s)) (sym at_new) of_later in
    subst (λ s. RisesIn id (part old) (part s) (part later) (part new)) (sym at_start) of_new one.was one.is two.was two.is
