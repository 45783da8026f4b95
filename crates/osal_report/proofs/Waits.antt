-- A wait is open at the end of a run where the script of some task stalls.
use Rattle.std.proofs.Common.{◌≡◌, ◌⊎◌, ◌==◌, ◌||◌, List, [], ◌∷◌, ℕ, Bool, true, false, cond, inl, inr, refl, sym, ap, ◌∙◌}
use Rattle.std.proofs.lemmas.Bool.{cases_Bool, eq-eqb}
use Rattle.std.specs.List.{list_any}
use Rattle.osal_machine.specs.Step.{MachineState, part_in}
use Rattle.osal_machine.specs.OpenWaits.{part_numbers, has_wait, has_waits}
use Rattle.osal_laws.proofs.CallWaits.{near_part}
use Rattle.osal_laws.proofs.DueCounts.{any_part}
use Rattle.osal_laws.proofs.OpenParts.{waits_there, has_there}
use Rattle.osal_script.specs.declared.phase.Phase.{Phase}
use Rattle.osal_script.specs.declared.phase.Phase.TheVariants as phase
use Rattle.osal_script.specs.App.{Application}
use Rattle.osal_script.specs.Script.{ScriptState, is_ended}
use Rattle.osal_runs.specs.Segments.{Segment, script_in, has_segment, is_of}
use Rattle.osal_runs.specs.Runs.{EndsBefore}
use Rattle.osal_runs.specs.Linked.{no_script, newest_script, waits_in, IsLinked}
use Rattle.osal_runs.proofs.Segments.{newest_none}
use Rattle.osal_report.specs.Report.{is_stalled}
use Rattle.osal_report.specs.Ends.{stalls, some_stalls}
use Rattle.osal_report.specs.Status.{has_open_waits}

or_true : (a b : Bool) → (a || b) ≡ true → (a ≡ true) ⊎ (b ≡ true)
or_true true b e = inl refl
or_true false b e = inr e

or_left : (a b : Bool) → a ≡ true → (a || b) ≡ true
or_left a b e = rw e refl

or_right : (a b : Bool) → b ≡ true → (a || b) ≡ true
or_right true b e = refl
or_right false b e = e

same_answer : (a b : Bool) → (a ≡ true → b ≡ true) → (b ≡ true → a ≡ true) → a ≡ b
same_answer true b there back = sym (there refl)
same_answer false true there back = back refl
same_answer false false there back = refl

-- a script that waits in a part stalls
stalls_waiting : (part : ℕ) (at : Phase) → waits_in part at ≡ true → is_stalled at ≡ true
stalls_waiting part (phase.Waiting other) e = refl
stalls_waiting part (phase.Leaving other) e = refl
stalls_waiting part phase.Before e = cc
stalls_waiting part phase.At e = cc
stalls_waiting part phase.Ended e = cc

-- one that stalls waits in a part
waits_stalled : (at : Phase) → is_stalled at ≡ true → (part : ℕ) × (waits_in part at ≡ true)
waits_stalled (phase.Waiting part) e = (part, eq-eqb part part refl)
waits_stalled (phase.Leaving part) e = (part, eq-eqb part part refl)
waits_stalled phase.Before e = absurd (cc)
waits_stalled phase.At e = absurd (cc)
waits_stalled phase.Ended e = absurd (cc)

not_both : (at : Phase) → is_ended at ≡ true → is_stalled at ≡ true → ⊥
not_both (phase.Waiting part) ended e = cc
not_both (phase.Leaving part) ended e = cc
not_both phase.Before ended e = cc
not_both phase.At ended e = cc
not_both phase.Ended ended e = cc

found_step : (segment : Segment) (segments : List Segment) (newest : ScriptState) (has own : Bool) → (is_stalled newest.phase ≡ true → some_stalls segments ≡ true) → is_stalled (cond has newest (cond own (script_in segment) no_script)).phase ≡ true → (stalls segment || some_stalls segments) ≡ true
found_step segment segments newest true own rest e = or_right (stalls segment) (some_stalls segments) (rest e)
found_step segment segments newest false true rest e = or_left (stalls segment) (some_stalls segments) e
found_step segment segments newest false false rest e = absurd (cc)

-- where the newest script of an identifier stalls, some segment's does
stalls_found : (segments : List Segment) (id : ℕ) → is_stalled (newest_script segments id).phase ≡ true → some_stalls segments ≡ true
stalls_found [] id e = cc
stalls_found (segment ∷ segments) id e =
    found_step segment segments (newest_script segments id) (has_segment segments id) (is_of id segment) (stalls_found segments id) e

own_newest : (segment : Segment) (segments : List Segment) → has_segment segments segment.id ≡ false → newest_script (segment ∷ segments) segment.id ≡ script_in segment
own_newest segment segments none =
    let own : (segment.id == segment.id) ≡ true = eq-eqb segment.id segment.id refl in rw (none, own) refl

other_newest : (segment : Segment) (segments : List Segment) (id : ℕ) → has_segment segments id ≡ true → newest_script (segment ∷ segments) id ≡ newest_script segments id
other_newest segment segments id has = rw has refl

-- a segment that stalls is the newest of its identifier, since any other has come to its end
newest_stalls : (segments : List Segment) → EndsBefore segments → some_stalls segments ≡ true → (id : ℕ) × (is_stalled (newest_script segments id).phase ≡ true)
newest_stalls [] ends e = absurd (cc)
newest_stalls (segment ∷ segments) ends e =
    elim (or_true (stalls segment) (some_stalls segments) e) [
      | inl own ↦
          elim (cases_Bool (has_segment segments segment.id)) [
            | inl has ↦ absurd (not_both (script_in segment).phase (ends.0 has) own)
            | inr none ↦ (segment.id, ap (λ (s : ScriptState). is_stalled s.phase) (own_newest segment segments none) ∙ own)
          ]
      | inr others ↦
          let found = newest_stalls segments ends.1 others in
          elim (cases_Bool (has_segment segments found.0)) [
            | inl has ↦ (found.0, ap (λ (s : ScriptState). is_stalled s.phase) (other_newest segment segments found.0 has) ∙ found.1)
            | inr none ↦
                let ended : is_stalled (newest_script segments found.0).phase ≡ false = ap (λ (s : ScriptState). is_stalled s.phase) (newest_none segments found.0 none) in
                absurd (let stalled = found.1 in cc)
          ]
    ]

-- where some number passes a test, one does
passes_there : (test : ℕ → Bool) (numbers : List ℕ) → list_any test numbers ≡ true → (n : ℕ) × (test n ≡ true)
passes_there test [] e = absurd (cc)
passes_there test (n ∷ numbers) e =
    elim (or_true (test n) (list_any test numbers) e) [ inl here ↦ (n, here) | inr there ↦ passes_there test numbers there ]

-- a wait is open exactly where a script stalls
pub open_where_stalls : (app : Application) (state : MachineState) (segments : List Segment) → IsLinked app state segments → EndsBefore segments → has_open_waits state ≡ some_stalls segments
open_where_stalls app state segments linked ends =
    same_answer (has_open_waits state) (some_stalls segments)
    (λ is_open.
    let part = passes_there (λ part. has_waits (part_in part state)) part_numbers is_open in
    let task = waits_there (part_in part.0 state) part.1 in
    stalls_found segments task.0 (stalls_waiting part.0 (newest_script segments task.0).phase (sym ((linked.each task.0).waits part.0) ∙ task.1)))
    (λ some.
    let found = newest_stalls segments ends some in
    let part = waits_stalled (newest_script segments found.0).phase found.1 in
    let waits : has_wait (part_in part.0 state) found.0 ≡ true = (linked.each found.0).waits part.0 ∙ part.1 in
    any_part (λ n. has_waits (part_in n state)) part.0 (near_part state found.0 part.0 waits) (has_there (part_in part.0 state) found.0 waits))
