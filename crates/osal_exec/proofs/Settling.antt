-- Where no runner goes on no task can, and time goes on or the run is settled.
use Rattle.std.proofs.Common.{◌≡◌, ◌<◌, ◌≤◌, ◌+◌, ◌++◌, ◌&&◌, ◌||◌, ℕ, Bool, true, false, not, cond, List, [], ◌∷◌, Some, None, length, nat_lt, inl, inr, refl, sym, ap, subst, ◌∙◌, arith}
use Rattle.std.proofs.lemmas.Bool.{cases_Bool, eq-eqb, ltb-true, ltb-false, or_from, or_left, or_right}
use Rattle.std.proofs.lemmas.List.{length_push}
use Rattle.osal_base.specs.Reply.{Replied}
use Rattle.osal_task.specs.Tasks.{goes}
use Rattle.osal_call.specs.declared.call.Call.TheVariants as call
use Rattle.osal_call.specs.declared.call.Entry.{Entry}
use Rattle.osal_console.specs.Console.{is_pending}
use Rattle.osal_machine.specs.Step.{MachineState, step}
use Rattle.osal_script.specs.declared.phase.Phase.{Phase}
use Rattle.osal_script.specs.App.{Application}
use Rattle.osal_script.specs.Script.{ScriptState, is_ended}
use Rattle.osal_runs.specs.Segments.{Segment, script_in, is_of, has_segment, segments_of}
use Rattle.osal_runs.specs.Waiting.{waits_on, can_go, some_can_go, next_deadline}
use Rattle.osal_runs.specs.Linked.{no_script, newest_script}
use Rattle.osal_runs.specs.UnderWay.{IsUnderWay}
use Rattle.osal_runs.specs.Runs.{EndsBefore, IsRun}
use Rattle.osal_runs.proofs.UnderWay.{time_goes_on}
use Rattle.osal_exec.specs.Running.{runner_at, slot_of_task, can_run, is_lost, NoneRuns, NoneIsLost}
use Rattle.osal_exec.specs.Driving.{MakesEntry, IsPushed, AddsEntry, Drive, IsDriven, IsCalm, IsSteady, Since, IsStill, HasPlayed, HasTurned}
use Rattle.osal_exec.proofs.Allowed.{cannot_go}
use Rattle.osal_exec.proofs.Taking.{would, would_make}
use Rattle.osal_exec.proofs.Driven.{step_of, spare_for}
use Rattle.osal_exec.proofs.OwnCalls.{steady_by_machine}
use Rattle.osal_exec.proofs.Telling.{none_pending}

-- whether a task whose script is in a phase can go on
abbrev may_go : MachineState → ℕ → Phase → Bool
may_go state task at = not (is_ended at) && (not (waits_on state task) || not (goes state.tasks task))

-- a script at its end does not go on
ended_still : (state : MachineState) (task : ℕ) (at : Phase) → is_ended at ≡ true → may_go state task at ≡ false
ended_still state task at ends = ap (λ b. not b && (not (waits_on state task) || not (goes state.tasks task))) ends

-- no task can go on where no newest script can
still_all : (state : MachineState) (segments : List Segment) → EndsBefore segments → ((task : ℕ) → has_segment segments task ≡ true → may_go state task (newest_script segments task).phase ≡ false) → some_can_go state segments ≡ false
still_all state [] ends none = refl
still_all state (segment ∷ segments) ends none =
    or_from (can_go state segment) (some_can_go state segments)
    (elim (cases_Bool (has_segment segments segment.id)) [
      | inl later ↦ ended_still state segment.id (script_in segment).phase (ends.0 later)
      | inr last ↦
          let own : is_of segment.id segment ≡ true = eq-eqb segment.id segment.id refl in
          let newest : newest_script (segment ∷ segments) segment.id ≡ script_in segment = ap (λ b. cond b (newest_script segments segment.id) (cond (is_of segment.id segment) (script_in segment) no_script)) last ∙ ap (λ b. cond b (script_in segment) no_script) own in
          ap (λ (s : ScriptState). may_go state segment.id s.phase) (sym newest) ∙ none segment.id (or_left _ _ own)
    ])
    (still_all state segments ends.1 (λ task has. ap (λ b. may_go state task (cond b (newest_script segments task) (cond (is_of task segment) (script_in segment) no_script)).phase) (sym has) ∙ none task (or_right _ _ has)))

-- each slot's runner neither goes on at once nor waits though its task was deleted
abbrev pub AreStill : Drive → Type 0
AreStill drive =
    (slot : ℕ) → slot < 64 → (can_run drive.state (runner_at drive.runners slot) ≡ false) × (is_lost drive.state (runner_at drive.runners slot) ≡ false)

-- the journal never gets shorter
pub no_shorter : (old new : Drive) (P : Type 0) → Since old new P → length old.journal.entries ≤ length new.journal.entries
no_shorter old new P (inl grown) = omega arith
no_shorter old new P (inr none) =
    let same = ap (λ (d : Drive). length d.journal.entries) none.0 in omega arith

-- where the journal has not grown, all is as it was, and nothing was left to leave or to run
pub stays_still : (old mid new : Drive) → Since old mid (NoneIsLost old.state old.runners 64) → Since mid new (NoneRuns mid.state mid.runners 64) → length new.journal.entries ≤ length old.journal.entries → (new ≡ old) × AreStill new
stays_still old mid new (inl left) (inl ran) most = absurd (omega arith)
stays_still old mid new (inl left) (inr none) most =
    let same = ap (λ (d : Drive). length d.journal.entries) none.0 in absurd (omega arith)
stays_still old mid new (inr none) (inl ran) most =
    let same = ap (λ (d : Drive). length d.journal.entries) none.0 in absurd (omega arith)
stays_still old mid new (inr lost) (inr runs) most =
    (runs.0 ∙ lost.0, subst AreStill (sym runs.0) (λ slot within. (runs.1 slot within, subst (λ (d : Drive). is_lost d.state (runner_at d.runners slot) ≡ false) (sym lost.0) (lost.1 slot within))))

module _ (app : Application) (drive : Drive) (driven : IsDriven app drive) where
  -- the segments so far
  abbrev made_so_far : List Segment
  made_so_far = segments_of app drive.journal.entries

  -- no script goes on where no runner does
  still_script : AreStill drive → (task : ℕ) → may_go drive.state task (newest_script made_so_far task).phase ≡ false
  still_script still task =
      elim (cases_Bool (is_ended (newest_script made_so_far task).phase)) [
        | inl ends ↦ ended_still drive.state task (newest_script made_so_far task).phase ends
        | inr goes ↦
            let found = driven.running.all task goes in
            let none = still (slot_of_task task) (omega arith) in
            cannot_go drive.state task (newest_script made_so_far task).phase (ap (can_run drive.state) (sym found) ∙ none.0) (ap (is_lost drive.state) (sym found) ∙ none.1)
      ]

  -- no task can go on where no runner goes on
  pub nobody_goes : AreStill drive → some_can_go drive.state made_so_far ≡ false
  nobody_goes still =
      still_all drive.state made_so_far driven.way.part.follows.ended (λ task has. still_script still task)

  -- the run is settled where no wait becomes due either, and no byte is pending
  pub settles : IsStill app drive → is_pending drive.state.console ≡ false → IsRun app drive.journal.entries
  settles none drained = record {
    part = driven.way.part;
    begun = driven.way.begun;
    settled = record {
      still = ap (λ (s : MachineState). some_can_go s made_so_far) (sym driven.replayed) ∙ none.still;
      due = ap next_deadline (sym driven.replayed) ∙ none.due;
      drained = ap (λ (s : MachineState). s.console.pending) (sym driven.replayed) ∙ none_pending drive.state.console drained;
    };
  }

  module _ (still : AreStill drive) (to : ℕ) (due : next_deadline drive.state ≡ Some to) (left : MachineState) (entry : Entry) (makes : MakesEntry 0 0 (call.Advance to) drive.state left entry) where
    -- the run is under way with the entry
    way_later : IsUnderWay app (drive.journal.entries ++ entry ∷ [])
    way_later =
        time_goes_on app drive.journal.entries entry to driven.way
        (record {
          caller = makes.by_caller;
          task = makes.of_task;
          call = makes.of_call;
          now = makes.at_moment ∙ ap (λ (s : MachineState). s.time.moment) driven.replayed;
          still = ap (λ (s : MachineState). some_can_go s made_so_far) (sym driven.replayed) ∙ nobody_goes still;
          next = ap next_deadline (sym driven.replayed) ∙ due;
        })
        (makes.replied ∙ ap (λ (r : Replied × MachineState). r.0) (step_of app drive driven 0 0 (call.Advance to) left entry makes))

    -- there is room for it
    pub advance_spared : 0 < drive.journal.spare
    advance_spared = spare_for app drive driven entry way_later

    -- the driver is steady behind it
    pub advanced_on : IsCalm app drive.journal.entries → (new : Drive) → IsPushed drive.journal new.journal entry → new.state ≡ left → new.runners ≡ drive.runners → IsSteady app new
    advanced_on calm new pushed at runners =
        steady_by_machine app drive driven (call.Advance to) refl left entry makes way_later calm new pushed at runners

module _ (app : Application) (old mid new : Drive) (left : Since old mid (NoneIsLost old.state old.runners 64)) (ran : Since mid new (NoneRuns mid.state mid.runners 64)) (steady : IsSteady app new) (most : length new.journal.entries ≤ length old.journal.entries) where
  -- nothing was left to do in the round
  still : (new ≡ old) × AreStill new
  still = stays_still old mid new left ran most

  -- where no wait becomes due either, nothing is left to do there
  pub played_out : next_deadline new.state ≡ None → HasPlayed app old new false
  played_out none = (still.0, record { still = nobody_goes app new steady.driven still.1; due = none })

  module _ (to : ℕ) (due : next_deadline new.state ≡ Some to) where
    -- there is room for the entry that makes time go on
    pub played_spared : 0 < new.journal.spare
    played_spared =
        advance_spared app new steady.driven still.1 to due (step new.state 0 new.state.time.moment (call.Advance to)).1 (would 0 0 new.state (call.Advance to)) (would_make 0 0 new.state (call.Advance to))

    -- the driver has gone on by it
    pub played_later : (last : Drive) → AddsEntry 0 0 (call.Advance to) new.state last.state new.journal last.journal → last.runners ≡ new.runners → HasPlayed app old last true
    played_later last adds same =
        let first = no_shorter old mid (NoneIsLost old.state old.runners 64) left in
        let second = no_shorter mid new (NoneRuns mid.state mid.runners 64) ran in
        let more : length last.journal.entries ≡ length new.journal.entries + 1 = ap length adds.1.entries ∙ length_push new.journal.entries adds.0 in
        (advanced_on app new steady.driven still.1 to due last.state adds.0 adds.2 steady.calm last adds.1 refl same, omega arith)

module _ (app : Application) (old mid new : Drive) (drained : Since old mid (is_pending old.state.console ≡ false)) (steady : IsSteady app mid) where
  -- where nothing was played, the run is settled or bytes were drained
  turned_still : (grown : Bool) → HasPlayed app mid new false → grown ≡ nat_lt (length old.journal.entries) (length new.journal.entries) → Since old mid (is_pending old.state.console ≡ false) → HasTurned app old new grown
  turned_still true played test since =
      (subst (IsSteady app) (sym played.0) steady, ltb-true _ _ (sym test))
  turned_still false played test (inl more) =
      let same = ap (λ (d : Drive). length d.journal.entries) played.0 in
      let most = ltb-false _ _ (sym test) in
      absurd (omega arith)
  turned_still false played test (inr none) =
      settles app new (subst (IsDriven app) (sym played.0) steady.driven) played.1
      (ap (λ (d : Drive). is_pending d.state.console) (played.0 ∙ none.0) ∙ none.1)

  -- what a drain and a round leave
  pub turned : (more grown : Bool) → HasPlayed app mid new more → grown ≡ nat_lt (length old.journal.entries) (length new.journal.entries) → HasTurned app old new (more || grown)
  turned true grown played test =
      let first = no_shorter old mid (is_pending old.state.console ≡ false) drained in (played.0, omega arith)
  turned false grown played test = turned_still grown played test drained
