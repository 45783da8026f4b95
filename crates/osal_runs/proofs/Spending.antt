-- A script's next call spends of what its lines cost.
use Rattle.std.proofs.Common.{◌≡◌, ◌≤◌, ◌⊎◌, ◌+◌, ◌++◌, ℕ, true, false, List, [], ◌∷◌, length, inl, inr, refl, sym, ap, subst, ◌∙◌, arith}
use Rattle.std.proofs.lemmas.Bool.{cond_both, cond-true, cond-false, cases_Bool, false≢true}
use Rattle.osal_base.specs.declared.time.Moment.{Moment}
use Rattle.osal_base.specs.Limits.{version1}
use Rattle.osal_base.specs.Reply.{Replied, goes_on, deleted, is_waits}
use Rattle.osal_time.specs.Attachment.{AreAttached}
use Rattle.osal_call.specs.Call.{said}
use Rattle.osal_machine.specs.Step.{MachineState, step}
use Rattle.osal_call.specs.declared.call.Call.{Call}
use Rattle.osal_call.specs.declared.call.Call.TheVariants as call
use Rattle.osal_line.specs.declared.line.ScriptCall.{ScriptCall}
use Rattle.osal_line.specs.Bare.{is_tick_line}
use Rattle.osal_line.specs.Calls.{call_of}
use Rattle.osal_price.specs.Price.{Prices, line_cost}
use Rattle.osal_line.specs.Exit.{is_exit_line}
use Rattle.osal_script.specs.declared.phase.Phase.{Phase}
use Rattle.osal_script.specs.declared.phase.Phase.TheVariants as phase
use Rattle.osal_script.specs.App.{ScriptBody}
use Rattle.osal_script.specs.Cost.{tick_cost}
use Rattle.osal_script.specs.Script.{Pending, Frames, ScriptState, MayCome, frame_at, line_call, is_success, fired, after_answer, phase_after_line, phase_after_checkpoint, after_in}
use Rattle.osal_runs.specs.Linked.{IsLinkedAt, is_creation}
use Rattle.osal_laws.specs.ConsoleText.{written_by}
use Rattle.osal_runs.specs.Potential.{lines_cost, rest_cost, script_potential, drains_of}
use Rattle.osal_runs.proofs.Drains.{drains_in, drains_by, drains_most}
use Rattle.osal_runs.proofs.TaskCalls.{AreUnheld}
use Rattle.osal_runs.proofs.HandlerCosts.{IsFew, AreBare, lines_more, fired_none, fired_left}
use Rattle.osal_runs.proofs.Ticks.{few_told, tick_of, ticks_next, ticks_made, IsPaid, waits_plain}
use Rattle.osal_laws.proofs.DueCounts.{due_counts}
use Rattle.osal_runs.proofs.LineCalls.{wait_cost_of, Removes, IsLineCall, Goes, Waits, Exits, line_calls, checkpoint_calls}
use Rattle.osal_runs.proofs.Linking.{of_line}
use Rattle.osal_runs.proofs.ScriptCalls.{end_closes, abandon_closes, made_by_line, unsaid_checkpoint, unsaid_end, unsaid_abandon}
use Rattle.osal_runs.proofs.MadeByLines.{is_tick_call, line_made}

-- the cost of a call's wait is that of what it says
wait_said : (made : Call) → wait_cost_of (said made) ≡ wait_cost_of made
wait_said (call.TaskDelay ms) = refl
wait_said (call.BinSemTake id wait) = refl
wait_said _ = refl

-- the bytes that a call writes to the console are those of what it says
written_said : (made : Call) → written_by (said made) ≡ written_by made
written_said (call.ConsoleWrite payload) = refl
written_said _ = refl

drains_said : (made : Call) → drains_by (said made) ≡ drains_by made
drains_said made = ap (λ (bytes : List ℕ). drains_of (length bytes)) (written_said made)

-- a tick writes nothing
tick_undrained : (made : Call) → is_tick_call made ≡ true → drains_by made ≡ 0
tick_undrained (call.TimebaseTick id usecs) tick = omega arith
tick_undrained _ tick = absurd (false≢true tick)

-- a line costs its checkpoint, its call, its wait and its drains
line_pays : (prices : Prices) (line : ScriptCall) (registers : List ℕ) → wait_cost_of (call_of line registers) + drains_by (call_of line registers) + 2 ≤ line_cost prices line
line_pays prices line registers = let pays = (line_made prices line registers).pays in omega arith

module _ (prices : Prices) where
  -- what a script may still make
  abbrev pub left_in : ScriptState → ℕ
  left_in from = script_potential prices from.phase from.pending

  -- what is left behind a line that was answered, or behind the exit
  pub phase_left : (pending : List Pending) (line : ScriptCall) (reply : Replied) → script_potential prices (phase_after_line line reply.answer) pending ≤ lines_cost prices pending + 2
  phase_left pending line reply =
      cond_both (is_exit_line line) _ _ (λ (at : Phase). script_potential prices at pending ≤ lines_cost prices pending + 2)
      (λ t. cond_both (is_success reply.answer) _ _ (λ (at : Phase). script_potential prices at pending ≤ lines_cost prices pending + 2) (λ s. omega arith) (λ f. omega arith))
      (λ f. omega arith)

  -- a line costs its checkpoint, its call, its drains, and what it puts in
  drained_left : (bodies : List ScriptBody) (next : Pending) (registers : List ℕ) (reply : Replied) → AreBare bodies → tick_cost bodies ≤ prices.tick → (is_tick_line next.line.call ≡ true → IsFew reply.bytes) → lines_cost prices (fired bodies next reply) + drains_by (call_of next.line.call registers) + 2 ≤ line_cost prices next.line.call
  drained_left bodies next registers reply bare paid few =
      elim (cases_Bool (is_tick_line next.line.call)) [
        | inl tick ↦
            omega (arith, fired_left prices bodies next reply bare paid few, tick_undrained (call_of next.line.call registers) (tick_of next.line.call registers ∙ tick))
        | inr none ↦
            omega (arith, ap (lines_cost prices) (fired_none bodies next reply none), line_pays prices next.line.call registers)
      ]

  answered_left : (made : Call) (bodies : List ScriptBody) (pending : List Pending) (frames : Frames) (reply : Replied) → said made ≡ line_call pending frames → AreBare bodies → tick_cost bodies ≤ prices.tick → (ticks_next pending ≡ true → IsFew reply.bytes) → left_in (after_answer bodies pending frames reply) + drains_by made ≤ lines_cost prices pending
  answered_left made bodies [] frames reply is bare paid few =
      let none : drains_by made ≡ 0 = sym (drains_said made) ∙ ap drains_by is in omega arith
  answered_left made bodies (next ∷ pending) frames reply is bare paid few =
      let registers : List ℕ = frame_at frames next.frame in
      let same : drains_by made ≡ drains_by (call_of next.line.call registers) = sym (drains_said made) ∙ ap drains_by is in
      omega (arith, phase_left (fired bodies next reply ++ pending) next.line.call reply, lines_more prices (fired bodies next reply) pending, drained_left bodies next registers reply bare paid few)

  -- a line that is no tick leaves those behind it
  pub plain_left : (bodies : List ScriptBody) (next : Pending) (pending : List Pending) (frames : Frames) (reply : Replied) → is_tick_line next.line.call ≡ false → left_in (after_answer bodies (next ∷ pending) frames reply) ≤ lines_cost prices pending + 2
  plain_left bodies next pending frames reply none =
      subst (λ (lines : List Pending). script_potential prices (phase_after_line next.line.call reply.answer) (lines ++ pending) ≤ lines_cost prices pending + 2) (sym (fired_none bodies next reply none))
      (phase_left pending next.line.call reply)

  ended_left : (bodies : List ScriptBody) (pending : List Pending) (frames : Frames) (reply : Replied) → ticks_next pending ≡ false → left_in (after_answer bodies pending frames reply) ≤ rest_cost prices pending + 2
  ended_left bodies [] frames reply none = omega arith
  ended_left bodies (next ∷ pending) frames reply none = plain_left bodies next pending frames reply none

  -- a line that waits has paid for its wait and its drains
  waits_left : (made : Call) (pending : List Pending) (frames : Frames) → said made ≡ line_call pending frames → 1 ≤ wait_cost_of made → rest_cost prices pending + wait_cost_of made + drains_by made + 2 ≤ lines_cost prices pending
  waits_left made [] frames is some =
      let none : wait_cost_of made ≡ 0 = sym (wait_said made) ∙ ap wait_cost_of is in absurd (omega arith)
  waits_left made (next ∷ pending) frames is some =
      let same : wait_cost_of made ≡ wait_cost_of (call_of next.line.call (frame_at frames next.frame)) = sym (wait_said made) ∙ ap wait_cost_of is in
      let written : drains_by made ≡ drains_by (call_of next.line.call (frame_at frames next.frame)) = sym (drains_said made) ∙ ap drains_by is in
      omega (arith, line_pays prices next.line.call (frame_at frames next.frame))

  -- a call spends one at least of what its script may still make, of the deadlines behind a moment, and of the drains
  -- of what is pending on the console
  abbrev pub Spends : MachineState → MachineState → Moment → ScriptState → Phase → List Pending → Type 0
  Spends state left moment after at pending =
      left_in after + due_counts moment left + drains_in left + 1 ≤ script_potential prices at pending + due_counts moment state + drains_in state

  module _ (state : MachineState) (task : ℕ) (moment : Moment) where
    line_spends : (made : Call) (from : ScriptState) (stepped : Replied × MachineState) → said made ≡ line_call from.pending from.frames → IsPaid prices phase.At from → (is_tick_call made ≡ true → IsFew stepped.0.bytes) → drains_in stepped.1 ≤ drains_in state + drains_by made → IsLineCall state task made stepped → Spends state stepped.1 moment (after_in phase.At from made stepped.0) phase.At from.pending
    line_spends made from stepped is paid few drains calls = by_call calls
      where
        answered : left_in (after_answer from.bodies from.pending from.frames stepped.0) + drains_by made ≤ lines_cost prices from.pending
        answered =
            answered_left made from.bodies from.pending from.frames stepped.0 is paid.bare paid.tick (λ ticks. few (ticks_made made from.pending from.frames is ∙ ticks))

        by_call : IsLineCall state task made stepped → Spends state stepped.1 moment (after_in phase.At from made stepped.0) phase.At from.pending
        by_call (Goes plain) =
            subst (λ (after : ScriptState). Spends state stepped.1 moment after phase.At from.pending) (sym (cond-false (is_waits stepped.0.answer) _ _ plain.answered))
            (omega (arith, answered, plain.fewer moment, drains))
        by_call (Waits waited opens pays) =
            subst (λ (after : ScriptState). Spends state stepped.1 moment after phase.At from.pending) (sym (cond-true (is_waits stepped.0.answer) _ _ waited))
            (omega (arith, waits_left made from.pending from.frames is pays.some, pays.more moment, drains))
        by_call (Exits exits reply removes) =
            subst (λ (after : ScriptState). Spends state stepped.1 moment after phase.At from.pending) (sym (cond-false (is_waits stepped.0.answer) _ _ (ap (λ (r : Replied). is_waits r.answer) reply)))
            (omega (arith, answered, removes.fewer moment, drains))

    -- a checkpoint changes nothing, or removes its task
    abbrev IsPassed : Replied × MachineState → Type 0
    IsPassed stepped = (stepped ≡ (goes_on, state)) ⊎ ((stepped.0 ≡ deleted) × Removes state stepped.1 task)

    passed_spends : (from : ScriptState) (stepped : Replied × MachineState) → drains_in stepped.1 ≤ drains_in state → IsPassed stepped → Spends state stepped.1 moment (record from { phase = phase_after_checkpoint stepped.0.answer }) phase.Before from.pending
    passed_spends from stepped drains (inl same) =
        subst (λ (p : Replied × MachineState). Spends state p.1 moment (record from { phase = phase_after_checkpoint p.0.answer }) phase.Before from.pending) (sym same) (omega arith)
    passed_spends from stepped drains (inr gone) =
        subst (λ (r : Replied). Spends state stepped.1 moment (record from { phase = phase_after_checkpoint r.answer }) phase.Before from.pending) (sym gone.0)
        (omega (arith, gone.1.fewer moment, drains))

    passed_leaves : (part : ℕ) (from : ScriptState) (stepped : Replied × MachineState) → drains_in stepped.1 ≤ drains_in state → IsPassed stepped → Spends state stepped.1 moment (record from { phase = phase.Leaving part }) (phase.Waiting part) from.pending
    passed_leaves part from stepped drains (inl same) =
        subst (λ (p : Replied × MachineState). Spends state p.1 moment (record from { phase = phase.Leaving part }) (phase.Waiting part) from.pending) (sym same) (omega arith)
    passed_leaves part from stepped drains (inr gone) = omega (arith, gone.1.fewer moment, drains)

    -- a call that writes nothing adds no drains
    drains_kept : (now : Moment) (made : Call) → written_by made ≡ [] → drains_in (step state task now made).1 ≤ drains_in state
    drains_kept now made none =
        let nothing : drains_by made ≡ 0 = ap (λ (bytes : List ℕ). drains_of (length bytes)) none in
        omega (arith, drains_most state task now made)

    -- the next call of a script, where it creates no task
    pub spends_in : (unheld : AreUnheld state.tasks) (attached : AreAttached version1.timers state.time) (at : Phase) (from : ScriptState) (now : Moment) (made : Call) → is_creation made ≡ false → MayCome at from (said made) (step state task now made).0.answer → IsPaid prices at from → IsLinkedAt state task at → Spends state (step state task now made).1 moment (after_in at from made (step state task now made).0) at from.pending
    spends_in unheld attached phase.Before from now made plain may paid linked =
        subst (λ (c : Call). Spends state (step state task now c).1 moment (after_in phase.Before from c (step state task now c).0) phase.Before from.pending) (sym (unsaid_checkpoint made may.0))
        (passed_spends from (step state task now call.Checkpoint) (drains_kept now call.Checkpoint refl) (checkpoint_calls state task now (linked.live refl) unheld))
    spends_in unheld attached phase.At from now made plain may paid linked =
        line_spends made from (step state task now made) may paid (few_told state task now made attached) (drains_most state task now made) (line_calls state task now made (of_line made (made_by_line made from.pending from.frames may) plain))
    spends_in unheld attached (phase.Waiting part) from now made plain (inl ends) paid linked =
        subst (λ (c : Call). is_waits (step state task now c).0.answer ≡ false → Spends state (step state task now c).1 moment (after_in (phase.Waiting part) from c (step state task now c).0) (phase.Waiting part) from.pending) (sym (unsaid_end made part ends.0))
        (λ e. omega (arith, ended_left from.bodies from.pending from.frames (step state task now (call.WaitEnd part)).0 (waits_plain state task part from.pending from.frames paid.waits linked), (end_closes state task now part linked e).fewer moment, drains_kept now (call.WaitEnd part) refl)) ends.1
    spends_in unheld attached (phase.Waiting part) from now made plain (inr gone) paid linked =
        subst (λ (c : Call). Spends state (step state task now c).1 moment (after_in (phase.Waiting part) from c (step state task now c).0) (phase.Waiting part) from.pending) (sym (unsaid_checkpoint made gone.0))
        (passed_leaves part from (step state task now call.Checkpoint) (drains_kept now call.Checkpoint refl) (checkpoint_calls state task now (linked.live refl) unheld))
    spends_in unheld attached (phase.Leaving part) from now made plain may paid linked =
        subst (λ (c : Call). Spends state (step state task now c).1 moment (after_in (phase.Leaving part) from c (step state task now c).0) (phase.Leaving part) from.pending) (sym (unsaid_abandon made part may))
        (omega (arith, (abandon_closes state task now part linked).fewer moment, drains_kept now (call.WaitAbandon part) refl))
    spends_in unheld attached phase.Ended from now made plain may paid linked = absurd may
