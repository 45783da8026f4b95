-- What a script's next call leaves of the machine, phase by phase.
use Rattle.std.proofs.Common.{◌≡◌, ◌⊎◌, ◌==◌, ◌||◌, ◌&&◌, ℕ, Bool, true, false, not, List, [], ◌∷◌, inl, inr, refl, sym, ap, subst, ◌∙◌}
use Rattle.std.proofs.lemmas.Bool.{cond_both, cond-true, cond-false, false≢true, eq-eqb}
use Rattle.osal_base.specs.declared.reply.Answer.TheVariants as answer
use Rattle.osal_base.specs.declared.time.Moment.{Moment}
use Rattle.osal_base.specs.Reply.{Replied, success, goes_on, deleted, is_waits}
use Rattle.osal_object.proofs.OpenWaits.{IsClosed}
use Rattle.osal_object.proofs.WaitSteps as waiting
use Rattle.osal_call.specs.Call.{said, part_of, part_of_wait}
use Rattle.osal_machine.specs.Step.{MachineState, part_in, step}
use Rattle.osal_machine.specs.OpenWaits.{has_wait}
use Rattle.osal_call.specs.declared.call.Call.{Call}
use Rattle.osal_call.specs.declared.call.Call.TheVariants as call
use Rattle.osal_laws.proofs.CallWaits.{near_part, end_at, abandon_at, others_kept}
use Rattle.osal_laws.proofs.PartWaits.{seen_in}
use Rattle.osal_laws.proofs.TasksAlike.{moves_tasks}
use Rattle.osal_laws.proofs.TasksKept.{active_kept}
use Rattle.osal_line.specs.declared.line.ScriptCall.{ScriptCall}
use Rattle.osal_line.specs.Calls.{call_of}
use Rattle.osal_line.specs.Exit.{is_exit_line}
use Rattle.osal_script.specs.declared.phase.Phase.{Phase}
use Rattle.osal_script.specs.declared.phase.Phase.TheVariants as phase
use Rattle.osal_script.specs.App.{ScriptBody}
use Rattle.osal_script.specs.Cost.{no_prices}
use Rattle.osal_script.specs.Script.{Pending, Frames, ScriptState, line_call, is_success, after_answer, phase_after_checkpoint, after_in}
use Rattle.osal_runs.specs.Linked.{IsLinkedAt, waits_in}
use Rattle.osal_runs.proofs.TaskCalls.{AreUnheld}
pub use Rattle.osal_runs.proofs.MadeByLines.{is_of_line}
use Rattle.osal_runs.proofs.MadeByLines.{line_made}
use Rattle.osal_runs.proofs.LineCalls.{Agrees, IsPlain, Moves, Removes, Opens, Closes, kept_same, kept_by, closes_part, checkpoint_calls, is_exit, IsOfLine, IsLineCall, Goes, Waits, Exits, line_calls}

line_said : (made : Call) → is_of_line (said made) ≡ is_of_line made
line_said call.Checkpoint = refl
line_said _ = refl

line_next : (pending : List Pending) (frames : Frames) → is_of_line (line_call pending frames) ≡ true
line_next [] frames = refl
line_next (next ∷ pending) frames = (line_made no_prices next.line.call _).line

-- what is a line's call is made by a line
pub made_by_line : (made : Call) (pending : List Pending) (frames : Frames) → said made ≡ line_call pending frames → is_of_line made ≡ true
made_by_line made pending frames is = sym (line_said made) ∙ ap is_of_line is ∙ line_next pending frames

exit_said : (made : Call) → is_exit (said made) ≡ is_exit made
exit_said call.TaskExit = refl
exit_said _ = refl

exit_of : (line : ScriptCall) (registers : List ℕ) → is_exit (call_of line registers) ≡ is_exit_line line
exit_of line registers = (line_made no_prices line registers).exit

-- what says a checkpoint is one
pub unsaid_checkpoint : (made : Call) → said made ≡ call.Checkpoint → made ≡ call.Checkpoint
unsaid_checkpoint call.Checkpoint is = refl
unsaid_checkpoint _ is = absurd (cc)

-- what says the end of a wait is one
pub unsaid_end : (made : Call) (part : ℕ) → said made ≡ call.WaitEnd part → made ≡ call.WaitEnd part
unsaid_end (call.WaitEnd other) part is = is
unsaid_end _ part is = absurd (cc)

-- what says that a wait is given up does so
pub unsaid_abandon : (made : Call) (part : ℕ) → said made ≡ call.WaitAbandon part → made ≡ call.WaitAbandon part
unsaid_abandon (call.WaitAbandon other) part is = is
unsaid_abandon _ part is = absurd (cc)

-- a line that was answered is followed by a checkpoint or by nothing
pub answered_in : (P : Phase → Type 0) (bodies : List ScriptBody) (pending : List Pending) (frames : Frames) (reply : Replied) → P phase.Before → P phase.Ended → P (after_answer bodies pending frames reply).phase
answered_in P bodies [] frames reply before ended = ended
answered_in P bodies (next ∷ pending) frames reply before ended =
    cond_both (is_exit_line next.line.call) _ _ P
    (λ t. cond_both (is_success reply.answer) _ _ P (λ s. ended) (λ f. before)) (λ f. before)

both_off : (b : Bool) → (b && not b) ≡ false
both_off true = refl
both_off false = refl

module _ (state left : MachineState) (task : ℕ) where
  -- a task without open waits has done a line, or has come to its script's end
  pub still_before : Agrees state left task → IsLinkedAt state task phase.At → IsLinkedAt left task phase.Before
  still_before agrees at = record {
    waits = λ part. agrees.waits part ∙ at.waits part;
    live = λ e. agrees.active ∙ at.live refl;
    gone = λ e. absurd (false≢true e);
  }

  -- the same at the script's end
  pub still_ended : Agrees state left task → IsLinkedAt state task phase.At → IsLinkedAt left task phase.Ended
  still_ended agrees at = record {
    waits = λ part. agrees.waits part ∙ at.waits part;
    live = λ e. absurd (false≢true e);
    gone = λ e. absurd (false≢true e);
  }

  -- a task without open waits is removed
  removed_ended : (at : Phase) → ((part : ℕ) → waits_in part at ≡ false) → Removes state left task → IsLinkedAt state task at → Moves state left task phase.Ended
  removed_ended at none is linked = record {
    own = record {
      waits = λ part. is.waits part ∙ linked.waits part ∙ none part;
      live = λ e. absurd (false≢true e);
      gone = λ e. absurd (false≢true e);
    };
    others = is.others;
    kept = is.kept;
  }

  -- a task that waits is removed
  removed_leaving : (part : ℕ) → Removes state left task → IsLinkedAt state task (phase.Waiting part) → Moves state left task (phase.Leaving part)
  removed_leaving part is linked = record {
    own = record {
      waits = λ other. is.waits other ∙ linked.waits other;
      live = λ e. absurd (false≢true e);
      gone = λ e. is.gone;
    };
    others = is.others;
    kept = is.kept;
  }

  -- a task that had no wait waits
  opened_waiting : (part : ℕ) → Opens state left task part → IsLinkedAt state task phase.At → Moves state left task (phase.Waiting part)
  opened_waiting part is linked = record {
    own = record {
      waits = λ other. is.waits other ∙ ap (λ b. b || (part == other)) (linked.waits other);
      live = λ e. is.active ∙ linked.live refl;
      gone = λ e. absurd (false≢true e);
    };
    others = is.others;
    kept = is.kept;
  }

  -- a task that waited in a part has no wait any more
  closed_waits : (at : Phase) (part : ℕ) → ((other : ℕ) → waits_in other at ≡ (part == other)) → Closes state left task part → IsLinkedAt state task at → (other : ℕ) → has_wait (part_in other left) task ≡ false
  closed_waits at part there is linked other =
      is.waits other ∙ ap (λ b. b && not (part == other)) (linked.waits other ∙ there other) ∙ both_off (part == other)

  closed_at : (at : Phase) (part : ℕ) → ((other : ℕ) → waits_in other at ≡ (part == other)) → Closes state left task part → IsLinkedAt state task at → IsLinkedAt left task phase.Ended
  closed_at at part there is linked = record {
    waits = closed_waits at part there is linked;
    live = λ e. absurd (false≢true e);
    gone = λ e. absurd (false≢true e);
  }

  closed_before : (part : ℕ) → Closes state left task part → IsLinkedAt state task (phase.Waiting part) → IsLinkedAt left task phase.Before
  closed_before part is linked = record {
    waits = closed_waits (phase.Waiting part) part (λ other. refl) is linked;
    live = λ e. is.active ∙ linked.live refl;
    gone = λ e. absurd (false≢true e);
  }

  -- a line that waited is done
  pub closed_done : (part : ℕ) (from : ScriptState) (reply : Replied) → Closes state left task part → IsLinkedAt state task (phase.Waiting part) → Moves state left task (after_answer from.bodies from.pending from.frames reply).phase
  closed_done part from reply is linked = record {
    own = answered_in (IsLinkedAt left task) from.bodies from.pending from.frames reply (closed_before part is linked) (closed_at (phase.Waiting part) part (λ other. refl) is linked);
    others = is.others;
    kept = is.kept;
  }

  -- a wait that was given up
  pub closed_left : (part : ℕ) → Closes state left task part → IsLinkedAt state task (phase.Leaving part) → Moves state left task phase.Ended
  closed_left part is linked = record { own = closed_at (phase.Leaving part) part (λ other. refl) is linked; others = is.others; kept = is.kept }

-- an answer that goes on tells of no deletion
goes_on_undeleted : answer.Go ≡ answer.Deleted → ⊥
goes_on_undeleted is = cc

module _ (state : MachineState) (task : ℕ) where
  -- nothing moves but the script
  unmoved : (left : Phase) → IsLinkedAt state task left → Moves state state task left
  unmoved left own = record {
    own = own;
    others = λ other ne. record { waits = λ part. refl; active = refl };
    kept = kept_same state;
  }

  -- a checkpoint changes nothing, or removes its task
  abbrev IsPassed : Replied × MachineState → Type 0
  IsPassed stepped = (stepped ≡ (goes_on, state)) ⊎ ((stepped.0 ≡ deleted) × Removes state stepped.1 task)

  passed_before : (stepped : Replied × MachineState) → IsPassed stepped → IsLinkedAt state task phase.Before → Moves state stepped.1 task (phase_after_checkpoint stepped.0.answer)
  passed_before stepped (inl same) linked =
      subst (λ (p : Replied × MachineState). Moves state p.1 task (phase_after_checkpoint p.0.answer)) (sym same)
      (unmoved phase.At (record { waits = linked.waits; live = linked.live; gone = linked.gone }))
  passed_before stepped (inr gone) linked =
      subst (λ (reply : Replied). Moves state stepped.1 task (phase_after_checkpoint reply.answer)) (sym gone.0)
      (removed_ended state stepped.1 task phase.Before (λ part. refl) gone.1 linked)

  passed_waiting : (part : ℕ) (stepped : Replied × MachineState) → IsPassed stepped → stepped.0.answer ≡ answer.Deleted → IsLinkedAt state task (phase.Waiting part) → Moves state stepped.1 task (phase.Leaving part)
  passed_waiting part stepped (inl same) is linked =
      absurd (goes_on_undeleted (sym (ap (λ (p : Replied × MachineState). p.0.answer) same) ∙ is))
  passed_waiting part stepped (inr gone) is linked = removed_leaving state stepped.1 task part gone.1 linked

  module _ (unheld : AreUnheld state.tasks) (now : Moment) where
    -- a checkpoint before a line or the exit
    pub moves_before : IsLinkedAt state task phase.Before → Moves state (step state task now call.Checkpoint).1 task (phase_after_checkpoint (step state task now call.Checkpoint).0.answer)
    moves_before linked = passed_before (step state task now call.Checkpoint) (checkpoint_calls state task now (linked.live refl) unheld) linked

    -- a checkpoint in a wait tells that the task was deleted
    pub moves_deleted : (part : ℕ) → (step state task now call.Checkpoint).0.answer ≡ answer.Deleted → IsLinkedAt state task (phase.Waiting part) → Moves state (step state task now call.Checkpoint).1 task (phase.Leaving part)
    moves_deleted part is linked =
        passed_waiting part (step state task now call.Checkpoint) (checkpoint_calls state task now (linked.live refl) unheld) is linked

module _ (state : MachineState) (task : ℕ) (now : Moment) where
  -- a call that ends a wait in a part closes it
  closes_by : (made : Call) (part : ℕ) → moves_tasks made ≡ false → part_of made ≡ part_of_wait part → has_wait (part_in part state) task ≡ true → IsClosed (seen_in (part_in part state)) (seen_in (part_in part (step state task now made).1)) task → Closes state (step state task now made).1 task part
  closes_by made part still own some closed =
      closes_part state (step state task now made).1 (kept_by state task now made) task part
      (others_kept state task now made part (near_part state task part some) own)
      (active_kept state task now made still) closed

  -- an end of a wait that does not wait on
  pub end_closes : (part : ℕ) → IsLinkedAt state task (phase.Waiting part) → is_waits (step state task now (call.WaitEnd part)).0.answer ≡ false → Closes state (step state task now (call.WaitEnd part)).1 task part
  end_closes part linked ends =
      let some : has_wait (part_in part state) task ≡ true = linked.waits part ∙ eq-eqb part part refl in
      closes_by (call.WaitEnd part) part refl refl some (waiting.end_closes some ends (end_at state task now part))

  -- a wait that is given up
  pub abandon_closes : (part : ℕ) → IsLinkedAt state task (phase.Leaving part) → Closes state (step state task now (call.WaitAbandon part)).1 task part
  abandon_closes part linked =
      let some : has_wait (part_in part state) task ≡ true = linked.waits part ∙ eq-eqb part part refl in
      closes_by (call.WaitAbandon part) part refl refl some (abandon_at state task now part some)

  -- a wait ends
  pub moves_end : (part : ℕ) (from : ScriptState) (reply : Replied) → IsLinkedAt state task (phase.Waiting part) → is_waits (step state task now (call.WaitEnd part)).0.answer ≡ false → Moves state (step state task now (call.WaitEnd part)).1 task (after_answer from.bodies from.pending from.frames reply).phase
  moves_end part from reply linked ends =
      closed_done state _ task part from reply (end_closes part linked ends) linked

  -- a wait is given up
  pub moves_abandon : (part : ℕ) → IsLinkedAt state task (phase.Leaving part) → Moves state (step state task now (call.WaitAbandon part)).1 task phase.Ended
  moves_abandon part linked = closed_left state _ task part (abandon_closes part linked) linked

-- an exit that succeeds is followed by nothing
exit_ends : (made : Call) (bodies : List ScriptBody) (pending : List Pending) (frames : Frames) (reply : Replied) → said made ≡ line_call pending frames → is_exit made ≡ true → reply ≡ success → (after_answer bodies pending frames reply).phase ≡ phase.Ended
exit_ends made bodies [] frames reply is exits done = refl
exit_ends made bodies (next ∷ pending) frames reply is exits done =
    cond-true (is_exit_line next.line.call) _ _ (sym (exit_of next.line.call _) ∙ ap is_exit (sym is) ∙ exit_said made ∙ exits)
    ∙ cond-true (is_success reply.answer) _ _ (ap (λ (r : Replied). is_success r.answer) done)

module _ (state : MachineState) (task : ℕ) (made : Call) (from : ScriptState) (is : said made ≡ line_call from.pending from.frames) (linked : IsLinkedAt state task phase.At) where
  -- a line or the exit that has an answer
  pub answered_at : (stepped : Replied × MachineState) → IsPlain state stepped → IsLinkedAt stepped.1 task (after_in phase.At from made stepped.0).phase
  answered_at stepped plain =
      let done : after_in phase.At from made stepped.0 ≡ after_answer from.bodies from.pending from.frames stepped.0 = cond-false (is_waits stepped.0.answer) _ _ plain.answered in
      subst (λ (script : ScriptState). IsLinkedAt stepped.1 task script.phase) (sym done)
      (answered_in (IsLinkedAt stepped.1 task) from.bodies from.pending from.frames stepped.0 (still_before state stepped.1 task (plain.agrees task) linked) (still_ended state stepped.1 task (plain.agrees task) linked))

  line_moves : (stepped : Replied × MachineState) → IsLineCall state task made stepped → Moves state stepped.1 task (after_in phase.At from made stepped.0).phase
  line_moves stepped (Goes plain) = record { own = answered_at stepped plain; others = λ other ne. plain.agrees other; kept = plain.kept }
  line_moves stepped (Waits answered opens pays) =
      let waiting : after_in phase.At from made stepped.0 ≡ record from { phase = phase.Waiting (part_of made) } = cond-true (is_waits stepped.0.answer) _ _ answered in
      subst (λ (script : ScriptState). Moves state stepped.1 task script.phase) (sym waiting) (opened_waiting state stepped.1 task (part_of made) opens linked)
  line_moves stepped (Exits exits reply removes) =
      let done : after_in phase.At from made stepped.0 ≡ after_answer from.bodies from.pending from.frames stepped.0 = cond-false (is_waits stepped.0.answer) _ _ (ap (λ (r : Replied). is_waits r.answer) reply) in
      let ended : (after_in phase.At from made stepped.0).phase ≡ phase.Ended = ap (λ (script : ScriptState). script.phase) done ∙ exit_ends made from.bodies from.pending from.frames stepped.0 is exits reply in
      subst (λ (at : Phase). Moves state stepped.1 task at) (sym ended) (removed_ended state stepped.1 task phase.At (λ part. refl) removes linked)

  -- a line or the exit
  pub moves_at : (now : Moment) → IsOfLine made → Moves state (step state task now made).1 task (after_in phase.At from made (step state task now made).0).phase
  moves_at now of_line = line_moves (step state task now made) (line_calls state task now made of_line)
