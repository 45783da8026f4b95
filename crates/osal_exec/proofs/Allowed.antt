-- Which calls a script allows with the machine's answer.
use Rattle.std.proofs.Common.{◌≡◌, ◌||◌, ◌&&◌, ℕ, Bool, true, false, not, List, [], ◌∷◌, Option, Some, None, is_some, inl, inr, refl, sym, ap, subst, ◌∙◌}
use Rattle.std.proofs.lemmas.Bool.{cond_both, false≢true, true≢false, not-true, not-false}
use Rattle.osal_base.specs.declared.reply.Answer.{Answer}
use Rattle.osal_base.specs.declared.reply.Answer.TheVariants as answer
use Rattle.osal_base.specs.declared.time.Moment.{Moment}
use Rattle.osal_base.specs.Reply.{Replied, is_waits}
use Rattle.osal_idtable.specs.Table.{Active}
use Rattle.osal_object.specs.Outcomes.{Outcome, Go, Leave}
use Rattle.osal_object.proofs.WaitSteps.{end_waits}
use Rattle.osal_task.specs.declared.part.Task.{Task}
use Rattle.osal_task.specs.Tasks.{TaskState, task_at, done, goes, is_unmarked}
use Rattle.osal_call.specs.declared.call.Call.{Call}
use Rattle.osal_call.specs.declared.call.Call.TheVariants as call
use Rattle.osal_call.specs.Call.{said, part_of}
use Rattle.osal_machine.specs.Step.{MachineState, part_in, step, is_ready}
use Rattle.osal_machine.specs.OpenWaits.{has_wait}
use Rattle.osal_laws.proofs.CallWaits.{near_part, end_at}
use Rattle.osal_laws.proofs.DueCounts.{any_part}
use Rattle.osal_line.specs.Exit.{is_exit_line}
use Rattle.osal_script.specs.declared.phase.Phase.{Phase}
use Rattle.osal_script.specs.declared.phase.Phase.TheVariants as phase
use Rattle.osal_script.specs.Cursor.{call_in}
use Rattle.osal_script.specs.App.{ScriptBody}
use Rattle.osal_script.specs.Script.{Pending, Frames, ScriptState, is_checkpoint, is_success, phase_after_checkpoint, IsCheckpointAnswer, MayCome, after_in, after_answer, is_ended}
use Rattle.osal_runs.specs.Waiting.{waits_on_in, waits_on}
use Rattle.osal_runs.specs.Linked.{IsLinkedAt, is_live, is_leaving}
use Rattle.osal_runs.proofs.TaskCalls.{passed_by}
use Rattle.osal_runs.proofs.ScriptCalls.{unsaid_checkpoint, unsaid_end}
use Rattle.osal_exec.specs.Running.{can_run_in, is_lost_in}

-- the checkpoint of an active task goes on or tells that it was deleted
checkpoint_answers : (tasks : TaskState) (task : ℕ) (now : Moment) (o : Option (Active Task)) → is_some o ≡ true → IsCheckpointAnswer (passed_by tasks task now o).0.answer
checkpoint_answers tasks task now None active = absurd (false≢true active)
checkpoint_answers tasks task now (Some found) active =
    cond_both found.object.marked (Leave task) Go (λ (o : Outcome Task (Unit {0})). IsCheckpointAnswer (done tasks task now o).0.answer) (λ t. tt) (λ f. tt)

-- the checkpoint of an active task that was deleted tells so
checkpoint_tells : (tasks : TaskState) (task : ℕ) (now : Moment) (o : Option (Active Task)) → is_some o ≡ true → is_unmarked o ≡ false → (passed_by tasks task now o).0.answer ≡ answer.Deleted
checkpoint_tells tasks task now None active marked = absurd (false≢true active)
checkpoint_tells tasks task now (Some found) active marked =
    cond_both found.object.marked (Leave task) Go (λ (o : Outcome Task (Unit {0})). (done tasks task now o).0.answer ≡ answer.Deleted) (λ t. refl) (λ f. absurd (true≢false (sym (ap not f) ∙ marked)))

both_true : (a b : Bool) → a ≡ true → b ≡ true → (a && b) ≡ true
both_true true b p q = q
both_true false b p q = absurd (false≢true p)

-- the next call of a script that goes on at once may come
pub may_go_on : (state : MachineState) (task : ℕ) (script : ScriptState) (made : Call) (at : Phase) → IsLinkedAt state task at → can_run_in state task at ≡ true → call_in at script ≡ Some (said made) → MayCome at script (said made) (step state task state.time.moment made).0.answer
may_go_on state task script made phase.Before linked ready is =
    let same : said made ≡ call.Checkpoint = cc in (
      same,
      subst (λ (c : Call). IsCheckpointAnswer (step state task state.time.moment c).0.answer) (sym (unsaid_checkpoint made same)) (checkpoint_answers state.tasks task state.time.moment (task_at state.tasks task) (linked.live refl)),
    )
may_go_on state task script made phase.At linked ready is = cc
may_go_on state task script made (phase.Waiting part) linked ready is =
    let same : said made ≡ call.WaitEnd part = cc in
    inl (same, ap (λ (c : Call). is_waits (step state task state.time.moment c).0.answer) (unsaid_end made part same) ∙ not-true _ ready)
may_go_on state task script made (phase.Leaving part) linked ready is = cc
may_go_on state task script made phase.Ended linked ready is = absurd (false≢true ready)

-- the checkpoint of a task that waits, though it was deleted, may come
pub may_leave : (state : MachineState) (task : ℕ) (script : ScriptState) (part : ℕ) → IsLinkedAt state task (phase.Waiting part) → goes state.tasks task ≡ false → MayCome (phase.Waiting part) script call.Checkpoint (step state task state.time.moment call.Checkpoint).0.answer
may_leave state task script part linked lost =
    inr (refl, checkpoint_tells state.tasks task state.time.moment (task_at state.tasks task) (linked.live refl) lost)

-- a script that makes a call is not at its end
pub script_goes : (at : Phase) (script : ScriptState) (made : Call) (reply : Answer) → MayCome at script made reply → is_ended at ≡ false
script_goes phase.Before script made reply may = refl
script_goes phase.At script made reply may = refl
script_goes (phase.Waiting part) script made reply may = refl
script_goes (phase.Leaving part) script made reply may = refl
script_goes phase.Ended script made reply may = absurd may

-- a script that goes on and gives no wait up is of an active task
pub live_phase : (at : Phase) → is_ended at ≡ false → is_leaving at ≡ false → is_live at ≡ true
live_phase phase.Before goes calm = refl
live_phase phase.At goes calm = refl
live_phase (phase.Waiting part) goes calm = refl
live_phase (phase.Leaving part) goes calm = absurd (true≢false calm)
live_phase phase.Ended goes calm = absurd (true≢false goes)

module _ (state : MachineState) (task : ℕ) where
  -- a task whose wait is not ready waits on
  pub waits_where : (part : ℕ) → is_ready state task state.time.moment part ≡ false → waits_on state task ≡ true
  waits_where part is =
      let on : is_waits (step state task state.time.moment (call.WaitEnd part)).0.answer ≡ true = not-false _ is in
      let some : has_wait (part_in part state) task ≡ true = end_waits on (end_at state task state.time.moment part) in
      any_part (waits_on_in state task) part (near_part state task part some) (both_true _ _ some (ap (λ b. not (not b)) on))

  -- a task that neither runs at once nor waits though it was deleted cannot go on
  pub cannot_go : (at : Phase) → can_run_in state task at ≡ false → is_lost_in state task at ≡ false → (not (is_ended at) && (not (waits_on state task) || not (goes state.tasks task))) ≡ false
  cannot_go phase.Before still found = absurd (true≢false still)
  cannot_go phase.At still found = absurd (true≢false still)
  cannot_go (phase.Waiting part) still found =
      ap (λ b. not b || not (goes state.tasks task)) (waits_where part still) ∙ found
  cannot_go (phase.Leaving part) still found = absurd (true≢false still)
  cannot_go phase.Ended still found = refl

-- a line that was answered leads on, and never to a wait that is given up
answer_calm : (bodies : List ScriptBody) (pending : List Pending) (frames : Frames) (reply : Replied) → is_leaving (after_answer bodies pending frames reply).phase ≡ false
answer_calm bodies [] frames reply = refl
answer_calm bodies (next ∷ pending) frames reply =
    cond_both (is_exit_line next.line.call) _ _ (λ (p : Phase). is_leaving p ≡ false)
    (λ t. cond_both (is_success reply.answer) phase.Ended phase.Before (λ (p : Phase). is_leaving p ≡ false) (λ u. refl) (λ u. refl))
    (λ f. refl)

-- nor does a checkpoint before a line
checkpoint_calm : (reply : Answer) → is_leaving (phase_after_checkpoint reply) ≡ false
checkpoint_calm (answer.Code code) = refl
checkpoint_calm answer.Waits = refl
checkpoint_calm answer.Go = refl
checkpoint_calm answer.Deleted = refl

-- the next call of a script gives no wait up, where none is given up
pub stays_calm : (at : Phase) (script : ScriptState) (made : Call) (reply : Replied) → call_in at script ≡ Some (said made) → is_leaving (after_in at script made reply).phase ≡ false
stays_calm phase.Before script made reply is = checkpoint_calm reply.answer
stays_calm phase.At script made reply is =
    cond_both (is_waits reply.answer) (record script { phase = phase.Waiting (part_of made) }) (after_answer script.bodies script.pending script.frames reply) (λ (s : ScriptState). is_leaving s.phase ≡ false) (λ t. refl) (λ f. answer_calm script.bodies script.pending script.frames reply)
stays_calm (phase.Waiting part) script made reply is =
    let same : said made ≡ call.WaitEnd part = cc in
    let none : is_checkpoint made ≡ false = ap is_checkpoint (unsaid_end made part same) in
    cond_both (is_checkpoint made) (record script { phase = phase.Leaving part }) (after_answer script.bodies script.pending script.frames reply) (λ (s : ScriptState). is_leaving s.phase ≡ false) (λ t. absurd (false≢true (sym none ∙ t))) (λ f. answer_calm script.bodies script.pending script.frames reply)
stays_calm (phase.Leaving part) script made reply is = refl
stays_calm phase.Ended script made reply is = cc
