-- What a driver may call next, and that no wait is left half given up.
use Rattle.std.proofs.Common.{◌≡◌, ◌<◌, ◌+◌, ℕ, true, false, Option, Some, None, length, refl, sym, ap, subst, ◌∙◌, arith}
use Rattle.std.proofs.lemmas.Bool.{false≢true}
use Rattle.std.proofs.lemmas.List.{length_push, get_or-set_same}
use Rattle.osal_base.specs.Reply.{reply_of}
use Rattle.osal_call.specs.declared.call.Call.{Call}
use Rattle.osal_call.specs.declared.call.Call.TheVariants as call
use Rattle.osal_call.specs.declared.call.Entry.{Entry}
use Rattle.osal_call.specs.Call.{said}
use Rattle.osal_machine.specs.Step.{step}
use Rattle.osal_script.specs.declared.phase.Phase.{Phase}
use Rattle.osal_script.specs.declared.phase.Phase.TheVariants as phase
use Rattle.osal_script.specs.App.{Application}
use Rattle.osal_script.specs.Cursor.{next_call}
use Rattle.osal_script.specs.Script.{ScriptState, MayCome, after_in, after_entry}
use Rattle.osal_runs.specs.Linked.{IsLinkedAt, is_creation, is_leaving}
use Rattle.osal_exec.specs.Running.{Running, runner_at, gone_on, with_entry, with_begun, can_run, IsLostIn, MayMake}
use Rattle.osal_exec.specs.Driving.{Drive, IsDriven, IsSteady, MayCreate, Takes}
use Rattle.osal_exec.proofs.Kept.{within}
use Rattle.osal_exec.proofs.Allowed.{may_go_on, may_leave, stays_calm}
use Rattle.osal_runs.proofs.Linking.{begins_none}
use Rattle.osal_exec.proofs.Driven.{linked, calm_taken, calm_others}
use Rattle.osal_exec.proofs.Taking.{driven_on}

module _ (app : Application) (drive : Drive) (driven : IsDriven app drive) (slot : ℕ) where
  -- the machine has of a runner's task what its script's phase says
  linked_to : (runner : Running) → runner_at drive.runners slot ≡ Some runner → IsLinkedAt drive.state runner.id runner.script.phase
  linked_to runner is =
      subst (λ (s : ScriptState). IsLinkedAt drive.state runner.id s.phase) (sym (driven.running.known slot runner is).0) ((linked app drive driven).each runner.id)

  -- the next call of a task that goes on at once may be made
  pub may_step : (runner : Running) (made : Call) → runner_at drive.runners slot ≡ Some runner → can_run drive.state (runner_at drive.runners slot) ≡ true → next_call runner.script ≡ Some (said made) → MayMake drive.state (runner_at drive.runners slot) made
  may_step runner made is ready next =
      subst (λ (o : Option Running). MayMake drive.state o made) (sym is)
      (may_go_on drive.state runner.id runner.script made runner.script.phase (linked_to runner is) (ap (can_run drive.state) (sym is) ∙ ready) next)

  -- the checkpoint of a task that waits, though it was deleted, may be made
  may_leave_in : (o : Option Running) (part : ℕ) → runner_at drive.runners slot ≡ o → IsLostIn drive.state o part → MayMake drive.state o call.Checkpoint
  may_leave_in None part is lost = absurd lost
  may_leave_in (Some runner) part is lost =
      subst (λ (at : Phase). MayCome at runner.script call.Checkpoint (step drive.state runner.id drive.state.time.moment call.Checkpoint).0.answer) (sym lost.0)
      (may_leave drive.state runner.id runner.script part (subst (IsLinkedAt drive.state runner.id) lost.0 (linked_to runner is)) lost.1)

  pub may_tell : (part : ℕ) → IsLostIn drive.state (runner_at drive.runners slot) part → MayMake drive.state (runner_at drive.runners slot) call.Checkpoint
  may_tell part lost = may_leave_in (runner_at drive.runners slot) part refl lost

-- an entry more
pub grows : (app : Application) (slot : ℕ) (made : Call) (old new : Drive) → Takes app slot made old new → length old.journal.entries < length new.journal.entries
grows app slot made old new takes =
    let more : length new.journal.entries ≡ length old.journal.entries + 1 = ap length takes.pushed.entries ∙ length_push old.journal.entries takes.entry in
    omega arith

module _ (app : Application) (old : Drive) (steady : IsSteady app old) (slot : ℕ) (runner : Running) (is : runner_at old.runners slot ≡ Some runner) (made : Call) (next : next_call runner.script ≡ Some (said made)) (may : MayMake old.state (runner_at old.runners slot) made) where
  -- a driver is between its tasks' calls behind the next call of a script
  pub steady_on : (new : Drive) → Takes app slot made old new → IsSteady app new
  steady_on new takes =
      let creates : MayCreate app old.journal.entries made = λ creation. steady.calm in
      let one : Some runner ≡ Some takes.runner = sym is ∙ takes.own in
      let same : runner ≡ takes.runner = cc in
      let follows : next_call takes.runner.script ≡ Some (said takes.entry.call) = ap (λ (r : Running). next_call r.script) (sym same) ∙ next ∙ ap (λ (c : Call). Some (said c)) (sym takes.makes.of_call) in
      record {
        driven = driven_on app old steady.driven slot made may creates new takes;
        calm = calm_taken app old steady.driven slot takes.runner takes.own made (subst (λ (o : Option Running). MayMake old.state o made) takes.own may) new.state takes.entry takes.makes creates new.journal takes.pushed (stays_calm takes.runner.script.phase takes.runner.script takes.entry.call (reply_of takes.entry.reply) follows) (λ task ne. steady.calm task);
      }

-- neither a checkpoint nor the end of a wait creates a task
none_made : {P : Type 0} → false ≡ true → P
none_made e = absurd (false≢true e)

-- the runner of a task behind an entry
abbrev behind : Running → Entry → Running
behind runner entry = record runner { script = after_entry runner.script entry }

-- the runner in a slot behind an entry of its task that begins nothing
runner_on : (app : Application) (slot : ℕ) (made : Call) (old new : Drive) (takes : Takes app slot made old new) → is_creation made ≡ false → runner_at new.runners slot ≡ Some (behind takes.runner takes.entry)
runner_on app slot made old new takes other =
    ap (λ list. runner_at list slot) takes.runners
    ∙ ap (λ list. runner_at (with_begun (with_entry old.runners slot takes.entry) list) slot) (begins_none app takes.entry (ap is_creation takes.makes.of_call ∙ other))
    ∙ get_or-set_same old.runners slot (gone_on takes.entry (runner_at old.runners slot)) None (within old.runners slot takes.runner takes.own)
    ∙ ap (gone_on takes.entry) takes.own

-- a checkpoint in a wait leads to where the wait is given up
tells_leaving : (at : Phase) (script : ScriptState) (part : ℕ) (entry : Entry) → at ≡ phase.Waiting part → entry.call ≡ call.Checkpoint → (after_in at script entry.call (reply_of entry.reply)).phase ≡ phase.Leaving part
tells_leaving at script part entry waits tells =
    ap (λ (p : Phase). (after_in p script entry.call (reply_of entry.reply)).phase) waits
    ∙ ap (λ (c : Call). (after_in (phase.Waiting part) script c (reply_of entry.reply)).phase) tells

-- the script of a wait that is given up is at its end
leaves_ended : (at : Phase) (script : ScriptState) (part : ℕ) (entry : Entry) → at ≡ phase.Leaving part → is_leaving (after_in at script entry.call (reply_of entry.reply)).phase ≡ false
leaves_ended at script part entry leaving =
    ap (λ (p : Phase). is_leaving (after_in p script entry.call (reply_of entry.reply)).phase) leaving

module _ (app : Application) (old : Drive) (steady : IsSteady app old) (slot part : ℕ) (lost : IsLostIn old.state (runner_at old.runners slot) part) (mid : Drive) (first : Takes app slot call.Checkpoint old mid) where
  -- the driver behind the checkpoint
  pub driven_told : IsDriven app mid
  driven_told =
      driven_on app old steady.driven slot call.Checkpoint (may_tell app old steady.driven slot part lost) none_made mid first

  -- the runner gives its wait up
  leaving : (after_entry first.runner.script first.entry).phase ≡ phase.Leaving part
  leaving =
      tells_leaving first.runner.script.phase first.runner.script part first.entry (subst (λ (o : Option Running). IsLostIn old.state o part) first.own lost).0 first.makes.of_call

  -- the runner behind the checkpoint
  told : runner_at mid.runners slot ≡ Some (behind first.runner first.entry)
  told = runner_on app slot call.Checkpoint old mid first refl

  -- the end of its wait may be made
  pub may_abandon : MayMake mid.state (runner_at mid.runners slot) (call.WaitAbandon part)
  may_abandon =
      subst (λ (o : Option Running). MayMake mid.state o (call.WaitAbandon part)) (sym told)
      (subst (λ (at : Phase). MayCome at (after_entry first.runner.script first.entry) (call.WaitAbandon part) (step mid.state first.runner.id mid.state.time.moment (call.WaitAbandon part)).0.answer) (sym leaving) refl)

  module _ (new : Drive) (second : Takes app slot (call.WaitAbandon part) mid new) where
    -- the second entry is of the same task, whose script it ends
    same : behind first.runner first.entry ≡ second.runner
    same = let one : Some (behind first.runner first.entry) ≡ Some second.runner = sym told ∙ second.own in cc

    -- a driver is between its tasks' calls again behind both entries
    pub steady_left : IsSteady app new
    steady_left =
        let own : second.entry.task ≡ first.entry.task = second.makes.of_task ∙ ap (λ (r : Running). r.id) (sym same) ∙ sym first.makes.of_task in
        record {
          driven = driven_on app mid driven_told slot (call.WaitAbandon part) may_abandon none_made new second;
          calm = calm_taken app mid driven_told slot second.runner second.own (call.WaitAbandon part) (subst (λ (o : Option Running). MayMake mid.state o (call.WaitAbandon part)) second.own may_abandon) new.state second.entry second.makes none_made new.journal second.pushed (leaves_ended second.runner.script.phase second.runner.script part second.entry (ap (λ (r : Running). r.script.phase) (sym same) ∙ leaving)) (λ task ne. calm_others app old steady.driven slot first.runner first.own call.Checkpoint (subst (λ (o : Option Running). MayMake old.state o call.Checkpoint) first.own (may_tell app old steady.driven slot part lost)) mid.state first.entry first.makes none_made mid.journal first.pushed task (λ e. ne (e ∙ sym own)) (steady.calm task));
        }

    -- the journal has grown
    pub grown_left : length old.journal.entries < length new.journal.entries
    grown_left =
        let once = grows app slot call.Checkpoint old mid first in
        let twice = grows app slot (call.WaitAbandon part) mid new second in
        omega arith
