-- The first entry: the machine creates the first task.
use Rattle.std.proofs.Common.{◌≡◌, ◌≤◌, ◌++◌, ℕ, false, List, [], ◌∷◌, Option, Some, None, length, replicate, inl, inr, refl, sym, ap, subst, ◌∙◌, arith, slice_get}
use Rattle.std.specs.List.{AllByRecursion}
use Rattle.std.proofs.lemmas.Bool.{cond_both, cases_lt, true≢false}
use Rattle.std.proofs.lemmas.List.{length-replicate, get_or-replicate, get_or_past}
use Rattle.osal_base.specs.Limits.{version1}
use Rattle.osal_base.specs.Reply.{Replied}
use Rattle.osal_base.specs.Text.{Text}
use Rattle.osal_base.specs.declared.time.Moment.{Moment}
use Rattle.osal_call.specs.declared.call.Call.{Call}
use Rattle.osal_call.specs.declared.call.Call.TheVariants as call
use Rattle.osal_call.specs.declared.call.Entry.{Entry}
use Rattle.osal_call.specs.Call.{said, text_of}
use Rattle.osal_machine.specs.Step.{MachineState, opening, step}
use Rattle.osal_call.specs.Journal.{Entries}
use Rattle.osal_machine.specs.History.{replay}
use Rattle.osal_script.specs.App.{Application, ScriptBody, NamesLater, HandlersAreBare}
use Rattle.osal_script.specs.Cost.{cost_of}
use Rattle.osal_script.specs.Script.{ScriptState}
use Rattle.osal_runs.specs.Segments.{script_in, is_of, begun, segments_of}
use Rattle.osal_runs.specs.Linked.{no_script, newest_script, is_leaving}
use Rattle.osal_runs.specs.Runs.{CreatesMain, CreatesFirst}
use Rattle.osal_runs.specs.UnderWay.{IsUnderWay}
use Rattle.osal_runs.proofs.UnderWay.{first_goes}
use Rattle.osal_exec.specs.Running.{Running, runner_at, AreRunning, with_begun, IsIdentifier}
use Rattle.osal_exec.specs.Driving.{MakesEntry, IsPushed, Drive, IsSteady}
use Rattle.osal_exec.proofs.Begun.{AreNew, entry_begins, begun_small}
use Rattle.osal_exec.proofs.Kept.{running_push}
use Rattle.osal_exec.proofs.Driven.{new_calm}

-- the first of some bodies is created under its own name
creates_first : (bodies : List ScriptBody) (main : ScriptBody) (entry : Entry) → slice_get bodies 0 ≡ Some main → CreatesMain main entry → CreatesFirst bodies entry
creates_first [] main entry is creates = absurd (cc)
creates_first (body ∷ bodies) main entry is creates =
    let same : body ≡ main = cc in subst (λ (b : ScriptBody). CreatesMain b entry) (sym same) creates

-- no runners where nothing was created
no_runner : (slot : ℕ) → runner_at (replicate 64 None) slot ≡ None
no_runner slot =
    elim (cases_lt slot 64) [
      | inl within ↦ get_or-replicate 64 slot None None within
      | inr past ↦ get_or_past (replicate 64 None) slot None (let count = length-replicate {A = Option Running} 64 None in omega arith)
    ]

none_running : AreRunning [] (replicate 64 None)
none_running = record {
  slots = length-replicate {A = Option Running} 64 None;
  known = λ slot runner is. let none : None ≡ Some runner = sym (no_runner slot) ∙ is in absurd (cc);
  all = λ task goes. absurd (true≢false goes);
}

module _ (app : Application) (main : ScriptBody) (is : slice_get app.bodies 0 ≡ Some main) (name : Text) (own : name.bytes ≡ main.name) (left : MachineState) (entry : Entry) (makes : MakesEntry 0 0 (call.TaskCreate name 0 0 0) (opening version1) left entry) where
  -- what the entry begins has a slot of its own
  news : AreNew (opening version1) (begun app entry)
  news =
      entry_begins app (opening version1) refl (omega arith, omega arith) 0 (record { ms = 0 }) (call.TaskCreate name 0 0 0) entry makes.of_call makes.replied

  -- it has an identifier of 32 bits
  pub first_small : AllByRecursion IsIdentifier (begun app entry)
  first_small = begun_small (opening version1) (begun app entry) news

  -- the step of the entry is that of the call
  step_first : step (opening version1) 0 (record { ms = 0 }) (call.TaskCreate name 0 0 0) ≡ step (opening version1) entry.task entry.now entry.call
  step_first =
      ap (λ (c : Call). step (opening version1) 0 (record { ms = 0 }) c) (sym makes.of_call)
      ∙ ap (λ n. step (opening version1) n (record { ms = 0 }) entry.call) (sym makes.of_task)
      ∙ ap (λ (m : Moment). step (opening version1) entry.task m entry.call) (sym makes.at_moment)

  -- the run is under way with the entry
  way_first : IsUnderWay app (entry ∷ [])
  way_first =
      first_goes app entry
      (creates_first app.bodies main entry is (record {
        caller = makes.by_caller;
        task = makes.of_task;
        call = ap said makes.of_call ∙ ap (λ bytes. call.TaskCreate (text_of bytes) 0 0 0) own;
      }))
      makes.at_moment (makes.replied ∙ ap (λ (r : Replied × MachineState). r.0) step_first)

  -- the task that it begins is the only runner
  runs_first : AreNew (opening version1) (begun app entry) → AreRunning (begun app entry) (with_begun (replicate 64 None) (begun app entry))
  runs_first (inl none) =
      subst (λ list. AreRunning list (with_begun (replicate 64 None) list)) (sym none) none_running
  runs_first (inr one) =
      subst (λ list. AreRunning list (with_begun (replicate 64 None) list)) (sym one.1)
      (running_push [] (replicate 64 None) none_running one.0 one.2.fresh (λ task goes place. true≢false goes))

  -- it gives no wait up
  calm_first : AreNew (opening version1) (begun app entry) → (task : ℕ) → is_leaving (newest_script (begun app entry) task).phase ≡ false
  calm_first (inl none) task = ap (λ list. is_leaving (newest_script list task).phase) none
  calm_first (inr one) task =
      ap (λ list. is_leaving (newest_script list task).phase) one.1
      ∙ cond_both (is_of task one.0) (script_in one.0) no_script (λ (s : ScriptState). is_leaving s.phase ≡ false) (λ t. new_calm one.0 one.2.fresh) (λ f. refl)

  -- a driver begins with the entry
  pub steady_first : NamesLater app → HandlersAreBare app → (journal : Entries) → journal.entries ≡ [] → cost_of app ≤ journal.spare → (new : Drive) → IsPushed journal new.journal entry → new.state ≡ left → new.runners ≡ with_begun (replicate 64 None) (begun app entry) → IsSteady app new
  steady_first later bare journal empty enough new pushed at runners =
      let alone : new.journal.entries ≡ entry ∷ [] = pushed.entries ∙ ap (λ list. list ++ entry ∷ []) empty in
      let one : length new.journal.entries ≡ 1 = ap length alone in
      let place = pushed.spare in
      record {
        driven = record {
          later = later;
          bare = bare;
          way = subst (IsUnderWay app) (sym alone) way_first;
          room = omega arith;
          replayed = at ∙ makes.left ∙ ap (λ (r : Replied × MachineState). r.1) step_first ∙ ap (replay version1) (sym alone);
          running = subst (λ list. AreRunning list new.runners) (ap (segments_of app) (sym alone)) (subst (AreRunning (begun app entry)) (sym runners) (runs_first news));
        };
        calm = λ task. ap (λ list. is_leaving (newest_script (segments_of app list) task).phase) alone ∙ calm_first news task;
      }
