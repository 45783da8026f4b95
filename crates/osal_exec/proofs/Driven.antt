-- A driver goes on by the call of a task.
use Rattle.std.proofs.Common.{◌≡◌, ◌<◌, ◌+◌, ◌++◌, ℕ, true, false, List, [], ◌∷◌, Some, length, inl, inr, refl, sym, ap, subst, ◌∙◌, arith}
use Rattle.std.proofs.lemmas.Bool.{cond_both, cases_eq, cases_Bool}
use Rattle.std.proofs.lemmas.List.{length_push, append-nil}
use Rattle.osal_base.specs.Identifier.{slot_of}
use Rattle.osal_base.specs.Limits.{version1, IsCapacity}
use Rattle.osal_base.specs.Reply.{Replied}
use Rattle.osal_base.specs.declared.time.Moment.{Moment}
use Rattle.osal_task.specs.Tasks.{task_at}
use Rattle.osal_call.specs.declared.call.Call.{Call}
use Rattle.osal_call.specs.declared.call.Entry.{Entry}
use Rattle.osal_call.specs.Call.{said}
use Rattle.osal_machine.specs.Step.{MachineState, opening, step}
use Rattle.osal_call.specs.Journal.{Entries}
use Rattle.osal_machine.specs.History.{replay}
use Rattle.osal_laws.proofs.Histories.{replay_push}
use Rattle.osal_script.specs.App.{Application}
use Rattle.osal_script.specs.Script.{ScriptState, MayCome, IsNext, after_entry, is_ended}
use Rattle.osal_runs.specs.Segments.{Segment, script_in, is_of, has_segment, joined, begun, recorded, segments_of}
use Rattle.osal_runs.specs.Linked.{newest_script, IsLinked, is_creation, is_leaving}
use Rattle.osal_runs.specs.UnderWay.{IsUnderWay}
use Rattle.osal_runs.proofs.CostLaw.{cost_bounds_entries}
use Rattle.osal_runs.proofs.Following.{segments_push}
use Rattle.osal_runs.proofs.Linking.{begins_none}
use Rattle.osal_runs.proofs.LinkedSteps.{has_of_next}
use Rattle.osal_runs.proofs.Segments.{newest_joined, newest_other, newest_push}
use Rattle.osal_runs.proofs.UnderWay.{task_goes_on}
use Rattle.osal_exec.specs.Running.{Running, runner_at, slot_of_task, AreRunning, with_entry, with_begun, MayMake}
use Rattle.osal_exec.specs.Driving.{MakesEntry, IsPushed, Drive, IsDriven, IsCalm, MayCreate}
use Rattle.osal_exec.proofs.Slots.{slots_of_journal}
use Rattle.osal_exec.proofs.Kept.{running_joined, running_push}
use Rattle.osal_exec.proofs.Allowed.{script_goes, live_phase}
use Rattle.osal_exec.proofs.Begun.{IsNew, AreNew, entry_begins, other_slot}

-- a segment that begins gives no wait up
pub new_calm : (new : Segment) → new.entries ≡ [] → is_leaving (script_in new).phase ≡ false
new_calm new fresh = ap (λ (entries : List Entry). is_leaving (script_in (record new { entries = entries })).phase) fresh

module _ (app : Application) (drive : Drive) (driven : IsDriven app drive) where
  -- the segments so far
  abbrev pub segments : List Segment
  segments = segments_of app drive.journal.entries

  -- the machine and the scripts belong together
  pub linked : IsLinked app drive.state segments
  linked = subst (λ (s : MachineState). IsLinked app s segments) (sym driven.replayed) driven.way.linked

  -- the step of an entry in the machine is that in the journal's
  pub step_of : (caller task : ℕ) (made : Call) (left : MachineState) (entry : Entry) → MakesEntry caller task made drive.state left entry → step drive.state task drive.state.time.moment made ≡ step (replay version1 drive.journal.entries) entry.task entry.now entry.call
  step_of caller task made left entry makes =
      ap (λ (s : MachineState). step s task drive.state.time.moment made) driven.replayed
      ∙ ap (λ (c : Call). step (replay version1 drive.journal.entries) task drive.state.time.moment c) (sym makes.of_call)
      ∙ ap (λ n. step (replay version1 drive.journal.entries) n drive.state.time.moment entry.call) (sym makes.of_task)
      ∙ ap (λ (m : Moment). step (replay version1 drive.journal.entries) entry.task m entry.call) (sym makes.at_moment)

  module _ (entry : Entry) (way : IsUnderWay app (drive.journal.entries ++ entry ∷ [])) where
    -- there is room for an entry with which the run is under way
    pub spare_for : 0 < drive.journal.spare
    spare_for =
        let enough = driven.room in
        let most = cost_bounds_entries app (drive.journal.entries ++ entry ∷ []) driven.later driven.bare way.part in
        omega (arith, length_push drive.journal.entries entry)

    -- the driver with it
    pub driven_push : (new : Drive) → IsPushed drive.journal new.journal entry → new.state ≡ (step (replay version1 drive.journal.entries) entry.task entry.now entry.call).1 → AreRunning (recorded app segments entry) new.runners → IsDriven app new
    driven_push new pushed left running =
        let more : length new.journal.entries ≡ length drive.journal.entries + 1 = ap length pushed.entries ∙ length_push drive.journal.entries entry in
        let place = pushed.spare in
        let enough = driven.room in
        record {
          later = driven.later;
          bare = driven.bare;
          way = subst (IsUnderWay app) (sym pushed.entries) way;
          room = omega arith;
          replayed = left ∙ sym (replay_push (opening version1) drive.journal.entries entry) ∙ ap (replay version1) (sym pushed.entries);
          running = subst (λ list. AreRunning list new.runners) (sym (segments_push app drive.journal.entries entry) ∙ ap (segments_of app) (sym pushed.entries)) running;
        }

  -- the segments with an entry
  pub segments_on : (new : Entries) (entry : Entry) → IsPushed drive.journal new entry → segments_of app new.entries ≡ recorded app segments entry
  segments_on new entry pushed = ap (segments_of app) pushed.entries ∙ segments_push app drive.journal.entries entry

  -- the machine has as many slots for tasks as the runners
  slots : drive.state.tasks.objects.table.capacity ≡ version1.tasks
  slots =
      ap (λ (s : MachineState). s.tasks.objects.table.capacity) driven.replayed
      ∙ slots_of_journal version1 drive.journal.entries

  -- they are not too many
  room : IsCapacity drive.state.tasks.objects.table.capacity
  room = subst IsCapacity (sym slots) (omega arith, omega arith)

  -- a task whose script goes on has a slot that is not free
  busy : IsCalm app drive.journal.entries → (new : Segment) → IsNew drive.state new → (task : ℕ) → is_ended (newest_script segments task).phase ≡ false → slot_of_task task ≡ slot_of_task new.id → ⊥
  busy calm new is task goes same =
      let active = (linked.each task).live (live_phase (newest_script segments task).phase goes (calm task)) in
      other_slot drive.state.tasks task new.id (task_at drive.state.tasks task) refl active is.id.free
      (ap (slot_of task) slots ∙ same ∙ ap (slot_of new.id) (sym slots))

  module _ (slot : ℕ) (runner : Running) (is : runner_at drive.runners slot ≡ Some runner) (made : Call) (may : MayMake drive.state (Some runner) made) (left : MachineState) (entry : Entry) (makes : MakesEntry (slot + 1) runner.id made drive.state left entry) (creates : MayCreate app drive.journal.entries made) where
    -- the runner's script is the newest of the entry's task
    newest : newest_script segments entry.task ≡ runner.script
    newest = ap (newest_script segments) makes.of_task ∙ sym (driven.running.known slot runner is).0

    -- it goes on
    goes : is_ended (newest_script segments entry.task).phase ≡ false
    goes =
        ap (λ (s : ScriptState). is_ended s.phase) newest
        ∙ script_goes runner.script.phase runner.script (said made) (step drive.state runner.id drive.state.time.moment made).0.answer may

    -- the entry makes its next call
    next : IsNext (newest_script segments entry.task) entry
    next =
        subst (λ (s : ScriptState). IsNext s entry) (sym newest)
        (subst (λ (c : Call). MayCome runner.script.phase runner.script (said c) entry.reply.answer) (sym makes.of_call)
        (subst (λ (r : Replied). MayCome runner.script.phase runner.script (said made) r.answer) (sym makes.replied) may))

    -- so its task has a segment
    has : has_segment segments entry.task ≡ true
    has = has_of_next segments entry next

    -- the run is under way with the entry
    pub way_on : IsUnderWay app (drive.journal.entries ++ entry ∷ [])
    way_on =
        task_goes_on app drive.journal.entries entry driven.way
        (makes.by_caller ∙ ap (λ n. n + 1) (sym (driven.running.known slot runner is).1 ∙ ap slot_of_task (sym makes.of_task)))
        next (makes.at_moment ∙ ap (λ (s : MachineState). s.time.moment) driven.replayed)
        (makes.replied ∙ ap (λ (r : Replied × MachineState). r.0) (step_of (slot + 1) runner.id made left entry makes))
        (λ creation good. creates (ap is_creation (sym makes.of_call) ∙ creation) entry.reply.number)

    -- what the entry begins has a slot of its own
    pub news : AreNew drive.state (begun app entry)
    news =
        entry_begins app drive.state linked.typed room runner.id drive.state.time.moment made entry makes.of_call makes.replied

    -- a script that goes on behind the entry went on before it
    goes_before : (task : ℕ) → is_ended (newest_script (joined segments entry) task).phase ≡ false → is_ended (newest_script segments task).phase ≡ false
    goes_before task on =
        elim (cases_eq task entry.task) [
          | inl same ↦ ap (λ n. is_ended (newest_script segments n).phase) same ∙ goes
          | inr ne ↦ ap (λ (s : ScriptState). is_ended s.phase) (sym (newest_other segments entry task ne)) ∙ on
        ]

    -- a task whose script goes on has another slot than the one that begins
    apart : (new : Segment) → begun app entry ≡ new ∷ [] → IsNew drive.state new → (task : ℕ) → is_ended (newest_script (joined segments entry) task).phase ≡ false → slot_of_task task ≡ slot_of_task new.id → ⊥
    apart new same fresh task on place =
        elim (cases_Bool (is_creation entry.call)) [
          | inl creation ↦ busy (creates (ap is_creation (sym makes.of_call) ∙ creation)) new fresh task (goes_before task on) place
          | inr other ↦ let empty : [] ≡ new ∷ [] = sym (begins_none app entry other) ∙ same in cc
        ]

    -- the runners are as far as the scripts
    runs_after : AreNew drive.state (begun app entry) → AreRunning (recorded app segments entry) (with_begun (with_entry drive.runners slot entry) (begun app entry))
    runs_after (inl none) =
        let front = running_joined segments drive.runners driven.running entry slot runner is (sym makes.of_task) has in
        subst (λ more. AreRunning (joined segments entry ++ more) (with_begun (with_entry drive.runners slot entry) more)) (sym none)
        (subst (λ list. AreRunning list (with_entry drive.runners slot entry)) (sym (append-nil (joined segments entry))) front)
    runs_after (inr one) =
        let front = running_joined segments drive.runners driven.running entry slot runner is (sym makes.of_task) has in
        subst (λ more. AreRunning (joined segments entry ++ more) (with_begun (with_entry drive.runners slot entry) more)) (sym one.1)
        (running_push (joined segments entry) (with_entry drive.runners slot entry) front one.0 one.2.fresh (apart one.0 one.1 one.2))

    -- the driver with the entry
    pub driven_taken : (new : Drive) → IsPushed drive.journal new.journal entry → new.state ≡ left → new.runners ≡ with_begun (with_entry drive.runners slot entry) (begun app entry) → IsDriven app new
    driven_taken new pushed at runners =
        driven_push entry way_on new pushed (at ∙ makes.left ∙ ap (λ (r : Replied × MachineState). r.1) (step_of (slot + 1) runner.id made left entry makes)) (subst (λ list. AreRunning (recorded app segments entry) list) (sym runners) (runs_after news))

    -- a script that gives no wait up where the entry joined gives none up with what the entry begins
    calm_with : (task : ℕ) → AreNew drive.state (begun app entry) → is_leaving (newest_script (joined segments entry) task).phase ≡ false → is_leaving (newest_script (recorded app segments entry) task).phase ≡ false
    calm_with task (inl none) calm =
        subst (λ more. is_leaving (newest_script (joined segments entry ++ more) task).phase ≡ false) (sym none)
        (ap (λ list. is_leaving (newest_script list task).phase) (append-nil (joined segments entry)) ∙ calm)
    calm_with task (inr one) calm =
        subst (λ more. is_leaving (newest_script (joined segments entry ++ more) task).phase ≡ false) (sym one.1)
        (ap (λ (s : ScriptState). is_leaving s.phase) (newest_push (joined segments entry) one.0 task)
        ∙ cond_both (is_of task one.0) (script_in one.0) (newest_script (joined segments entry) task) (λ (s : ScriptState). is_leaving s.phase ≡ false) (λ t. new_calm one.0 one.2.fresh) (λ f. calm))

    -- the same of the entry's own task, and of the others
    calm_both : (task : ℕ) → (task ≡ entry.task → is_leaving (after_entry runner.script entry).phase ≡ false) → ((task ≡ entry.task → ⊥) → is_leaving (newest_script segments task).phase ≡ false) → is_leaving (newest_script (recorded app segments entry) task).phase ≡ false
    calm_both task own others =
        calm_with task news
        (elim (cases_eq task entry.task) [
          | inl same ↦
              ap (λ n. is_leaving (newest_script (joined segments entry) n).phase) same
              ∙ ap (λ (s : ScriptState). is_leaving s.phase) (newest_joined segments entry has)
              ∙ ap (λ (s : ScriptState). is_leaving (after_entry s entry).phase) newest
              ∙ own same
          | inr ne ↦ ap (λ (s : ScriptState). is_leaving s.phase) (newest_other segments entry task ne) ∙ others ne
        ])

    -- no script gives a wait up behind the entry, where the entry's own does not, nor any other
    pub calm_taken : (new : Entries) → IsPushed drive.journal new entry → is_leaving (after_entry runner.script entry).phase ≡ false → ((task : ℕ) → (task ≡ entry.task → ⊥) → is_leaving (newest_script segments task).phase ≡ false) → IsCalm app new.entries
    calm_taken new pushed own others =
        λ task. ap (λ list. is_leaving (newest_script list task).phase) (segments_on new entry pushed) ∙ calm_both task (λ same. own) (others task)

    -- any other script that gave no wait up gives none up behind the entry
    pub calm_others : (new : Entries) → IsPushed drive.journal new entry → (task : ℕ) → (task ≡ entry.task → ⊥) → is_leaving (newest_script segments task).phase ≡ false → is_leaving (newest_script (segments_of app new.entries) task).phase ≡ false
    calm_others new pushed task ne calm =
        ap (λ list. is_leaving (newest_script list task).phase) (segments_on new entry pushed) ∙ calm_both task (λ same. absurd (ne same)) (λ other. calm)
