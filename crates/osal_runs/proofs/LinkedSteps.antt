-- One more entry of a run keeps the state and the segments linked.
use Rattle.std.proofs.Common.{◌≡◌, ◌++◌, ℕ, true, false, List, [], ◌∷◌, Some, None, is_some, inl, inr, refl, sym, ap, subst, ◌∙◌, arith}
use Rattle.std.proofs.Math.Path.{subst₂}
use Rattle.std.specs.FinMap as map
use Rattle.std.specs.Ordering.{nat_cmp}
use Rattle.std.proofs.lemmas.Bool.{cases_Bool, false≢true}
use Rattle.std.proofs.lemmas.List.{append-nil}
use Rattle.osal_base.specs.declared.reply.Answer.{Answer}
use Rattle.osal_base.specs.declared.time.Moment.{Moment}
use Rattle.osal_base.specs.Limits.{Fits, version1}
use Rattle.osal_base.specs.Text.{Text}
use Rattle.osal_base.specs.Reply.{Replied, gives, reply_of}
use Rattle.osal_task.specs.declared.part.Task.{Task}
use Rattle.osal_task.specs.Tasks.{task_at}
use Rattle.osal_idtable.specs.Table.{Active}
use Rattle.osal_console.specs.Console.{drain_limit}
use Rattle.osal_call.specs.Call.{said}
use Rattle.osal_machine.specs.Step.{MachineState, opening, step}
use Rattle.osal_machine.specs.OpenWaits.{has_wait, WaitsOnce}
use Rattle.osal_machine.specs.History.{after_entry}
use Rattle.osal_call.specs.declared.call.Call.{Call}
use Rattle.osal_call.specs.declared.call.Call.TheVariants as call
use Rattle.osal_call.specs.declared.call.Entry.{Entry}
use Rattle.osal_laws.proofs.Attached.{attached_replayed}
use Rattle.osal_laws.proofs.Own.{by_number}
use Rattle.osal_script.specs.App.{Application, ScriptBody}
use Rattle.osal_script.specs.Script as script
use Rattle.osal_script.specs.Script.{ScriptState, MayCome, IsNext, after, is_success}
use Rattle.osal_runs.specs.Segments.{Segment, has_segment, joined, recorded}
use Rattle.osal_runs.specs.Runs.{CreatesFirst, is_machine_call, EndsBefore}
use Rattle.osal_runs.specs.Linked.{newest_script, is_leaving, IsLinked, is_creation, GivesFree}
use Rattle.osal_runs.proofs.Segments.{newest_none, newest_other, joined_none}
use Rattle.osal_runs.proofs.LineCalls.{IsPlain, Moves, plain_call, IsCreateCall, create_calls}
use Rattle.osal_runs.proofs.Joining.{ends_joined}
use Rattle.osal_runs.proofs.MachineCalls.{IsOwnCall, Advances, Drains, own_call, own_plain}
use Rattle.osal_runs.proofs.Linking.{linked_over, keeps, moves_in, linked_moves, linked_joined, begins_none, begun_as, creation_links, creation_answered, creation_moves, Grows}

-- a script whose call came next has a segment
pub has_of_next : (segments : List Segment) (entry : Entry) → IsNext (newest_script segments entry.task) entry → has_segment segments entry.task ≡ true
has_of_next segments entry next =
    elim (cases_Bool (has_segment segments entry.task)) [
      | inl has ↦ has
      | inr none ↦ absurd (subst (λ (from : ScriptState). IsNext from entry) (newest_none segments entry.task none) next)
    ]

-- a call that creates a task, with what it says
pub creation_of : (made : Call) → is_creation made ≡ true → (name : Text) × (body : ℕ) × (stack : ℕ) × (priority : ℕ) × (made ≡ call.TaskCreate name body stack priority)
creation_of (call.TaskCreate name body stack priority) is = (name, body, stack, priority, refl)
creation_of _ is = absurd (false≢true is)

module _ (app : Application) (state : MachineState) (segments : List Segment) (entry : Entry) (linked : IsLinked app state segments) (next : IsNext (newest_script segments entry.task) entry) (replied : reply_of entry.reply ≡ (step state entry.task entry.now entry.call).0) where
  -- the script of the entry's task
  abbrev from : ScriptState
  from = newest_script segments entry.task

  -- an entry of a task that creates none
  plain_step : is_creation entry.call ≡ false → IsLinked app (after_entry state entry) (recorded app segments entry)
  plain_step plain =
      let may : MayCome from.phase from (said entry.call) (step state entry.task entry.now entry.call).0.answer = subst (λ (r : Replied). MayCome from.phase from (said entry.call) r.answer) replied next in
      linked_moves app state segments linked (after_entry state entry) entry (has_of_next segments entry next) (begins_none app entry plain)
      (subst (λ (r : Replied). Moves state (after_entry state entry) entry.task (after from entry.call r).phase) (sym replied)
      (moves_in app state segments linked from.phase from entry.task entry.now entry.call plain may (linked.each entry.task)))

  -- an entry of a task that creates one, or is refused
  creation_step : (name : Text) (body stack priority : ℕ) → entry.call ≡ call.TaskCreate name body stack priority → GivesFree segments entry → Grows app (after_entry state entry) (joined segments entry) (recorded app segments entry)
  creation_step name body stack priority same free =
      let made : Call = call.TaskCreate name body stack priority in
      let stepped : Replied × MachineState = step state entry.task entry.now made in
      let told : reply_of entry.reply ≡ stepped.0 = replied ∙ ap (λ c. (step state entry.task entry.now c).0) same in
      let calls : IsCreateCall state stepped = create_calls state entry.task entry.now name body stack priority in
      let may : MayCome from.phase from (said made) stepped.0.answer = subst₂ (λ (c : Call) (r : Replied). MayCome from.phase from (said c) r.answer) same told next in
      let moves = creation_moves app state segments linked name body stack priority from.phase from entry.task stepped.0 (creation_answered app state segments linked name body stack priority stepped calls) may (linked.each entry.task) in
      let moved : Moves state state entry.task (script.after_entry from entry).phase = subst₂ (λ (c : Call) (r : Replied). Moves state state entry.task (after from c r).phase) (sym same) (sym told) moves.0 in
      let behind : IsLinked app state (joined segments entry) = linked_joined app state state segments linked entry (has_of_next segments entry next) moved in
      subst₂ (λ (c : Call) (r : Replied). Grows app (step state entry.task entry.now c).1 (joined segments entry) (joined segments entry ++ begun_as app c r)) (sym same) (sym told)
      (creation_links app state (joined segments entry) behind name body stack priority stepped calls (λ id reply creates.
      let apart : id ≡ entry.task → ⊥ = λ e. false≢true (sym creates.fresh ∙ ap (λ t. is_some (task_at state.tasks t)) e ∙ (linked.each entry.task).live moves.1) in
      let given : reply_of entry.reply ≡ gives id = told ∙ reply in
      let stays : is_leaving (newest_script segments entry.reply.number).phase ≡ false = free (ap is_creation same) (ap (λ (r : Replied). is_success r.answer) given) in
      subst (λ (s : ScriptState). is_leaving s.phase ≡ false) (sym (newest_other segments entry id apart))
      (subst (λ n. is_leaving (newest_script segments n).phase ≡ false) (ap (λ (r : Replied). r.number) given) stays)))

  both : GivesFree segments entry → Grows app (after_entry state entry) segments (recorded app segments entry)
  both free =
      elim (cases_Bool (is_creation entry.call)) [
        | inl creates ↦
            let is = creation_of entry.call creates in
            let grows = creation_step is.0 is.1 is.2 is.3 is.4 free in
            record { linked = grows.linked; ends = λ ends. grows.ends (ends_joined entry segments ends) }
        | inr plain ↦ record {
          linked = plain_step plain;
          ends = λ ends. subst EndsBefore (sym (ap (λ new. joined segments entry ++ new) (begins_none app entry plain) ∙ append-nil (joined segments entry))) (ends_joined entry segments ends);
        }
      ]

  -- the next call of a task's newest script
  pub linked_step : GivesFree segments entry → IsLinked app (after_entry state entry) (recorded app segments entry)
  linked_step free = (both free).linked

  -- an identifier comes again only behind its script's end, also with that call
  pub ends_step : GivesFree segments entry → EndsBefore segments → EndsBefore (recorded app segments entry)
  ends_step free ends = (both free).ends ends

-- an entry without a segment that creates no task leaves the segments
pub recorded_still : (app : Application) (segments : List Segment) (entry : Entry) → has_segment segments entry.task ≡ false → is_creation entry.call ≡ false → recorded app segments entry ≡ segments
recorded_still app segments entry none plain =
    (λ i. joined_none segments entry none i ++ begins_none app entry plain i) ∙ append-nil segments

module _ (app : Application) (state : MachineState) (segments : List Segment) (linked : IsLinked app state segments) where
  -- a call that neither waits nor ends a wait, and leaves the same tasks active, leaves all tasks and waits
  quiet : (task : ℕ) (now : Moment) (made : Call) → IsPlain state (step state task now made) → IsLinked app (step state task now made).1 segments
  quiet task now made plain =
      keeps app state (step state task now made).1 segments linked segments plain.kept
      (λ other. linked_over state (step state task now made).1 other _ (plain.agrees other) (linked.each other))
      linked.nobody linked.bodies

  -- so does a call of the machine itself
  own_links : (task : ℕ) (now : Moment) (made : Call) (reply : Answer) → IsOwnCall made reply → IsLinked app (step state task now made).1 segments
  own_links task now made reply (Advances to is success) =
      subst (λ c. IsLinked app (step state task now c).1 segments) (sym is) (quiet task now (call.Advance to) (plain_call state task now (call.Advance to) refl refl (λ id. refl)))
  own_links task now made reply (Drains is some) =
      subst (λ c. IsLinked app (step state task now c).1 segments) (sym is) (quiet task now (call.Drain drain_limit) (plain_call state task now (call.Drain drain_limit) refl refl (λ id. refl)))

  -- time goes on, or the console gives some bytes
  pub linked_machine : (entry : Entry) → entry.task ≡ 0 → is_machine_call entry.call entry.reply.answer ≡ true → IsLinked app (after_entry state entry) (recorded app segments entry)
  linked_machine entry nobody is =
      let none = recorded_still app segments entry (ap (has_segment segments) nobody ∙ linked.nobody) (own_plain entry.call entry.reply.answer is) in
      subst (IsLinked app (after_entry state entry)) (sym none) (own_links entry.task entry.now entry.call entry.reply.answer (own_call entry.call entry.reply.answer is))

-- there is no task at the opening
no_task : (id : ℕ) (active : Active Task) → task_at (opening version1).tasks id ≡ Some active → ⊥
no_task id active is = let none : None ≡ Some active = sym (map.get-empty nat_cmp id) ∙ is in cc

-- the capacities of version 1 are those of tables
version1_fits : Fits version1
version1_fits = record {
  tasks = (omega arith, omega arith);
  queues = (omega arith, omega arith);
  count_sems = (omega arith, omega arith);
  bin_sems = (omega arith, omega arith);
  mutexes = (omega arith, omega arith);
  condvars = (omega arith, omega arith);
  timebases = (omega arith, omega arith);
  timers = (omega arith, omega arith);
  streams = (omega arith, omega arith);
  dirs = (omega arith, omega arith);
  file_systems = (omega arith, omega arith);
}

-- the opening, before any segment
pub linked_opening : (app : Application) → IsLinked app (opening version1) []
linked_opening app = record {
  each = λ task. record {
    waits = by_number (λ n p. has_wait p task ≡ false) (opening version1) refl refl refl refl refl refl refl refl refl (λ n. refl);
    live = λ e. absurd (false≢true e);
    gone = λ e. absurd (false≢true e);
  };
  once = λ part task. by_number (λ n p. WaitsOnce p task) (opening version1) tt tt tt tt tt tt tt tt tt (λ n. tt) part;
  unheld = λ id active is marked. absurd (no_task id active is);
  typed = refl;
  timers = attached_replayed version1 [] version1_fits;
  nobody = refl;
  bodies = tt;
}

-- a call creates a task where what it says does
pub creation_said : (made : Call) → is_creation (said made) ≡ is_creation made
creation_said (call.TaskCreate name body stack priority) = refl
creation_said _ = refl

module _ (app : Application) (first : Entry) (replied : reply_of first.reply ≡ (step (opening version1) first.task first.now first.call).0) where
  first_by : (name : Text) (body stack priority : ℕ) → first.call ≡ call.TaskCreate name body stack priority → IsLinked app (after_entry (opening version1) first) (recorded app [] first)
  first_by name body stack priority same =
      let made : Call = call.TaskCreate name body stack priority in
      let told : reply_of first.reply ≡ (step (opening version1) first.task first.now made).0 = replied ∙ ap (λ c. (step (opening version1) first.task first.now c).0) same in
      subst₂ (λ (c : Call) (r : Replied). IsLinked app (step (opening version1) first.task first.now c).1 (begun_as app c r)) (sym same) (sym told)
      ((creation_links app (opening version1) [] (linked_opening app) name body stack priority (step (opening version1) first.task first.now made) (create_calls (opening version1) first.task first.now name body stack priority) (λ id reply creates. refl)).linked)

  -- the first entry of a journal
  pub linked_first : CreatesFirst app.bodies first → IsLinked app (after_entry (opening version1) first) (recorded app [] first)
  linked_first creates =
      let is = creation_of first.call (sym (creation_said first.call) ∙ creates_first app.bodies creates) in first_by is.0 is.1 is.2 is.3 is.4
    where
      creates_first : (bodies : List ScriptBody) → CreatesFirst bodies first → is_creation (said first.call) ≡ true
      creates_first [] none = absurd none
      creates_first (body ∷ bodies) main = ap is_creation main.call
