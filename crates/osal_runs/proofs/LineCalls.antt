-- What a call of a task leaves of the machine: of its own task, and of the others.
use Rattle.std.proofs.Common.{◌≡◌, ◌≤◌, ◌⊎◌, ◌==◌, ◌+◌, ◌||◌, ◌&&◌, ℕ, Bool, true, false, not, is_some, inl, inr, refl, sym, ap, subst, ◌∙◌, arith}
use Rattle.std.proofs.lemmas.Bool.{cases_eq, cases_Bool, true≢false, false≢true, or_right, and_right, eq-eqb, ne_eqb}
use Rattle.osal_base.specs.declared.time.Moment.{Moment}
use Rattle.osal_base.specs.declared.time.Timeout.{Timeout}
use Rattle.osal_base.specs.declared.time.Timeout.TheVariants as timeout
use Rattle.osal_base.specs.Limits.{version1}
use Rattle.osal_base.specs.Text.{Text}
use Rattle.osal_base.specs.Time.{is_check}
use Rattle.osal_base.specs.Reply.{Replied, success, gives, goes_on, deleted, is_waits}
use Rattle.osal_object.proofs.DueCounts.{most_deadlines}
use Rattle.osal_object.proofs.OpenWaits.{SameWaits, IsOpened, IsClosed}
use Rattle.osal_object.proofs.WaitSteps as waiting
use Rattle.osal_object.proofs.WaitSteps.{IsWaitStep}
use Rattle.osal_task.specs.Tasks.{TaskState, task_at, done, task_create}
use Rattle.osal_time.specs.Attachment.{AreAttached}
use Rattle.osal_call.specs.Call.{part_of}
use Rattle.osal_machine.specs.Step.{MachineState, part_in, step}
use Rattle.osal_machine.specs.OpenWaits.{has_wait, WaitsOnce}
use Rattle.osal_call.specs.declared.call.Call.{Call}
use Rattle.osal_call.specs.declared.call.Call.TheVariants as call
use Rattle.osal_laws.proofs.Attached.{attached_kept}
use Rattle.osal_laws.proofs.CallWaits.{other_waits, own_waits, all_waits, check_waits, waits_once}
use Rattle.osal_laws.proofs.DueCounts.{due_in, due_counts, due_less, due_more}
use Rattle.osal_laws.proofs.Marked.{free_step}
use Rattle.osal_laws.proofs.PartWaits.{seen_in}
use Rattle.osal_laws.proofs.TasksAlike.{moves_tasks}
use Rattle.osal_laws.proofs.TasksKept.{shape_kept, active_kept}
use Rattle.osal_call.specs.Signature.{timeout_of, ends_wait}
use Rattle.osal_price.specs.Price.{wait_cost}
use Rattle.osal_script.specs.Script.{is_success}
use Rattle.osal_script.specs.declared.phase.Phase.{Phase}
use Rattle.osal_runs.specs.Linked.{IsLinkedAt}
use Rattle.osal_runs.proofs.TaskCalls.{AreUnheld, IsWithout, exited, passed_by, exit_outcome, passed_outcome}
use Rattle.osal_runs.proofs.Creating as creating

-- two states have the same of a task
pub record Agrees (state left : MachineState) (task : ℕ) : Type 0 where
  pub waits : (part : ℕ) → has_wait (part_in part left) task ≡ has_wait (part_in part state) task
  pub active : is_some (task_at left.tasks task) ≡ is_some (task_at state.tasks task)

-- what holds of all tasks still holds
pub record IsKept (state left : MachineState) : Type 0 where
  pub once : (part task : ℕ) → WaitsOnce (part_in part state) task → WaitsOnce (part_in part left) task
  pub unheld : AreUnheld state.tasks → AreUnheld left.tasks
  pub kind : left.tasks.objects.table.kind ≡ state.tasks.objects.table.kind
  pub timers : AreAttached version1.timers state.time → AreAttached version1.timers left.time

-- so it is where nothing changes
pub kept_same : (state : MachineState) → IsKept state state
kept_same state = record { once = λ part task once. once; unheld = λ all. all; kind = refl; timers = λ all. all }

-- and after each call
pub kept_by : (state : MachineState) (task : ℕ) (now : Moment) (made : Call) → IsKept state (step state task now made).1
kept_by state task now made = record {
  once = waits_once state task now made;
  unheld = λ all. free_step state task now made all;
  kind = (shape_kept state task now made).kind;
  timers = attached_kept version1.timers state task now made;
}

-- each part has the same open waits
abbrev pub SameEach : MachineState → MachineState → Type 0
SameEach state left = (part : ℕ) → SameWaits (seen_in (part_in part state)) (seen_in (part_in part left))

-- the same tasks are active
abbrev pub SameActive : MachineState → MachineState → Type 0
SameActive state left = (id : ℕ) → is_some (task_at left.tasks id) ≡ is_some (task_at state.tasks id)

-- a call of which a task does not wait, and which leaves all tasks active and waiting as they are
pub record IsPlain (state : MachineState) (stepped : Replied × MachineState) : Type 0 where
  pub answered : is_waits stepped.0.answer ≡ false
  pub agrees : (task : ℕ) → Agrees state stepped.1 task
  pub kept : IsKept state stepped.1
  pub fewer : (at : Moment) → due_counts at stepped.1 ≤ due_counts at state

-- a task's script has come to a phase, and the other tasks are as they were
pub record Moves (state left : MachineState) (task : ℕ) (at : Phase) : Type 0 where
  pub own : IsLinkedAt left task at
  pub others : (other : ℕ) → (other ≡ task → ⊥) → Agrees state left other
  pub kept : IsKept state left

-- a task is no longer active; its waits and all that the others have are as before
pub record Removes (state left : MachineState) (task : ℕ) : Type 0 where
  pub gone : is_some (task_at left.tasks task) ≡ false
  pub waits : (part : ℕ) → has_wait (part_in part left) task ≡ has_wait (part_in part state) task
  pub others : (other : ℕ) → (other ≡ task → ⊥) → Agrees state left other
  pub kept : IsKept state left
  pub fewer : (at : Moment) → due_counts at left ≤ due_counts at state

-- a task has a wait in a part; what else there was is as before
pub record Opens (state left : MachineState) (task : ℕ) (part : ℕ) : Type 0 where
  pub waits : (other : ℕ) → has_wait (part_in other left) task ≡ (has_wait (part_in other state) task || (part == other))
  pub active : is_some (task_at left.tasks task) ≡ is_some (task_at state.tasks task)
  pub others : (other : ℕ) → (other ≡ task → ⊥) → Agrees state left other
  pub kept : IsKept state left

-- a task has no wait in a part any more; what else there was is as before
pub record Closes (state left : MachineState) (task : ℕ) (part : ℕ) : Type 0 where
  pub waits : (other : ℕ) → has_wait (part_in other left) task ≡ (has_wait (part_in other state) task && not (part == other))
  pub active : is_some (task_at left.tasks task) ≡ is_some (task_at state.tasks task)
  pub others : (other : ℕ) → (other ≡ task → ⊥) → Agrees state left other
  pub kept : IsKept state left
  pub fewer : (at : Moment) → due_counts at left ≤ due_counts at state

or_off : (b : Bool) → (b || false) ≡ b
or_off true = refl
or_off false = refl

and_on : (b : Bool) → (b && true) ≡ b
and_on true = refl
and_on false = refl

module _ (state left : MachineState) (kept : IsKept state left) where
  -- what has the same open waits has no more deadlines
  fewer_same : SameEach state left → (at : Moment) → due_counts at left ≤ due_counts at state
  fewer_same same at = due_less at at state left (λ part. (same part).fewer at)

  agrees_same : SameEach state left → SameActive state left → (task : ℕ) → Agrees state left task
  agrees_same same active task = record { waits = λ part. (same part).all task; active = active task }

  -- a call that leaves all tasks active and waiting as they are
  pub plain_same : (reply : Replied) → is_waits reply.answer ≡ false → SameEach state left → SameActive state left → IsPlain state (reply, left)
  plain_same reply answered same active = record {
    answered = answered;
    agrees = agrees_same same active;
    kept = kept;
    fewer = fewer_same same;
  }

  -- a removal of a task
  pub removes_same : (task : ℕ) → SameEach state left → IsWithout state.tasks left.tasks task → Removes state left task
  removes_same task same without = record {
    gone = without.own;
    waits = λ part. (same part).all task;
    others = λ other ne. record { waits = λ part. (same part).all other; active = without.others other ne };
    kept = kept;
    fewer = fewer_same same;
  }

  module _ (task part : ℕ) (others : (other : ℕ) → (other ≡ part → ⊥) → SameWaits (seen_in (part_in other state)) (seen_in (part_in other left))) (active : SameActive state left) where
    -- another task waits as before in each part, where it does in that one
    agrees_other : (task : ℕ) → has_wait (part_in part left) task ≡ has_wait (part_in part state) task → Agrees state left task
    agrees_other task own = record {
      waits = λ other. elim (cases_eq other part) [
        | inl same ↦ subst (λ n. has_wait (part_in n left) task ≡ has_wait (part_in n state) task) (sym same) own
        | inr ne ↦ (others other ne).all task
      ];
      active = active task;
    }

    -- a wait is open from now on
    pub opens_part : (wait : Timeout) → IsOpened (seen_in (part_in part state)) (seen_in (part_in part left)) task wait → Opens state left task part
    opens_part wait is = record {
      waits = λ other. elim (cases_eq other part) [
        | inl same ↦
            ap (λ n. has_wait (part_in n left) task) same ∙ is.own ∙ sym (or_right (has_wait (part_in other state) task) (part == other) (eq-eqb part other (sym same)))
        | inr ne ↦
            (others other ne).all task
            ∙ sym (ap (λ b. has_wait (part_in other state) task || b) (ne_eqb part other (λ e. ne (sym e))) ∙ or_off (has_wait (part_in other state) task))
      ];
      active = active task;
      others = λ other ne. agrees_other other (is.others other ne);
      kept = kept;
    }

    -- no more deadlines lie behind a moment than the wait has
    pub opens_few : (wait : Timeout) → IsOpened (seen_in (part_in part state)) (seen_in (part_in part left)) task wait → (at : Moment) → due_counts at left ≤ due_counts at state + most_deadlines wait
    opens_few wait is at =
        due_more at at state left part (most_deadlines wait) (is.more at) (λ other ne. (others other ne).fewer at)

    -- a wait is over
    pub closes_part : IsClosed (seen_in (part_in part state)) (seen_in (part_in part left)) task → Closes state left task part
    closes_part is = record {
      waits = λ other. elim (cases_eq other part) [
        | inl same ↦
            ap (λ n. has_wait (part_in n left) task) same ∙ is.own
            ∙ sym (and_right (has_wait (part_in other state) task) (not (part == other)) (ap not (eq-eqb part other (sym same))))
        | inr ne ↦
            (others other ne).all task
            ∙ sym (ap (λ b. has_wait (part_in other state) task && not b) (ne_eqb part other (λ e. ne (sym e))) ∙ and_on (has_wait (part_in other state) task))
      ];
      active = active task;
      others = λ other ne. agrees_other other (is.others other ne);
      kept = kept;
      fewer = λ at. due_less at at state left (λ other. elim (cases_eq other part) [
        | inl same ↦ subst (λ n. due_in at left n ≤ due_in at state n) (sym same) (is.fewer at)
        | inr ne ↦ (others other ne).fewer at
      ]);
    }

-- a call that changes nothing
pub on_nothing : (state : MachineState) (reply : Replied) → is_waits reply.answer ≡ false → IsPlain state (reply, state)
on_nothing state reply answered = record {
  answered = answered;
  agrees = λ task. record { waits = λ part. refl; active = refl };
  kept = kept_same state;
  fewer = λ at. omega arith;
}

-- whether a call is an exit
abbrev pub is_exit : Call → Bool
is_exit call.TaskExit = true
is_exit other = false

exit_is : (made : Call) → is_exit made ≡ true → made ≡ call.TaskExit
exit_is call.TaskExit exits = refl
exit_is _ exits = absurd (false≢true exits)

-- the calls of lines, but for the creation of a task
abbrev pub IsOfLine : Call → Type 0
IsOfLine (call.TaskCreate name body stack priority) = ⊥
IsOfLine call.Checkpoint = ⊥
IsOfLine (call.Advance to) = ⊥
IsOfLine (call.Drain n) = ⊥
IsOfLine (call.WaitEnd part) = ⊥
IsOfLine (call.WaitAbandon part) = ⊥
IsOfLine other = Unit {0}

line_ends : (made : Call) → IsOfLine made → ends_wait made ≡ false
line_ends (call.WaitEnd part) is = absurd is
line_ends (call.WaitAbandon part) is = absurd is
line_ends _ is = refl

line_still : (made : Call) → IsOfLine made → is_exit made ≡ false → moves_tasks made ≡ false
line_still (call.TaskCreate name body stack priority) is stays = absurd is
line_still call.Checkpoint is stays = absurd is
line_still call.TaskExit is stays = absurd (true≢false stays)
line_still _ is stays = refl

-- what the wait of a call costs
abbrev pub wait_cost_of : Call → ℕ
wait_cost_of made = wait_cost (timeout_of made)

-- it pays the end of the wait, and the deadline where the wait has one
pub pays_timeout : (wait : Timeout) → is_check wait ≡ false → most_deadlines wait + 1 ≤ wait_cost wait
pays_timeout timeout.Check may = absurd (true≢false may)
pays_timeout timeout.Pend may = omega arith
pays_timeout (timeout.Ms ms) may = rw may (omega arith)

-- a wait was begun: its cost pays its end, and the deadline where it has one
pub record PaysWait (state left : MachineState) (cost : ℕ) : Type 0 where
  pub some : 1 ≤ cost
  pub more : (at : Moment) → due_counts at left + 1 ≤ due_counts at state + cost

-- what a line's call does: it is done, waits in its part, or is an exit that removes its task
pub data IsLineCall (state : MachineState) (task : ℕ) (made : Call) (stepped : Replied × MachineState) : Type 0 where
  Goes : IsPlain state stepped → IsLineCall state task made stepped
  Waits : is_waits stepped.0.answer ≡ true → Opens state stepped.1 task (part_of made) → PaysWait state stepped.1 (wait_cost_of made) → IsLineCall state task made stepped
  Exits : is_exit made ≡ true → stepped.0 ≡ success → Removes state stepped.1 task → IsLineCall state task made stepped

module _ (state : MachineState) (task : ℕ) (now : Moment) where
  -- a call that neither waits nor ends a wait, and leaves the same tasks active
  pub plain_call : (made : Call) → ends_wait made ≡ false → is_check (timeout_of made) ≡ true → SameActive state (step state task now made).1 → IsPlain state (step state task now made)
  plain_call made other check active =
      let waits = check_waits state task now made other check in
      plain_same state (step state task now made).1 (kept_by state task now made) (step state task now made).0 waits.0 waits.1 active

  -- a call by which its task ends
  pub ending_call : (made : Call) → ends_wait made ≡ false → is_check (timeout_of made) ≡ true → IsWithout state.tasks (step state task now made).1.tasks task → Removes state (step state task now made).1 task
  ending_call made other check without =
      removes_same state (step state task now made).1 (kept_by state task now made) task (check_waits state task now made other check).1 without

  exit_lines : ((exited state.tasks task now).1 ≡ state.tasks) ⊎ (((exited state.tasks task now).0 ≡ success) × IsWithout state.tasks (exited state.tasks task now).1 task) → IsLineCall state task call.TaskExit (step state task now call.TaskExit)
  exit_lines (inl same) = Goes (plain_call call.TaskExit refl refl (λ id. ap (λ (t : TaskState). is_some (task_at t id)) same))
  exit_lines (inr gone) = Exits refl gone.0 (ending_call call.TaskExit refl refl gone.1)

  waiting_lines : (made : Call) → SameActive state (step state task now made).1 → IsWaitStep (seen_in (part_in (part_of made) state)) task (timeout_of made) (step state task now made).0.answer (seen_in (part_in (part_of made) (step state task now made).1)) → IsLineCall state task made (step state task now made)
  waiting_lines made active (waiting.Goes answered same) =
      Goes (plain_same state (step state task now made).1 (kept_by state task now made) (step state task now made).0 answered (all_waits state task now made same) active)
  waiting_lines made active (waiting.Waits answered may opened) =
      let left : MachineState = (step state task now made).1 in
      let others = other_waits state task now made in
      let pays = pays_timeout (timeout_of made) may in
      Waits answered
      (opens_part state left (kept_by state task now made) task (part_of made) others active (timeout_of made) opened)
      (record {
        some = omega arith;
        more = λ at. omega (arith, opens_few state left (kept_by state task now made) task (part_of made) others active (timeout_of made) opened at);
      })

  -- what each of them does
  pub line_calls : (made : Call) → IsOfLine made → IsLineCall state task made (step state task now made)
  line_calls made is =
      elim (cases_Bool (is_exit made)) [
        | inl exits ↦
            subst (λ (c : Call). IsLineCall state task c (step state task now c)) (sym (exit_is made exits)) (exit_lines (exit_outcome state.tasks task now))
        | inr stays ↦
            waiting_lines made (active_kept state task now made (line_still made is stays)) (own_waits state task now made (line_ends made is))
      ]

  -- what the calling task's checkpoint does to the tasks
  abbrev passed : Replied × TaskState
  passed = passed_by state.tasks task now (task_at state.tasks task)

  passed_by_machine : (passed ≡ (goes_on, state.tasks)) ⊎ ((passed.0 ≡ deleted) × IsWithout state.tasks passed.1 task) → (step state task now call.Checkpoint ≡ (goes_on, state)) ⊎ (((step state task now call.Checkpoint).0 ≡ deleted) × Removes state (step state task now call.Checkpoint).1 task)
  passed_by_machine (inl same) = inl (ap (λ (p : Replied × TaskState). (p.0, record state { tasks = p.1 })) same)
  passed_by_machine (inr gone) = inr (gone.0, ending_call call.Checkpoint refl refl gone.1)

  -- an active task's checkpoint changes nothing, or removes it
  pub checkpoint_calls : is_some (task_at state.tasks task) ≡ true → AreUnheld state.tasks → (step state task now call.Checkpoint ≡ (goes_on, state)) ⊎ (((step state task now call.Checkpoint).0 ≡ deleted) × Removes state (step state task now call.Checkpoint).1 task)
  checkpoint_calls active unheld = passed_by_machine (passed_outcome state.tasks task now (task_at state.tasks task) refl active unheld)

-- a task is active under an identifier that was not; what else there was is as before
pub record Creates (state left : MachineState) (id : ℕ) : Type 0 where
  pub fresh : is_some (task_at state.tasks id) ≡ false
  pub active : is_some (task_at left.tasks id) ≡ true
  pub waits : (part : ℕ) → has_wait (part_in part left) id ≡ has_wait (part_in part state) id
  pub others : (other : ℕ) → (other ≡ id → ⊥) → Agrees state left other
  pub kept : IsKept state left
  pub fewer : (at : Moment) → due_counts at left ≤ due_counts at state
  pub some : state.tasks.objects.table.kind ≡ 1 → id ≡ 0 → ⊥

-- the creation of a task is refused, or makes one
pub data IsCreateCall (state : MachineState) (stepped : Replied × MachineState) : Type 0 where
  Refuses : IsPlain state stepped → is_success stepped.0.answer ≡ false → IsCreateCall state stepped
  Makes : (id : ℕ) → stepped.0 ≡ gives id → Creates state stepped.1 id → IsCreateCall state stepped

module _ (state : MachineState) (task : ℕ) (now : Moment) (name : Text) (body stack priority : ℕ) where
  -- the call, and the state that it leaves
  abbrev creation : Call
  creation = call.TaskCreate name body stack priority

  abbrev created : MachineState
  created = (step state task now creation).1

  creates_by : creating.IsCreation state.tasks (done state.tasks task now (task_create name.bytes body stack priority)) → IsCreateCall state (step state task now creation)
  creates_by (creating.Refuses same failed) =
      Refuses (plain_call state task now creation refl refl (λ id. ap (λ (t : TaskState). is_some (task_at t id)) same)) failed
  creates_by (creating.Makes id reply is) =
      let same : SameEach state created = (check_waits state task now creation refl refl).1 in
      Makes id reply (record {
        fresh = is.fresh;
        active = is.own;
        waits = λ part. (same part).all id;
        others = λ other ne. record { waits = λ part. (same part).all other; active = is.others other ne };
        kept = kept_by state task now creation;
        fewer = fewer_same state created (kept_by state task now creation) same;
        some = is.some;
      })

  -- what it does
  pub create_calls : IsCreateCall state (step state task now (call.TaskCreate name body stack priority))
  create_calls = creates_by (creating.task_creates state.tasks task now name.bytes body stack priority)
