-- A state and the segments before it belong together also with one more entry.
use Rattle.std.proofs.Common.{◌≡◌, ◌++◌, ℕ, true, false, cond, List, [], ◌∷◌, Option, Some, None, slice_get, inl, inr, refl, sym, ap, subst, ◌∙◌}
use Rattle.std.specs.List.{AllByRecursion}
use Rattle.std.proofs.lemmas.Bool.{cond_both, cond-true, cond-false, cases_eq, false≢true, or_from, eq-eqb, ne_eqb}
use Rattle.std.proofs.lemmas.List.{append-nil}
use Rattle.osal_base.specs.declared.reply.Answer.TheVariants as answer
use Rattle.osal_base.specs.declared.time.Moment.{Moment}
use Rattle.osal_base.specs.Text.{Text}
use Rattle.osal_base.specs.Reply.{Replied, gives, is_waits}
use Rattle.osal_call.specs.Call.{said}
use Rattle.osal_machine.specs.Step.{MachineState, step}
use Rattle.osal_call.specs.declared.call.Call.{Call}
use Rattle.osal_call.specs.declared.call.Call.TheVariants as call
use Rattle.osal_call.specs.declared.call.Entry.{Entry}
use Rattle.osal_script.specs.declared.phase.Phase.{Phase}
use Rattle.osal_script.specs.declared.phase.Phase.TheVariants as phase
use Rattle.osal_script.specs.App.{Application, ScriptBody}
use Rattle.osal_script.specs.Script as script
use Rattle.osal_script.specs.Script.{ScriptState, MayCome, after_in, is_success, is_ended}
use Rattle.osal_runs.specs.Segments.{Segment, is_of, has_segment, joined, segment_with, begun_by, begun, recorded}
use Rattle.osal_runs.specs.Runs.{EndsBefore}
use Rattle.osal_runs.specs.Linked.{newest_script, waits_in, is_live, is_leaving, IsLinkedAt, RunsBody, IsLinked, is_creation}
use Rattle.osal_runs.proofs.Segments.{has_joined, has_more, newest_joined, newest_other, newest_push}
use Rattle.osal_runs.proofs.Joining.{all_joined, all_more, ends_push}
use Rattle.osal_runs.proofs.LineCalls.{Agrees, IsKept, on_nothing, Moves, IsOfLine, Creates, IsCreateCall, Refuses, Makes}
use Rattle.osal_runs.proofs.ScriptCalls.{is_of_line, made_by_line, unsaid_checkpoint, unsaid_end, unsaid_abandon, moves_before, moves_deleted, moves_end, moves_abandon, moves_at, answered_at}

-- what two states have the same of a task is linked to its script in both
pub linked_over : (state left : MachineState) (task : ℕ) (at : Phase) → Agrees state left task → IsLinkedAt state task at → IsLinkedAt left task at
linked_over state left task at agrees linked = record {
  waits = λ part. agrees.waits part ∙ linked.waits part;
  live = λ e. agrees.active ∙ linked.live e;
  gone = λ e. agrees.active ∙ linked.gone e;
}

-- a line's call that creates no task
pub of_line : (made : Call) → is_of_line made ≡ true → is_creation made ≡ false → IsOfLine made
of_line (call.TaskCreate name body stack priority) line plain = absurd (false≢true (sym plain))
of_line call.Checkpoint line plain = absurd (false≢true line)
of_line (call.Advance to) line plain = absurd (false≢true line)
of_line (call.Drain n) line plain = absurd (false≢true line)
of_line (call.WaitEnd part) line plain = absurd (false≢true line)
of_line (call.WaitAbandon part) line plain = absurd (false≢true line)
of_line _ line plain = tt

module _ (app : Application) (state left : MachineState) (segments : List Segment) (linked : IsLinked app state segments) where
  -- each task is linked to its script as before
  pub keeps : (after : List Segment) → IsKept state left → ((task : ℕ) → IsLinkedAt left task (newest_script after task).phase) → has_segment after 0 ≡ false → AllByRecursion (RunsBody app) after → IsLinked app left after
  keeps after kept each nobody bodies = record {
    each = each;
    once = λ part task. kept.once part task (linked.once part task);
    unheld = kept.unheld linked.unheld;
    typed = kept.kind ∙ linked.typed;
    timers = kept.timers linked.timers;
    nobody = nobody;
    bodies = bodies;
  }

  -- the entry joins its task's segment
  pub linked_joined : (entry : Entry) → has_segment segments entry.task ≡ true → Moves state left entry.task (script.after_entry (newest_script segments entry.task) entry).phase → IsLinked app left (joined segments entry)
  linked_joined entry has moves =
      keeps (joined segments entry) moves.kept
      (λ task. elim (cases_eq task entry.task) [
        | inl same ↦
            subst (λ id. IsLinkedAt left id (newest_script (joined segments entry) id).phase) (sym same)
            (subst (λ (from : ScriptState). IsLinkedAt left entry.task from.phase) (sym (newest_joined segments entry has)) moves.own)
        | inr ne ↦
            subst (λ (from : ScriptState). IsLinkedAt left task from.phase) (sym (newest_other segments entry task ne))
            (linked_over state left task _ (moves.others task ne) (linked.each task))
      ])
      (has_joined segments entry 0 ∙ linked.nobody)
      (all_joined (RunsBody app) segments entry (λ segment runs. runs) linked.bodies)

  -- a task that was not active, and whose last script gave no wait up, had come to its script's end
  fresh_ended : (at : Phase) → (is_live at ≡ true → ⊥) → is_leaving at ≡ false → at ≡ phase.Ended
  fresh_ended phase.Before live leaving = absurd (live refl)
  fresh_ended phase.At live leaving = absurd (live refl)
  fresh_ended (phase.Waiting part) live leaving = absurd (live refl)
  fresh_ended (phase.Leaving part) live leaving = absurd (false≢true (sym leaving))
  fresh_ended phase.Ended live leaving = refl

  -- a task is new
  module _ (id : ℕ) (creates : Creates state left id) (free : is_leaving (newest_script segments id).phase ≡ false) where
    -- the script of its identifier had come to its end
    was_ended : (newest_script segments id).phase ≡ phase.Ended
    was_ended = fresh_ended (newest_script segments id).phase (λ live. false≢true (sym creates.fresh ∙ (linked.each id).live live)) free

    -- the new task has no open wait
    new_linked : (at : Phase) → ((part : ℕ) → waits_in part at ≡ false) → is_leaving at ≡ false → IsLinkedAt left id at
    new_linked at none stays = record {
      waits = λ part. creates.waits part ∙ (linked.each id).waits part ∙ ap (waits_in part) was_ended ∙ sym (none part);
      live = λ e. creates.active;
      gone = λ e. absurd (false≢true (sym stays ∙ e));
    }

    -- the segment that begins with it
    abbrev first_of : List ℕ → ScriptBody → Segment
    first_of name body = record { id = id; name = name; bodies = app.bodies; body = body; entries = [] }

    -- its script begins
    linked_with : (name : List ℕ) (body : ScriptBody) → RunsBody app (first_of name body) → IsLinked app left (segments ++ first_of name body ∷ [])
    linked_with name body runs =
        let new : Segment = first_of name body in
        keeps (segments ++ new ∷ []) creates.kept
        (λ task. elim (cases_eq task id) [
          | inl own ↦
              subst (λ other. IsLinkedAt left other (newest_script (segments ++ new ∷ []) other).phase) (sym own)
              (subst (λ (from : ScriptState). IsLinkedAt left id from.phase) (sym (newest_push segments new id ∙ cond-true (is_of id new) _ _ (eq-eqb id id refl))) (new_linked phase.Before (λ part. refl) refl))
          | inr ne ↦
              subst (λ (from : ScriptState). IsLinkedAt left task from.phase) (sym (newest_push segments new task ∙ cond-false (is_of task new) _ _ (ne_eqb id task (λ e. ne (sym e)))))
              (linked_over state left task _ (creates.others task ne) (linked.each task))
        ])
        (has_more segments (new ∷ []) 0 ∙ or_from _ _ linked.nobody (or_from _ _ (ne_eqb id 0 (creates.some linked.typed)) refl))
        (all_more (RunsBody app) segments (new ∷ []) linked.bodies (runs, tt))

    -- it runs no body
    linked_without : IsLinked app left segments
    linked_without =
        keeps segments creates.kept
        (λ task. elim (cases_eq task id) [
          | inl own ↦
              subst (λ other. IsLinkedAt left other (newest_script segments other).phase) (sym own)
              (subst (IsLinkedAt left id) (sym was_ended) (new_linked phase.Ended (λ part. refl) refl))
          | inr ne ↦ linked_over state left task _ (creates.others task ne) (linked.each task)
        ])
        linked.nobody linked.bodies

module _ (app : Application) (state : MachineState) (segments : List Segment) (linked : IsLinked app state segments) where
  -- what the next call of a script leaves, where it creates no task
  pub moves_in : (at : Phase) (from : ScriptState) (task : ℕ) (now : Moment) (made : Call) → is_creation made ≡ false → MayCome at from (said made) (step state task now made).0.answer → IsLinkedAt state task at → Moves state (step state task now made).1 task (after_in at from made (step state task now made).0).phase
  moves_in phase.Before from task now made plain may at =
      subst (λ (c : Call). Moves state (step state task now c).1 task (after_in phase.Before from c (step state task now c).0).phase) (sym (unsaid_checkpoint made may.0))
      (moves_before state task linked.unheld now at)
  moves_in phase.At from task now made plain may at =
      moves_at state task made from may at now (of_line made (made_by_line made from.pending from.frames may) plain)
  moves_in (phase.Waiting part) from task now made plain (inl ends) at =
      subst (λ (c : Call). is_waits (step state task now c).0.answer ≡ false → Moves state (step state task now c).1 task (after_in (phase.Waiting part) from c (step state task now c).0).phase) (sym (unsaid_end made part ends.0))
      (λ e. moves_end state task now part from (step state task now (call.WaitEnd part)).0 at e) ends.1
  moves_in (phase.Waiting part) from task now made plain (inr gone) at =
      subst (λ (c : Call). (step state task now c).0.answer ≡ answer.Deleted → Moves state (step state task now c).1 task (after_in (phase.Waiting part) from c (step state task now c).0).phase) (sym (unsaid_checkpoint made gone.0))
      (λ e. moves_deleted state task linked.unheld now part e at) gone.1
  moves_in (phase.Leaving part) from task now made plain may at =
      subst (λ (c : Call). Moves state (step state task now c).1 task (after_in (phase.Leaving part) from c (step state task now c).0).phase) (sym (unsaid_abandon made part may))
      (moves_abandon state task now part at)
  moves_in phase.Ended from task now made plain may at = absurd may

  -- the same segments, and one of them with the entry that left the machine so
  pub linked_moves : (left : MachineState) (entry : Entry) → has_segment segments entry.task ≡ true → begun app entry ≡ [] → Moves state left entry.task (script.after_entry (newest_script segments entry.task) entry).phase → IsLinked app left (recorded app segments entry)
  linked_moves left entry has none moves =
      subst (λ new. IsLinked app left (joined segments entry ++ new)) (sym none)
      (subst (IsLinked app left) (sym (append-nil (joined segments entry))) (linked_joined app state left segments linked entry has moves))

-- an entry that creates no task begins no segment
pub begins_none : (app : Application) (entry : Entry) → is_creation entry.call ≡ false → begun app entry ≡ []
begins_none app entry plain =
    cond_both (is_success entry.reply.answer) _ _ (λ (list : List Segment). list ≡ []) (λ t. none_by entry.call plain) (λ f. refl)
  where
    none_by : (made : Call) → is_creation made ≡ false → begun_by app made entry.reply.number ≡ []
    none_by (call.TaskCreate name body stack priority) plain = absurd (false≢true (sym plain))
    none_by _ plain = refl

-- more segments that belong to a state, of which each came only behind the script's end of its identifier
pub record Grows (app : Application) (left : MachineState) (segments more : List Segment) : Type 0 where
  pub linked : IsLinked app left more
  pub ends : EndsBefore segments → EndsBefore more

-- the segment that a call with this reply begins
abbrev pub begun_as : Application → Call → Replied → List Segment
begun_as app made reply = cond (is_success reply.answer) (begun_by app made reply.number) []

module _ (app : Application) (state : MachineState) (segments : List Segment) (linked : IsLinked app state segments) (name : Text) (body stack priority : ℕ) where
  -- the call
  abbrev pub creation : Call
  creation = call.TaskCreate name body stack priority

  begun_links : (left : MachineState) (id : ℕ) → Creates state left id → is_leaving (newest_script segments id).phase ≡ false → (o : Option ScriptBody) → slice_get app.bodies body ≡ o → Grows app left segments (segments ++ segment_with id name.bytes app.bodies o)
  begun_links left id creates free None is =
      subst (Grows app left segments) (sym (append-nil segments)) (record { linked = linked_without app state left segments linked id creates free; ends = λ ends. ends })
  begun_links left id creates free (Some found) is = record {
    linked = linked_with app state left segments linked id creates free name.bytes found (refl, (body, is));
    ends = λ ends. ends_push segments _ ends (ap is_ended (was_ended app state left segments linked id creates free));
  }

  -- a creation, behind the entry that makes it
  pub creation_links : (stepped : Replied × MachineState) → IsCreateCall state stepped → ((id : ℕ) → stepped.0 ≡ gives id → Creates state stepped.1 id → is_leaving (newest_script segments id).phase ≡ false) → Grows app stepped.1 segments (segments ++ begun_as app creation stepped.0)
  creation_links stepped (Refuses plain failed) free =
      subst (λ new. Grows app stepped.1 segments (segments ++ new)) (sym (cond-false (is_success stepped.0.answer) (begun_by app creation stepped.0.number) [] failed))
      (subst (Grows app stepped.1 segments) (sym (append-nil segments)) (record {
        linked = keeps app state stepped.1 segments linked segments plain.kept (λ task. linked_over state stepped.1 task _ (plain.agrees task) (linked.each task)) linked.nobody linked.bodies;
        ends = λ ends. ends;
      }))
  creation_links stepped (Makes id reply creates) free =
      subst (λ (r : Replied). Grows app stepped.1 segments (segments ++ begun_as app creation r)) (sym reply)
      (begun_links stepped.1 id creates (free id reply creates) (slice_get app.bodies body) refl)

  -- no creation waits
  pub creation_answered : (stepped : Replied × MachineState) → IsCreateCall state stepped → is_waits stepped.0.answer ≡ false
  creation_answered stepped (Refuses plain failed) = plain.answered
  creation_answered stepped (Makes id reply creates) = ap (λ (r : Replied). is_waits r.answer) reply

  -- the script that makes it goes on
  pub creation_moves : (at : Phase) (from : ScriptState) (task : ℕ) (reply : Replied) → is_waits reply.answer ≡ false → MayCome at from (said creation) reply.answer → IsLinkedAt state task at → Moves state state task (after_in at from creation reply).phase × (is_live at ≡ true)
  creation_moves phase.Before from task reply answered may at = absurd (let e = may.0 in cc)
  creation_moves phase.At from task reply answered may at = (
    record {
      own = answered_at state task creation from may at (reply, state) (on_nothing state reply answered);
      others = λ other ne. (on_nothing state reply answered).agrees other;
      kept = (on_nothing state reply answered).kept;
    },
    refl,
  )
  creation_moves (phase.Waiting part) from task reply answered (inl may) at = absurd (let e = may.0 in cc)
  creation_moves (phase.Waiting part) from task reply answered (inr may) at = absurd (let e = may.0 in cc)
  creation_moves (phase.Leaving part) from task reply answered may at = absurd (cc)
  creation_moves phase.Ended from task reply answered may at = absurd may
