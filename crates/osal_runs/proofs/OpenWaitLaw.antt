-- In every legal history that follows an application the open waits are those of its scripts.
use Rattle.std.proofs.Common.{◌≡◌, ◌⊎◌, ◌==◌, ◌++◌, ℕ, true, false, List, [], ◌∷◌, length, Option, Some, None, slice_get, inl, inr, refl, sym, ap, subst, ◌∙◌, arith}
use Rattle.std.specs.List.{AllByRecursion}
use Rattle.std.proofs.lemmas.Bool.{cases_eq, cases_Bool, cond-true, cond_both, false≢true, eqb-true}
use Rattle.std.proofs.lemmas.List.{append-nil}
use Rattle.std.proofs.lemmas.Option.{slice_get_cases}
use Rattle.osal_base.specs.declared.reply.Answer.{Answer}
use Rattle.osal_base.specs.Limits.{version1}
use Rattle.osal_base.specs.Text.{Text}
use Rattle.osal_base.specs.Reply.{reply_of}
use Rattle.osal_call.specs.Call.{said}
use Rattle.osal_machine.specs.Step.{MachineState, opening, step}
use Rattle.osal_machine.specs.History.{IsLegalFrom, after_entry, replay_from}
use Rattle.osal_call.specs.declared.call.Call.{Call}
use Rattle.osal_call.specs.declared.call.Call.TheVariants as call
use Rattle.osal_call.specs.declared.call.Entry.{Entry}
use Rattle.osal_script.specs.declared.phase.Phase.{Phase}
use Rattle.osal_script.specs.declared.phase.Phase.TheVariants as phase
use Rattle.osal_script.specs.App.{Application, ScriptBody, NamesLater}
use Rattle.osal_script.specs.Script.{ScriptState, MayCome, IsNext, line_call, is_success, is_ended}
use Rattle.osal_runs.specs.Segments.{Segment, script_in, joined, segment_with, begun_by, begun, recorded, segments_from, segments_of}
use Rattle.osal_runs.specs.Runs.{IsOfMachine, IsOfTask, IsCalled, IsCalledBy, AreCalled, Begins, FollowsScript, EndsBefore}
use Rattle.osal_runs.specs.Linked.{newest_script, is_leaving, IsLinked, GivesFree, OpenWaitsAreScripts}
use Rattle.osal_runs.proofs.Segments.{newest_other}
use Rattle.osal_runs.proofs.Joining.{all_more, all_front, next_joined, scripts_before, ends_before, ends_last}
use Rattle.osal_runs.proofs.LinkedSteps.{creation_of, linked_step, linked_machine, linked_opening, linked_first}
use Rattle.osal_runs.proofs.Names.{NamesBodies, start_names, names_joined, names_newest, named_next}

module _ (app : Application) where
  -- what the scripts of a whole journal have called their segments had called before
  pub scripts_front : (segments : List Segment) (entries : List Entry) → AllByRecursion FollowsScript (segments_from app segments entries) → AllByRecursion FollowsScript segments
  scripts_front segments [] all = all
  scripts_front segments (entry ∷ entries) all =
      scripts_before entry segments (all_front FollowsScript (joined segments entry) (begun app entry) (scripts_front (recorded app segments entry) entries all))

  -- what an entry begins: nothing, or the segment of a body
  abbrev pub BeginsOne : ℕ → List Segment → Type 0
  BeginsOne id new =
      (new ≡ []) ⊎ ((name : List ℕ) × (body : ScriptBody) × (number : ℕ) × (slice_get app.bodies number ≡ Some body) × (new ≡ record { id = id; name = name; bodies = app.bodies; body = body; entries = [] } ∷ []))

  with_one : (id : ℕ) (name : List ℕ) (number : ℕ) (o : Option ScriptBody) → slice_get app.bodies number ≡ o → BeginsOne id (segment_with id name app.bodies o)
  with_one id name number None is = inl refl
  with_one id name number (Some body) is = inr (name, body, number, is, refl)

  by_one : (made : Call) (id : ℕ) → BeginsOne id (begun_by app made id)
  by_one (call.TaskCreate name body stack priority) id = with_one id name.bytes body (slice_get app.bodies body) refl
  by_one _ id = inl refl

  -- an entry begins nothing, or the segment of a body
  pub begun_one : (entry : Entry) → BeginsOne entry.reply.number (begun app entry)
  begun_one entry =
      cond_both (is_success entry.reply.answer) _ _ (BeginsOne entry.reply.number) (λ t. by_one entry.call entry.reply.number) (λ f. inl refl)

  ends_begun : (segments new : List Segment) (id : ℕ) → BeginsOne id new → EndsBefore (segments ++ new) → EndsBefore segments
  ends_begun segments new id (inl none) ends = subst EndsBefore (ap (λ list. segments ++ list) none ∙ append-nil segments) ends
  ends_begun segments new id (inr one) ends = (ends_last segments _ (subst (λ list. EndsBefore (segments ++ list)) one.4 ends)).0

  -- what had ended before an identifier came again had ended then
  pub ends_front : (segments : List Segment) (entries : List Entry) → EndsBefore (segments_from app segments entries) → EndsBefore segments
  ends_front segments [] ends = ends
  ends_front segments (entry ∷ entries) ends =
      ends_before entry segments (ends_begun (joined segments entry) (begun app entry) entry.reply.number (begun_one entry) (ends_front (recorded app segments entry) entries ends))

  -- the scripts of segments name bodies of the application
  abbrev pub AreNamed : List Segment → Type 0
  AreNamed segments = AllByRecursion (λ (s : Segment). NamesBodies (length app.bodies) (script_in s)) segments

  named_begun : (later : NamesLater app) (segments new : List Segment) (id : ℕ) → BeginsOne id new → AreNamed segments → AreNamed (segments ++ new)
  named_begun later segments new id (inl none) named = subst AreNamed (sym (ap (λ list. segments ++ list) none ∙ append-nil segments)) named
  named_begun later segments new id (inr one) named =
      subst (λ list. AreNamed (segments ++ list)) (sym one.4) (all_more _ segments _ named (start_names app one.2 one.1 later one.3, tt))

  -- and so they do with one more entry
  pub named_recorded : NamesLater app → (segments : List Segment) (entry : Entry) → AreNamed segments → AreNamed (recorded app segments entry)
  named_recorded later segments entry named =
      named_begun later (joined segments entry) (begun app entry) entry.reply.number (begun_one entry) (names_joined (length app.bodies) segments entry named)

-- a creation is a line's call
created_at : (at : Phase) (from : ScriptState) (name : Text) (body stack priority : ℕ) (reply : Answer) → MayCome at from (said (call.TaskCreate name body stack priority)) reply → (at ≡ phase.At) × (said (call.TaskCreate name body stack priority) ≡ line_call from.pending from.frames)
created_at phase.Before from name body stack priority reply may = absurd (let e = may.0 in cc)
created_at phase.At from name body stack priority reply may = (refl, may)
created_at (phase.Waiting part) from name body stack priority reply (inl may) = absurd (let e = may.0 in cc)
created_at (phase.Waiting part) from name body stack priority reply (inr may) = absurd (let e = may.0 in cc)
created_at (phase.Leaving part) from name body stack priority reply may = absurd (cc)
created_at phase.Ended from name body stack priority reply may = absurd may

not_leaving : (at : Phase) → is_ended at ≡ true → is_leaving at ≡ false
not_leaving phase.Ended ended = refl
not_leaving _ ended = absurd (false≢true ended)

module _ (app : Application) (segments : List Segment) (entry : Entry) (named : AreNamed app segments) (next : IsNext (newest_script segments entry.task) entry) (ends : EndsBefore (recorded app segments entry)) where
  -- the script of the entry's task
  abbrev from : ScriptState
  from = newest_script segments entry.task

  free_found : (name : Text) (body stack priority : ℕ) (found : ScriptBody) → entry.call ≡ call.TaskCreate name body stack priority → is_success entry.reply.answer ≡ true → slice_get app.bodies body ≡ Some found → from.phase ≡ phase.At → is_leaving (newest_script segments entry.reply.number).phase ≡ false
  free_found name body stack priority found same success is at =
      elim (cases_eq entry.reply.number entry.task) [
        | inl own ↦ ap (λ id. is_leaving (newest_script segments id).phase) own ∙ ap is_leaving at
        | inr ne ↦
            let new : Segment = record { id = entry.reply.number; name = name.bytes; bodies = app.bodies; body = found; entries = [] } in
            let begins : begun app entry ≡ new ∷ [] = cond-true (is_success entry.reply.answer) _ _ success ∙ ap (λ c. begun_by app c entry.reply.number) same ∙ ap (segment_with entry.reply.number name.bytes app.bodies) is in
            let ended = (ends_last (joined segments entry) new (subst (λ list. EndsBefore (joined segments entry ++ list)) begins ends)).1 in
            ap (λ (s : ScriptState). is_leaving s.phase) (sym (newest_other segments entry entry.reply.number ne)) ∙ not_leaving _ ended
      ]

  -- where a segment's identifier comes again only behind its script's end, no creation gives one that still has a
  -- wait to give up
  pub free_of_ends : GivesFree segments entry
  free_of_ends creates success =
      let is = creation_of entry.call creates in
      let at = created_at from.phase from is.0 is.1 is.2 is.3 entry.reply.answer (subst (λ c. MayCome from.phase from (said c) entry.reply.answer) is.4 next) in
      let body = named_next (length app.bodies) from.pending from.frames is.0 is.1 is.2 is.3 at.1 (names_newest (length app.bodies) segments entry.task named).pending in
      elim ((slice_get_cases app.bodies is.1).1) [
        | inl found ↦ free_found is.0 is.1 is.2 is.3 found.0 is.4 success found.2 at.0
        | inr past ↦ absurd (omega arith)
      ]

module _ (app : Application) (later : NamesLater app) where
  -- one more entry of a journal
  pub called_step : (state : MachineState) (segments : List Segment) (entry : Entry) → IsLinked app state segments → AreNamed app segments → IsCalled segments entry → reply_of entry.reply ≡ (step state entry.task entry.now entry.call).0 → AllByRecursion FollowsScript (recorded app segments entry) → EndsBefore (recorded app segments entry) → IsLinked app (after_entry state entry) (recorded app segments entry)
  called_step state segments entry linked named called replied scripts ends =
      elim (cases_Bool (entry.task == 0)) [
        | inl zero ↦
            let machine : IsOfMachine entry = subst (λ b. IsCalledBy b segments entry) zero called in
            linked_machine app state segments linked entry (eqb-true entry.task 0 zero) machine.call
        | inr some ↦
            let task : IsOfTask segments entry = subst (λ b. IsCalledBy b segments entry) some called in
            let next = next_joined entry segments task.created (all_front FollowsScript (joined segments entry) (begun app entry) scripts) in
            linked_step app state segments entry linked next replied (free_of_ends app segments entry named next ends)
      ]

  -- the rest of a journal
  linked_from : (state : MachineState) (segments : List Segment) (entries : List Entry) → IsLinked app state segments → AreNamed app segments → AreCalled app segments entries → IsLegalFrom state entries → AllByRecursion FollowsScript (segments_from app segments entries) → EndsBefore (segments_from app segments entries) → IsLinked app (replay_from state entries) (segments_from app segments entries)
  linked_from state segments [] linked named called legal scripts ends = linked
  linked_from state segments (entry ∷ entries) linked named called legal scripts ends =
      linked_from (after_entry state entry) (recorded app segments entry) entries
      (called_step state segments entry linked named called.0 legal.0 (scripts_front app (recorded app segments entry) entries scripts) (ends_front app (recorded app segments entry) entries ends))
      (named_recorded app later segments entry named) called.1 legal.1 scripts ends

  linked_all : (entries : List Entry) → Begins app entries → IsLegalFrom (opening version1) entries → AllByRecursion FollowsScript (segments_of app entries) → EndsBefore (segments_of app entries) → IsLinked app (replay_from (opening version1) entries) (segments_of app entries)
  linked_all [] begins legal scripts ends = linked_opening app
  linked_all (first ∷ entries) begins legal scripts ends =
      linked_from (after_entry (opening version1) first) (recorded app [] first) entries (linked_first app first legal.0 begins.0) (named_recorded app later [] first tt) begins.1 legal.1 scripts ends

-- the open waits of a legal history that follows an application are those of its scripts
pub open_waits_are_scripts : OpenWaitsAreScripts
open_waits_are_scripts app entries later legal follows =
    linked_all app later entries follows.begins legal follows.scripts follows.ended
