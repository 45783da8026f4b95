-- Each entry of a run lowers by one at least how many it may still make.
use Rattle.std.proofs.Common.{◌≡◌, ◌≤◌, ◌+◌, ◌++◌, ℕ, true, false, List, [], ◌∷◌, length, Option, Some, None, slice_get, inl, inr, refl, sym, ap, subst, ◌∙◌, arith}
use Rattle.std.proofs.Math.Path.{subst₂}
use Rattle.std.specs.List.{AllByRecursion}
use Rattle.std.proofs.lemmas.Bool.{cases_Bool, cond_both, cond-false, false≢true}
use Rattle.osal_base.specs.declared.time.Moment.{Moment}
use Rattle.osal_base.specs.Text.{Text}
use Rattle.osal_base.specs.Reply.{Replied, reply_of, is_waits}
use Rattle.osal_call.specs.Call.{said}
use Rattle.osal_machine.specs.Step.{MachineState, step}
use Rattle.osal_machine.specs.History.{after_entry}
use Rattle.osal_call.specs.declared.call.Call.{Call}
use Rattle.osal_call.specs.declared.call.Call.TheVariants as call
use Rattle.osal_call.specs.declared.call.Entry.{Entry}
use Rattle.osal_line.specs.declared.line.ScriptCall.{ScriptCall}
use Rattle.osal_line.specs.declared.line.ScriptCall.TheVariants as script_call
use Rattle.osal_line.specs.Calls.{call_of}
use Rattle.osal_price.specs.Price.{Prices, line_cost}
use Rattle.osal_script.specs.declared.phase.Phase.{Phase}
use Rattle.osal_script.specs.declared.phase.Phase.TheVariants as phase
use Rattle.osal_script.specs.App.{Application, ScriptBody, NamesLater, HandlersAreBare}
use Rattle.osal_script.specs.Script as script
use Rattle.osal_script.specs.Script.{Pending, Frames, ScriptState, frame_at, MayCome, IsNext, start_of, after, after_in, after_answer, line_call, is_success}
use Rattle.osal_runs.specs.Segments.{Segment, is_of, has_segment, joined, segment_with, begun, recorded}
use Rattle.osal_runs.specs.Runs.{FollowsScript}
use Rattle.osal_runs.specs.Linked.{newest_script, IsLinked, is_creation}
use Rattle.osal_runs.specs.Waiting.{deadlines}
use Rattle.osal_runs.specs.Potential.{prices_of, lines_cost, script_potential, segments_potential, potential}
use Rattle.osal_runs.proofs.Segments.{reached_push, first_of_or}
use Rattle.osal_runs.proofs.LineCosts.{cost_right}
use Rattle.osal_runs.proofs.Drains.{drains_in, drains_most}
use Rattle.osal_laws.proofs.DueCounts.{due_counts, deadlines_counted}
use Rattle.osal_runs.proofs.LineCalls.{IsCreateCall, Refuses, Makes, create_calls}
use Rattle.osal_runs.proofs.Linking.{begins_none, begun_as, creation_answered}
use Rattle.osal_runs.proofs.LinkedSteps.{has_of_next, creation_of}
use Rattle.osal_runs.proofs.Following.{still_moment, next_still}
use Rattle.osal_runs.proofs.Spending.{left_in, plain_left, Spends, spends_in}
use Rattle.osal_runs.proofs.Ticks.{ticks_next, ticks_made, newest_paid}
use Rattle.osal_runs.proofs.MadeByLines.{line_made}

turned : (a b c d : ℕ) → a ≡ d → (a + c) + b ≡ (b + c) + d
turned a b c d same = omega arith

-- a line that creates a task costs its body and ten
creation_pays : (prices : Prices) (line : ScriptCall) (registers : List ℕ) (name : Text) (body stack priority : ℕ) → said (call.TaskCreate name body stack priority) ≡ call_of line registers → line_cost prices line ≡ 2 + (8 + prices.body body)
creation_pays prices (script_call.TaskCreate register other number room level) registers name body stack priority is =
    let same : number ≡ body = cc in ap (λ n. 2 + (8 + prices.body n)) same
creation_pays prices line registers name body stack priority is =
    absurd (false≢true (sym (line_made prices line registers).creation ∙ sym (ap is_creation is)))

module _ (prices : Prices) where
  -- the segments one behind the other
  pub segments_more : (segments more : List Segment) → segments_potential prices (segments ++ more) ≡ segments_potential prices segments + segments_potential prices more
  segments_more [] more = omega arith
  segments_more (segment ∷ segments) more = let rest = segments_more segments more in omega arith

  -- of the segments one alone goes on
  pub segments_joined : (segments : List Segment) (entry : Entry) → has_segment segments entry.task ≡ true → segments_potential prices (joined segments entry) + left_in prices (newest_script segments entry.task) ≡ segments_potential prices segments + left_in prices (script.after_entry (newest_script segments entry.task) entry)
  segments_joined [] entry has = absurd (false≢true has)
  segments_joined (segment ∷ segments) entry has =
      elim (cases_Bool (has_segment segments entry.task)) [
        | inl later ↦ let rest = segments_joined segments entry later in rw later (omega arith)
        | inr last ↦
            let mine : is_of entry.task segment ≡ true = first_of_or (is_of entry.task segment) (has_segment segments entry.task) has last in
            let pushed = ap (left_in prices) (reached_push (start_of segment.bodies segment.body) segment.entries entry) in
            rw (last, mine) (turned _ _ (segments_potential prices segments) _ pushed)
      ]

-- a creation's line has paid for the task that it makes
creation_left : (prices : Prices) (bodies : List ScriptBody) (pending : List Pending) (frames : Frames) (reply : Replied) (name : Text) (body stack priority : ℕ) → said (call.TaskCreate name body stack priority) ≡ line_call pending frames → left_in prices (after_answer bodies pending frames reply) + prices.body body + 1 ≤ lines_cost prices pending
creation_left prices bodies [] frames reply name body stack priority is = absurd (cc)
creation_left prices bodies (next ∷ pending) frames reply name body stack priority is =
    let pays = creation_pays prices next.line.call (frame_at frames next.frame) name body stack priority is in
    let none : ticks_next (next ∷ pending) ≡ false = sym (ticks_made (call.TaskCreate name body stack priority) (next ∷ pending) frames is) in
    omega (arith, plain_left prices bodies next pending frames reply none)

created_pays : (prices : Prices) (at : Phase) (from : ScriptState) (name : Text) (body stack priority : ℕ) (reply : Replied) → is_waits reply.answer ≡ false → MayCome at from (said (call.TaskCreate name body stack priority)) reply.answer → left_in prices (after_in at from (call.TaskCreate name body stack priority) reply) + prices.body body + 1 ≤ script_potential prices at from.pending
created_pays prices phase.Before from name body stack priority reply answered may = absurd (let e = may.0 in cc)
created_pays prices phase.At from name body stack priority reply answered may =
    subst (λ (s : ScriptState). left_in prices s + prices.body body + 1 ≤ lines_cost prices from.pending + 1) (sym (cond-false (is_waits reply.answer) _ _ answered))
    (omega (arith, creation_left prices from.bodies from.pending from.frames reply name body stack priority may))
created_pays prices (phase.Waiting part) from name body stack priority reply answered (inl may) = absurd (let e = may.0 in cc)
created_pays prices (phase.Waiting part) from name body stack priority reply answered (inr may) = absurd (let e = may.0 in cc)
created_pays prices (phase.Leaving part) from name body stack priority reply answered may = absurd (cc)
created_pays prices phase.Ended from name body stack priority reply answered may = absurd may

-- the tasks that an entry creates cost no more than their body
module _ (app : Application) (names : NamesLater app) where
  body_left : (id : ℕ) (name : List ℕ) (number : ℕ) (o : Option ScriptBody) → slice_get app.bodies number ≡ o → segments_potential (prices_of app) (segment_with id name app.bodies o) ≤ (prices_of app).body number
  body_left id name number None is = omega arith
  body_left id name number (Some body) is = omega (arith, cost_right app number body names is)

  -- what a creation begins
  pub begun_left : (reply : Replied) (name : Text) (body stack priority : ℕ) → segments_potential (prices_of app) (begun_as app (call.TaskCreate name body stack priority) reply) ≤ (prices_of app).body body
  begun_left reply name body stack priority =
      cond_both (is_success reply.answer) _ _ (λ (list : List Segment). segments_potential (prices_of app) list ≤ (prices_of app).body body)
      (λ t. body_left reply.number name.bytes body (slice_get app.bodies body) refl) (λ f. omega arith)

-- a creation leaves no more deadlines
pub creation_fewer : (state : MachineState) (stepped : Replied × MachineState) → IsCreateCall state stepped → (at : Moment) → due_counts at stepped.1 ≤ due_counts at state
creation_fewer state stepped (Refuses plain failed) at = plain.fewer at
creation_fewer state stepped (Makes id reply creates) at = creates.fewer at

module _ (app : Application) (names : NamesLater app) (bare : HandlersAreBare app) (state : MachineState) (segments : List Segment) (entry : Entry) (linked : IsLinked app state segments) (scripts : AllByRecursion FollowsScript segments) (next : IsNext (newest_script segments entry.task) entry) (replied : reply_of entry.reply ≡ (step state entry.task entry.now entry.call).0) where
  -- the script of the entry's task
  abbrev from : ScriptState
  from = newest_script segments entry.task

  -- what a call with this reply leaves to be made is paid for, with the task that it creates
  abbrev IsPaidBy : Call → Replied → Type 0
  IsPaidBy made reply =
      left_in (prices_of app) (after from made reply) + segments_potential (prices_of app) (begun_as app made reply) + due_counts state.time.moment (step state entry.task entry.now made).1 + drains_in (step state entry.task entry.now made).1 + 1
      ≤ left_in (prices_of app) from + due_counts state.time.moment state + drains_in state

  plain_pays : is_creation entry.call ≡ false → IsPaidBy entry.call (reply_of entry.reply)
  plain_pays plain =
      let may : MayCome from.phase from (said entry.call) (step state entry.task entry.now entry.call).0.answer = subst (λ (r : Replied). MayCome from.phase from (said entry.call) r.answer) replied next in
      let spends = subst (λ (r : Replied). Spends (prices_of app) state (after_entry state entry) state.time.moment (after from entry.call r) from.phase from.pending) (sym replied)
      (spends_in (prices_of app) state entry.task state.time.moment linked.unheld linked.timers from.phase from entry.now entry.call plain may (newest_paid app bare segments entry.task linked.bodies scripts) (linked.each entry.task)) in
      let none : segments_potential (prices_of app) (begun app entry) ≡ 0 = ap (segments_potential (prices_of app)) (begins_none app entry plain) in
      omega arith

  creation_pays_by : (name : Text) (body stack priority : ℕ) → entry.call ≡ call.TaskCreate name body stack priority → IsPaidBy entry.call (reply_of entry.reply)
  creation_pays_by name body stack priority same =
      let made : Call = call.TaskCreate name body stack priority in
      let stepped : Replied × MachineState = step state entry.task entry.now made in
      let told : reply_of entry.reply ≡ stepped.0 = replied ∙ ap (λ c. (step state entry.task entry.now c).0) same in
      let calls : IsCreateCall state stepped = create_calls state entry.task entry.now name body stack priority in
      let may : MayCome from.phase from (said made) stepped.0.answer = subst₂ (λ (c : Call) (r : Replied). MayCome from.phase from (said c) r.answer) same told next in
      let pays = created_pays (prices_of app) from.phase from name body stack priority stepped.0 (creation_answered app state segments linked name body stack priority stepped calls) may in
      subst₂ IsPaidBy (sym same) (sym told) (omega (arith, begun_left app names stepped.0 name body stack priority, creation_fewer state stepped calls state.time.moment, drains_most state entry.task entry.now made))

  pays : IsPaidBy entry.call (reply_of entry.reply)
  pays =
      elim (cases_Bool (is_creation entry.call)) [
        | inl creates ↦ let is = creation_of entry.call creates in creation_pays_by is.0 is.1 is.2 is.3 is.4
        | inr plain ↦ plain_pays plain
      ]

  -- the next call of a task's newest script
  pub potential_step : potential app (after_entry state entry) (recorded app segments entry) + 1 ≤ potential app state segments
  potential_step =
      let still : (after_entry state entry).time.moment ≡ state.time.moment = still_moment state entry.task entry.now entry.call (next_still from.phase from entry.call entry.reply.answer next) in
      let due : length (deadlines (after_entry state entry)) ≡ due_counts state.time.moment (after_entry state entry) = deadlines_counted (after_entry state entry) ∙ ap (λ m. due_counts m (after_entry state entry)) still in
      omega (arith, due, pays, deadlines_counted state, segments_more (prices_of app) (joined segments entry) (begun app entry), segments_joined (prices_of app) segments entry (has_of_next segments entry next))
