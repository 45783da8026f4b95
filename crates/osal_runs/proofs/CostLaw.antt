-- A part run has no more entries than its application costs.
use Rattle.std.proofs.Common.{◌≡◌, ◌≤◌, ◌==◌, ◌+◌, ℕ, true, List, [], ◌∷◌, length, nat_lt, Some, slice_index, inl, inr, refl, sym, ap, subst, ◌∙◌, arith}
use Rattle.std.proofs.Math.Path.{subst₂}
use Rattle.std.specs.List.{AllByRecursion}
use Rattle.std.proofs.lemmas.Bool.{cases_Bool, cond-true, lt-ltb, eqb-true}
use Rattle.osal_base.specs.declared.time.Moment.{Moment}
use Rattle.osal_base.specs.Limits.{version1}
use Rattle.osal_base.specs.Text.{Text}
use Rattle.osal_base.specs.Reply.{Replied, reply_of}
use Rattle.osal_time.specs.Time.{TimeState}
use Rattle.osal_console.specs.Console.{drain_limit}
use Rattle.osal_call.specs.Call.{text_of, said}
use Rattle.osal_machine.specs.Step.{MachineState, opening, step}
use Rattle.osal_machine.specs.History.{IsLegalFrom, after_entry}
use Rattle.osal_call.specs.declared.call.Call.{Call}
use Rattle.osal_call.specs.declared.call.Call.TheVariants as call
use Rattle.osal_call.specs.declared.call.Entry.{Entry}
use Rattle.osal_script.specs.App.{Application, ScriptBody, NamesLater, HandlersAreBare}
use Rattle.osal_script.specs.Cost.{first_cost, tick_cost, costs_from, cost_of}
use Rattle.osal_runs.specs.Segments.{Segment, has_segment, joined, begun, recorded, segments_from, segments_of}
use Rattle.osal_runs.specs.Waiting.{deadlines, next_deadline}
use Rattle.osal_runs.specs.Runs.{CreatesFirst, is_some_count, IsOfMachine, IsOfTask, IsCalled, IsCalledBy, AreCalled, Begins, FollowsScript, EndsBefore, IsTimelyCall, AreTimely}
use Rattle.osal_runs.specs.Linked.{IsLinked, is_creation}
use Rattle.osal_runs.specs.Potential.{prices_of, segments_potential, potential}
use Rattle.osal_runs.specs.CostLaw.{CostBounds}
use Rattle.osal_runs.proofs.Joining.{all_front, next_joined, scripts_before}
use Rattle.osal_laws.proofs.DueCounts.{due_counts, deadlines_counted}
use Rattle.osal_runs.proofs.Drains.{drains_in, drains_most, drain_lowers}
use Rattle.osal_runs.proofs.MachineCalls.{IsOwnCall, Advances, Drains, own_call}
use Rattle.osal_runs.proofs.Following.{still_moment}
use Rattle.osal_runs.proofs.LineCalls.{plain_call, create_calls}
use Rattle.osal_runs.proofs.Linking.{begun_as}
use Rattle.osal_runs.proofs.LinkedSteps.{recorded_still, linked_first}
use Rattle.osal_runs.proofs.OpenWaitLaw.{AreNamed, named_recorded, scripts_front, ends_front, called_step}
use Rattle.osal_runs.proofs.Paying.{potential_step, begun_left, creation_fewer}
use Rattle.osal_runs.proofs.Advancing.{due_fewer}
use Rattle.osal_runs.proofs.Deadlines.{next_behind}

-- the moment after an advance to the next deadline
advanced_moment : (state : MachineState) (task : ℕ) (now : Moment) (to : ℕ) → next_deadline state ≡ Some to → (step state task now (call.Advance to)).1.time.moment ≡ record { ms = to }
advanced_moment state task now to is =
    ap (λ (r : Replied × TimeState). r.1.moment) (cond-true (nat_lt state.time.moment.ms to) _ _ (lt-ltb state.time.moment.ms to (next_behind state to is)))

module _ (app : Application) (state : MachineState) (segments : List Segment) (linked : IsLinked app state segments) where
  advanced_potential : (task : ℕ) (now : Moment) (to : ℕ) → next_deadline state ≡ Some to → potential app (step state task now (call.Advance to)).1 segments + 1 ≤ potential app state segments
  advanced_potential task now to is =
      let left : MachineState = (step state task now (call.Advance to)).1 in
      let due : length (deadlines left) ≡ due_counts (record { ms = to }) state = deadlines_counted left ∙ ap (λ m. due_counts m state) (advanced_moment state task now to is) in
      omega (arith, due, deadlines_counted state, due_fewer state to is, drains_most state task now (call.Advance to))

  -- time that goes on to the next deadline
  pub potential_advance : (entry : Entry) (to : ℕ) → entry.task ≡ 0 → entry.call ≡ call.Advance to → next_deadline state ≡ Some to → potential app (after_entry state entry) (recorded app segments entry) + 1 ≤ potential app state segments
  potential_advance entry to nobody advances is =
      let same = recorded_still app segments entry (ap (has_segment segments) nobody ∙ linked.nobody) (ap is_creation advances) in
      subst₂ (λ (c : Call) (list : List Segment). potential app (step state entry.task entry.now c).1 list + 1 ≤ potential app state segments) (sym advances) (sym same) (advanced_potential entry.task entry.now to is)

  drained_potential : (task : ℕ) (now : Moment) → is_some_count (step state task now (call.Drain drain_limit)).0.answer ≡ true → potential app (step state task now (call.Drain drain_limit)).1 segments + 1 ≤ potential app state segments
  drained_potential task now some =
      let made : Call = call.Drain drain_limit in
      let left : MachineState = (step state task now made).1 in
      let due : length (deadlines left) ≡ due_counts state.time.moment left = deadlines_counted left ∙ ap (λ m. due_counts m left) (still_moment state task now made refl) in
      omega (arith, due, deadlines_counted state, (plain_call state task now made refl refl (λ id. refl)).fewer state.time.moment, drain_lowers state task now some)

  -- the console gives some bytes
  pub potential_drain : (entry : Entry) → entry.task ≡ 0 → entry.call ≡ call.Drain drain_limit → is_some_count entry.reply.answer ≡ true → reply_of entry.reply ≡ (step state entry.task entry.now entry.call).0 → potential app (after_entry state entry) (recorded app segments entry) + 1 ≤ potential app state segments
  potential_drain entry nobody drains some replied =
      let same = recorded_still app segments entry (ap (has_segment segments) nobody ∙ linked.nobody) (ap is_creation drains) in
      let gives : is_some_count (step state entry.task entry.now (call.Drain drain_limit)).0.answer ≡ true = ap (λ c. is_some_count (step state entry.task entry.now c).0.answer) (sym drains) ∙ ap (λ (r : Replied). is_some_count r.answer) (sym replied) ∙ some in
      subst₂ (λ (c : Call) (list : List Segment). potential app (step state entry.task entry.now c).1 list + 1 ≤ potential app state segments) (sym drains) (sym same) (drained_potential entry.task entry.now gives)

first_at : (costs : List ℕ) → slice_index costs 0 ≡ first_cost costs
first_at [] = refl
first_at (cost ∷ costs) = refl

unsaid_main : (made : Call) (other : Text) → said made ≡ call.TaskCreate other 0 0 0 → (name : Text) × (stack : ℕ) × (priority : ℕ) × (made ≡ call.TaskCreate name 0 stack priority)
unsaid_main (call.TaskCreate name body stack priority) other is =
    let same : body ≡ 0 = cc in (name, stack, priority, ap (λ n. call.TaskCreate name n stack priority) same)
unsaid_main _ other is = absurd (cc)

-- a creation of the first body, with what it says
main_of : (bodies : List ScriptBody) (first : Entry) → CreatesFirst bodies first → (name : Text) × (stack : ℕ) × (priority : ℕ) × (first.call ≡ call.TaskCreate name 0 stack priority)
main_of [] first none = absurd none
main_of (body ∷ bodies) first main = unsaid_main first.call (text_of body.name) main.call

module _ (app : Application) (names : NamesLater app) (bare : HandlersAreBare app) where
  first_by : (first : Entry) (name : Text) (stack priority : ℕ) → first.call ≡ call.TaskCreate name 0 stack priority → 1 + potential app (after_entry (opening version1) first) (recorded app [] first) ≤ cost_of app
  first_by first name stack priority same =
      let made : Call = call.TaskCreate name 0 stack priority in
      let stepped : Replied × MachineState = step (opening version1) first.task first.now made in
      let due : length (deadlines stepped.1) ≤ 0 = omega (arith, deadlines_counted stepped.1, creation_fewer (opening version1) stepped (create_calls (opening version1) first.task first.now name 0 stack priority) stepped.1.time.moment) in
      subst (λ (c : Call). 1 + (segments_potential (prices_of app) (begun_as app c (reply_of first.reply)) + length (deadlines (step (opening version1) first.task first.now c).1) + drains_in (step (opening version1) first.task first.now c).1) ≤ cost_of app) (sym same)
      (omega (arith, due, drains_most (opening version1) first.task first.now made, begun_left app names (reply_of first.reply) name 0 stack priority, first_at (costs_from (tick_cost app.bodies) 0 app.bodies)))

  -- the first entry of a run, and all that come behind it, are paid for
  pub first_potential : (first : Entry) → CreatesFirst app.bodies first → 1 + potential app (after_entry (opening version1) first) (recorded app [] first) ≤ cost_of app
  first_potential first creates = let is = main_of app.bodies first creates in first_by first is.0 is.1 is.2 is.3

  own_pays : (state : MachineState) (segments : List Segment) (entry : Entry) → IsLinked app state segments → entry.task ≡ 0 → IsOwnCall entry.call entry.reply.answer → reply_of entry.reply ≡ (step state entry.task entry.now entry.call).0 → IsTimelyCall state segments entry.call → potential app (after_entry state entry) (recorded app segments entry) + 1 ≤ potential app state segments
  own_pays state segments entry linked nobody (Advances to is success) replied timely =
      let due : IsTimelyCall state segments (call.Advance to) = subst (IsTimelyCall state segments) is timely in
      potential_advance app state segments linked entry to nobody is due.1
  own_pays state segments entry linked nobody (Drains is some) replied timely =
      potential_drain app state segments linked entry nobody is some replied

  called_pays : (state : MachineState) (segments : List Segment) (entry : Entry) → IsLinked app state segments → IsCalled segments entry → reply_of entry.reply ≡ (step state entry.task entry.now entry.call).0 → AllByRecursion FollowsScript (recorded app segments entry) → IsTimelyCall state segments entry.call → potential app (after_entry state entry) (recorded app segments entry) + 1 ≤ potential app state segments
  called_pays state segments entry linked called replied scripts timely =
      elim (cases_Bool (entry.task == 0)) [
        | inl zero ↦
            let machine : IsOfMachine entry = subst (λ b. IsCalledBy b segments entry) zero called in
            own_pays state segments entry linked (eqb-true entry.task 0 zero) (own_call entry.call entry.reply.answer machine.call) replied timely
        | inr some ↦
            let task : IsOfTask segments entry = subst (λ b. IsCalledBy b segments entry) some called in
            let joins : AllByRecursion FollowsScript (joined segments entry) = all_front FollowsScript (joined segments entry) (begun app entry) scripts in
            potential_step app names bare state segments entry linked (scripts_before entry segments joins) (next_joined entry segments task.created joins) replied
      ]

  -- the rest of a run has no more entries than it may still make
  bounded_from : (state : MachineState) (segments : List Segment) (entries : List Entry) → IsLinked app state segments → AreNamed app segments → AreCalled app segments entries → IsLegalFrom state entries → AreTimely app state segments entries → AllByRecursion FollowsScript (segments_from app segments entries) → EndsBefore (segments_from app segments entries) → length entries ≤ potential app state segments
  bounded_from state segments [] linked named called legal timely scripts ends = omega arith
  bounded_from state segments (entry ∷ entries) linked named called legal timely scripts ends =
      let front = scripts_front app (recorded app segments entry) entries scripts in
      let rest = bounded_from (after_entry state entry) (recorded app segments entry) entries (called_step app names state segments entry linked named called.0 legal.0 front (ends_front app (recorded app segments entry) entries ends)) (named_recorded app names segments entry named) called.1 legal.1 timely.1 scripts ends in
      omega (arith, called_pays state segments entry linked called.0 legal.0 front timely.0)

  bounded_all : (entries : List Entry) → Begins app entries → IsLegalFrom (opening version1) entries → AreTimely app (opening version1) [] entries → AllByRecursion FollowsScript (segments_of app entries) → EndsBefore (segments_of app entries) → length entries ≤ cost_of app
  bounded_all [] begins legal timely scripts ends = omega arith
  bounded_all (first ∷ entries) begins legal timely scripts ends =
      let rest = bounded_from (after_entry (opening version1) first) (recorded app [] first) entries (linked_first app first legal.0 begins.0) (named_recorded app names [] first tt) begins.1 legal.1 timely.1 scripts ends in
      omega (arith, first_potential first begins.0)

-- a part run has no more entries than its application costs
pub cost_bounds_entries : CostBounds
cost_bounds_entries app entries names bare part =
    bounded_all app names bare entries part.follows.begins part.legal part.timely part.follows.scripts part.follows.ended
