-- A journal that follows its application does so with one more entry.
use Rattle.std.proofs.Common.{◌≡◌, ◌<◌, ◌++◌, ℕ, Bool, true, false, List, [], ◌∷◌, length, nat_lt, slice_get, Option, Some, None, inl, inr, refl, sym, ap, subst, ◌∙◌, arith}
use Rattle.std.specs.List.{AllByRecursion}
use Rattle.std.proofs.lemmas.Bool.{cond_both, false≢true}
use Rattle.osal_base.specs.declared.reply.Answer.{Answer}
use Rattle.osal_base.specs.declared.time.Moment.{Moment}
use Rattle.osal_base.specs.Limits.{version1}
use Rattle.osal_base.specs.Reply.{Replied, reply_of}
use Rattle.osal_time.specs.Time.{TimeState}
use Rattle.osal_call.specs.Call.{said}
use Rattle.osal_machine.specs.Step.{MachineState, opening, step}
use Rattle.osal_machine.specs.History.{after_entry, replay_from, replay}
use Rattle.osal_call.specs.declared.call.Call.{Call}
use Rattle.osal_call.specs.declared.call.Call.TheVariants as call
use Rattle.osal_call.specs.declared.call.Entry.{Entry}
use Rattle.osal_laws.specs.ConsoleText.{is_drain}
use Rattle.osal_laws.proofs.Histories.{legal_push}
use Rattle.osal_laws.proofs.Own.{after_time}
use Rattle.osal_script.specs.declared.phase.Phase.{Phase}
use Rattle.osal_script.specs.declared.phase.Phase.TheVariants as phase
use Rattle.osal_script.specs.App.{Application, ScriptBody}
use Rattle.osal_script.specs.Script.{ScriptState, MayCome, IsNext, is_success}
use Rattle.osal_runs.specs.Segments.{Segment, joined, segment_with, begun_by, begun, recorded, segments_from, segments_of}
use Rattle.osal_runs.specs.Runs.{CreatesFirst, is_advance, IsCalled, AreCalled, Begins, moment_by, AreTimed, FollowsScript, EndsBefore, Follows, IsTimelyCall, AreTimely, IsTimely, IsPartRun}
use Rattle.osal_runs.specs.Linked.{newest_script}
use Rattle.osal_runs.specs.UnderWay.{moment_after}
use Rattle.osal_runs.proofs.Moments.{moment_stays}
use Rattle.osal_runs.proofs.Joining.{all_more, scripts_joined}
use Rattle.osal_runs.proofs.ScriptCalls.{is_of_line, made_by_line}

module _ (app : Application) where
  -- the segments with one more entry
  pub segments_from_push : (segments : List Segment) (entries : List Entry) (entry : Entry) → segments_from app segments (entries ++ entry ∷ []) ≡ recorded app (segments_from app segments entries) entry
  segments_from_push segments [] entry = refl
  segments_from_push segments (first ∷ entries) entry = segments_from_push (recorded app segments first) entries entry

  -- the same of a whole journal
  pub segments_push : (entries : List Entry) (entry : Entry) → segments_of app (entries ++ entry ∷ []) ≡ recorded app (segments_of app entries) entry
  segments_push entries entry = segments_from_push [] entries entry

  called_push : (segments : List Segment) (entries : List Entry) (entry : Entry) → AreCalled app segments entries → IsCalled (segments_from app segments entries) entry → AreCalled app segments (entries ++ entry ∷ [])
  called_push segments [] entry called is = (is, tt)
  called_push segments (first ∷ entries) entry called is = (called.0, called_push (recorded app segments first) entries entry called.1 is)

  -- a journal that has begun goes on
  pub begins_push : (entries : List Entry) (entry : Entry) → 0 < length entries → Begins app entries → IsCalled (segments_of app entries) entry → Begins app (entries ++ entry ∷ [])
  begins_push [] entry some begins is = absurd (omega arith)
  begins_push (first ∷ entries) entry some begins is = (begins.0, called_push (recorded app [] first) entries entry begins.1 is)

  timely_from_push : (state : MachineState) (segments : List Segment) (entries : List Entry) (entry : Entry) → AreTimely app state segments entries → IsTimelyCall (replay_from state entries) (segments_from app segments entries) entry.call → AreTimely app state segments (entries ++ entry ∷ [])
  timely_from_push state segments [] entry timely is = (is, tt)
  timely_from_push state segments (first ∷ entries) entry timely is =
      (timely.0, timely_from_push (after_entry state first) (recorded app segments first) entries entry timely.1 is)

  -- time has gone on only as it may
  pub timely_push : (entries : List Entry) (entry : Entry) → IsTimely app entries → IsTimelyCall (replay version1 entries) (segments_of app entries) entry.call → IsTimely app (entries ++ entry ∷ [])
  timely_push entries entry timely is = timely_from_push (opening version1) [] entries entry timely is

-- each entry is made at the moment so far, also one more
pub timed_push : (now : Moment) (entries : List Entry) (entry : Entry) → AreTimed now entries → entry.now ≡ moment_after now entries → AreTimed now (entries ++ entry ∷ [])
timed_push now [] entry timed is = (is, tt)
timed_push now (first ∷ entries) entry timed is = (timed.0, timed_push (moment_by now first.call) entries entry timed.1 is)

-- the moment behind one more entry
pub moment_push : (now : Moment) (entries : List Entry) (entry : Entry) → moment_after now (entries ++ entry ∷ []) ≡ moment_by (moment_after now entries) entry.call
moment_push now [] entry = refl
moment_push now (first ∷ entries) entry = moment_push (moment_by now first.call) entries entry

module _ (state : MachineState) (task : ℕ) (now : Moment) where
  -- only an advance makes time go on
  pub still_moment : (made : Call) → is_advance made ≡ false → (step state task now made).1.time.moment ≡ state.time.moment
  still_moment made none =
      after_time state task now made (λ (t : TimeState). t.moment ≡ state.time.moment) refl (moment_stays state.time task now made none)

  -- an advance that succeeds makes time go on to its moment
  later_time : (to : ℕ) → is_success (step state task now (call.Advance to)).0.answer ≡ true → (step state task now (call.Advance to)).1.time.moment ≡ record { ms = to }
  later_time to = cond_both (nat_lt state.time.moment.ms to) _ _ (λ (r : Replied × TimeState). is_success r.0.answer ≡ true → r.1.moment ≡ record { ms = to }) (λ t e. refl) (λ f e. absurd (false≢true e))

  -- the moment after a call: an advance succeeds
  pub time_after : (made : Call) → (is_advance made ≡ true → is_success (step state task now made).0.answer ≡ true) → (step state task now made).1.time.moment ≡ moment_by state.time.moment made
  time_after (call.Advance to) succeeds = later_time to (succeeds refl)
  time_after other succeeds = still_moment other refl

-- what is true of no line's call, of no checkpoint and of no end of a wait is true of no call of a script
module _ (test : Call → Bool) (same : (made : Call) → test (said made) ≡ test made) (line : (made : Call) → is_of_line made ≡ true → test made ≡ false) (checkpoint : test call.Checkpoint ≡ false) (ends : (part : ℕ) → test (call.WaitEnd part) ≡ false) (abandons : (part : ℕ) → test (call.WaitAbandon part) ≡ false) where
  never_next : (at : Phase) (from : ScriptState) (made : Call) (reply : Answer) → MayCome at from (said made) reply → test made ≡ false
  never_next phase.Before from made reply may = sym (same made) ∙ ap test may.0 ∙ checkpoint
  never_next phase.At from made reply may = line made (made_by_line made from.pending from.frames may)
  never_next (phase.Waiting part) from made reply (inl may) = sym (same made) ∙ ap test may.0 ∙ ends part
  never_next (phase.Waiting part) from made reply (inr may) = sym (same made) ∙ ap test may.0 ∙ checkpoint
  never_next (phase.Leaving part) from made reply may = sym (same made) ∙ ap test may ∙ abandons part
  never_next phase.Ended from made reply may = absurd may

advance_said : (made : Call) → is_advance (said made) ≡ is_advance made
advance_said (call.Advance to) = refl
advance_said _ = refl

line_still : (made : Call) → is_of_line made ≡ true → is_advance made ≡ false
line_still (call.Advance to) line = absurd (false≢true line)
line_still _ line = refl

-- no script makes time go on
pub next_still : (at : Phase) (from : ScriptState) (made : Call) (reply : Answer) → MayCome at from (said made) reply → is_advance made ≡ false
next_still = never_next is_advance advance_said line_still refl (λ part. refl) (λ part. refl)

drain_said : (made : Call) → is_drain (said made) ≡ is_drain made
drain_said (call.Drain n) = refl
drain_said _ = refl

line_undrained : (made : Call) → is_of_line made ≡ true → is_drain made ≡ false
line_undrained (call.Drain n) line = absurd (false≢true line)
line_undrained _ line = refl

-- no script drains the console
pub next_undrained : (at : Phase) (from : ScriptState) (made : Call) (reply : Answer) → MayCome at from (said made) reply → is_drain made ≡ false
next_undrained = never_next is_drain drain_said line_undrained refl (λ part. refl) (λ part. refl)

-- a segment that begins has made no call
pub begun_follows : (app : Application) (entry : Entry) → AllByRecursion FollowsScript (begun app entry)
begun_follows app entry =
    cond_both (is_success entry.reply.answer) _ _ (AllByRecursion FollowsScript) (λ t. by_call entry.call entry.reply.number) (λ f. tt)
  where
    with_body : (id : ℕ) (name : List ℕ) (o : Option ScriptBody) → AllByRecursion FollowsScript (segment_with id name app.bodies o)
    with_body id name None = tt
    with_body id name (Some body) = (tt, tt)

    by_call : (made : Call) (id : ℕ) → AllByRecursion FollowsScript (begun_by app made id)
    by_call (call.TaskCreate name body stack priority) id = with_body id name.bytes (slice_get app.bodies body)
    by_call _ id = tt

-- an entry begins one segment at most
pub begun_ends : (app : Application) (entry : Entry) → EndsBefore (begun app entry)
begun_ends app entry =
    cond_both (is_success entry.reply.answer) _ _ EndsBefore (λ t. by_call entry.call entry.reply.number) (λ f. tt)
  where
    with_body : (id : ℕ) (name : List ℕ) (o : Option ScriptBody) → EndsBefore (segment_with id name app.bodies o)
    with_body id name None = tt
    with_body id name (Some body) = (λ again. absurd (false≢true again), tt)

    by_call : (made : Call) (id : ℕ) → EndsBefore (begun_by app made id)
    by_call (call.TaskCreate name body stack priority) id = with_body id name.bytes (slice_get app.bodies body)
    by_call _ id = tt

-- the first entry of a journal makes no time go on
pub first_still : (bodies : List ScriptBody) (first : Entry) → CreatesFirst bodies first → is_advance first.call ≡ false
first_still [] first none = absurd none
first_still (body ∷ bodies) first main = sym (advance_said first.call) ∙ ap is_advance main.call

-- each segment makes its script's calls also with the next call of a newest one
pub scripts_step : (app : Application) (segments : List Segment) (entry : Entry) → AllByRecursion FollowsScript segments → IsNext (newest_script segments entry.task) entry → AllByRecursion FollowsScript (recorded app segments entry)
scripts_step app segments entry all next =
    all_more FollowsScript (joined segments entry) (begun app entry) (scripts_joined entry segments all next) (begun_follows app entry)

-- an entry of a journal that follows its application, and its machine, with the moment so far
pub record GoesOn (app : Application) (entries : List Entry) (entry : Entry) : Type 0 where
  pub begun : 0 < length entries
  pub called : IsCalled (segments_of app entries) entry
  pub now : entry.now ≡ moment_after (record { ms = 0 }) entries
  pub scripts : AllByRecursion FollowsScript (recorded app (segments_of app entries) entry)
  pub ended : EndsBefore (recorded app (segments_of app entries) entry)

-- a journal follows its application with one more entry
pub follows_push : (app : Application) (entries : List Entry) (entry : Entry) → Follows app entries → GoesOn app entries entry → Follows app (entries ++ entry ∷ [])
follows_push app entries entry follows goes = record {
  begins = begins_push app entries entry goes.begun follows.begins goes.called;
  timed = timed_push (record { ms = 0 }) entries entry follows.timed goes.now;
  scripts = subst (AllByRecursion FollowsScript) (sym (segments_push app entries entry)) goes.scripts;
  ended = subst EndsBefore (sym (segments_push app entries entry)) goes.ended;
}

-- a part run is one with one more entry
pub part_push : (app : Application) (entries : List Entry) (entry : Entry) → IsPartRun app entries → GoesOn app entries entry → reply_of entry.reply ≡ (step (replay version1 entries) entry.task entry.now entry.call).0 → IsTimelyCall (replay version1 entries) (segments_of app entries) entry.call → IsPartRun app (entries ++ entry ∷ [])
part_push app entries entry part goes replied timely = record {
  legal = legal_push (opening version1) entries entry part.legal replied;
  follows = follows_push app entries entry part.follows goes;
  timely = timely_push app entries entry part.timely timely;
}
