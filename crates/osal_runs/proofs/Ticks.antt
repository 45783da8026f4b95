-- A script's tick does not wait, and its answer numbers no more handlers than timers may fire.
use Rattle.std.proofs.Common.{◌≡◌, ◌≤◌, ℕ, Bool, true, false, List, [], ◌∷◌, inl, inr, refl, sym, ap, subst, ◌∙◌, arith}
use Rattle.std.specs.List.{AllByRecursion}
use Rattle.std.proofs.lemmas.Bool.{cond_both, cases_Bool, false≢true, eq-eqb}
use Rattle.osal_base.specs.declared.reply.Answer.{Answer}
use Rattle.osal_base.specs.declared.reply.Answer.TheVariants as answer
use Rattle.osal_base.specs.declared.time.Moment.{Moment}
use Rattle.osal_base.specs.Limits.{version1}
use Rattle.osal_base.specs.Reply.{Replied, reply_of, is_waits}
use Rattle.osal_time.specs.Attachment.{AreAttached}
use Rattle.osal_call.specs.Call.{said, part_of}
use Rattle.osal_machine.specs.Step.{MachineState, step}
use Rattle.osal_call.specs.declared.call.Call.{Call}
use Rattle.osal_call.specs.declared.call.Call.TheVariants as call
use Rattle.osal_call.specs.declared.call.Entry.{Entry}
use Rattle.osal_laws.proofs.Attached.{tick_few}
use Rattle.osal_line.specs.declared.line.ScriptCall.{ScriptCall}
use Rattle.osal_line.specs.Bare.{is_tick_line}
use Rattle.osal_line.specs.Calls.{call_of}
use Rattle.osal_price.specs.Price.{Prices}
use Rattle.osal_script.specs.declared.phase.Phase.{Phase}
use Rattle.osal_script.specs.declared.phase.Phase.TheVariants as phase
use Rattle.osal_script.specs.App.{Application, HandlersAreBare}
use Rattle.osal_script.specs.Cost.{no_prices, tick_cost}
use Rattle.osal_script.specs.Script.{start_of, Pending, Frames, ScriptState, line_call, phase_after_checkpoint, is_checkpoint, after_answer, after_in, after_entry, MayCome, Follow, reached}
use Rattle.osal_runs.specs.Segments.{Segment, script_in}
use Rattle.osal_runs.specs.Runs.{FollowsScript}
use Rattle.osal_runs.specs.Linked.{newest_script, IsLinkedAt, RunsBody}
use Rattle.osal_runs.specs.Potential.{prices_of}
use Rattle.osal_runs.proofs.Segments.{bodies_reached, newest_all}
use Rattle.osal_runs.proofs.MadeByLines.{is_tick_call, line_made}
use Rattle.osal_runs.proofs.ScriptCalls.{answered_in}
use Rattle.osal_runs.proofs.HandlerCosts.{IsFew, AreBare}

-- the answer to a tick where the timers are attached to their timebases
pub few_told : (state : MachineState) (task : ℕ) (now : Moment) (made : Call) → AreAttached version1.timers state.time → is_tick_call made ≡ true → IsFew (step state task now made).0.bytes
few_told state task now (call.TimebaseTick id usecs) attached tick =
    tick_few version1.timers state.time task now id usecs attached
few_told state task now _ attached tick = absurd (false≢true tick)

-- a call ticks where what it says does
pub tick_said : (made : Call) → is_tick_call (said made) ≡ is_tick_call made
tick_said (call.TimebaseTick id usecs) = refl
tick_said _ = refl

-- and where its line does
pub tick_of : (line : ScriptCall) (registers : List ℕ) → is_tick_call (call_of line registers) ≡ is_tick_line line
tick_of line registers = (line_made no_prices line registers).tick

-- whether the line that comes next is a tick
abbrev pub ticks_next : List Pending → Bool
ticks_next [] = false
ticks_next (next ∷ pending) = is_tick_line next.line.call

-- a call is a tick where the line that comes next is
pub ticks_made : (made : Call) (pending : List Pending) (frames : Frames) → said made ≡ line_call pending frames → is_tick_call made ≡ ticks_next pending
ticks_made made [] frames is = sym (tick_said made) ∙ ap is_tick_call is
ticks_made made (next ∷ pending) frames is = sym (tick_said made) ∙ ap is_tick_call is ∙ tick_of next.line.call _

part_said : (made : Call) → part_of (said made) ≡ part_of made
part_said call.Checkpoint = refl
part_said _ = refl

tick_part : (made : Call) → is_tick_call made ≡ true → part_of made ≡ 6
tick_part (call.TimebaseTick id usecs) tick = refl
tick_part _ tick = absurd (false≢true tick)

-- a script waits in the part of its line's call
abbrev pub WaitsAt : Phase → ScriptState → Type 0
WaitsAt (phase.Waiting part) from = part ≡ part_of (line_call from.pending from.frames)
WaitsAt other from = Unit {0}

checked_waits : (from : ScriptState) (reply : Answer) → WaitsAt (phase_after_checkpoint reply) from
checked_waits from answer.Go = tt
checked_waits from answer.Deleted = tt
checked_waits from answer.Waits = tt
checked_waits from (answer.Code code) = tt

answered_waits : (from : ScriptState) (reply : Replied) → WaitsAt (after_answer from.bodies from.pending from.frames reply).phase (after_answer from.bodies from.pending from.frames reply)
answered_waits from reply =
    answered_in (λ at. WaitsAt at (after_answer from.bodies from.pending from.frames reply)) from.bodies from.pending from.frames reply tt tt

waits_after : (at : Phase) (from : ScriptState) (made : Call) (reply : Replied) → MayCome at from (said made) reply.answer → WaitsAt (after_in at from made reply).phase (after_in at from made reply)
waits_after phase.Before from made reply may = checked_waits _ reply.answer
waits_after phase.At from made reply may =
    cond_both (is_waits reply.answer) _ _ (λ (s : ScriptState). WaitsAt s.phase s) (λ t. sym (part_said made) ∙ ap part_of may) (λ f. answered_waits from reply)
waits_after (phase.Waiting part) from made reply may =
    cond_both (is_checkpoint made) _ _ (λ (s : ScriptState). WaitsAt s.phase s) (λ t. tt) (λ f. answered_waits from reply)
waits_after (phase.Leaving part) from made reply may = tt
waits_after phase.Ended from made reply may = absurd may

-- so does one that has made some calls
pub waits_reached : (from : ScriptState) (entries : List Entry) → Follow from entries → WaitsAt from.phase from → WaitsAt (reached from entries).phase (reached from entries)
waits_reached from [] follows waits = waits
waits_reached from (entry ∷ entries) follows waits =
    waits_reached (after_entry from entry) entries follows.1 (waits_after from.phase from entry.call (reply_of entry.reply) follows.0)

-- no script waits in a tick
pub waits_plain : (state : MachineState) (task part : ℕ) (pending : List Pending) (frames : Frames) → part ≡ part_of (line_call pending frames) → IsLinkedAt state task (phase.Waiting part) → ticks_next pending ≡ false
waits_plain state task part [] frames is linked = refl
waits_plain state task part (next ∷ pending) frames is linked =
    elim (cases_Bool (is_tick_line next.line.call)) [
      | inl tick ↦
          let own : part ≡ 6 = is ∙ tick_part (line_call (next ∷ pending) frames) (tick_of next.line.call _ ∙ tick) in
          absurd (false≢true (linked.waits 6 ∙ eq-eqb part 6 own))
      | inr none ↦ none
    ]

-- what a script's ticks bring about is paid for by the prices, in a phase
pub record IsPaid (prices : Prices) (at : Phase) (from : ScriptState) : Type 0 where
  pub bare : AreBare from.bodies
  pub tick : tick_cost from.bodies ≤ prices.tick
  pub waits : WaitsAt at from

module _ (app : Application) (bare : HandlersAreBare app) where
  -- the prices of an application pay for a script's ticks
  abbrev pub IsPaidIn : ScriptState → Type 0
  IsPaidIn from = IsPaid (prices_of app) from.phase from

  segment_paid : (segment : Segment) → RunsBody app segment → FollowsScript segment → IsPaidIn (script_in segment)
  segment_paid segment runs follows =
      let same : (script_in segment).bodies ≡ app.bodies = bodies_reached (start_of segment.bodies segment.body) segment.entries ∙ runs.0 in
      record {
        bare = subst AreBare (sym same) bare;
        tick = subst (λ bodies. tick_cost bodies ≤ tick_cost app.bodies) (sym same) (omega arith);
        waits = waits_reached (start_of segment.bodies segment.body) segment.entries follows tt;
      }

  segments_paid : (segments : List Segment) → AllByRecursion (RunsBody app) segments → AllByRecursion FollowsScript segments → AllByRecursion (λ (s : Segment). IsPaidIn (script_in s)) segments
  segments_paid [] runs follows = tt
  segments_paid (segment ∷ segments) runs follows =
      (segment_paid segment runs.0 follows.0, segments_paid segments runs.1 follows.1)

  -- those of each newest script
  pub newest_paid : (segments : List Segment) (id : ℕ) → AllByRecursion (RunsBody app) segments → AllByRecursion FollowsScript segments → IsPaidIn (newest_script segments id)
  newest_paid segments id runs follows =
      newest_all IsPaidIn segments id (record { bare = tt; tick = omega arith; waits = tt }) (segments_paid segments runs follows)
