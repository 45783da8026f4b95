-- What follows for a part of objects of one kind, each of whose calls is known.
use Rattle.std.proofs.Common.{◌≡◌, ℕ, Bool, true, false, cond, Option, Some, None, is_some, refl, ap, subst, sym, ◌∙◌}
use Rattle.std.proofs.lemmas.Bool.{true≢false}
use Rattle.osal_base.specs.declared.status.Status.TheVariants as status
use Rattle.osal_base.specs.declared.time.Moment.{Moment}
use Rattle.osal_base.specs.Reply.{Replied, refusal, is_waits, is_refusal}
use Rattle.osal_object.specs.declared.waits.WaitRecord.{WaitRecord}
use Rattle.osal_idtable.specs.Table.{active_at}
use Rattle.osal_object.specs.Waits.{wait_of}
use Rattle.osal_object.specs.Objects.{ObjectsState}
use Rattle.osal_object.specs.Outcomes.{Outcome, Ending, NoWait, WaitsOn, Ends, looks, carried_out, ended_as, given_up}
use Rattle.osal_object.proofs.OpenWaits.{seen_of, IsClosed}
use Rattle.osal_object.proofs.WaitSteps.{IsWaitStep, IsWaitEnd, Steps}
use Rattle.osal_object.proofs.Moves.{IsMove, either, stays}
use Rattle.osal_object.proofs.Refusals.{Leaves, same}
use Rattle.osal_object.proofs.Carried.{Fits, FitsEnding, outcome_moves, outcome_keeps, outcome_waits, ending_moves, ending_stays, ending_ends, gone_refused, given_up_moves, given_up_closed, abandon_leaves}
use Rattle.osal_laws.proofs.Suits.{is_holding, Suits, suits_fit}
use Rattle.osal_call.specs.declared.call.Call.{Call}
use Rattle.osal_call.specs.declared.call.Call.TheVariants as call
use Rattle.osal_call.specs.Signature.{part_of, subject_of, is_refused_before, timeout_of, is_wait_end, ends_wait}

-- what is not there is none
pub none_of : {X : Type 0} (found : Option X) → is_some found ≡ false → found ≡ None
none_of None none = refl
none_of (Some x) none = cc

-- what holds of the end of a wait, of one that is given up and of each other call holds of each call
pub of_call : (P : Call → Type 0) → ((made : Call) → ends_wait made ≡ false → P made) → ((part : ℕ) → P (call.WaitEnd part)) → ((part : ℕ) → P (call.WaitAbandon part)) → (made : Call) → P made
of_call P calls ends abandons (call.WaitEnd part) = ends part
of_call P calls ends abandons (call.WaitAbandon part) = abandons part
of_call P calls ends abandons other = calls other refl

-- a step of the part as one of its objects
abbrev pub seen_as : {S T W : Type 0} → (S → ObjectsState T W) → Replied × S → Replied × ObjectsState T W
seen_as objects stepped = (stepped.0, objects stepped.1)

-- each call of the part of that number is known by its outcome, and the end of a wait, where the wait is the part's own,
-- by its ending; the part is no more than its objects
pub record Known {S T W : Type 0} (number : ℕ) (own : ℕ → Bool) (objects : S → ObjectsState T W) (outcome : S → ℕ → Call → Outcome T W) (ending : S → ℕ → Moment → Ending T W) (step : S → ℕ → Moment → Call → Replied × S) : Type 0 where
  pub whole : (old new : S) → objects new ≡ objects old → new ≡ old
  pub calls : (old : S) (task : ℕ) (now : Moment) (made : Call) → ends_wait made ≡ false → seen_as objects (step old task now made) ≡ carried_out (objects old) task now (outcome old task made)
  pub fits : (old : S) (task : ℕ) (made : Call) → ends_wait made ≡ false → Suits (is_holding made) (objects old) (timeout_of made) (outcome old task made)
  pub looks_at : (old : S) (task : ℕ) (made : Call) (id : ℕ) → part_of made ≡ number → subject_of task made ≡ Some id → is_refused_before made ≡ false → looks (outcome old task made) ≡ Some id
  pub owns : own number ≡ true
  pub ends : (old : S) (task : ℕ) (now : Moment) (part : ℕ) → seen_as objects (step old task now (call.WaitEnd part)) ≡ ended_as (objects old) task (cond (own part) (ending old task now) NoWait)
  pub ends_fit : (old : S) (task : ℕ) (now : Moment) → FitsEnding (wait_of (objects old).waits task) (ending old task now)
  pub abandons : (old : S) (task : ℕ) (now : Moment) (part : ℕ) → seen_as objects (step old task now (call.WaitAbandon part)) ≡ ended_as (objects old) task (cond (own part) (given_up (wait_of (objects old).waits task)) NoWait)

-- a step that leaves the objects where its answer passes a test leaves the part
leaves_all : {S T W : Type 0} (objects : S → ObjectsState T W) (test : _) (old : S) (stepped : Replied × S) → ((new : S) → objects new ≡ objects old → new ≡ old) → Leaves test (objects old) (seen_as objects stepped) → Leaves test old stepped
leaves_all objects test old stepped whole leaves = record { left = λ passes. whole stepped.1 (leaves.left passes) }

module _ {S T W : Type 0} {number : ℕ} {own : ℕ → Bool} {objects : S → ObjectsState T W} {outcome : S → ℕ → Call → Outcome T W} {ending : S → ℕ → Moment → Ending T W} {step : S → ℕ → Moment → Call → Replied × S} (known : Known number own objects outcome ending step) (old : S) (task : ℕ) (now : Moment) where
  -- what holds of what the outcome does holds of a call that ends no wait
  pub by_outcome : (P : Replied × ObjectsState T W → Type 0) (made : Call) → ends_wait made ≡ false → P (carried_out (objects old) task now (outcome old task made)) → P (seen_as objects (step old task now made))
  by_outcome P made other holds = subst P (sym (known.calls old task now made other)) holds

  -- what holds of each ending and of none holds of the end of a wait
  pub by_ending : (P : Replied × ObjectsState T W → Type 0) (part : ℕ) → P (ended_as (objects old) task (ending old task now)) → P (ended_as (objects old) task NoWait) → P (seen_as objects (step old task now (call.WaitEnd part)))
  by_ending P part holds none =
      subst P (sym (known.ends old task now part))
      (either (λ (e : Ending T W). P (ended_as (objects old) task e)) (own part) (ending old task now) NoWait holds none)

  -- what holds of a wait that is given up and of none holds of each call that gives one up
  pub by_giving_up : (P : Replied × ObjectsState T W → Type 0) (part : ℕ) → P (ended_as (objects old) task (given_up (wait_of (objects old).waits task))) → P (ended_as (objects old) task NoWait) → P (seen_as objects (step old task now (call.WaitAbandon part)))
  by_giving_up P part holds none =
      subst P (sym (known.abandons old task now part))
      (either (λ (e : Ending T W). P (ended_as (objects old) task e)) (own part) (given_up (wait_of (objects old).waits task)) NoWait holds none)

  -- the outcome of a call that ends no wait fits it
  pub known_fits : (made : Call) → ends_wait made ≡ false → Fits (objects old) (timeout_of made) (outcome old task made)
  known_fits made other =
      suits_fit (is_holding made) (objects old) (timeout_of made) (outcome old task made) (known.fits old task made other)

  -- each call makes one move
  pub known_moves : (made : Call) → IsMove (objects old) (objects (step old task now made).1)
  known_moves =
      of_call (λ made. IsMove (objects old) (objects (step old task now made).1))
      (λ made other. by_outcome (λ s. IsMove (objects old) s.1) made other (outcome_moves (objects old) task now (timeout_of made) (outcome old task made) (known_fits made other)))
      (λ part. by_ending (λ s. IsMove (objects old) s.1) part (ending_moves (objects old) task (ending old task now)) (stays (objects old)))
      (λ part. by_giving_up (λ s. IsMove (objects old) s.1) part (given_up_moves (objects old) task) (stays (objects old)))

  -- a refused call that ends no wait leaves the part
  pub known_keeps : (made : Call) → is_wait_end made ≡ false → Leaves is_refusal old (step old task now made)
  known_keeps =
      of_call (λ made. is_wait_end made ≡ false → Leaves is_refusal old (step old task now made))
      (λ made other not. leaves_all objects is_refusal old _ (known.whole old) (by_outcome (Leaves is_refusal (objects old)) made other (outcome_keeps (objects old) task now (outcome old task made))))
      (λ part not. absurd (cc))
      (λ part not. leaves_all objects is_refusal old _ (known.whole old) (by_giving_up (Leaves is_refusal (objects old)) part (abandon_leaves (objects old) task) same))

  -- the end of a wait that waits on leaves the part
  pub known_stays : (part : ℕ) → Leaves is_waits old (step old task now (call.WaitEnd part))
  known_stays part =
      leaves_all objects is_waits old _ (known.whole old)
      (by_ending (Leaves is_waits (objects old)) part (ending_stays (objects old) task (wait_of (objects old).waits task) (ending old task now) (known.ends_fit old task now)) same)

  refused_whole : (stepped : Replied × S) → seen_as objects stepped ≡ (refusal status.ErrIncorrectObjState, objects old) → stepped ≡ (refusal status.ErrIncorrectObjState, old)
  refused_whole stepped same =
      ap (λ (r : Replied). (r, stepped.1)) (ap (λ (s : Replied × ObjectsState T W). s.0) same)
      ∙ ap (λ (s : S). (refusal status.ErrIncorrectObjState, s)) (known.whole old stepped.1 (ap (λ (s : Replied × ObjectsState T W). s.1) same))

  none_ends : (found : Option (WaitRecord W)) (ending : Ending T W) → FitsEnding found ending → is_some found ≡ false → ended_as (objects old) task ending ≡ (refusal status.ErrIncorrectObjState, objects old)
  none_ends found NoWait fits none = refl
  none_ends found WaitsOn fits none = absurd (true≢false (sym fits ∙ none))
  none_ends found (Ends reply writes) fits none = absurd (true≢false (sym fits.0 ∙ none))

  -- the end of a wait where the task has none is refused, and leaves the part
  pub known_refuses : (part : ℕ) → is_some (wait_of (objects old).waits task) ≡ false → step old task now (call.WaitEnd part) ≡ (refusal status.ErrIncorrectObjState, old)
  known_refuses part none =
      refused_whole (step old task now (call.WaitEnd part))
      (by_ending (λ s. s ≡ (refusal status.ErrIncorrectObjState, objects old)) part (none_ends (wait_of (objects old).waits task) (ending old task now) (known.ends_fit old task now) none) refl)

  -- the end of a wait that is not the part's own is refused, and leaves the part
  pub known_strays : (part : ℕ) → own part ≡ false → step old task now (call.WaitEnd part) ≡ (refusal status.ErrIncorrectObjState, old)
  known_strays part stray =
      refused_whole (step old task now (call.WaitEnd part))
      (known.ends old task now part ∙ ap (λ b. ended_as (objects old) task (cond b (ending old task now) NoWait)) stray)

  -- a call that ends no wait waits, or leaves the open waits
  pub known_waits : (made : Call) → ends_wait made ≡ false → IsWaitStep (seen_of (objects old).waits) task (timeout_of made) (step old task now made).0.answer (seen_of (objects (step old task now made).1).waits)
  known_waits made other =
      by_outcome (λ s. Steps (objects old) task (timeout_of made) s) made other
      (outcome_waits (objects old) task now (timeout_of made) (outcome old task made) (known_fits made other))

  -- the end of a wait in the part
  pub known_ends : IsWaitEnd (seen_of (objects old).waits) task (step old task now (call.WaitEnd number)).0.answer (seen_of (objects (step old task now (call.WaitEnd number)).1).waits)
  known_ends =
      subst (λ (s : Replied × ObjectsState T W). IsWaitEnd (seen_of (objects old).waits) task s.0.answer (seen_of s.1.waits))
      (sym (known.ends old task now number ∙ ap (λ b. ended_as (objects old) task (cond b (ending old task now) NoWait)) known.owns))
      (ending_ends (objects old) task (ending old task now) (known.ends_fit old task now))

  -- a wait in the part that is given up
  pub known_abandons : is_some (wait_of (objects old).waits task) ≡ true → IsClosed (seen_of (objects old).waits) (seen_of (objects (step old task now (call.WaitAbandon number)).1).waits) task
  known_abandons some =
      subst (λ (s : Replied × ObjectsState T W). IsClosed (seen_of (objects old).waits) (seen_of s.1.waits) task)
      (sym (known.abandons old task now number ∙ ap (λ b. ended_as (objects old) task (cond b (given_up (wait_of (objects old).waits task)) NoWait)) known.owns))
      (given_up_closed (objects old) task some)

  -- a call of the part on an identifier under which nothing stands is refused by that, where nothing refuses it before
  pub known_stale : (made : Call) (id : ℕ) → ends_wait made ≡ false → part_of made ≡ number → subject_of task made ≡ Some id → is_refused_before made ≡ false → active_at (objects old).table id ≡ None → (step old task now made).0 ≡ refusal status.ErrInvalidId
  known_stale made id other of_part on may none =
      by_outcome (λ s. s.0 ≡ refusal status.ErrInvalidId) made other
      (gone_refused (objects old) task now (outcome old task made) id (known.looks_at old task made id of_part on may) none)
