-- How the holds of an object change in one call: by an accepted hold, by an accepted release, and with the waits on it.
use Rattle.std.proofs.Common.{◌≡◌, ◌==◌, ◌&&◌, ◌<◌, ◌+◌, ◌-◌, ℕ, Bool, true, false, cond, Option, Some, None, nat_lt, refl, sym, ap, ◌∙◌, inl, inr, arith, subst}
use Rattle.std.proofs.lemmas.Bool.{cases_eq, cond_both, both_ways, true≢false}
use Rattle.std.proofs.lemmas.Bool.Decides.{nat_tests}
use Rattle.osal_base.specs.declared.reply.Answer.{Answer}
use Rattle.osal_base.specs.declared.time.Moment.{Moment}
use Rattle.osal_base.specs.Reply.{Replied, is_success}
use Rattle.osal_idtable.specs.Table.{Active, active_at, with_active}
use Rattle.osal_idtable.proofs.Keyed.{apart}
use Rattle.osal_idtable.proofs.Placed.{itself}
use Rattle.osal_object.specs.Waits.{wait_of, waits_on}
use Rattle.osal_object.specs.Objects.{ObjectsState, with_table, held_by_caller, hold_call_step, released_by_caller, release_call_step, caller_hold_limit}
use Rattle.osal_object.specs.Outcomes.{Outcome, Ending, carried_out, given_up}
use Rattle.osal_object.specs.ObjectLaws.{IsCounted, holds_of}
use Rattle.osal_object.proofs.Balance.{AreBalanced}
use Rattle.osal_object.proofs.HeldEach.{there, one_there, write_here, write_there}
use Rattle.osal_object.proofs.Moves.{is_there}
use Rattle.osal_call.specs.declared.call.Call.{Call}
use Rattle.osal_call.specs.declared.call.Call.TheVariants as call
use Rattle.osal_call.specs.Signature.{timeout_of}
use Rattle.osal_laws.specs.Holds.{is_hold_of, is_release_of}
use Rattle.osal_laws.proofs.Known.{Known, seen_as, of_call, by_outcome, by_ending, by_giving_up}
use Rattle.osal_laws.proofs.Quiet.{same_balanced, quiet_balanced, ended_balanced}
use Rattle.osal_laws.proofs.Suits.{is_holding, Suits}

-- one for a test that passes, else none
abbrev pub one_if : Bool → ℕ
one_if test = cond test 1 0

-- one for a call that passes a test and succeeded, else none
abbrev pub counts : Bool → Answer → ℕ
counts passes answer = one_if (passes && is_success answer)

counts_none : (passes : Bool) → one_if (passes && false) ≡ 0
counts_none true = refl
counts_none false = refl

no_hold : (q : ℕ) (made : Call) → is_holding made ≡ false → is_hold_of q made ≡ false
no_hold q (call.Hold id) none = absurd (true≢false none)
no_hold q _ none = refl

no_release : (q : ℕ) (made : Call) → is_holding made ≡ false → is_release_of q made ≡ false
no_release q (call.Release id) none = absurd (true≢false none)
no_release q _ none = refl

-- identifiers that a test tells apart are not one
pub differ : (test : ℕ → Bool) (id q : ℕ) → test id ≡ true → test q ≡ false → id ≡ q → ⊥
differ test id q own other same = both_ways (test q) other (ap test (sym same) ∙ own)

pub differ_too : (test : ℕ → Bool) (id q : ℕ) → test id ≡ false → test q ≡ true → id ≡ q → ⊥
differ_too test id q other own same = both_ways (test q) (ap test (sym same) ∙ other) own

-- what holds of a hold, of a release and of each other call holds of each call
pub of_holding : (P : Call → Type 0) → ((id : ℕ) → P (call.Hold id)) → ((id : ℕ) → P (call.Release id)) → ((made : Call) → is_holding made ≡ false → P made) → (made : Call) → P made
of_holding P holds releases others (call.Hold id) = holds id
of_holding P holds releases others (call.Release id) = releases id
of_holding P holds releases others other = others other refl

-- where an identifier was active and is, its holds beside the waits on it rise by some and fall by others
pub record Tells (was now : Bool) (old_holds new_holds old_waits new_waits more less : ℕ) : Type 0 where
  pub told : was ≡ true → now ≡ true → new_holds + old_waits + less ≡ old_holds + new_waits + more

-- they do in the one of two tables that is chosen
pub either_tells : (own : Bool) {was now was_other now_other : Bool} {a b c d e f g h more less : ℕ} → (own ≡ true → Tells was now a b c d more less) → (own ≡ false → Tells was_other now_other e f g h more less) → Tells (cond own was was_other) (cond own now now_other) (cond own a e) (cond own b f) (cond own c g) (cond own d h) more less
either_tells true one other = one refl
either_tells false one other = other refl

module _ {T W : Type 0} where
  -- the holds of an object beside the waits on it rise by some and fall by others
  abbrev pub Shifts : ℕ → ℕ → ℕ → ObjectsState T W → ObjectsState T W → Type 0
  Shifts q more less old new =
      (a b : Active T) → active_at old.table q ≡ Some a → active_at new.table q ≡ Some b → b.holds + waits_on old.waits q + less ≡ a.holds + waits_on new.waits q + more

  -- they do by what a call is and answers
  abbrev pub ShiftsBy : ℕ → Call → ObjectsState T W → Replied × ObjectsState T W → Type 0
  ShiftsBy q made old stepped =
      Shifts q (counts (is_hold_of q made) stepped.0.answer) (counts (is_release_of q made) stepped.0.answer) old stepped.1

  -- where a call neither holds nor releases the object
  pub still : (q : ℕ) (old new : ObjectsState T W) (more less : ℕ) → more ≡ 0 → less ≡ 0 → AreBalanced old new → Shifts q more less old new
  still q old new more less no_more no_less balanced a b was now =
      let both = balanced q a b was now in omega arith

  -- where a call neither holds nor releases
  pub quiet_shifts : (q : ℕ) (made : Call) (old : ObjectsState T W) (stepped : Replied × ObjectsState T W) → is_holding made ≡ false → AreBalanced old stepped.1 → ShiftsBy q made old stepped
  quiet_shifts q made old stepped none balanced =
      still q old stepped.1 _ _
      (ap (λ b. counts b stepped.0.answer) (no_hold q made none)) (ap (λ b. counts b stepped.0.answer) (no_release q made none)) balanced

  -- so the holds of an identifier that is active before and after rise and fall, by what a call is and answers
  pub tells_by : (q : ℕ) (made : Call) (old : ObjectsState T W) (stepped : Replied × ObjectsState T W) → ShiftsBy q made old stepped → Tells (is_there old q) (is_there stepped.1 q) (holds_of (active_at old.table q)) (holds_of (active_at stepped.1.table q)) (waits_on old.waits q) (waits_on stepped.1.waits q) (counts (is_hold_of q made) stepped.0.answer) (counts (is_release_of q made) stepped.0.answer)
  tells_by q made old stepped shifts = record {
    told = λ was now.
        let before = there (active_at old.table q) was in
        let after = there (active_at stepped.1.table q) now in
        let both = shifts before.0 after.0 before.1 after.1 in
        let old_holds = ap holds_of before.1 in
        let new_holds = ap holds_of after.1 in
        omega arith;
  }

  -- a hold of another object, whatever it answers
  pub others_hold : (q : ℕ) (objects : ObjectsState T W) (id : ℕ) (reply : Replied) → (id ≡ q → ⊥) → ShiftsBy q (call.Hold id) objects (reply, objects)
  others_hold q objects id reply ne =
      still q objects objects _ _ (ap (λ b. counts b reply.answer) (apart id q ne)) refl (same_balanced objects)

  -- a release of another object
  pub others_release : (q : ℕ) (objects : ObjectsState T W) (id : ℕ) (reply : Replied) → (id ≡ q → ⊥) → ShiftsBy q (call.Release id) objects (reply, objects)
  others_release q objects id reply ne =
      still q objects objects _ _ refl (ap (λ b. counts b reply.answer) (apart id q ne)) (same_balanced objects)

  module _ (objects : ObjectsState T W) (q : ℕ) where
    -- a call that is refused changes nothing
    pub refused_hold : (id : ℕ) → Shifts q (one_if ((id == q) && false)) 0 objects objects
    refused_hold id = still q objects objects _ _ (counts_none (id == q)) refl (same_balanced objects)

    pub refused_release : (id : ℕ) → Shifts q 0 (one_if ((id == q) && false)) objects objects
    refused_release id = still q objects objects _ _ refl (counts_none (id == q)) (same_balanced objects)

    accepted_hold : (id : ℕ) (old : Active T) → active_at objects.table id ≡ Some old → Shifts q (one_if ((id == q) && true)) 0 objects (with_table objects (with_active objects.table id (record old { holds = old.holds + 1 })))
    accepted_hold id old is a b was now =
        elim (cases_eq id q) [
          | inl same ↦
              let new = ap (λ (x : Active T). x.holds) (write_here objects.table id q (record old { holds = old.holds + 1 }) b same now) in
              let before = ap (λ (x : Active T). x.holds) (one_there (active_at objects.table id) old a is (ap (active_at objects.table) same ∙ was)) in
              let here : (id == q) ≡ true = ap (λ k. k == q) same ∙ itself q in
              rw here (omega arith)
          | inr ne ↦
              let kept = ap (λ (x : Active T). x.holds) (write_there objects.table id q (record old { holds = old.holds + 1 }) a b ne was now) in
              rw (apart id q ne) (omega arith)
        ]

    accepted_release : (id : ℕ) (old : Active T) → active_at objects.table id ≡ Some old → waits_on objects.waits id < old.holds → Shifts q 0 (one_if ((id == q) && true)) objects (with_table objects (with_active objects.table id (record old { holds = old.holds - 1 })))
    accepted_release id old is some a b was now =
        elim (cases_eq id q) [
          | inl same ↦
              let new = ap (λ (x : Active T). x.holds) (write_here objects.table id q (record old { holds = old.holds - 1 }) b same now) in
              let before = ap (λ (x : Active T). x.holds) (one_there (active_at objects.table id) old a is (ap (active_at objects.table) same ∙ was)) in
              let here : (id == q) ≡ true = ap (λ k. k == q) same ∙ itself q in
              rw here (omega arith)
          | inr ne ↦
              let kept = ap (λ (x : Active T). x.holds) (write_there objects.table id q (record old { holds = old.holds - 1 }) a b ne was now) in
              rw (apart id q ne) (omega arith)
        ]

    held_shifts : (id : ℕ) (found : Option (Active T)) → active_at objects.table id ≡ found → ShiftsBy q (call.Hold id) objects (held_by_caller objects id found)
    held_shifts id None is = refused_hold id
    held_shifts id (Some old) is =
        cond_both (nat_lt old.holds caller_hold_limit) _ _ (ShiftsBy q (call.Hold id) objects)
        (λ t. accepted_hold id old is) (λ t. refused_hold id)

    -- a hold
    pub hold_shifts : (id : ℕ) → ShiftsBy q (call.Hold id) objects (hold_call_step objects id)
    hold_shifts id = held_shifts id (active_at objects.table id) refl

    released_shifts : (id : ℕ) (found : Option (Active T)) → active_at objects.table id ≡ found → ShiftsBy q (call.Release id) objects (released_by_caller objects id found)
    released_shifts id None is = refused_release id
    released_shifts id (Some old) is =
        cond_both (nat_lt (waits_on objects.waits id) old.holds) _ _ (ShiftsBy q (call.Release id) objects)
        (λ t. accepted_release id old is (grind (arith, nat_tests))) (λ t. refused_release id)

    -- a release
    pub release_shifts : (id : ℕ) → ShiftsBy q (call.Release id) objects (release_call_step objects id)
    release_shifts id = released_shifts id (active_at objects.table id) refl

module _ {S T W : Type 0} {number : ℕ} {own : ℕ → Bool} {objects : S → ObjectsState T W} {outcome : S → ℕ → Call → Outcome T W} {ending : S → ℕ → Moment → Ending T W} {step : S → ℕ → Moment → Call → Replied × S} (known : Known number own objects outcome ending step) (old : S) (task : ℕ) (now : Moment) (counted : IsCounted (objects old)) (q : ℕ) where
  known_balanced : (made : Call) → is_holding made ≡ false → AreBalanced (objects old) (objects (step old task now made).1)
  known_balanced =
      of_call (λ made. is_holding made ≡ false → AreBalanced (objects old) (objects (step old task now made).1))
      (λ made other none. by_outcome known old task now (λ s. AreBalanced (objects old) s.1) made other (quiet_balanced (objects old) counted task now (timeout_of made) (outcome old task made) (subst (λ holding. Suits holding (objects old) (timeout_of made) (outcome old task made)) none (known.fits old task made other))))
      (λ part none. by_ending known old task now (λ s. AreBalanced (objects old) s.1) part (ended_balanced (objects old) counted task now (ending old task now)) (same_balanced (objects old)))
      (λ part none. by_giving_up known old task now (λ s. AreBalanced (objects old) s.1) part (ended_balanced (objects old) counted task now (given_up (wait_of (objects old).waits task))) (same_balanced (objects old)))

  -- a call of a part by its outcome
  pub known_shifts : ((id : ℕ) → ShiftsBy q (call.Hold id) (objects old) (carried_out (objects old) task now (outcome old task (call.Hold id)))) → ((id : ℕ) → ShiftsBy q (call.Release id) (objects old) (carried_out (objects old) task now (outcome old task (call.Release id)))) → (made : Call) → ShiftsBy q made (objects old) (seen_as objects (step old task now made))
  known_shifts holds releases =
      of_holding (λ made. ShiftsBy q made (objects old) (seen_as objects (step old task now made)))
      (λ id. by_outcome known old task now (ShiftsBy q (call.Hold id) (objects old)) (call.Hold id) refl (holds id))
      (λ id. by_outcome known old task now (ShiftsBy q (call.Release id) (objects old)) (call.Release id) refl (releases id))
      (λ made none. quiet_shifts q made (objects old) (seen_as objects (step old task now made)) none (known_balanced made none))
