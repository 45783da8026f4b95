-- Steps that leave what they find where they answer a code below 0.
use Rattle.std.proofs.Common.{◌≡◌, ℕ, Bool, true, false, nat_lt, pos, negsuc, Option, Some, None, refl, arith}
use Rattle.std.specs.Prelude.{int_lt}
use Rattle.std.proofs.lemmas.Bool.{both_ways, le-ltb}
use Rattle.osal_base.specs.declared.reply.Answer.{Answer}
use Rattle.osal_base.specs.declared.reply.Answer.TheVariants as answer
use Rattle.osal_base.specs.Reply.{Replied, is_waits, is_success, is_refusal}
use Rattle.osal_idtable.specs.Table.{Active, active_at}
use Rattle.osal_object.specs.Objects.{ObjectsState, held_by_caller, hold_call_step, released_by_caller, release_call_step, caller_hold_limit}
use Rattle.osal_object.specs.Waits.{waits_on}
use Rattle.osal_object.proofs.Moves.{either}
use Rattle.osal_object.proofs.Refusals.{Leaves, hold_keeps, release_keeps}

-- whether an answer is a code below 0
abbrev pub below : Answer → Bool
below (answer.Code code) = int_lt code (pos 0)
below other = false

-- a count is not below 0
pub count_not_below : (count : ℕ) → below (answer.Code (pos count)) ≡ false
count_not_below count = le-ltb count 0 (omega arith)

-- a code below 0 is no success
pub below_fails : (given : Answer) → below given ≡ true → is_success given ≡ false
below_fails (answer.Code (pos n)) under = absurd (both_ways _ (count_not_below n) under)
below_fails (answer.Code (negsuc n)) under = refl
below_fails answer.Waits under = refl
below_fails answer.Go under = refl
below_fails answer.Deleted under = refl

-- what has to wait is no success
pub waits_fails : (given : Answer) → is_waits given ≡ true → is_success given ≡ false
waits_fails (answer.Code code) waits = absurd (both_ways false refl waits)
waits_fails answer.Waits waits = refl
waits_fails answer.Go waits = refl
waits_fails answer.Deleted waits = refl

-- a code below 0 is a refusal
pub below_refused : (given : Answer) → below given ≡ true → is_refusal given ≡ true
below_refused (answer.Code (pos n)) under = absurd (both_ways _ (count_not_below n) under)
below_refused (answer.Code (negsuc n)) under = refl
below_refused answer.Waits under = under
below_refused answer.Go under = under
below_refused answer.Deleted under = under

-- a step that leaves what it finds where it is refused leaves it where it answers a code below 0
pub refused_leaves : {S : Type 0} {old : S} {stepped : Replied × S} → Leaves is_refusal old stepped → Leaves below old stepped
refused_leaves {stepped = stepped} leaves = record { left = λ under. leaves.left (below_refused stepped.0.answer under) }

module _ {T W : Type 0} (objects : ObjectsState T W) (id : ℕ) where
  abbrev Answers : Replied × ObjectsState T W → Type 0
  Answers stepped = is_waits stepped.0.answer ≡ false

  held_answers : (found : Option (Active T)) → Answers (held_by_caller objects id found)
  held_answers None = refl
  held_answers (Some active) = either Answers (nat_lt active.holds caller_hold_limit) _ _ refl refl

  -- a hold does not wait
  pub hold_answers : is_waits (hold_call_step objects id).0.answer ≡ false
  hold_answers = held_answers (active_at objects.table id)

  released_answers : (found : Option (Active T)) → Answers (released_by_caller objects id found)
  released_answers None = refl
  released_answers (Some active) =
      either Answers (nat_lt (waits_on objects.waits id) active.holds) _ _ refl refl

  -- the end of a hold does not wait
  pub release_answers : is_waits (release_call_step objects id).0.answer ≡ false
  release_answers = released_answers (active_at objects.table id)

  -- a hold that answers a code below 0 changes nothing
  pub hold_leaves : Leaves below objects (hold_call_step objects id)
  hold_leaves = refused_leaves (hold_keeps objects id)

  -- nor does the end of one
  pub release_leaves : Leaves below objects (release_call_step objects id)
  release_leaves = refused_leaves (release_keeps objects id)
