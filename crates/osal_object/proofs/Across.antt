-- What follows of a call that is an outcome over one table and writes to another: one move there, and none where it is refused.
use Rattle.std.proofs.Common.{◌≡◌, true, false, not, List, refl, ap}
use Rattle.std.proofs.lemmas.Bool.{both_ways, cond_both}
use Rattle.osal_base.specs.declared.reply.Answer.{Answer}
use Rattle.osal_base.specs.declared.reply.Answer.TheVariants as answer
use Rattle.osal_base.specs.Reply.{Replied, is_success, is_refusal}
use Rattle.osal_object.specs.Objects.{ObjectsState}
use Rattle.osal_object.specs.Outcomes.{Write}
use Rattle.osal_object.specs.Across.{across}
use Rattle.osal_object.proofs.Moves.{IsMove, either, stays}
use Rattle.osal_object.proofs.Carried.{written_moves}

-- a call that succeeds is not refused
success_unrefused : (given : Answer) → is_success given ≡ true → is_refusal given ≡ false
success_unrefused (answer.Code code) succeeds = ap not succeeds
success_unrefused answer.Waits succeeds = refl
success_unrefused answer.Go succeeds = refl
success_unrefused answer.Deleted succeeds = refl

module _ {T W : Type 0} (reply : Replied) (writes : Replied → List (Write T W)) (objects : ObjectsState T W) where
  -- the other objects make one move
  pub across_moves : IsMove objects (across reply writes objects)
  across_moves = either (IsMove objects) (is_success reply.answer) _ _ (written_moves objects (writes reply)) (stays objects)

  -- a refused call leaves them
  pub across_keeps : is_refusal reply.answer ≡ true → across reply writes objects ≡ objects
  across_keeps refused =
      cond_both (is_success reply.answer) _ _ (λ o. o ≡ objects)
      (λ succeeds. absurd (both_ways (is_refusal reply.answer) (success_unrefused reply.answer succeeds) refused))
      (λ fails. refl)
