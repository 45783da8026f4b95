-- A code below 0 is one other than success.
use Rattle.std.proofs.Common.{◌≡◌, pos, negsuc, true, refl, arith}
use Rattle.std.proofs.lemmas.Bool.{both_ways, le-ltb}
use Rattle.osal_base.specs.declared.reply.Answer.{Answer}
use Rattle.osal_base.specs.declared.reply.Answer.TheVariants as answer
use Rattle.osal_base.specs.Reply.{Replied, is_refusal}
use Rattle.osal_laws.specs.Laws.{is_below_zero}
use Rattle.osal_object.proofs.Refusals.{Leaves}

-- a code below 0 is one other than success
below_refused : (given : Answer) → is_below_zero given ≡ true → is_refusal given ≡ true
below_refused (answer.Code (pos n)) below = absurd (both_ways (is_below_zero (answer.Code (pos n))) (le-ltb n 0 (omega arith)) below)
below_refused (answer.Code (negsuc n)) below = refl
below_refused answer.Waits below = below
below_refused answer.Go below = below
below_refused answer.Deleted below = below

-- a step that leaves what it found where it is refused leaves it where it answers a code below 0
pub where_below : {S : Type 0} {old : S} {stepped : Replied × S} → Leaves is_refusal old stepped → Leaves is_below_zero old stepped
where_below {stepped = stepped} leaves = record { left = λ below. leaves.left (below_refused stepped.0.answer below) }
