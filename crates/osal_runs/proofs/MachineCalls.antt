-- The calls that the machine itself makes: time goes on, or the console gives some bytes.
use Rattle.std.proofs.Common.{◌≡◌, ◌==◌, ℕ, true, false, refl, ap}
use Rattle.std.proofs.lemmas.Bool.{false≢true, and_parts, eqb-true}
use Rattle.osal_base.specs.declared.reply.Answer.{Answer}
use Rattle.osal_console.specs.Console.{drain_limit}
use Rattle.osal_call.specs.declared.call.Call.{Call}
use Rattle.osal_call.specs.declared.call.Call.TheVariants as call
use Rattle.osal_script.specs.Script.{is_success}
use Rattle.osal_runs.specs.Runs.{is_advance, is_some_count, is_machine_call}
use Rattle.osal_runs.specs.Linked.{is_creation}

-- a call of the machine itself with its answer: an advance that succeeds, or a drain that gives some bytes
pub data IsOwnCall (made : Call) (reply : Answer) : Type 0 where
  Advances : (to : ℕ) → made ≡ call.Advance to → is_success reply ≡ true → IsOwnCall made reply
  Drains : made ≡ call.Drain drain_limit → is_some_count reply ≡ true → IsOwnCall made reply

-- which of them it is
pub own_call : (made : Call) (reply : Answer) → is_machine_call made reply ≡ true → IsOwnCall made reply
own_call (call.Advance to) reply is = Advances to refl is
own_call (call.Drain n) reply is =
    let parts = and_parts (n == drain_limit) (is_some_count reply) is in Drains (ap (λ k. call.Drain k) (eqb-true n drain_limit parts.0)) parts.1
own_call _ reply is = absurd (false≢true is)

-- none of them creates a task
pub own_plain : (made : Call) (reply : Answer) → is_machine_call made reply ≡ true → is_creation made ≡ false
own_plain (call.TaskCreate name body stack priority) reply is = absurd (false≢true is)
own_plain _ reply is = refl

-- an advance among them succeeds
pub own_advance : (made : Call) (reply : Answer) → is_machine_call made reply ≡ true → is_advance made ≡ true → is_success reply ≡ true
own_advance (call.Advance to) reply is advances = is
own_advance _ reply is advances = absurd (false≢true advances)
