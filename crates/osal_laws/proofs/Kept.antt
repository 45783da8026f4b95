-- A refused call leaves the machine, and so does the end of a wait that waits on, or in a part where the task has none.
use Rattle.std.proofs.Common.{◌≡◌, ◌==◌, ℕ, false, nat_lt, refl, ap, ◌∙◌, arith}
use Rattle.std.proofs.lemmas.Bool.{cond_both}
use Rattle.std.proofs.lemmas.Bool.Decides.{nat_tests}
use Rattle.osal_base.specs.declared.status.Status.TheVariants as status
use Rattle.osal_base.specs.declared.time.Moment.{Moment}
use Rattle.osal_base.specs.Reply.{refusal}
use Rattle.osal_task.specs.Tasks.{TaskState}
use Rattle.osal_call.specs.declared.call.Call.TheVariants as call
use Rattle.osal_call.specs.Signature.{part_of}
use Rattle.osal_machine.specs.Parts.{Tasks, as_part, part_step}
use Rattle.osal_machine.specs.Step.{MachineState, part_in, with_part, in_machine}
use Rattle.osal_laws.specs.Laws.{RefusedCallsChangeNothing, EndsThatWaitChangeNothing, EndsOfNoWaitChangeNothing}
use Rattle.osal_laws.proofs.Own.{by_number}
use Rattle.osal_laws.proofs.Known.{known_strays}
use Rattle.osal_laws.proofs.TaskKnown.{tasks_known}
use Rattle.osal_laws.proofs.KnownParts.{known_part}

-- the task part refuses the end of a wait in a part that is not there
tasks_refuse : (task : ℕ) (now : Moment) (made : ℕ) (tasks : TaskState) → (made == 0) ≡ false → part_step (Tasks tasks) task now (call.WaitEnd made) ≡ (refusal status.ErrIncorrectObjState, Tasks tasks)
tasks_refuse task now made tasks other =
    ap (as_part (λ s. Tasks s)) (known_strays tasks_known tasks task now made other)

-- the machine with a part that it has is the machine
own_part : (state : MachineState) (number : ℕ) → with_part state (part_in number state) ≡ state
own_part state = by_number (λ n part. with_part state part ≡ state) state refl refl refl refl refl refl refl refl refl (λ n. refl)

-- a refused call changes nothing
pub refused_kept : RefusedCallsChangeNothing
refused_kept state task now made other below =
    let known = known_part state (part_of made) in
    let keeps = known.keeps task now made other in
    ap (with_part state) (keeps.left below) ∙ own_part state (part_of made)

-- the end of a wait that waits on changes nothing
pub waiting_kept : EndsThatWaitChangeNothing
waiting_kept state task now part waits =
    let number = part_of (call.WaitEnd part) in
    let known = known_part state number in
    let stays = known.stays task now part in
    ap (with_part state) (stays.left waits) ∙ own_part state number

-- the end of a wait in a part where the task has none is refused and changes nothing
pub no_wait_kept : EndsOfNoWaitChangeNothing
no_wait_kept state task now part none =
    let known = known_part state part in
    cond_both (nat_lt 8 part) 0 part
    (λ number. in_machine state (part_step (part_in number state) task now (call.WaitEnd part)) ≡ (refusal status.ErrIncorrectObjState, state))
    (λ far. ap (in_machine state) (tasks_refuse task now part state.tasks (grind (arith, nat_tests))))
    (λ near. ap (in_machine state) (known.refuses task now part none) ∙ ap (λ same. (refusal status.ErrIncorrectObjState, same)) (own_part state part))
