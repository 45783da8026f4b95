-- The end of an open wait that does not wait on removes its record and gives its holds back.
use Rattle.std.proofs.Common.{◌≡◌, ◌+◌, false, sym, ap, subst, ◌∙◌}
use Rattle.osal_base.specs.Reply.{is_waits}
use Rattle.osal_object.proofs.WaitSteps.{end_closes}
use Rattle.osal_call.specs.declared.call.Call.{Call}
use Rattle.osal_call.specs.declared.call.Call.TheVariants as call
use Rattle.osal_call.specs.Call.{part_of}
use Rattle.osal_machine.specs.Parts.{part_step}
use Rattle.osal_machine.specs.Step.{part_in}
use Rattle.osal_machine.specs.History.{replay}
use Rattle.osal_laws.specs.Laws.{holds_in}
use Rattle.osal_laws.specs.Steps.{stands_in, EndedWaitsAreOver}
use Rattle.osal_laws.proofs.Own.{own_at}
use Rattle.osal_laws.proofs.CallWaits.{near_part, of_near, end_at}
use Rattle.osal_laws.proofs.Counted.{objects_counted}
use Rattle.osal_laws.proofs.Over.{one_if}
use Rattle.osal_laws.proofs.KnownParts.{known_part}

-- the end of an open wait that does not wait on ends it
pub ended_over : EndedWaitsAreOver
ended_over limits entries task now part fits some over =
    let state = replay limits entries in
    let made : Call = call.WaitEnd part in
    let own : part_of made ≡ part = of_near part (near_part state task part some) in
    let own_part = known_part state part in
    let closed = end_closes some over (end_at state task now part) in
    let over_there : is_waits (part_step (part_in part state) task now made).0.answer ≡ false =
    subst (λ n. is_waits (part_step (part_in n state) task now made).0.answer ≡ false) own over in
    record {
      gone = closed.own;
      others = closed.others;
      given_back = λ id.
          own_part.gives (objects_counted limits entries fits) task now some over_there id
          ∙ ap (λ p. holds_in p id + one_if (stands_in (part_in part state) task id)) (sym (own_at state task now made part (sym own)));
    }
