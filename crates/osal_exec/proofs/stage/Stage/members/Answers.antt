use Rattle.std.proofs.Common.{◌<◌, ◌≢◌, ◌∙◌, false, length, arith, get_or-set_other, get_or-set_same, below_more}
use Rattle.std.proofs.lemmas.List.{length-set, length-replicate, get_or-replicate}
use Rattle.osal_exec.proofs.Empty.{members_all}
use Rattle.osal_exec.proofs.stage.Stage.members.Goals as goal

pub loop-slot-init : goal.loop-slot-init
loop-slot-init c = record {
  count = length-replicate 64 false;
  told = λ k h. absurd (omega arith);
  others = λ k past within. get_or-replicate 64 k false false within;
}

pub loop-slot-preserved : goal.loop-slot-preserved
loop-slot-preserved c = record {
  count = length-set c.loop-slot.members c.loop-slot.slot c.can_run.result ∙ c.loop-slot.invariant.count;
  told =
      below_more _ _
      (λ k h. let ne : k ≢ c.loop-slot.slot = omega arith in rw get_or-set_other (c.loop-slot.invariant.told k h))
      (let lt : c.loop-slot.slot < length c.loop-slot.members = omega arith in rw get_or-set_same c.can_run.ensures);
  others = λ k past within. let ne : k ≢ c.loop-slot.slot = omega arith in rw get_or-set_other (c.loop-slot.invariant.others k (omega arith) within);
}

pub returns : goal.returns
returns c =
    members_all c.args.self.now.whole c.args.self.now.runners c.loop-slot.slot (λ k past. c.used-used.ensures.rest k (omega (arith, c.loop-slot-test.false))) c.loop-slot.members c.loop-slot.invariant.told c.loop-slot.invariant.others
