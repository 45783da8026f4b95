use Rattle.std.proofs.Common.{◌-◌, ◌*◌, ◌∙◌, length, drop, sym, ap, arith}
use Rattle.osal_script.proofs.Groups.{few_numbers, one_group, no_group}
use Rattle.osal_script.proofs.handling.handlers_in.Goals as goal

pub loop-at-init : goal.loop-at-init
loop-at-init c = record {
  few = omega arith;
  whole = omega arith;
  numbers = c.none-waiting.ensures ∙ sym (no_group 64 c.min-at.result c.args.bytes.now (omega arith));
}

pub push-requires : goal.push-requires
push-requires c =
    let at = c.loop-at.at in
    omega (arith, ap length c.loop-at.invariant.numbers, few_numbers (64 - at) (drop (12 * at) c.args.bytes.now))

pub loop-at-preserved : goal.loop-at-preserved
loop-at-preserved c =
    let group = one_group 64 c.loop-at.at c.args.bytes.now (omega arith) (omega arith) c.loop-at.invariant.whole in
    record { few = omega arith; whole = omega arith; numbers = cc }
