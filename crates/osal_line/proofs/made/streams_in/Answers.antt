use Rattle.std.proofs.Common.{sym, ◌∙◌, arith}
use Rattle.osal_line.proofs.Streams.{one_longer, joined_one}
use Rattle.osal_line.proofs.made.streams_in.Goals as goal

pub loop-register-preserved : goal.loop-register-preserved
loop-register-preserved c =
    let more = c.add.new.self in
    let id = c.held_in.result in
    let longer = one_longer c.loop-register.streams more id (omega arith) c.add.ensures.set in
    record {
      few = omega arith;
      same = sym (joined_one c.loop-register.streams more id (omega arith) c.add.ensures.set c.args.registers.now c.args.named.now c.loop-register.register-index c.register-item.result c.loop-register-test.true c.register-item.is c.held_in.ensures) ∙ c.loop-register.invariant.same;
    }
