use Rattle.std.proofs.Common.{◌∙◌, arith}
use Rattle.osal_outside.proofs.Told.{append_more}
use Rattle.osal_outside.proofs.sink.send_all.Goals as goal

-- what was sent, and then the front of what is left
pub loop-sent-preserved : goal.loop-sent-preserved
loop-sent-preserved g c = (
  omega (arith, c.in_ok-sent.ensures.count.1),
  append_more (g.K.Sink.written c.args.sink.now) (g.K.Sink.written c.loop-sent.sink) (g.K.Sink.written c.write.new.self) c.args.bytes.now c.loop-sent.sent c.in_ok-sent.field-0 c.loop-sent.invariant.1 c.in_ok-sent.ensures.told,
  c.in_ok-sent.ensures.cause ∙ c.loop-sent.invariant.2,
)
