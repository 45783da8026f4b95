use Rattle.std.proofs.Common.{[], ◌∙◌}
use Rattle.osal_base.specs.Reply.{replied}
use Rattle.osal_socket.specs.Binding.{socket_open}
use Rattle.osal_io.specs.declared.part.Stream.TheVariants as stream
use Rattle.osal_io.specs.Io.{streams_after}
use Rattle.osal_io.proofs.Opened.{connected_as}
use Rattle.osal_io.proofs.part.IoPart.socket_open.Goals as goal

pub returns-clause-step : goal.returns-clause-step
returns-clause-step c =
    let reply = replied c.in_ok-ack.ack [] in
    let stepped = c.in_ok-ack.ensures.step ∙ (λ i. socket_open (c.self.view_is i).net c.args.kind (c.next_stream-id.ensures i)) in
    connected_as c.args.self.now _ reply c.socket_open.new.self c.add_stream.new.self stepped
    (c.add_stream.ensures.streams c.in_ok-ack.ack.number [] ∙ (λ i. streams_after (c.self.view_is i) stream.Socket reply))
    c.add_stream.ensures.net
    (c.add_stream.ensures.files ∙ (λ i. (c.self.view_is i).files))
