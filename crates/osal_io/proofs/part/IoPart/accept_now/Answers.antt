use Rattle.std.proofs.Common.{◌≡◌, true, [], is_some, sym, ap, ◌∙◌}
use Rattle.osal_base.specs.Reply.{replied}
use Rattle.osal_socket.specs.Connecting.{socket_accept}
use Rattle.osal_io.specs.declared.part.Stream.TheVariants as stream
use Rattle.osal_io.specs.Io.{IoState, stream_at, streams_after}
use Rattle.osal_io.proofs.Opened.{connected_as, found_as}
use Rattle.osal_io.proofs.part.IoPart.accept_now.Goals as goal

pub returns : goal.returns
returns c =
    let reply = replied c.socket_accept-ack.result [] in
    let stepped = c.socket_accept-ack.ensures ∙ (λ i. socket_accept (c.self.view_is i).net c.args.id c.args.wait (c.next_stream-stream.ensures i)) in
    let accepted = connected_as c.args.self.now _ reply c.socket_accept-ack.new.self c.add_stream.new.self stepped
    (c.add_stream.ensures.streams c.socket_accept-ack.result.number [] ∙ (λ i. streams_after (c.self.view_is i) stream.Socket reply))
    c.add_stream.ensures.net
    (c.add_stream.ensures.files ∙ (λ i. (c.self.view_is i).files)) in
    let there : is_some (stream_at c.args.self.now c.args.id) ≡ true = ap (λ (io : IoState). is_some (stream_at io c.args.id)) (sym c.self.view_is) ∙ sym c.is_active.ensures ∙ c.if-not-is_active.false in
    accepted ∙ sym (found_as c.args.self.now _ (stream_at c.args.self.now c.args.id) there)
