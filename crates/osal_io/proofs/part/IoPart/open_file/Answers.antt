use Rattle.std.proofs.Common.{[], ◌∙◌}
use Rattle.osal_base.specs.Reply.{replied}
use Rattle.osal_file.specs.Streams as of_streams
use Rattle.osal_io.specs.declared.part.Stream.TheVariants as stream
use Rattle.osal_io.specs.Io.{streams_after}
use Rattle.osal_io.proofs.Opened.{opened_as}
use Rattle.osal_io.proofs.part.IoPart.open_file.Goals as goal

pub returns : goal.returns
returns c =
    let reply = replied c.open_file-ack.result [] in
    let stepped = c.open_file-ack.ensures ∙ (λ i. of_streams.open_file (c.self.view_is i).files c.args.path.now.bytes c.args.flags c.args.access (c.next_stream-id.ensures i)) in
    opened_as c.args.self.now _ reply c.open_file-ack.new.self c.add_stream.new.self stepped
    (c.add_stream.ensures.streams c.open_file-ack.result.number [] ∙ (λ i. streams_after (c.self.view_is i) stream.File reply))
    c.add_stream.ensures.files
    (c.add_stream.ensures.net ∙ (λ i. (c.self.view_is i).net))
