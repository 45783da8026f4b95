-- The part after a call that gives a stream, by its streams, its files and its sockets.
use Rattle.std.proofs.Common.{◌≡◌, true, Option, Some, None, is_some, refl, subst}
use Rattle.std.proofs.lemmas.Bool.{false≢true}
use Rattle.osal_idtable.specs.Table.{Active}
use Rattle.osal_base.specs.Reply.{Replied}
use Rattle.osal_file.specs.Files.{FilesState}
use Rattle.osal_socket.specs.Net.{NetState}
use Rattle.osal_io.specs.declared.part.Stream.{Stream}
use Rattle.osal_io.specs.declared.part.Stream.TheVariants as stream
use Rattle.osal_io.specs.Io.{IoState, Stepped, streams_after, opened, connected, of_stream}

-- the streams are those after the reply, the files those that the open leaves, and the sockets as before
pub opened_as : (io : IoState) (stepped : Replied × FilesState) (reply : Replied) (files : FilesState) (new : IoState) → (reply, files) ≡ stepped → new.streams ≡ streams_after io stream.File reply → new.files ≡ files → new.net ≡ io.net → (reply, new) ≡ opened io stepped
opened_as io stepped reply files new same streams left others =
    subst (λ s. (reply, new) ≡ opened io s) same (λ i. (reply, record { streams = streams i; files = left i; net = others i }))

-- the same of the stream of a socket
pub connected_as : (io : IoState) (stepped : Replied × NetState) (reply : Replied) (net : NetState) (new : IoState) → (reply, net) ≡ stepped → new.streams ≡ streams_after io stream.Socket reply → new.net ≡ net → new.files ≡ io.files → (reply, new) ≡ connected io stepped
connected_as io stepped reply net new same streams left others =
    subst (λ s. (reply, new) ≡ connected io s) same (λ i. (reply, record { streams = streams i; files = others i; net = left i }))

-- a call on a stream that is there does what it does, whatever the stream is
pub found_as : (io : IoState) (stepped : Stepped) (found : Option (Active Stream)) → is_some found ≡ true → of_stream io (λ what. stepped) found ≡ stepped
found_as io stepped None there = absurd (false≢true there)
found_as io stepped (Some active) there = refl
