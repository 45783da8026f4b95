-- Selects: which of some streams are ready.
use Rattle.std.specs.Prelude.{◌==◌, ◌&&◌, List, [], ◌∷◌, ℕ, Bool, true, false, not, Option, Some, None, length, is_some, if◌then◌else◌}
use Rattle.std.specs.List.{list_all}
use Rattle.osal_base.specs.declared.arguments.Mode.{Mode}
use Rattle.osal_base.specs.declared.status.Status.TheVariants as status
use Rattle.osal_base.specs.declared.time.Moment.{Moment}
use Rattle.osal_base.specs.declared.time.Timeout.{Timeout}
use Rattle.osal_base.specs.Reply.{Replied, refusal, gives, waits}
use Rattle.osal_base.specs.Time.{is_check}
use Rattle.osal_idtable.specs.Table.{Active}
use Rattle.osal_select.specs.declared.ready.Ready.{Ready}
use Rattle.osal_select.specs.Sets.{streams_of}
use Rattle.osal_select.specs.Selects.{ready_number, readable_of, writable_of, found_ready}
use Rattle.osal_socket.specs.Readiness as of_sockets
use Rattle.osal_io.specs.declared.awaited.Awaited.TheVariants as awaited
use Rattle.osal_io.specs.declared.part.Stream.{Stream}
use Rattle.osal_io.specs.declared.part.Stream.TheVariants as stream
use Rattle.osal_io.specs.Io.{IoState, Stepped, refused, stream_at, on_stream, or_wait}

-- what is ready of a stream: of a file both, whatever it was opened for
abbrev pub ready_stream : IoState → ℕ → Stream → Ready
ready_stream io id stream.File = record { readable = true; writable = true }
ready_stream io id stream.Socket = of_sockets.ready io.net id

-- the same of a stream that may be there
abbrev pub ready_found : IoState → ℕ → Option (Active Stream) → Ready
ready_found io id None = record { readable = false; writable = false }
ready_found io id (Some active) = ready_stream io id active.object

-- what is ready of the stream under an identifier
abbrev pub ready_of : IoState → ℕ → Ready
ready_of io id = ready_found io id (stream_at io id)

-- what a select answers where nothing asked is ready: one that may not wait is refused, and another has to wait
abbrev pub none_ready : Timeout → Replied
none_ready wait = if is_check wait then refusal status.ErrorTimeout else waits

-- nothing asked is ready
abbrev pub finds_none : IoState → Timeout → Stepped
finds_none io wait = (none_ready wait, io)

-- a select of one stream that is there, by what is ready of what is asked
abbrev pub found_one : IoState → Timeout → ℕ → Stepped
found_one io wait number = if number == 0 then finds_none io wait else (gives number, io)

-- a select of one stream, which may have to wait
abbrev pub one_now : IoState → ℕ → Mode → Timeout → Stepped
one_now io id asked wait =
    on_stream io id (λ what. found_one io wait (ready_number asked (ready_stream io id what)))

-- OS_SelectSingle: a stream that is not active; nothing ready, where it may not wait; wait faults
abbrev pub select_one : IoState → ℕ → Moment → ℕ → Mode → Timeout → Stepped
select_one io task now id asked wait = or_wait io task now (awaited.One id asked) (id ∷ []) wait (one_now io id asked wait)

-- whether each stream of a set is active
abbrev pub are_active : IoState → List ℕ → Bool
are_active io set = list_all (λ id. is_some (stream_at io id)) set

-- a select of streams that are there, by those that are ready
abbrev pub found_some : IoState → Timeout → List ℕ → List ℕ → Stepped
found_some io wait reads writes =
    if (length reads == 0) && (length writes == 0) then finds_none io wait else (found_ready reads writes, io)

-- a select of two sets, which may have to wait
abbrev pub multi_now : IoState → List ℕ → List ℕ → Timeout → Stepped
multi_now io reads writes wait =
    if (length reads == 0) && (length writes == 0) then refused io status.ErrInvalidArgument
    else (if not (are_active io reads && are_active io writes) then refused io status.ErrInvalidId
    else found_some io wait (readable_of (ready_of io) reads) (writable_of (ready_of io) writes))

-- OS_SelectMultiple: two sets without streams; a stream that is not active; nothing ready, where it may not wait; wait
-- faults. It waits on each stream once
abbrev pub select_multi : IoState → ℕ → Moment → List ℕ → List ℕ → Timeout → Stepped
select_multi io task now reads writes wait =
    or_wait io task now (awaited.Multi reads writes) (streams_of reads writes) wait (multi_now io reads writes wait)
