-- How a call is spelled: its name, and its arguments in their order.
use Rattle.std.specs.Prelude.{◌==◌, ◌++◌, List, [], ◌∷◌, ℕ, codes, if◌then◌else◌}
use Rattle.std.specs.Fmt.{decimal, signed_decimal}
use Rattle.osal_base.specs.declared.arguments.Access.{Access}
use Rattle.osal_base.specs.declared.arguments.Access.TheVariants as access
use Rattle.osal_base.specs.declared.arguments.How.{How}
use Rattle.osal_base.specs.declared.arguments.How.TheVariants as how
use Rattle.osal_base.specs.declared.arguments.Mode.{Mode}
use Rattle.osal_base.specs.declared.arguments.Mode.TheVariants as mode
use Rattle.osal_base.specs.declared.arguments.OpenFlags.{OpenFlags}
use Rattle.osal_base.specs.declared.arguments.OpenFlags.TheVariants as flags
use Rattle.osal_base.specs.declared.arguments.SockKind.{SockKind}
use Rattle.osal_base.specs.declared.arguments.SockKind.TheVariants as kind
use Rattle.osal_base.specs.declared.arguments.Whence.{Whence}
use Rattle.osal_base.specs.declared.arguments.Whence.TheVariants as whence
use Rattle.osal_base.specs.declared.time.Timeout.{Timeout}
use Rattle.osal_base.specs.declared.time.Timeout.TheVariants as timeout
use Rattle.osal_call.specs.declared.call.Call.{Call}
use Rattle.osal_call.specs.Argument.{Argument, Text, Id, Number, Offset, Wait, Flags, Use, From, Kind, Ways, Ready, Streams}
use Rattle.osal_call.specs.Signature.{spelled}
use Rattle.osal_spelling.specs.Spelling.{id_text, quoted}

-- how a wait is spelled
abbrev pub wait_text : Timeout → List ℕ
wait_text timeout.Check = codes "check"
wait_text timeout.Pend = codes "pend"
wait_text (timeout.Ms ms) = if ms == 0 then codes "check" else decimal ms

-- how it is spelled what an opening does to the file
abbrev pub flags_text : OpenFlags → List ℕ
flags_text flags.Neither = codes "none"
flags_text flags.Create = codes "create"
flags_text flags.Truncate = codes "truncate"
flags_text flags.Both = codes "both"

-- how it is spelled what a file is opened for
abbrev pub access_text : Access → List ℕ
access_text access.Ro = codes "ro"
access_text access.Wo = codes "wo"
access_text access.Rw = codes "rw"

-- how it is spelled from where a seek counts
abbrev pub whence_text : Whence → List ℕ
whence_text whence.Set = codes "set"
whence_text whence.Cur = codes "cur"
whence_text whence.End = codes "end"

-- how it is spelled what a socket carries
abbrev pub kind_text : SockKind → List ℕ
kind_text kind.Stream = codes "stream"
kind_text kind.Dgram = codes "dgram"

-- how it is spelled which ways are shut down
abbrev pub ways_text : How → List ℕ
ways_text how.Read = codes "read"
ways_text how.Write = codes "write"
ways_text how.Both = codes "both"

-- how it is spelled what a select waits for
abbrev pub ready_text : Mode → List ℕ
ready_text mode.R = codes "r"
ready_text mode.W = codes "w"
ready_text mode.Rw = codes "rw"

-- some streams, each behind a comma
abbrev pub more_streams_text : List ℕ → List ℕ
more_streams_text [] = []
more_streams_text (id ∷ ids) = 44 ∷ id_text id ++ more_streams_text ids

-- how a set of streams is spelled: its identifiers with commas between them, or a dash where there are none
abbrev pub streams_text : List ℕ → List ℕ
streams_text [] = codes "-"
streams_text (id ∷ ids) = id_text id ++ more_streams_text ids

-- how an argument is spelled
abbrev pub argument_text : Argument → List ℕ
argument_text (Text bytes) = quoted bytes
argument_text (Id id) = id_text id
argument_text (Number number) = decimal number
argument_text (Offset offset) = signed_decimal offset
argument_text (Wait wait) = wait_text wait
argument_text (Flags flags) = flags_text flags
argument_text (Use access) = access_text access
argument_text (From whence) = whence_text whence
argument_text (Kind kind) = kind_text kind
argument_text (Ways how) = ways_text how
argument_text (Ready mode) = ready_text mode
argument_text (Streams ids) = streams_text ids

-- some arguments, each behind a space
abbrev pub arguments_text : List Argument → List ℕ
arguments_text [] = []
arguments_text (argument ∷ arguments) = 32 ∷ argument_text argument ++ arguments_text arguments

-- the text of a call
abbrev pub call_text : Call → List ℕ
call_text made = (spelled made).name ++ arguments_text (spelled made).arguments
