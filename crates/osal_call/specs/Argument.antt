-- The arguments of calls.
use Rattle.std.specs.Prelude.{List, ℕ}
use Rattle.std.proofs.Common.{ℤ}
use Rattle.osal_base.specs.declared.arguments.Access.{Access}
use Rattle.osal_base.specs.declared.arguments.How.{How}
use Rattle.osal_base.specs.declared.arguments.Mode.{Mode}
use Rattle.osal_base.specs.declared.arguments.OpenFlags.{OpenFlags}
use Rattle.osal_base.specs.declared.arguments.SockKind.{SockKind}
use Rattle.osal_base.specs.declared.arguments.Whence.{Whence}
use Rattle.osal_base.specs.declared.time.Timeout.{Timeout}

-- an argument: bytes, an identifier, a number, how far a seek goes, how long a call may wait, one of a few words, or a
-- set of streams
pub data Argument : Type 0 where
  Text : List ℕ → Argument
  Id : ℕ → Argument
  Number : ℕ → Argument
  Offset : ℤ → Argument
  Wait : Timeout → Argument
  Flags : OpenFlags → Argument
  Use : Access → Argument
  From : Whence → Argument
  Kind : SockKind → Argument
  Ways : How → Argument
  Ready : Mode → Argument
  Streams : List ℕ → Argument
