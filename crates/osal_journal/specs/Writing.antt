-- Writing a text in pieces: how much of it is sent, and whether it was the sink that failed.
use Rattle.std.specs.Prelude.{◌≡◌, ◌++◌, List, ℕ, Bool, true, false, Option, Result, Ok, Err}
use Rattle.osal_outside.specs.Causes.{WhereTold}
use Rattle.osal_outside.specs.Sink.{Appends}
use Rattle.osal_journal.specs.declared.write.WriteFault.{WriteFault}
use Rattle.osal_journal.specs.declared.write.WriteFault.TheVariants as fault

-- whether a write failed; want of memory is no failed write
abbrev pub is_write_failed : {T : Type 0} → Result T WriteFault → Bool
is_write_failed (Ok written) = false
is_write_failed (Err fault.OutOfMemory) = false
is_write_failed (Err fault.WriteFailed) = true

-- of a text all was written but what is left at its end
pub record IsSentTo (text left : List ℕ) (before after : Option (List ℕ)) : Type 0 where
  pub sent : List ℕ
  pub split : text ≡ sent ++ left
  pub told : WhereTold before after (Appends sent)
