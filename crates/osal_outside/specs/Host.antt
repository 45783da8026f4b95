-- The host's edge: what its calls answer, and that the count rises by one where they fail.
use Rattle.std.specs.Prelude.{◌≡◌, ℕ, Bool, true, false, Result, Ok, Err}
use Rattle.osal_outside.specs.declared.shelf.Opened.{Opened}
use Rattle.osal_outside.specs.declared.shelf.Opened.TheVariants as opened
use Rattle.osal_outside.specs.declared.shelf.ReadFailed.{ReadFailed}
use Rattle.osal_base.specs.declared.reply.OutOfMemory.{OutOfMemory}
use Rattle.osal_outside.specs.Plan.{next_count}

-- one more fault where the call failed, and none where it did not
abbrev pub CountsFault : {T E : Type 0} → ℕ → ℕ → Result T E → Type 0
CountsFault before now (Ok given) = now ≡ before
CountsFault before now (Err failed) = now ≡ next_count before

-- a read where no file is open gives no bytes
abbrev pub ReadsOpen : Bool → Result ℕ ReadFailed → Type 0
ReadsOpen true result = Unit {0}
ReadsOpen false result = result ≡ Ok 0

-- an open that is ready holds a file; one that failed holds none, and is a fault
abbrev pub HostOpens : ℕ → ℕ → Bool → Result Opened OutOfMemory → Type 0
HostOpens before now holds (Ok opened.Ready) = (now ≡ before) × (holds ≡ true)
HostOpens before now holds (Ok opened.Failed) = (now ≡ next_count before) × (holds ≡ false)
HostOpens before now holds (Ok opened.NotFound) = ⊥
HostOpens before now holds (Err memory) = ⊥
