-- What a driver tells a sink: the bytes that its entries drain from the console.
use Rattle.std.specs.Prelude.{◌≡◌, ◌++◌, List, Bool, true, false, ℕ, Option, Result, Ok, Err}
use Rattle.osal_outside.specs.Causes.{WhereTold}
use Rattle.osal_outside.specs.Sink.{Appends, AppendsPrefix}
use Rattle.osal_call.specs.declared.call.Entry.{Entry}
use Rattle.osal_laws.specs.ConsoleText.{drained}
use Rattle.osal_exec.specs.declared.driver.Outcome.{Outcome}
use Rattle.osal_exec.specs.declared.driver.Outcome.TheVariants as outcome
use Rattle.osal_exec.specs.declared.stage.Halt.{Halt}
use Rattle.osal_exec.specs.declared.stage.Halt.TheVariants as halt

-- what a sink tells of the bytes written, if it tells any
abbrev pub Written : Type 0
Written = Option (List ℕ)

-- the entries since then drain some bytes, which were appended to what was written
abbrev pub Tells : List Entry → List Entry → Written → Written → Type 0
Tells old new before after =
    (bytes : List ℕ) × (drained new ≡ drained old ++ bytes) × WhereTold before after (Appends bytes)

-- the same, of which a prefix was appended
abbrev pub TellsPrefix : List Entry → List Entry → Written → Written → Type 0
TellsPrefix old new before after =
    (bytes : List ℕ) × (drained new ≡ drained old ++ bytes) × WhereTold before after (AppendsPrefix bytes)

-- whether a driver was halted by its sink
abbrev pub is_sink_halt : {A : Type 0} → Result A Halt → Bool
is_sink_halt (Ok done) = false
is_sink_halt (Err halt.SinkFault) = true
is_sink_halt (Err halt.OutOfMemory) = false

-- whether a run ended by a fault of its sink
abbrev pub is_sink_fault : Outcome → Bool
is_sink_fault outcome.Settled = false
is_sink_fault outcome.SinkFault = true
is_sink_fault outcome.OutOfMemory = false
