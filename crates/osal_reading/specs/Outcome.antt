-- What a reader answers, and the reading that it stands for; nothing is said where memory ran out.
use Rattle.std.specs.Prelude.{◌≡◌, ◌≤◌, ℕ, Result, Ok, Err, length}
use Rattle.osal_reading.specs.declared.fault.FaultKind.{FaultKind}
use Rattle.osal_reading.specs.declared.fault.AppFault.{AppFault}
use Rattle.osal_reading.specs.declared.fault.ParseFault.{ParseFault}
use Rattle.osal_reading.specs.declared.fault.ParseFault.TheVariants as fault
use Rattle.osal_reading.specs.declared.fault.Stop.{Stop}
use Rattle.osal_reading.specs.declared.fault.Stop.TheVariants as stop
use Rattle.osal_script.specs.App.{Application, NamesLater, HandlersAreBare}

-- a line was not read by the rule that it breaks
abbrev pub Stops : {Y : Type 0} → Stop → Result Y FaultKind → Type 0
Stops (stop.Rule kind) read = read ≡ Err kind
Stops stop.OutOfMemory read = Unit {0}

-- a line was read as the definition reads it
abbrev pub Gives : {Y : Type 0} → Result Y Stop → Result Y FaultKind → Type 0
Gives (Ok reading) read = read ≡ Ok reading
Gives (Err stopped) read = Stops stopped read

-- a text was refused by its first bad line
abbrev pub Refuses : ParseFault → Result Application AppFault → Type 0
Refuses (fault.Bad bad) reading = reading ≡ Err bad
Refuses fault.OutOfMemory reading = Unit {0}

-- a text was parsed as the definition reads it
abbrev pub ParsesAs : Result Application ParseFault → Result Application AppFault → Type 0
ParsesAs (Ok app) reading = reading ≡ Ok app
ParsesAs (Err refused) reading = Refuses refused reading

-- what a fault says of a line that was not read
abbrev pub RefusesAt : ParseFault → ℕ → Stop → Type 0
RefusesAt (fault.Bad bad) number (stop.Rule kind) = bad ≡ record { line = number; kind = kind }
RefusesAt (fault.Bad bad) number stop.OutOfMemory = ⊥
RefusesAt fault.OutOfMemory number (stop.Rule kind) = ⊥
RefusesAt fault.OutOfMemory number stop.OutOfMemory = Unit {0}

-- what every application that a text spells keeps: it has at most 64 bodies, each names later ones alone, and no
-- handler creates tasks or ticks
abbrev pub IsSound : Application → Type 0
IsSound app = (length app.bodies ≤ 64) × NamesLater app × HandlersAreBare app
