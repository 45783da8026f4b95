-- How many more entries a run may make.
use Rattle.std.specs.Prelude.{◌+◌, ◌/◌, List, [], ◌∷◌, ℕ, length, slice_index}
use Rattle.osal_machine.specs.Step.{MachineState}
use Rattle.osal_price.specs.Price.{Prices, line_cost}
use Rattle.osal_script.specs.declared.phase.Phase.{Phase}
use Rattle.osal_script.specs.declared.phase.Phase.TheVariants as phase
use Rattle.osal_script.specs.App.{Application}
use Rattle.osal_script.specs.Script.{Pending}
use Rattle.osal_script.specs.Cost.{tick_cost, costs_from}
use Rattle.osal_runs.specs.Segments.{Segment, script_in}
use Rattle.osal_runs.specs.Waiting.{deadlines}

-- what the bodies and the ticks of an application cost
abbrev pub prices_of : Application → Prices
prices_of app = record {
  body = slice_index (costs_from (tick_cost app.bodies) 0 app.bodies);
  tick = tick_cost app.bodies;
}

-- the cost of the lines that are still to come
abbrev pub lines_cost : Prices → List Pending → ℕ
lines_cost prices [] = 0
lines_cost prices (next ∷ pending) = line_cost prices next.line.call + lines_cost prices pending

-- the cost of those behind the first
abbrev pub rest_cost : Prices → List Pending → ℕ
rest_cost prices [] = 0
rest_cost prices (next ∷ pending) = lines_cost prices pending

-- how many entries a script in a phase may still bring about: those of its lines, of the tasks that they create, of
-- the handlers of their ticks and of the deadlines that they wait for, and the checkpoint and the exit behind them;
-- one less behind a checkpoint; in a wait its end and what comes behind its line; where the wait is given up, that
-- alone
abbrev pub script_potential : Prices → Phase → List Pending → ℕ
script_potential prices phase.Before pending = lines_cost prices pending + 2
script_potential prices phase.At pending = lines_cost prices pending + 1
script_potential prices (phase.Waiting part) pending = rest_cost prices pending + 3
script_potential prices (phase.Leaving part) pending = 1
script_potential prices phase.Ended pending = 0

-- the same of a segment's script
abbrev pub segment_potential : Prices → Segment → ℕ
segment_potential prices segment =
    script_potential prices (script_in segment).phase (script_in segment).pending

-- the same of all segments' scripts together
abbrev pub segments_potential : Prices → List Segment → ℕ
segments_potential prices [] = 0
segments_potential prices (segment ∷ segments) =
    segment_potential prices segment + segments_potential prices segments

-- how many drains take so many bytes
abbrev pub drains_of : ℕ → ℕ
drains_of bytes = (bytes + 1023) / 1024

-- how many entries a run may still have: those that its scripts bring about, an advance for each deadline that lies
-- behind the moment, and the drains of the bytes that are pending on the console
abbrev pub potential : Application → MachineState → List Segment → ℕ
potential app state segments =
    segments_potential (prices_of app) segments + length (deadlines state) + drains_of (length state.console.pending)
