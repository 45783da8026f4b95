-- A sink in memory: what its calls answer, and what they leave.
use Rattle.std.specs.Prelude.{ℕ, min, ◌-◌, ◌==◌, ◌||◌, if◌then◌else◌, List, [], ◌++◌, length, take, Result, Ok, Err}
use Rattle.osal_outside.specs.declared.sink.WriteFailed.{WriteFailed}
use Rattle.osal_outside.specs.Plan.{FaultPlan, is_due, counted, failed, planned}

-- the bytes written, how many of them were handed on, the most bytes in all and of one write, and the faults to come
pub record MemWritten : Type 0 where
  pub bytes : List ℕ
  pub handed : ℕ
  pub room : ℕ
  pub grain : ℕ
  pub plan : FaultPlan

-- an empty sink with no calls
abbrev pub fresh_sink : ℕ → ℕ → List ℕ → MemWritten
fresh_sink room grain fails = record { bytes = []; handed = 0; room = room; grain = grain; plan = planned fails }

-- the bytes that were handed on
abbrev pub flushed_bytes : MemWritten → List ℕ
flushed_bytes sink = take sink.handed sink.bytes

-- the sink with other bytes and another plan
abbrev pub holding : MemWritten → List ℕ → FaultPlan → MemWritten
holding sink bytes plan =
    record { bytes = bytes; handed = sink.handed; room = sink.room; grain = sink.grain; plan = plan }

-- the sink whose bytes were all handed on, with another plan
abbrev pub all_handed : MemWritten → FaultPlan → MemWritten
all_handed sink plan =
    record { bytes = sink.bytes; handed = length sink.bytes; room = sink.room; grain = sink.grain; plan = plan }

-- how many bytes of a piece of that length the next write takes
abbrev pub write_size : MemWritten → ℕ → ℕ
write_size sink piece = min (min piece sink.grain) (sink.room - length sink.bytes)

-- a write: it fails where the plan says so, and where no room is left
abbrev pub write_step : MemWritten → List ℕ → Result ℕ WriteFailed × MemWritten
write_step sink piece =
    if is_due sink.plan || write_size sink (length piece) == 0
    then (Err (record {}), holding sink sink.bytes (failed sink.plan))
    else (
      Ok (write_size sink (length piece)),
      holding sink (sink.bytes ++ take (write_size sink (length piece)) piece) (counted sink.plan),
    )

-- a flush: it hands on all bytes, or fails where the plan says so
abbrev pub flush_step : MemWritten → Result (Unit {0}) WriteFailed × MemWritten
flush_step sink =
    if is_due sink.plan then (Err (record {}), holding sink sink.bytes (failed sink.plan))
    else (Ok tt, all_handed sink (counted sink.plan))
