use Rattle.std.proofs.Common.{◌≡◌, ◌≤◌, ◌+◌, ◌*◌, ◌++◌, length, drop}
use Rattle.osal_time.specs.Ticks.{firings}
use Rattle.osal_call.specs.Firing.{bytes_of}
use Rattle.osal_time.proofs.ticks.fire.Given as goal

-- the firings of the timers passed are in the room and counted, and those of the others make up the rest
abbrev pub invariant-loop-raw : goal.invariant-loop-raw
invariant-loop-raw l = record {
  bytes : l.room ++ bytes_of (firings l.timers.table l.from l.to (drop l.raw-index l.attached)) ≡ bytes_of (firings l.timers.table l.from l.to l.attached);
  count : l.fired + length (firings l.timers.table l.from l.to (drop l.raw-index l.attached)) ≡ length (firings l.timers.table l.from l.to l.attached);
  few : l.fired ≤ l.raw-index;
  small : length l.room ≤ 12 * l.raw-index;
}
