use Rattle.std.proofs.Common.{◌≡◌, ◌+◌, slice_index}
use Rattle.osal_blocks.specs.Chains.{walk}
use Rattle.osal_blocks.proofs.chains.walk.Given as goal

abbrev pub invariant-loop-step : goal.invariant-loop-step
invariant-loop-step l = l.block ≡ slice_index (walk l.next l.first (l._step + 1)) l._step
