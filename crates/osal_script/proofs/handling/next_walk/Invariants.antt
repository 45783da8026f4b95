use Rattle.std.proofs.Common.{◌≡◌, length}
use Rattle.osal_script.specs.Script.{put_in}
use Rattle.osal_script.proofs.handling.next_walk.Given as goal

abbrev pub invariant-loop-number : goal.invariant-loop-number
invariant-loop-number l = put_in l.app.bodies l.waiting ≡ put_in l.app.bodies l.initial.waiting

abbrev pub decreases-loop-number : goal.decreases-loop-number
decreases-loop-number l = length l.waiting
