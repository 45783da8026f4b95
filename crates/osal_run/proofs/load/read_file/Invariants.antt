use Rattle.std.proofs.Common.{◌≡◌, ◌≤◌, ◌-◌, length}
use Rattle.osal_outside.specs.Causes.{WhereTold}
use Rattle.osal_run.specs.Loading.{HasRead}
use Rattle.osal_run.proofs.load.read_file.Given as goal

-- what was read so far is the front of the file, and there was no fault
abbrev pub invariant-loop-chunk : goal.invariant-loop-chunk
invariant-loop-chunk g l = record {
  told : WhereTold (g.S.Shelf.content l.fn.shelf) (g.S.Shelf.content l.shelf) (HasRead l.bytes.items);
  few : length l.bytes.items ≤ 1048577;
  still : g.S.Shelf.faults l.shelf ≡ g.S.Shelf.faults l.fn.shelf;
}

abbrev pub decreases-loop-chunk : goal.decreases-loop-chunk
decreases-loop-chunk g l = 1048577 - length l.bytes.items
