use Rattle.std.proofs.Common.{◌≡◌, ◌<◌, ◌≤◌, ℕ, false, length, slice_index_or}
use Rattle.osal_exec.specs.Running.{AreMembers}
use Rattle.osal_exec.proofs.stage.Stage.members.Given as goal

-- the slots so far are told, and no other is a member's
abbrev pub invariant-loop-slot : goal.invariant-loop-slot
invariant-loop-slot l = record {
  count : length l.members ≡ 64;
  told : AreMembers l.self.whole l.self.runners l.members l.slot;
  others : (slot : ℕ) → l.slot ≤ slot → slot < 64 → slice_index_or l.members slot false ≡ false;
}
