use Rattle.std.proofs.Common.{length}
use Rattle.osal_outside.proofs.memory.MemShelf.+has_twins.Given as goal

-- the files that are left
abbrev pub decreases-has_twins : goal.decreases-has_twins
decreases-has_twins l = length l.files.now
