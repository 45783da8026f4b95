use Rattle.std.proofs.Common.{◌≡◌, ◌≤◌, ◌+◌, [], length}
use Rattle.std.specs.Option.{option_map_or}
use Rattle.osal_line.specs.Sets.{parts_of, more_of}
use Rattle.osal_line.proofs.sets.listed.Given as goal

-- the registers so far and those that the parts that are left name are those of the list
abbrev pub invariant-loop-rest : goal.invariant-loop-rest
invariant-loop-rest l =
    (length l.set.items ≤ 64)
    × (more_of l.set.items l.registers (option_map_or (λ text. parts_of text.now) l.rest []) ≡ more_of [] l.fn.registers (parts_of l.fn.word))

-- how many bytes are left
abbrev pub decreases-loop-rest : goal.decreases-loop-rest
decreases-loop-rest l = option_map_or (λ text. length text.now + 1) l.rest 0
