use Rattle.std.proofs.Common.{◌≡◌, ◌+◌, [], length}
use Rattle.std.specs.Option.{option_map_or}
use Rattle.osal_path.specs.Path.{parts, last_of, last_part}
use Rattle.osal_path.proofs.parts.last_part.Given as goal

-- the last of the parts that are left is that of the path
abbrev pub invariant-loop-rest : goal.invariant-loop-rest
invariant-loop-rest l =
    last_of l.last (option_map_or (λ text. parts text.now) l.rest []) ≡ last_part l.fn.path

-- how many bytes are left
abbrev pub decreases-loop-rest : goal.decreases-loop-rest
decreases-loop-rest l = option_map_or (λ text. length text.now + 1) l.rest 0
