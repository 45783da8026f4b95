use Rattle.std.proofs.Common.{◌≡◌, ◌≤◌, ◌+◌, ◌*◌, ◌++◌, [], length}
use Rattle.std.specs.Option.{option_map_or}
use Rattle.std.specs.List.{list_any}
use Rattle.osal_path.specs.Path.{parts, is_bad_part}
use Rattle.osal_path.proofs.path.names_in.Given as goal

-- the names so far and the parts that are left are those of the path; each name has taken two bytes of it
abbrev pub invariant-loop-rest : goal.invariant-loop-rest
invariant-loop-rest l =
    (l.trail ++ option_map_or (λ text. parts text.now) l.rest [] ≡ parts l.fn.path)
    × (list_any is_bad_part (option_map_or (λ text. parts text.now) l.rest []) ≡ list_any is_bad_part (parts l.fn.path))
    × (2 * length l.trail + option_map_or (λ text. length text.now + 1) l.rest 0 ≤ 63)

-- how many bytes are left
abbrev pub decreases-loop-rest : goal.decreases-loop-rest
decreases-loop-rest l = option_map_or (λ text. length text.now + 1) l.rest 0
