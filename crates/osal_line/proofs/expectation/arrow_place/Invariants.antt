use Rattle.std.proofs.Common.{◌≡◌, ◌++◌, take, drop, map}
use Rattle.osal_line.specs.Expectation.{before_arrow, from_arrow}
use Rattle.osal_line.proofs.expectation.arrow_place.Given as goal

abbrev pub invariant-loop-i : goal.invariant-loop-i
invariant-loop-i l =
    (before_arrow (map (λ word. word.now) l.words)
    ≡ map (λ word. word.now) (take l.i l.words) ++ before_arrow (map (λ word. word.now) (drop l.i l.words)))
    × (from_arrow (map (λ word. word.now) l.words) ≡ from_arrow (map (λ word. word.now) (drop l.i l.words)))
