use Rattle.std.proofs.Common.{sym, subst}
use Rattle.std.specs.FinMap as map
use Rattle.osal_tree.proofs.Seen.{Seen, seen_empty, seen_map, seen_is, seen_sound}
use Rattle.osal_tree.proofs.tree.Tree.new.Goals as goal

pub invariant_of-result : goal.invariant_of-result
invariant_of-result c = seen_map (subst (λ slots. Seen slots map.empty) (sym c.in_ok-slots.ensures) seen_empty)

pub invariant_of-result-2 : goal.invariant_of-result-2
invariant_of-result-2 c = seen_sound (subst (λ slots. Seen slots map.empty) (sym c.in_ok-slots.ensures) seen_empty) c.result-1.given.0

pub returns : goal.returns
returns c = seen_is (subst (λ slots. Seen slots map.empty) (sym c.in_ok-slots.ensures) seen_empty) c.result-1.given.0
