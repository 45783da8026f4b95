use Rattle.std.proofs.Common.{Ok, sym, ap, ◌∙◌}
use Rattle.osal_tree.specs.Steps.{shifted}
use Rattle.osal_tree.proofs.Seen.{seen_of, seen_map, seen_is, seen_sound}
use Rattle.osal_tree.proofs.Shifting.{rename_left}
use Rattle.osal_tree.proofs.tree.Tree.rename.Goals as goal

pub invariant_of-self-inside : goal.invariant_of-self-inside
invariant_of-self-inside c =
    seen_map (rename_left c.args.from.now c.in-Some-split_last.above.now c.in-Some-split_last.name.now (seen_of c.self.inside.nodes c.self.invariant) c.self.view_is c.in-Some-split_last.ensures.cases.0 (sym c.rename_fault.ensures ∙ c.in_default.is) c.rename.ensures)

pub invariant_of-self : goal.invariant_of-self
invariant_of-self c =
    seen_sound (rename_left c.args.from.now c.in-Some-split_last.above.now c.in-Some-split_last.name.now (seen_of c.self.inside.nodes c.self.invariant) c.self.view_is c.in-Some-split_last.ensures.cases.0 (sym c.rename_fault.ensures ∙ c.in_default.is) c.rename.ensures) c.self-1.given.0

pub returns : goal.returns
returns c =
    let fine = sym c.rename_fault.ensures ∙ c.in_default.is in
    let left = rename_left c.args.from.now c.in-Some-split_last.above.now c.in-Some-split_last.name.now (seen_of c.self.inside.nodes c.self.invariant) c.self.view_is c.in-Some-split_last.ensures.cases.0 fine c.rename.ensures in
    (λ i. (Ok tt, seen_is left c.self-1.given.0 i)) ∙ sym (ap (shifted c.args.self.now c.args.from.now c.args.to.now) fine)
