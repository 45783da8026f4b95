use Rattle.std.proofs.Common.{sym, ap, subst, ◌∙◌, arith}
use Rattle.std.specs.FinMap as map
use Rattle.std.specs.List as list
use Rattle.osal_path.specs.Entries.{mounts_of, Distinct}
use Rattle.osal_path.proofs.Named.{removed_there}
use Rattle.osal_path.proofs.Mounted.{missed, met, left_out, unmoved}
use Rattle.osal_path.proofs.Distinct.{distinct_without}
use Rattle.osal_path.proofs.mounts.MountMap.remove.Goals as goal

pub returns-in_err-at-clause-id : goal.returns-in_err-at-clause-id
returns-in_err-at-clause-id c =
    let nowhere = missed c.as_slice.result.now c.args.name.now (sym c.place_of.ensures.place ∙ c.in_err-at.was) in
    c.from_residual.ensures ∙ sym nowhere
    ∙ ap (λ es. map.get (mounts_of es) c.args.name.now) c.as_slice.ensures.value
    ∙ ap (λ m. map.get m c.args.name.now) c.self.view_is

pub returns-in_err-at-clause-rest : goal.returns-in_err-at-clause-rest
returns-in_err-at-clause-rest c =
    let nowhere = missed c.as_slice.result.now c.args.name.now (sym c.place_of.ensures.place ∙ c.in_err-at.was) in
    unmoved c.args.self.now c.args.name.now
    (ap (λ m. map.get m c.args.name.now) (sym c.self.view_is) ∙ ap (λ es. map.get (mounts_of es) c.args.name.now) (sym c.as_slice.ensures.value) ∙ nowhere)

pub invariant_of-self : goal.invariant_of-self
invariant_of-self c =
    let there = ap (list.position _) (sym c.as_slice.ensures.value) ∙ sym c.place_of.ensures.place ∙ c.in_ok-at.was in
    let left = c.remove-name.ensures.items ∙ removed_there c.args.name.now c.self.inside.mounts.items c.in_ok-at.at there in
    let old_length = c.self.inside.mounts.ok.0 in
    let new_length = c.remove-name.new.self.ok.0 in
    let less = c.remove-name.ensures.len in
    let same = c.remove-name.ensures.capacity in
    let room = c.self.invariant.room in
    let few = c.self.invariant.few in
    record {
      few = omega arith;
      room = omega arith;
      distinct = subst Distinct (sym left) (distinct_without c.args.name.now c.self.inside.mounts.items c.self.invariant.distinct);
    }

pub returns-clause-id : goal.returns-clause-id
returns-clause-id c =
    let there = ap (list.position _) (sym c.as_slice.ensures.value) ∙ sym c.place_of.ensures.place ∙ c.in_ok-at.was in
    sym (met c.self.inside.mounts.items c.args.name.now c.in_ok-at.at c.remove-name.result there c.remove-name.ensures.value)
    ∙ ap (λ m. map.get m c.args.name.now) c.self.view_is

pub returns-clause-rest : goal.returns-clause-rest
returns-clause-rest c =
    let there = ap (list.position _) (sym c.as_slice.ensures.value) ∙ sym c.place_of.ensures.place ∙ c.in_ok-at.was in
    ap mounts_of (c.remove-name.ensures.items ∙ removed_there c.args.name.now c.self.inside.mounts.items c.in_ok-at.at there)
    ∙ left_out c.self.inside.mounts.items c.args.name.now c.self.invariant.distinct
    ∙ ap (λ m. map.remove m c.args.name.now) c.self.view_is
