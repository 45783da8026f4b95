use Rattle.std.proofs.Common.{sym, ap, subst, ◌∙◌, arith}
use Rattle.std.specs.FinMap as map
use Rattle.osal_path.specs.Entries.{mounts_of, Distinct}
use Rattle.osal_path.proofs.Mounted.{get_found, pushed, counted}
use Rattle.osal_path.proofs.Distinct.{distinct_pushed}
use Rattle.osal_path.proofs.mounts.MountMap.add.Goals as goal

pub push_reserved-requires : goal.push_reserved-requires
push_reserved-requires c =
    let count = sym (counted c.self.inside.mounts.items c.self.invariant.distinct) ∙ ap (λ m. map.len m) c.self.view_is in
    let length_is = c.self.inside.mounts.ok.0 in
    let room = c.self.invariant.room in
    let few = c.requires.room in
    omega arith

pub invariant_of-self : goal.invariant_of-self
invariant_of-self c =
    let count = sym (counted c.self.inside.mounts.items c.self.invariant.distinct) ∙ ap (λ m. map.len m) c.self.view_is in
    let old_length = c.self.inside.mounts.ok.0 in
    let new_length = c.push_reserved.new.self.ok.0 in
    let more = c.push_reserved.ensures.len in
    let same = c.push_reserved.ensures.capacity in
    let room = c.self.invariant.room in
    let few = c.requires.room in
    let new =
    sym (get_found c.self.inside.mounts.items c.args.name) ∙ ap (λ m. map.get m c.args.name) c.self.view_is
    ∙ c.requires.new_name
    in
    record {
      few = omega arith;
      room = omega arith;
      distinct = subst Distinct (sym c.push_reserved.ensures.items) (distinct_pushed c.args.name c.args.id c.self.inside.mounts.items c.self.invariant.distinct new);
    }

pub returns : goal.returns
returns c =
    ap mounts_of c.push_reserved.ensures.items
    ∙ pushed c.self.inside.mounts.items c.args.name c.args.id (ap (λ m. map.get m c.args.name) c.self.view_is ∙ c.requires.new_name)
    ∙ ap (λ m. map.insert m c.args.name c.args.id) c.self.view_is
