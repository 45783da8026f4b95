use Rattle.std.proofs.Common.{◌∙◌}
use Rattle.std.proofs.lemmas.List.{with_items_is}
use Rattle.osal_object.proofs.Turns.{ordered_same}
use Rattle.osal_object.proofs.waits.Waits.release_where.Goals as goal

pub invariant_of-self : goal.invariant_of-self
invariant_of-self g c =
    let same = ordered_same c.self.invariant.0 c.release_passing.new.waits (rw (← c.as_mut_slice.ensures.value) c.release_passing.ensures.tasks) in
    let met = c.self.invariant in
    let is = with_items_is c.self.inside.open c.release_passing.new.waits (c.release_passing.auto.waits ∙ c.as_mut_slice.ensures.len) in
    (rw is same, met.1, met.2, met.3, met.4)
