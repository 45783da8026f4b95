use Rattle.std.proofs.Common.{◌≡◌, ◌+◌, length, length-append, refl, ap, ◌∙◌}
use Rattle.osal_object.specs.Waits.{wait_of}
use Rattle.osal_object.proofs.Turns.{ordered_more}
use Rattle.osal_object.proofs.waits.Waits.open.Goals as goal

pub invariant_of-self : goal.invariant_of-self
invariant_of-self g c =
    let left = c.pop.new.self.items in
    let popped : length c.self.inside.free.items ≡ length left + 1 = ap length c.pop.ensures.items ∙ length-append left _ ∙ rw c.unwrap-place.ensures refl in
    let more = ordered_more c.self.invariant.0 c.args.wait (length left) (ap (λ s. wait_of s c.args.wait.task) c.self.view_is ∙ c.requires.fresh) popped in
    let met = c.self.invariant in (
      rw (c.push_reserved.ensures.items, c.push_reserved-2.ensures.items, c.fill.ensures) more,
      met.1,
      rw c.push_reserved.ensures.capacity met.2,
      rw c.push_reserved-2.ensures.capacity met.3,
      rw c.pop.ensures.capacity met.4,
    )
