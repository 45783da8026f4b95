use Rattle.std.proofs.Common.{◌≡◌, length, length-append, ap, ◌∙◌}
use Rattle.std.specs.List.{slice_get}
use Rattle.osal_object.specs.Waits.{without_wait}
use Rattle.osal_object.specs.Order.{tasks_of}
use Rattle.osal_object.proofs.Turns.{ordered_less, gone}
use Rattle.osal_object.proofs.waits.Waits.close.Goals as goal

pub invariant_of-self : goal.invariant_of-self
invariant_of-self g c =
    let seen : length c.self.inside.open.items ≡ length c.args.self.now.records = ap (λ s. length s.records) c.self.view_is in
    let less = ordered_less c.self.invariant.0 c.args.turn (rw seen c.requires) in
    let met = c.self.invariant in (
      rw (c.remove-task.ensures.items, c.remove-held.ensures.items, c.push_reserved.ensures.items, length-append) less,
      met.1,
      rw c.remove-task.ensures.capacity met.2,
      rw c.remove-held.ensures.capacity met.3,
      rw c.push_reserved.ensures.capacity met.4,
    )

pub returns : goal.returns
returns g c = λ task turn.
    let own = ap (λ s. slice_get (tasks_of s.records) c.args.turn) c.self.view_is ∙ turn.own in
    ap (λ records. record { records = records; capacity = c.self.inside.capacity }) (c.remove-held.ensures.items ∙ gone c.self.invariant.0 task c.args.turn own)
    ∙ ap (λ s. without_wait s task) c.self.view_is
