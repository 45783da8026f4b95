use Rattle.std.proofs.lemmas.Fn.{always_returns_same}
use Rattle.osal_idtable.specs.Order.{Agrees, name_in, name_cmp}
use Rattle.osal_idtable.proofs.Order.{searched}
use Rattle.osal_idtable.proofs.slots.order.search.Goals as goal

pub returns : goal.returns
unfolding Agrees
returns g c =
    searched (name_in c.args.slots.now) c.args.order.now c.requires c.args.name.now _ c.binary_search_by.ensures.bound
    (c.binary_search_by.ensures.position (λ at. name_cmp (name_in c.args.slots.now at) c.args.name.now) (always_returns_same _ _ _ (λ a r f' k. (k.met.1, λ j. (k.met.0.0 j, k.met.0.1 j)))))
