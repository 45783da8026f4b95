use Rattle.std.proofs.Common.{◌≡◌, true, false, sym, ap, ◌∙◌}
use Rattle.osal_select.specs.Sets.{is_in, below}
use Rattle.osal_select.proofs.Orders.{with_there, with_inserted}
use Rattle.osal_select.proofs.set.put.Goals as goal

-- a stream that is there changes nothing
pub returns-then-has : goal.returns-then-has
returns-then-has g c =
    let there : is_in c.args.id c.args.ids.now.items ≡ true =
    ap (is_in c.args.id) (sym c.as_slice.ensures.value) ∙ sym c.has.ensures ∙ c.if-has.true in
    sym (with_there 0 c.args.id c.args.ids.now.items c.requires.order there)

-- one that is not stands behind those below it
pub returns : goal.returns
returns g c =
    let none : is_in c.args.id c.args.ids.now.items ≡ false =
    ap (is_in c.args.id) (sym c.as_slice.ensures.value) ∙ sym c.has.ensures ∙ c.if-has.false in
    let place : c.place_of-place.result ≡ below c.args.id c.args.ids.now.items =
    c.place_of-place.ensures.value ∙ ap (below c.args.id) c.as_slice-2.ensures.value in
    rw place at c.insert.ensures.items ∙ with_inserted c.args.id c.args.ids.now.items none
