use Rattle.std.proofs.Common.{◌∙◌, sym, ap}
use Rattle.osal_script.specs.declared.item.Item.TheVariants as item
use Rattle.osal_script.specs.Walk.{behind_first}
use Rattle.osal_script.proofs.Passing.{found_at, call_first, call_behind}
use Rattle.osal_script.proofs.walk.pass_line.Goals as goal

pub settle-requires : goal.settle-requires
settle-requires c =
    let items = c.args.items.now in
    let line = c.in-Some-Call.field-0-0 in
    let found = found_at items c.args.place.now.at c.in-Some-Call.field-0.now (item.Call line) c.in-Some-Call.ensures.lookup.0 c.in-Some-Call.ensures.lookup.1 c.in-Some-Call.field-0-is in
    call_behind items c.args.place.now line c.requires.place_in found

pub returns-in-Some-Call-clause-lines : goal.returns-in-Some-Call-clause-lines
returns-in-Some-Call-clause-lines c =
    let items = c.args.items.now in
    let line = c.in-Some-Call.field-0-0 in
    let found = found_at items c.args.place.now.at c.in-Some-Call.field-0.now (item.Call line) c.in-Some-Call.ensures.lookup.0 c.in-Some-Call.ensures.lookup.1 c.in-Some-Call.field-0-is in
    c.settle.ensures.lines ∙ sym (ap behind_first (call_first items c.args.place.now line found))
