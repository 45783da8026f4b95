use Rattle.std.proofs.Common.{sym, ap}
use Rattle.osal_script.specs.declared.item.Item.TheVariants as item
use Rattle.osal_script.specs.Walk.{first_of}
use Rattle.osal_script.proofs.Passing.{found_at, call_first}
use Rattle.osal_script.proofs.walk.line_at.Goals as goal

pub returns-in-Some-Call : goal.returns-in-Some-Call
returns-in-Some-Call c =
    let items = c.args.items.now in
    let found = found_at items c.args.place.now.at c.in-Some-Call.field-0.now (item.Call c.in-Some-Call.line) c.in-Some-Call.ensures.lookup.0 c.in-Some-Call.ensures.lookup.1 c.in-Some-Call.field-0-is in
    ap first_of (sym (call_first items c.args.place.now c.in-Some-Call.line found))
