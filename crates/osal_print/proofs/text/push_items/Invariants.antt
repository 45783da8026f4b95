-- What was appended, and the lines of the items that are left, are the lines of all.
use Rattle.std.proofs.Common.{◌≡◌, ◌++◌, map, drop}
use Rattle.std.specs.List.{flat_map}
use Rattle.osal_print.specs.PrintText.{body_name, ended_line, item_words}
use Rattle.osal_print.proofs.text.push_items.Given as goal

abbrev pub invariant-loop-item : goal.invariant-loop-item
invariant-loop-item l =
    l.out.items ++ flat_map ended_line (map (item_words (body_name l.app)) (drop l.item-index l.items))
    ≡ l.initial.out.items ++ flat_map ended_line (map (item_words (body_name l.app)) l.items)
