use Rattle.std.proofs.Common.{sym, ◌∙◌, nat_cmp}
use Rattle.std.specs.Cmp.Lexicographic.{slice_cmp}
use Rattle.osal_tree.proofs.Putting.{put_less, put_equal}
use Rattle.osal_tree.proofs.slots.names.place_for.Goals as goal

pub returns-in-Less-clause-value : goal.returns-in-Less-clause-value
returns-in-Less-clause-value c =
    put_less c.args.name.now c.args.names.now c.loop-i.i c.index-names-i.result c.loop-i-test.true c.index-names-i.is c.loop-i.invariant
    ((λ j. slice_cmp nat_cmp (sym c.as_slice.ensures.value j) (sym c.as_slice-in-loop-i.ensures.value j)) ∙ sym c.in-Less.ensures)

pub returns-in-Equal-clause-value : goal.returns-in-Equal-clause-value
returns-in-Equal-clause-value c =
    put_equal c.args.name.now c.args.names.now c.loop-i.i c.index-names-i.result c.loop-i-test.true c.index-names-i.is c.loop-i.invariant
    ((λ j. slice_cmp nat_cmp (sym c.as_slice.ensures.value j) (sym c.as_slice-in-loop-i.ensures.value j)) ∙ sym c.in-Equal.ensures)
