-- The bytes are the first and the others: whether they are filled is told by two tests.
use Rattle.std.proofs.Common.{◌≡◌, ◌∷◌, true, false, sym, ap, ◌∙◌, rules}
use Rattle.osal_print.specs.Shortest.{filler, is_filled}
use Rattle.osal_print.proofs.Fills.{unlike, filled_by}
use Rattle.osal_print.proofs.shortest.filler.Goals as goal
use Rattle.osal_print.proofs.shortest.filler.Goals.{else-are_all-via-then-are_all+else-is_fill_shorter, else-are_all-via-else-are_all}

pub returns-then-is_fill_shorter : goal.returns-then-is_fill_shorter
returns-then-is_fill_shorter c =
    let is : c.args.bytes.now ≡ c.in_ok-byte.byte.now ∷ c.in_ok-byte.others.now = search rules in
    let filled : is_filled c.args.bytes.now ≡ true = filled_by c.args.bytes.now c.in_ok-byte.others.now c.in_ok-byte.byte.now true is (sym c.if-are_all.true ∙ c.are_all.ensures) (sym c.if-is_fill_shorter.true ∙ c.is_fill_shorter.ensures) in
    (filled, ap filler (sym is))

pub returns-else-are_all : goal.returns-else-are_all
returns-else-are_all c =
    let is : c.args.bytes.now ≡ c.in_ok-byte.byte.now ∷ c.in_ok-byte.others.now = search rules in
    elim c.else-are_all.branch [
      | else-are_all-via-then-are_all+else-is_fill_shorter w ↦ filled_by c.args.bytes.now c.in_ok-byte.others.now c.in_ok-byte.byte.now false is (sym w.if-are_all.true ∙ c.are_all.ensures) (sym w.if-is_fill_shorter.false ∙ w.is_fill_shorter.ensures)
      | else-are_all-via-else-are_all w ↦ unlike c.args.bytes.now c.in_ok-byte.others.now c.in_ok-byte.byte.now is (sym w.if-are_all.false ∙ c.are_all.ensures)
    ]
