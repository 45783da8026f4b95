-- The text begins with its first line, and each body's lines stand in front of those of the bodies behind it.
use Rattle.std.proofs.Common.{◌≡◌, ◌+◌, ◌++◌, List, [], ℕ, drop, sym, ap, subst, ◌∙◌, append_assoc, append-nil, arith}
use Rattle.std.proofs.lemmas.List.{drop_all}
use Rattle.std.specs.List.{flat_map}
use Rattle.osal_print.specs.Again.{SpellsAgain}
use Rattle.osal_print.specs.PrintText.{body_lines, body_name, ended_line, print_text}
use Rattle.osal_print.proofs.Bodies.{bodies_text, header_first, body_first}
use Rattle.osal_print.proofs.TextAgain.{text_again}
use Rattle.osal_print.proofs.text.print.Goals as goal

pub loop-number-init : goal.loop-number-init
loop-number-init c = rw (c.in_ok-push_bytes.ensures, c.new-out.ensures.items) (header_first c.args.app.now)

pub loop-number-preserved : goal.loop-number-preserved
loop-number-preserved c =
    let app = c.args.app.now in
    let lines = flat_map ended_line (body_lines (body_name app) c.body.result.now) in
    let after = bodies_text app (drop (c.loop-number.number + 1) app.bodies) in
    ap (λ items. items ++ after) c.in_ok-push_body.ensures
    ∙ append_assoc c.loop-number.out.items lines after
    ∙ ap (λ text. c.loop-number.out.items ++ text) (sym (body_first app app.bodies c.loop-number.number c.body.result.now c.body.ensures))
    ∙ c.loop-number.invariant

-- the printed text of an application that was read is read again
pub returns-clause-reads : goal.returns-clause-reads
returns-clause-reads c read said =
    let app = c.args.app.now in
    let out = c.loop-number.out.items in
    let none : drop c.loop-number.number app.bodies ≡ [] =
    drop_all c.loop-number.number app.bodies (let stop = c.loop-number-test.false in let count = c.bodies-number-end.ensures.count in omega arith) in
    let printed : c.from_vec.result.bytes ≡ print_text app =
    c.from_vec.ensures ∙ sym (append-nil out) ∙ ap (λ bodies. out ++ bodies_text app bodies) (sym none) ∙ c.loop-number.invariant in
    subst (λ (bytes : List ℕ). SpellsAgain bytes c.args.app.now) (sym printed) (text_again read c.args.app.now said)
