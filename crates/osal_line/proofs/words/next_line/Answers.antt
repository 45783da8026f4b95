use Rattle.std.proofs.Common.{◌<◌, ◌∷◌, ◌+◌, List, ℕ, length, ap, sym, ◌∙◌, arith, length-drop}
use Rattle.std.proofs.lemmas.List.{drop_all}
use Rattle.std.proofs.lemmas.Bool.Decides.{nat_tests}
use Rattle.osal_line.proofs.Lines.{line_before_end, only_line}
use Rattle.osal_line.specs.Words as words
use Rattle.osal_line.proofs.words.next_line.Goals as goal

pub returns : goal.returns
returns c =
    let text = c.args.text.now in
    let end = c.line_length-end.result in
    let first = line_before_end text end (omega arith) c.line_length-end.ensures.before (c.line_length-end.ensures.end (omega arith)) in
    let shorter = ap length c.behind-2.ensures ∙ length-drop (end + 1) text in
    (cc, omega arith)

pub returns-then-end-text : goal.returns-then-end-text
returns-then-end-text c =
    let text = c.args.text.now in
    let rest = c.behind.ensures ∙ drop_all c.line_length-end.result text (omega arith) in
    let some : 0 < length text = grind (arith, nat_tests) in
    let only = only_line text some (λ k h. c.line_length-end.ensures.before k (omega arith)) in
    let none = ap length rest in
    (only ∙ ap (λ (v : List ℕ). text ∷ words.lines_of v) (sym rest), omega arith)
