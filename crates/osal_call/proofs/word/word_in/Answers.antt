-- A word is found in the first list that has it.
use Rattle.std.proofs.Common.{◌∙◌, [], sym}
use Rattle.std.specs.Str.{bytes_eq}
use Rattle.osal_call.specs.Signature.{word_text}
use Rattle.osal_call.proofs.Found.{found_here, found_behind}
use Rattle.osal_call.proofs.word.word_in.Goals as goal

pub returns-in-Some : goal.returns-in-Some
returns-in-Some c =
    sym (c.loop-list.invariant
    ∙ found_here (λ word. bytes_eq c.args.text.now (word_text word)) c.args.lists.now c.loop-list.list-index (record { ref_ptr = (0, 0); now = [] }) c.loop-list-test.true (sym c.word_among.ensures ∙ c.in-Some.is))

pub loop-list-preserved : goal.loop-list-preserved
loop-list-preserved c =
    c.loop-list.invariant
    ∙ found_behind (λ word. bytes_eq c.args.text.now (word_text word)) c.args.lists.now c.loop-list.list-index (record { ref_ptr = (0, 0); now = [] }) c.loop-list-test.true (sym c.in_default.ensures)
