use Rattle.std.proofs.Common.{◌+◌, length, take, ap, ◌∙◌, arith, length-drop}
use Rattle.osal_line.proofs.Splitting.{word_found}
use Rattle.osal_line.proofs.words.next_word.Goals as goal

pub returns : goal.returns
returns c =
    let line = c.args.line.now in
    let start = c.word_start-start.result in
    let tail = c.behind-rest.result.now in
    let more = c.word_rest-more.result in
    let word-is = c.front.ensures ∙ ap (λ v. take (more + 1) v) c.behind.ensures in
    let found = word_found line c.front.result.now c.behind-2.result.now tail c.phase_after_first.result start more (omega arith) c.word_start-start.ensures.skipped (c.word_start-start.ensures.first (omega arith)) c.phase_after_first.ensures.value c.behind-rest.ensures c.word_rest-more.ensures.word word-is c.behind-2.ensures in
    let shorter = ap length c.behind-2.ensures ∙ length-drop more tail in
    let inner = ap length c.behind-rest.ensures ∙ length-drop (start + 1) line in
    (found, omega arith)
