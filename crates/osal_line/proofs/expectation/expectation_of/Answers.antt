use Rattle.std.proofs.Common.{◌<◌, [], length, sym, arith}
use Rattle.std.proofs.lemmas.Bool.Decides.{nat_tests}
use Rattle.std.proofs.lemmas.Result.{IfOk-weaker}
use Rattle.osal_line.proofs.Arrows.{nowhere, two, three, no_expectation}
use Rattle.osal_line.proofs.expectation.expectation_of.Goals as goal

pub returns-then-words-eq2 : goal.returns-then-words-eq2
returns-then-words-eq2 c = rw (two c.args.words.now nowhere c.if-words-eq2.true) (c.expected_code.ensures [])

pub returns-then-words-eq3 : goal.returns-then-words-eq3
returns-then-words-eq3 c =
    rw (three c.args.words.now nowhere c.if-words-eq3.true) (IfOk-weaker c.expected.result _ _ (λ expect h. h []) c.expected.ensures)

pub returns : goal.returns
returns c =
    let some : 0 < length c.args.words.now = grind (arith, nat_tests) in
    sym (no_expectation c.args.words.now some c.if-words-eq2.false c.if-words-eq3.false)
