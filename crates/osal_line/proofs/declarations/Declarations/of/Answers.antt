use Rattle.std.proofs.Common.{ap, arith, ℕ, List}
use Rattle.osal_line.specs.Words.{lines_of, words_of}
use Rattle.osal_line.specs.Declarations.{Declared, declared, declared_by}
use Rattle.osal_line.proofs.Declaring.{line_placed, all_placed, next_within}
use Rattle.osal_line.proofs.declarations.Declarations.of.Goals as goal

pub loop-line-preserved : goal.loop-line-preserved
loop-line-preserved c =
    let bodies : List Declared = declared (lines_of c.args.text.now) in
    let more : List Declared = declared (lines_of c.in-Some.after.now) in
    let filled = rw c.in-Some.ensures.0 at c.loop-line.invariant.1 in
    let placed = line_placed c.loop-line.found c.declare.new.self bodies more c.loop-line.count c.in_ok-count.count (declared_by (words_of c.in-Some.line.now)) c.in_ok-count.ensures filled in
    let next = next_within c.loop-line.found c.declare.new.self c.loop-line.count c.in_ok-count.count (declared_by (words_of c.in-Some.line.now)) c.in_ok-count.ensures in
    (omega (arith, c.in-Some.ensures.1), placed)

pub returns : goal.returns
returns c =
    all_placed c.loop-line.found (declared (lines_of c.args.text.now)) (declared (lines_of c.loop-line.rest.now)) c.loop-line.count c.loop-line.invariant.1 (ap (λ (v : List ℕ). declared (lines_of v)) c.in_default.ensures)
