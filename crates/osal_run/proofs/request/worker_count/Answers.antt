-- The number at hand is spelled, or one behind it.
use Rattle.std.proofs.Common.{◌≡◌, ◌<◌, ◌+◌, true, false, cond, Some, ap, sym, ◌∙◌, arith}
use Rattle.std.specs.Fmt.{decimal}
use Rattle.std.specs.Str.{bytes_eq}
use Rattle.osal_run.proofs.Workers.{count_from, count_here}
use Rattle.osal_run.proofs.request.worker_count.Goals as goal

pub returns-then-eq : goal.returns-then-eq
returns-then-eq c =
    let word = c.args.word.now in
    let count = c.loop-count.count in
    let within : count < 61 = omega (arith, c.loop-count-test.true) in
    let is : bytes_eq word (decimal count) ≡ true = ap (bytes_eq word) (sym (c.as_bytes.ensures.value ∙ c.format.ensures.text)) ∙ sym c.eq.ensures ∙ c.if-eq.true in
    sym (count_here word count within ∙ ap (λ b. cond b (Some count) (count_from word (count + 1))) is) ∙ c.loop-count.invariant

pub loop-count-preserved : goal.loop-count-preserved
loop-count-preserved c =
    let word = c.args.word.now in
    let count = c.loop-count.count in
    let within : count < 61 = omega (arith, c.loop-count-test.true) in
    let is : bytes_eq word (decimal count) ≡ false = ap (bytes_eq word) (sym (c.as_bytes.ensures.value ∙ c.format.ensures.text)) ∙ sym c.eq.ensures ∙ c.if-eq.false in
    sym (count_here word count within ∙ ap (λ b. cond b (Some count) (count_from word (count + 1))) is) ∙ c.loop-count.invariant
