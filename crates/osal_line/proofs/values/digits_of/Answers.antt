use Rattle.std.proofs.Common.{◌+◌, sym, ◌∙◌, ap, drop, arith}
use Rattle.osal_line.specs.Values as values
use Rattle.osal_line.proofs.Digits.{digits_after-more, digits_after-none}
use Rattle.osal_line.proofs.values.digits_of.Goals as goal

pub returns-in_err-number-clause-value : goal.returns-in_err-number-clause-value
returns-in_err-number-clause-value c =
    let limit = c.args.greatest + 1 in
    let rest = drop (c.loop-byte.byte-index + 1) c.args.bytes.now in
    let more = digits_after-more c.args.base limit c.loop-byte.number c.loop-byte.byte-index c.args.bytes.now (omega arith) in
    let none = ap (values.with_digit c.args.base limit c.loop-byte.number) (sym c.digit_value.ensures.value) ∙ sym c.in_err-number.ensures.value in
    c.from_residual.ensures
    ∙ sym (more ∙ ap (values.digits_after c.args.base limit rest) none ∙ digits_after-none c.args.base limit rest)
    ∙ c.loop-byte.invariant.1
