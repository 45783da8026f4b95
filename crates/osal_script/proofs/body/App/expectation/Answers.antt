use Rattle.std.proofs.Common.{◌≡◌, ◌+◌, ◌∙◌, ℕ, List, Option, Some, None, drop, slice_get, sym, ap}
use Rattle.std.specs.Option.{option_or}
use Rattle.osal_line.specs.declared.expectation.Expect.{Expect}
use Rattle.osal_script.specs.App.{ScriptBody}
use Rattle.osal_script.specs.Expected.{expected_in, expected_among}
use Rattle.osal_script.proofs.Lists.{begins_with}
use Rattle.osal_script.proofs.body.App.expectation.Goals as goal

-- the bodies from one on expect what it expects, or else what those behind it expect
among_next : (line number : ℕ) (bodies : List ScriptBody) (body : ScriptBody) (found : Option Expect) → slice_get bodies number ≡ Some body → found ≡ expected_in line body.items → option_or found (expected_among line (drop (number + 1) bodies)) ≡ expected_among line (drop number bodies)
among_next line number bodies body found is same =
    ap (λ (first : Option Expect). option_or first (expected_among line (drop (number + 1) bodies))) same
    ∙ sym (ap (expected_among line) (begins_with bodies number body is).1)

pub returns-in-Some : goal.returns-in-Some
returns-in-Some c =
    let same = c.in-Some.ensures ∙ ap (expected_in c.args.line) c.items.ensures.value in
    among_next c.args.line c.loop-number.number c.args.self.now.bodies c.body.result.now (Some c.in-Some.expect.now) c.body.ensures same
    ∙ c.loop-number.invariant

pub loop-number-preserved : goal.loop-number-preserved
loop-number-preserved c =
    let same = c.in_default.ensures ∙ ap (expected_in c.args.line) c.items.ensures.value in
    among_next c.args.line c.loop-number.number c.args.self.now.bodies c.body.result.now None c.body.ensures same
    ∙ c.loop-number.invariant
