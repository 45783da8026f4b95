use Rattle.std.proofs.Common.{◌≡◌, ◌∙◌, ◌-◌, ℕ, Option, Some, None, List, Result, map, length, drop, refl, sym, ap, subst, arith}
use Rattle.std.proofs.lemmas.List.{take_all, length-drop}
use Rattle.std.specs.Borrow.{Bor}
use Rattle.osal_line.specs.declared.line.ScriptCall.{ScriptCall}
use Rattle.osal_line.specs.declared.expectation.Expect.{Expect}
use Rattle.osal_line.specs.Expectation.{expectation_of}
use Rattle.osal_line.specs.Grammar.{call_of_words}
use Rattle.osal_line.specs.Places.{number_in}
use Rattle.osal_line.specs.Registers.{Registers}
use Rattle.osal_reading.specs.declared.fault.Stop.{Stop}
use Rattle.osal_reading.specs.Draft.{OpenBody}
use Rattle.osal_reading.specs.Reading.{join_line, body_after}
use Rattle.osal_reading.specs.Outcome.{Gives}
use Rattle.osal_reading.proofs.calls.body_after.Goals as goal

-- a line joins a body whatever its registers are
any_registers : (body : OpenBody) (registers : Registers) (number : ℕ) (call : Option (ScriptCall × Registers)) (expect : Option (Option Expect)) → join_line (record body { registers = registers }) number call expect ≡ join_line body number call expect
any_registers body registers number None expect = refl
any_registers body registers number (Some call) None = refl
any_registers body registers number (Some call) (Some expect) = refl

-- so what is said of the line with these registers holds of what the words make of the body
joins_as : (body : OpenBody) (registers : Registers) (number : ℕ) (made given : Option (ScriptCall × Registers)) (expect wanted : Option (Option Expect)) (result : Result OpenBody Stop) → given ≡ made → expect ≡ wanted → Gives result (join_line (record body { registers = registers }) number made expect) → Gives result (join_line body number given wanted)
joins_as body registers number made given expect wanted result call_is expect_is gives =
    subst (λ (o : Option (Option Expect)). Gives result (join_line body number given o)) expect_is
    (subst (λ (m : Option (ScriptCall × Registers)). Gives result (join_line body number m expect)) (sym call_is)
    (subst (Gives result) (any_registers body registers number made expect) gives))

pub returns : goal.returns
returns c =
    let later = number_in c.args.declared.now c.args.begun in
    let arrow = c.arrow_place-arrow.result in
    let body : OpenBody = record { name = c.body.inside.name; kind = c.body.inside.kind; items = c.body.inside.items.items; count = c.body.inside.count; repeats = c.body.inside.repeats; registers = c.body.inside.registers } in
    let words = map (λ (word : Bor (List ℕ)). word.now) c.args.words.now in
    subst (λ (body : OpenBody). Gives c.join_line.result (body_after later body c.args.number c.args.call words)) c.body.view_is
    (joins_as body c.call_of_words.new.registers c.args.number _ _ _ _ c.join_line.result
    (ap (λ words. call_of_words later c.args.call words c.body.inside.registers) c.arrow_place-arrow.ensures.before ∙ c.in_ok-made.ensures)
    (c.in_ok-expect.ensures
    ∙ ap (λ rest. expectation_of (map (λ (word : Bor (List ℕ)). word.now) rest)) (take_all (length c.args.words.now - arrow) (drop arrow c.args.words.now) (omega (arith, length-drop arrow c.args.words.now)))
    ∙ ap expectation_of (sym c.arrow_place-arrow.ensures.from))
    c.join_line.ensures)
