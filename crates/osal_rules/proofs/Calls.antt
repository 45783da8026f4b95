-- A call line is read where it breaks no rule, and refused by the first that it breaks.
use Rattle.std.proofs.Common.{◌≡◌, ◌||◌, ◌&&◌, ℕ, List, cond, Option, Some, None, leb, is_none, refl}
use Rattle.osal_line.specs.declared.kind.BodyKind.{BodyKind}
use Rattle.osal_line.specs.declared.line.ScriptCall.{ScriptCall}
use Rattle.osal_line.specs.declared.expectation.Expect.{Expect}
use Rattle.osal_call.specs.declared.word.CallWord.{CallWord}
use Rattle.osal_line.specs.Registers.{Registers}
use Rattle.osal_line.specs.Grammar.{call_of_words}
use Rattle.osal_line.specs.Expectation.{before_arrow, from_arrow, expectation_of}
use Rattle.osal_price.specs.Handlers.{is_handler, needs_task, may_wait}
use Rattle.osal_reading.specs.declared.fault.FaultKind.{FaultKind}
use Rattle.osal_reading.specs.declared.fault.FaultKind.TheVariants as fault
use Rattle.osal_reading.specs.Draft.{OpenBody, Reading}
use Rattle.osal_reading.specs.Blocks.{with_body}
use Rattle.osal_reading.specs.Reading.{with_line, fault_of_call, joined, join_line, read_call}
use Rattle.osal_rules.specs.Before.{is_some_and}
use Rattle.osal_rules.specs.After.{after_call}
use Rattle.osal_rules.proofs.Bodies.{open_of, before_of, leaves, judged, rule_before}

-- the rule of its arguments, limits and body that a call line breaks
abbrev pub call_broken : OpenBody → Option (ScriptCall × Registers) → Option (Option Expect) → Option FaultKind
call_broken body made expect =
    cond (is_none made || is_none expect || (is_handler body.kind && is_some_and (λ call. may_wait call.0) made)) (Some fault.Argument)
    (cond (is_some_and (λ call. call.1.over) made || leb 4096 body.count) (Some fault.Many)
    (cond (is_some_and (λ call. call.1.undeclared) made) (Some fault.Body) None))

joined_judged : (reading : Reading) (longer : OpenBody) (rule : Option FaultKind) → leaves (with_body reading (joined longer rule)) ≡ judged rule (record (before_of reading) { open_body = Some (open_of longer) })
joined_judged reading longer None = refl
joined_judged reading longer (Some kind) = refl

join_judged : (reading : Reading) (body : OpenBody) (number : ℕ) (made : Option (ScriptCall × Registers)) (expect : Option (Option Expect)) → leaves (with_body reading (join_line body number made expect)) ≡ judged (call_broken body made expect) (record (before_of reading) { open_body = after_call (Some (open_of body)) made })
join_judged reading body number None expect = refl
join_judged reading body number (Some call) None = refl
join_judged reading body number (Some call) (Some expect) =
    joined_judged reading (with_line body number call expect) (fault_of_call body call)

-- a call line in a body
pub call_judged : (later : BodyKind → List ℕ → Option ℕ) (reading : Reading) (body : OpenBody) (number : ℕ) (word : CallWord) (words : List (List ℕ)) → leaves (read_call later reading (Some body) number word words) ≡ judged (cond (is_handler body.kind && needs_task word) (Some fault.Place) (call_broken body (call_of_words later word (before_arrow words) body.registers) (expectation_of (from_arrow words)))) (record (before_of reading) { open_body = after_call (Some (open_of body)) (call_of_words later word (before_arrow words) body.registers) })
call_judged later reading body number word words =
    let made : Option (ScriptCall × Registers) = call_of_words later word (before_arrow words) body.registers in
    rule_before fault.Place _ _ _ (is_handler body.kind && needs_task word) _ refl
    (join_judged reading body number made (expectation_of (from_arrow words)))
