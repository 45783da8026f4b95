-- A call that not only a task may make neither creates a task nor ticks.
use Rattle.std.proofs.Common.{◌≡◌, ℕ, List, false, Option, refl, ap, ◌∙◌}
use Rattle.osal_call.specs.declared.word.CallWord.{CallWord}
use Rattle.osal_call.specs.declared.word.CallWord.TheVariants as word
use Rattle.osal_line.specs.declared.kind.BodyKind.{BodyKind}
use Rattle.osal_line.specs.declared.line.ScriptCall.{ScriptCall}
use Rattle.osal_line.specs.declared.line.ScriptCall.TheVariants as script
use Rattle.osal_line.specs.Bare.{is_task_creation, IsBare}
use Rattle.osal_line.specs.Calls.{word_of}
use Rattle.osal_line.specs.Registers.{Registers}
use Rattle.osal_line.specs.Grammar.{call_of_words}
use Rattle.osal_line.proofs.Creations.{MakesWell, others_made}
use Rattle.osal_price.specs.Handlers.{needs_task}

-- a call that a handler may make creates no task
creates_none : (called : CallWord) → needs_task called ≡ false → is_task_creation called ≡ false
creates_none word.TaskCreate may = cc
creates_none _ may = refl

-- a line whose call a handler may make is bare
bare_by_word : (made : ScriptCall) → needs_task (word_of made) ≡ false → IsBare made
bare_by_word (script.TaskCreate register name body stack priority) may = cc
bare_by_word (script.Number called id number) may = may
bare_by_word _ may = tt

-- the call of a line
pub call_bare : (later : BodyKind → List ℕ → Option ℕ) (called : CallWord) (words : List (List ℕ)) (registers : Registers) → needs_task called ≡ false → MakesWell IsBare (call_of_words later called words registers)
call_bare later called words registers may =
    others_made IsBare later called (creates_none called may) (λ made is. bare_by_word made (ap needs_task is ∙ may)) words registers
