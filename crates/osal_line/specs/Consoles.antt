-- The call lines on the console.
use Rattle.std.specs.Prelude.{List, [], ◌∷◌, ℕ, Option, Some, None, option_map}
use Rattle.osal_call.specs.declared.word.bare.BareWord.{BareWord}
use Rattle.osal_line.specs.declared.line.ScriptCall.{ScriptCall}
use Rattle.osal_line.specs.declared.line.ScriptCall.TheVariants as script
use Rattle.osal_line.specs.Payload.{payload_of}

-- a call without arguments
abbrev pub bare_call_of : BareWord → List (List ℕ) → Option ScriptCall
bare_call_of called [] = Some (script.Bare called)
bare_call_of called (word ∷ words) = None

-- a write: its payload
abbrev pub console_write_of : List (List ℕ) → Option ScriptCall
console_write_of words = option_map (λ payload. script.ConsoleWrite payload) (payload_of words)
