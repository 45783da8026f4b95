-- What stands behind a line that breaks no rule.
use Rattle.std.specs.Prelude.{◌+◌, ◌-◌, ◌++◌, List, [], ◌∷◌, ℕ, true, Option, Some, None, nat_lt, option_map, if◌then◌else◌}
use Rattle.osal_line.specs.declared.kind.BodyKind.{BodyKind}
use Rattle.osal_line.specs.declared.kind.BodyKind.TheVariants as kind
use Rattle.osal_line.specs.declared.line.ScriptCall.{ScriptCall}
use Rattle.osal_line.specs.declared.grammar.FirstWord.{FirstWord}
use Rattle.osal_line.specs.declared.grammar.FirstWord.TheVariants as first
use Rattle.osal_line.specs.Registers.{Registers, no_registers}
use Rattle.osal_rules.specs.Before.{Open, Before}
use Rattle.osal_rules.specs.At.{At, words, is_skipped, what_it_is, arguments, name_in, call_in}

-- a body that has just begun
abbrev pub new_body : BodyKind → List ℕ → Open
new_body kind name = record { name = name; kind = kind; items = 0; repeats = 0; registers = no_registers }

-- the body with one more repeat, which is open
abbrev pub with_repeat : Open → Open
with_repeat body = record body { items = body.items + 1; repeats = body.repeats + 1 }

-- the open body with one more call line, and the registers behind it
abbrev pub after_call : Option Open → Option (ScriptCall × Registers) → Option Open
after_call None call = None
after_call (Some body) call =
    option_map (λ made. record body { items = body.items + 1; registers = made.1 }) call

-- an end: of the innermost repeat, or of the body where none is open
abbrev pub after_end : Before → Option Open → Before
after_end before None = before
after_end before (Some body) =
    if nat_lt 0 body.repeats then record before { open_body = Some (record body { repeats = body.repeats - 1 }) }
    else record before { bodies = before.bodies ++ body.name ∷ []; open_body = None }

-- what stands behind a line that counts, by what it is
abbrev pub after_word : At → List (List ℕ) → Option FirstWord → Before
after_word at arguments (Some first.Task) =
    record at.before { open_body = option_map (new_body kind.Task) (name_in arguments) }
after_word at arguments (Some first.Handler) =
    record at.before { open_body = option_map (new_body kind.Handler) (name_in arguments) }
after_word at arguments (Some first.Repeat) =
    record at.before { open_body = option_map with_repeat at.before.open_body }
after_word at arguments (Some first.End) = after_end at.before at.before.open_body
after_word at arguments (Some (first.Call word)) =
    record at.before { open_body = after_call at.before.open_body (call_in at arguments word) }
after_word at arguments other = at.before

-- what stands behind a line: no more where it is skipped, and the header where none stood before it
abbrev pub after_line : At → Before
after_line at =
    if is_skipped (words at) then at.before
    else (if at.before.header then after_word at (arguments at) (what_it_is at)
    else record at.before { header = true })
