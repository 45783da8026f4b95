-- The words with which a line may begin.
use Rattle.std.specs.Prelude.{List, ℕ, Option, Some, codes, option_map, if◌then◌else◌}
use Rattle.std.specs.Str.{bytes_eq}
use Rattle.osal_call.specs.Signature.{call_word}
use Rattle.osal_line.specs.declared.grammar.FirstWord.{FirstWord}
use Rattle.osal_line.specs.declared.grammar.FirstWord.TheVariants as first

-- what a line's first word says that the line is
abbrev pub first_word : List ℕ → Option FirstWord
first_word text =
    if bytes_eq text (codes "osal-app") then Some first.Header
    else (if bytes_eq text (codes "task") then Some first.Task
    else (if bytes_eq text (codes "handler") then Some first.Handler
    else (if bytes_eq text (codes "repeat") then Some first.Repeat
    else (if bytes_eq text (codes "end") then Some first.End
    else option_map first.Call (call_word text)))))
