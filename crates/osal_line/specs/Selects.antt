-- The call lines that select among streams.
use Rattle.std.specs.Prelude.{List, [], ◌∷◌, ℕ, Option, Some, None, codes, if◌then◌else◌}
use Rattle.std.specs.Str.{bytes_eq}
use Rattle.osal_base.specs.declared.time.Timeout.{Timeout}
use Rattle.osal_base.specs.declared.arguments.Mode.{Mode}
use Rattle.osal_base.specs.declared.arguments.Mode.TheVariants as mode
use Rattle.osal_line.specs.declared.line.ScriptCall.{ScriptCall}
use Rattle.osal_line.specs.declared.line.ScriptCall.TheVariants as script
use Rattle.osal_line.specs.Values.{wait_of}
use Rattle.osal_line.specs.Registers.{Registers, register_at}
use Rattle.osal_line.specs.Arguments.{◌>>=◌}
use Rattle.osal_line.specs.Sets.{set_at}

-- what a select of one stream waits for: to read, to write, or either
abbrev pub mode_of : List ℕ → Option Mode
mode_of word =
    if bytes_eq word (codes "r") then Some mode.R
    else (if bytes_eq word (codes "w") then Some mode.W
    else (if bytes_eq word (codes "rw") then Some mode.Rw
    else None))

-- what a select waits for, and how long
abbrev pub watch_of : List ℕ → List ℕ → Option (Mode × Timeout)
watch_of mode wait = do
  asked ← mode_of mode
  until ← wait_of wait
  Some (asked, until)

-- a select of one stream: the stream, what it waits for and the wait
abbrev pub select_one_of : List (List ℕ) → Registers → Option (ScriptCall × Registers)
select_one_of (id ∷ mode ∷ wait ∷ []) registers = do
  named ← register_at registers id
  watch ← watch_of mode wait
  Some (script.SelectOne named.0 watch.0 watch.1, named.1)
select_one_of words registers = None

-- a select of some: those to read, those to write and the wait
abbrev pub select_multi_of : List (List ℕ) → Registers → Option (ScriptCall × Registers)
select_multi_of (reads ∷ writes ∷ wait ∷ []) registers = do
  first ← set_at registers reads
  second ← set_at first.1 writes
  until ← wait_of wait
  Some (script.SelectMulti first.0 second.0 until, second.1)
select_multi_of words registers = None
