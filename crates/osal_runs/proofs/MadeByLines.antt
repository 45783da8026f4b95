-- What the call of a line is, by its line: whether it creates a task, ends one or ticks, and that it costs its wait and
-- the drains of what it writes to the console.
use Rattle.std.proofs.Common.{◌≡◌, ◌≤◌, ◌+◌, ℕ, Bool, true, false, List, refl, arith}
use Rattle.osal_base.specs.Text.{Text}
use Rattle.osal_base.specs.declared.time.Timeout.{Timeout}
use Rattle.osal_call.specs.declared.call.Call.{Call}
use Rattle.osal_call.specs.declared.call.Call.TheVariants as call
use Rattle.osal_call.specs.declared.word.object.ObjectWord.{ObjectWord}
use Rattle.osal_call.specs.declared.word.object.ObjectWord.TheVariants as object
use Rattle.osal_call.specs.declared.word.text.NameWord.{NameWord}
use Rattle.osal_call.specs.declared.word.text.NameWord.TheVariants as name_word
use Rattle.osal_call.specs.declared.word.pair.WaitWord.{WaitWord}
use Rattle.osal_call.specs.declared.word.pair.WaitWord.TheVariants as wait_word
use Rattle.osal_call.specs.declared.word.pair.ValueWord.{ValueWord}
use Rattle.osal_call.specs.declared.word.pair.ValueWord.TheVariants as value_word
use Rattle.osal_call.specs.declared.word.pair.NumberWord.{NumberWord}
use Rattle.osal_call.specs.declared.word.pair.NumberWord.TheVariants as number_word
use Rattle.osal_call.specs.declared.word.text.PathWord.{PathWord}
use Rattle.osal_call.specs.declared.word.text.PathWord.TheVariants as path_word
use Rattle.osal_call.specs.declared.word.pair.PathsWord.{PathsWord}
use Rattle.osal_call.specs.declared.word.pair.PathsWord.TheVariants as paths_word
use Rattle.osal_call.specs.declared.word.bare.BareWord.{BareWord}
use Rattle.osal_call.specs.declared.word.bare.BareWord.TheVariants as bare_word
use Rattle.osal_call.specs.Signature.{timeout_of, object_call, name_call, wait_call, value_call, number_call, path_call, paths_call, bare_call}
use Rattle.osal_line.specs.declared.line.ScriptCall.{ScriptCall}
use Rattle.osal_line.specs.declared.line.ScriptCall.TheVariants as script
use Rattle.osal_line.specs.Bare.{is_task_creation, is_tick, is_tick_line}
use Rattle.osal_line.specs.Exit.{is_exit_line}
use Rattle.osal_line.specs.Calls.{call_of, word_of}
use Rattle.osal_price.specs.Price.{Prices, wait_cost, more_cost}
use Rattle.osal_runs.specs.Linked.{is_creation}
use Rattle.osal_runs.proofs.Drains.{drains_by}
use Rattle.osal_runs.proofs.LineCalls.{is_exit, wait_cost_of}

-- whether a line may make a call
abbrev pub is_of_line : Call → Bool
is_of_line call.Checkpoint = false
is_of_line (call.Advance to) = false
is_of_line (call.Drain n) = false
is_of_line (call.WaitEnd part) = false
is_of_line (call.WaitAbandon part) = false
is_of_line other = true

-- whether a call is a tick
abbrev pub is_tick_call : Call → Bool
is_tick_call (call.TimebaseTick id usecs) = true
is_tick_call other = false

-- a line's call: whether it creates a task, ends one or ticks, and that its wait and the drains of what it writes cost no
-- more than so much
pub record IsMade (creates exits ticks : Bool) (more : ℕ) (made : Call) : Type 0 where
  pub line : is_of_line made ≡ true
  pub exit : is_exit made ≡ exits
  pub creation : is_creation made ≡ creates
  pub tick : is_tick_call made ≡ ticks
  pub pays : wait_cost_of made + drains_by made ≤ more

object_made : (called : ObjectWord) (id : ℕ) → IsMade false false false (wait_cost (timeout_of (object_call called 0))) (object_call called id)
object_made object.TaskDelete id = record { line = refl; exit = refl; creation = refl; tick = refl; pays = omega arith }
object_made _ id = record { line = refl; exit = refl; creation = refl; tick = refl; pays = omega arith }

name_made : (called : NameWord) (text : Text) → IsMade false false false 0 (name_call called text)
name_made name_word.TaskFind text = record { line = refl; exit = refl; creation = refl; tick = refl; pays = omega arith }
name_made _ text = record { line = refl; exit = refl; creation = refl; tick = refl; pays = omega arith }

wait_made : (called : WaitWord) (id : ℕ) (wait : Timeout) → IsMade false false false (wait_cost wait) (wait_call called id wait)
wait_made wait_word.BinSemTake id wait = record { line = refl; exit = refl; creation = refl; tick = refl; pays = omega arith }
wait_made _ id wait = record { line = refl; exit = refl; creation = refl; tick = refl; pays = omega arith }

value_made : (called : ValueWord) (text : Text) (initial : ℕ) → IsMade false false false 0 (value_call called text initial)
value_made value_word.BinSemCreate text initial = record { line = refl; exit = refl; creation = refl; tick = refl; pays = omega arith }
value_made value_word.CountSemCreate text initial = record { line = refl; exit = refl; creation = refl; tick = refl; pays = omega arith }

number_made : (called : NumberWord) (id amount more : ℕ) → IsMade false false (is_tick called) more (number_call called id amount)
number_made number_word.TimebaseTick id amount more = record { line = refl; exit = refl; creation = refl; tick = refl; pays = omega arith }
number_made _ id amount more = record { line = refl; exit = refl; creation = refl; tick = refl; pays = omega arith }

path_made : (called : PathWord) (text : Text) → IsMade false false false 0 (path_call called text)
path_made path_word.Unmount text = record { line = refl; exit = refl; creation = refl; tick = refl; pays = omega arith }
path_made _ text = record { line = refl; exit = refl; creation = refl; tick = refl; pays = omega arith }

paths_made : (called : PathsWord) (text to : Text) → IsMade false false false 0 (paths_call called text to)
paths_made paths_word.Mount text to = record { line = refl; exit = refl; creation = refl; tick = refl; pays = omega arith }
paths_made _ text to = record { line = refl; exit = refl; creation = refl; tick = refl; pays = omega arith }

bare_made : (called : BareWord) → IsMade false false false 0 (bare_call called)
bare_made bare_word.ConsoleEnable = record { line = refl; exit = refl; creation = refl; tick = refl; pays = omega arith }
bare_made bare_word.ConsoleDisable = record { line = refl; exit = refl; creation = refl; tick = refl; pays = omega arith }

-- the call of each line
pub line_made : (prices : Prices) (line : ScriptCall) (registers : List ℕ) → IsMade (is_task_creation (word_of line)) (is_exit_line line) (is_tick_line line) (more_cost prices line) (call_of line registers)
line_made prices (script.Object called id) registers = object_made called _
line_made prices (script.Name called register name) registers = name_made called _
line_made prices (script.Wait called id wait) registers = wait_made called _ wait
line_made prices (script.Value called register name initial) registers = value_made called _ initial
line_made prices (script.Number called id amount) registers = number_made called _ amount _
line_made prices (script.Path called path) registers = path_made called _
line_made prices (script.Paths called path to) registers = paths_made called _ _
line_made prices (script.Bare called) registers = bare_made called
line_made prices _ registers = record { line = refl; exit = refl; creation = refl; tick = refl; pays = omega arith }
