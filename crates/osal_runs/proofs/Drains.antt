-- How many drains take what is pending on the console: a call adds no more than what it writes takes.
use Rattle.std.proofs.Common.{◌≡◌, ◌≤◌, ◌==◌, ◌||◌, ◌+◌, ℕ, true, length, take, nat_lt, length-append, length-drop, arith}
use Rattle.std.proofs.lemmas.Bool.{ltb-true, lt-ltb}
use Rattle.std.proofs.lemmas.List.{length-take}
use Rattle.osal_base.specs.declared.time.Moment.{Moment}
use Rattle.osal_object.proofs.Moves.{either}
use Rattle.osal_console.specs.Console.{ConsoleState, Stepped, pending_limit, drain_limit, is_pending, console_step}
use Rattle.osal_call.specs.declared.call.Call.{Call}
use Rattle.osal_call.specs.declared.call.Call.TheVariants as call
use Rattle.osal_machine.specs.Step.{MachineState, step}
use Rattle.osal_laws.specs.ConsoleText.{written_by}
use Rattle.osal_laws.proofs.Own.{after_console}
use Rattle.osal_runs.specs.Runs.{is_some_count}
use Rattle.osal_runs.specs.Potential.{drains_of}

-- how many drains take what is pending on the console
abbrev pub drains_in : MachineState → ℕ
drains_in state = drains_of (length state.console.pending)

-- how many drains take what a call writes
abbrev pub drains_by : Call → ℕ
drains_by made = drains_of (length (written_by made))

-- so many are no more than they are
none_more : (n more : ℕ) → n ≤ n + more
none_more n more = omega arith

module _ (console : ConsoleState) (task : ℕ) (now : Moment) where
  -- a step leaves no more bytes pending than so many beside those that were
  abbrev Adds : ℕ → Stepped → Type 0
  Adds more stepped = length stepped.1.pending ≤ length console.pending + more

  -- each call of the console leaves no more than it writes beside those that were
  console_adds : (made : Call) → Adds (length (written_by made)) (console_step console task now made)
  console_adds (call.ConsoleWrite text) =
      either (Adds (length text.bytes)) console.enabled _ _
      (either (Adds (length text.bytes)) (nat_lt pending_limit (length console.pending + length text.bytes)) _ _
      (none_more (length console.pending) (length text.bytes))
      (omega (arith, length-append console.pending text.bytes)))
      (none_more (length console.pending) (length text.bytes))
  console_adds (call.Drain n) =
      either (Adds 0) ((n == 0) || nat_lt drain_limit n) _ _ (none_more (length console.pending) 0) (omega (arith, length-drop n console.pending))
  console_adds _ = none_more (length console.pending) 0

module _ (state : MachineState) (task : ℕ) (now : Moment) where
  -- a call of the machine leaves no more bytes pending than it writes beside those that were
  pending_adds : (made : Call) → length (step state task now made).1.console.pending ≤ length state.console.pending + length (written_by made)
  pending_adds made =
      after_console state task now made (λ (left : ConsoleState). length left.pending ≤ length state.console.pending + length (written_by made))
      (none_more (length state.console.pending) (length (written_by made)))
      (console_adds state.console task now made)

  -- it adds no more drains than what it writes takes
  pub drains_most : (made : Call) → drains_in (step state task now made).1 ≤ drains_in state + drains_by made
  drains_most made = omega (arith, pending_adds made)

  -- where bytes are pending, the console gives some
  pub drain_gives : is_pending state.console ≡ true → is_some_count (step state task now (call.Drain drain_limit)).0.answer ≡ true
  drain_gives pending =
      lt-ltb 0 (length (take drain_limit state.console.pending))
      (omega (arith, ltb-true 0 (length state.console.pending) pending, length-take drain_limit state.console.pending))

  -- where the console gives some bytes, one drain less takes those that are left
  pub drain_lowers : is_some_count (step state task now (call.Drain drain_limit)).0.answer ≡ true → drains_in (step state task now (call.Drain drain_limit)).1 + 1 ≤ drains_in state
  drain_lowers some =
      omega (arith, ltb-true 0 (length (take drain_limit state.console.pending)) some, length-take drain_limit state.console.pending, length-drop drain_limit state.console.pending)
