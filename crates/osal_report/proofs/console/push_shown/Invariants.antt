-- What was pushed and what is left make the whole.
use Rattle.std.proofs.Common.{◌≡◌, ◌++◌, drop, true}
use Rattle.osal_laws.specs.ConsoleText.{shown}
use Rattle.osal_report.proofs.console.push_shown.Given as goal

abbrev pub invariant-loop-entry : goal.invariant-loop-entry
invariant-loop-entry l =
    l.out.items ++ shown l.enabled (drop l.entry-index l.entries) ≡ l.initial.out.items ++ shown true l.entries
