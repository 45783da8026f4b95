-- What was appended, and the spelling of what is left, are the spelling of all.
use Rattle.std.proofs.Common.{◌≡◌, ◌++◌, drop}
use Rattle.osal_journal.specs.Spelled.{more_streams_text}
use Rattle.osal_journal.proofs.argument.push_more_streams.Given as goal

abbrev pub invariant-loop-id : goal.invariant-loop-id
invariant-loop-id l =
    l.out.items ++ more_streams_text (drop l.id-index l.ids) ≡ l.initial.out.items ++ more_streams_text l.ids
