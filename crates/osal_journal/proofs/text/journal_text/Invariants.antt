-- What was appended, and the lines of the entries that are left, are the text of the journal.
use Rattle.std.proofs.Common.{◌≡◌, ◌++◌, drop}
use Rattle.osal_journal.specs.JournalText.{journal_text, entries_text}
use Rattle.osal_journal.proofs.text.journal_text.Given as goal

abbrev pub invariant-loop-position : goal.invariant-loop-position
invariant-loop-position l =
    l.out.items ++ entries_text l.position (drop l.position l.journal.entries) ≡ journal_text l.journal.entries
