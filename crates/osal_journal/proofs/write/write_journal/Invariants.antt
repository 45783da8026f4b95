-- All was sent but the piece and the lines of the entries that are left, and there was no fault.
use Rattle.std.proofs.Common.{◌≡◌, ◌++◌, drop}
use Rattle.osal_journal.specs.JournalText.{journal_text, entries_text}
use Rattle.osal_journal.specs.Writing.{IsSentTo}
use Rattle.osal_journal.proofs.write.write_journal.Given as goal

abbrev pub invariant-loop-position : goal.invariant-loop-position
invariant-loop-position g l = record {
  sent : IsSentTo (journal_text l.journal.entries) (l.piece.items ++ entries_text l.position (drop l.position l.journal.entries)) (g.K.Sink.written l.fn.sink) (g.K.Sink.written l.sink);
  calm : g.K.Sink.faults l.sink ≡ g.K.Sink.faults l.fn.sink;
}
