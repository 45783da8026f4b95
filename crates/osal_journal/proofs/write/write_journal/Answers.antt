-- What was written is a prefix of the text at each return, and all of it at the last.
use Rattle.std.proofs.Common.{◌+◌, ◌∙◌, drop, refl}
use Rattle.osal_journal.specs.JournalText.{entry_text, entries_text}
use Rattle.osal_journal.proofs.Lines.{first_line, no_line}
use Rattle.osal_journal.proofs.Sent.{line_moved, piece_prefix, failed_prefix, all_sent}
use Rattle.osal_journal.proofs.write.write_journal.Goals as goal

pub returns-in_err-send_full-clause-prefix : goal.returns-in_err-send_full-clause-prefix
returns-in_err-send_full-clause-prefix g c =
    failed_prefix (g.K.Sink.written c.send_full.new.sink) c.loop-position.piece.items c.loop-position.piece.items (entries_text c.loop-position.position (drop c.loop-position.position c.args.journal.now.entries)) refl c.loop-position.invariant.sent c.in_err-send_full.ensures.prefix

pub returns-in_err-push_entry-clause-prefix : goal.returns-in_err-push_entry-clause-prefix
returns-in_err-push_entry-clause-prefix g c =
    piece_prefix (entries_text c.loop-position.position (drop c.loop-position.position c.args.journal.now.entries)) c.loop-position.invariant.sent c.in_ok-send_full.ensures.sent

pub loop-position-preserved : goal.loop-position-preserved
loop-position-preserved g c =
    let at = c.loop-position.position in
    let after = entries_text (at + 1) (drop (at + 1) c.args.journal.now.entries) in
    let next = first_line c.entries-entry-items.result.now c.args.journal.now.entries at c.entry-item.result c.entries-entry-items.ensures c.loop-position-test.true c.entry-item.is in
    record {
      sent = line_moved (entry_text at c.entry-item.result) c.push_entry.new.out.items after next c.in_ok-push_entry.ensures c.loop-position.invariant.sent c.in_ok-send_full.ensures.sent;
      calm = c.in_ok-send_full.ensures.cause ∙ c.loop-position.invariant.calm;
    }

pub returns-in_err-send_all-clause-prefix : goal.returns-in_err-send_all-clause-prefix
returns-in_err-send_all-clause-prefix g c =
    failed_prefix (g.K.Sink.written c.send_all.new.sink) c.as_slice.result.now c.loop-position.piece.items (entries_text c.loop-position.position (drop c.loop-position.position c.args.journal.now.entries)) c.as_slice.ensures.value c.loop-position.invariant.sent c.in_err-send_all.ensures.prefix

pub returns-clause-all : goal.returns-clause-all
returns-clause-all g c =
    all_sent (g.K.Sink.written c.send_all.new.sink) c.as_slice.result.now c.loop-position.piece.items (entries_text c.loop-position.position (drop c.loop-position.position c.args.journal.now.entries)) c.as_slice.ensures.value (no_line c.entries-entry-items.result.now c.args.journal.now.entries c.loop-position.position c.entries-entry-items.ensures c.loop-position-test.false) c.loop-position.invariant.sent c.in_ok-send_all.ensures.all

pub returns-clause-prefix : goal.returns-clause-prefix
returns-clause-prefix g c =
    failed_prefix (g.K.Sink.written c.send_all.new.sink) c.as_slice.result.now c.loop-position.piece.items (entries_text c.loop-position.position (drop c.loop-position.position c.args.journal.now.entries)) c.as_slice.ensures.value c.loop-position.invariant.sent c.in_ok-send_all.ensures.prefix
