-- The lines of the entries from one on: the first is its own.
use Rattle.std.proofs.Common.{◌≡◌, ◌≤◌, ◌<◌, ℕ, ◌+◌, List, [], ◌++◌, length, drop, get_or, sym, ap, ◌∙◌}
use Rattle.std.proofs.lemmas.List.{at_drop_more, at_drop_all}
use Rattle.osal_call.specs.declared.call.Entry.{Entry}
use Rattle.osal_journal.specs.JournalText.{entry_text, entries_text}

-- the line of an entry, and behind it those of the entries after it
pub first_line : (read entries : List Entry) (at : ℕ) (entry : Entry) → read ≡ entries → at < length read → entry ≡ get_or read at entry → entries_text at (drop at entries) ≡ entry_text at entry ++ entries_text (at + 1) (drop (at + 1) entries)
first_line read entries at entry same inside is =
    rw (← same) (at_drop_more (entries_text at) read at entry inside ∙ ap (λ e. entry_text at e ++ entries_text (at + 1) (drop (at + 1) read)) (sym is))

-- behind the last entry no line is left
pub no_line : (read entries : List Entry) (at : ℕ) → read ≡ entries → length read ≤ at → entries_text at (drop at entries) ≡ []
no_line read entries at same past = rw (← same) (at_drop_all (entries_text at) read at past)
