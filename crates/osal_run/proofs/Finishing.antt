-- What a run leaves behind, by how far it has come with what it writes.
use Rattle.std.proofs.Common.{◌≡◌, ◌++◌, ℕ, List, [], Bool, true, false, cond, Option, Some, None, Bor, option_copied, refl, sym, ap, ◌∙◌}
use Rattle.std.specs.Bool.{then_some}
use Rattle.osal_outside.specs.Causes.{WhereTold}
use Rattle.osal_outside.specs.Sink.{Appends, AppendsPrefix}
use Rattle.osal_call.specs.declared.call.Entry.{Entry}
use Rattle.osal_call.specs.Journal.{Entries}
use Rattle.osal_script.specs.App.{Application}
use Rattle.osal_runs.specs.Runs.{IsPartRun, IsRun}
use Rattle.osal_laws.specs.ConsoleText.{console_text}
use Rattle.osal_journal.specs.JournalText.{journal_text}
use Rattle.osal_report.specs.Report.{report_text}
use Rattle.osal_report.specs.Status.{status_of}
use Rattle.osal_outside.proofs.Appended.{longer_prefix, both_appended, then_prefix}
use Rattle.osal_run.specs.declared.exit.Exit.{Exit}
use Rattle.osal_run.specs.declared.exit.Exit.TheVariants as exit
use Rattle.osal_run.specs.Request.{request_of, asks_journal}
use Rattle.osal_run.specs.Checks.{Accepted}
use Rattle.osal_run.specs.Outcome.{Leaves, IsCutShort, IsFinished, IsWholeRun, Written, exit_number, rest_text, text_if}

-- what stands behind the console text of a run's output
abbrev rest_of : Bool → Application → List Entry → List ℕ
rest_of journal app entries = report_text app entries ++ cond journal (journal_text entries) []

-- the journal is lent where it is asked for
pub lent : (journal : Bool) (kept : Bor Entries) → option_copied (then_some journal kept) ≡ cond journal (Some kept.now) None
lent true kept = refl
lent false kept = refl

-- and so is its text
shown_text : (journal : Bool) (entries : Entries) → text_if (cond journal (Some entries) None) ≡ cond journal (journal_text entries.entries) []
shown_text true entries = refl
shown_text false entries = refl

-- what is written behind the console text is what stands there
rest_is : (journal : Bool) (app : Application) (entries : Entries) (report : List ℕ) (shown : Option Entries) → report ≡ report_text app entries.entries → shown ≡ cond journal (Some entries) None → rest_text report shown ≡ rest_of journal app entries.entries
rest_is journal app entries report shown reports shows =
    ap (λ text. text ++ text_if shown) reports
    ∙ ap (λ text. report_text app entries.entries ++ text) (ap text_if shows ∙ shown_text journal entries)

-- a run that was cut short, where a prefix of its console text is written
pub cut_short : (a b : Written) (words : List (List ℕ)) (app : Application) (entries : List Entry) → IsPartRun app entries → WhereTold a b (AppendsPrefix (console_text entries)) → IsCutShort (asks_journal (request_of words)) (Accepted app) entries a b
cut_short a b words app entries part told =
    (part, longer_prefix a b (console_text entries) (rest_of (asks_journal (request_of words)) app entries) told)

-- a run that was cut short, where its console text is written, and a prefix of what stands behind it
pub half_written : (a b c : Written) (words : List (List ℕ)) (journal : Bool) (app : Application) (entries : Entries) (report : List ℕ) (shown : Option Entries) → asks_journal (request_of words) ≡ journal → report ≡ report_text app entries.entries → shown ≡ cond journal (Some entries) None → IsPartRun app entries.entries → WhereTold a b (Appends (console_text entries.entries)) → WhereTold b c (AppendsPrefix (rest_text report shown)) → IsCutShort (asks_journal (request_of words)) (Accepted app) entries.entries a c
half_written a b c words journal app entries report shown asks reports shows part front rest =
    let same = rest_is journal app entries report shown reports shows in
    (part, rw (asks, ← same) (then_prefix a b c (console_text entries.entries) (rest_text report shown) front rest))

-- a run whose output is written whole, by its exit
done_by : (result : Exit) (words : List (List ℕ)) (app : Application) (entries : List Entry) (a b : Written) → IsFinished result → IsWholeRun (asks_journal (request_of words)) app (exit_number result) entries a b → Leaves result words (Accepted app) entries a b
done_by exit.Passed words app entries a b finished whole = whole
done_by exit.Failed words app entries a b finished whole = whole
done_by exit.Stalled words app entries a b finished whole = whole
done_by exit.Refused words app entries a b finished whole = absurd finished
done_by exit.SourceFault words app entries a b finished whole = absurd finished
done_by exit.SinkFault words app entries a b finished whole = absurd finished
done_by exit.NoMemory words app entries a b finished whole = absurd finished

-- the same, by what was written behind the console text
pub whole_written : (a b c : Written) (words : List (List ℕ)) (journal : Bool) (app : Application) (entries : Entries) (report : List ℕ) (shown : Option Entries) (result : Exit) → asks_journal (request_of words) ≡ journal → report ≡ report_text app entries.entries → shown ≡ cond journal (Some entries) None → IsFinished result → exit_number result ≡ status_of app entries.entries → IsRun app entries.entries → WhereTold a b (Appends (console_text entries.entries)) → WhereTold b c (Appends (rest_text report shown)) → Leaves result words (Accepted app) entries.entries a c
whole_written a b c words journal app entries report shown result asks reports shows finished number run front rest =
    let same = rest_is journal app entries report shown reports shows in
    done_by result words app entries.entries a c finished (record {
      run = run;
      own = sym number;
      written = rw (asks, ← same) (both_appended a b c (console_text entries.entries) (rest_text report shown) front rest);
    })
