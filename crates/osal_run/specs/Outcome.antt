-- What a run leaves, by its exit status.
use Rattle.std.specs.Prelude.{◌≡◌, ◌⊎◌, ◌==◌, ◌++◌, List, [], ℕ, Bool, Option, Some, None, if◌then◌else◌}
use Rattle.osal_outside.specs.Causes.{RoseIf, WhereTold}
use Rattle.osal_outside.specs.Shelf.{Files, ShelfContent}
use Rattle.osal_outside.specs.Sink.{Appends, AppendsPrefix}
use Rattle.osal_call.specs.declared.call.Entry.{Entry}
use Rattle.osal_call.specs.Journal.{Entries}
use Rattle.osal_script.specs.App.{Application}
use Rattle.osal_runs.specs.Runs.{IsPartRun, IsRun}
use Rattle.osal_laws.specs.ConsoleText.{console_text}
use Rattle.osal_journal.specs.JournalText.{journal_text}
use Rattle.osal_report.specs.Report.{report_text}
use Rattle.osal_report.specs.Status.{status_of}
use Rattle.osal_run.specs.declared.exit.Exit.{Exit}
use Rattle.osal_run.specs.declared.exit.Exit.TheVariants as exit
use Rattle.osal_run.specs.Checks.{Check, Refused, Accepted, IsThere, check_of, refusal_text}
use Rattle.osal_run.specs.Request.{request_of, asks_journal}
use Rattle.osal_run.specs.Loading.{IfTold}

-- the number of an exit status
abbrev pub exit_number : Exit → ℕ
exit_number exit.Passed = 0
exit_number exit.Failed = 1
exit_number exit.Refused = 2
exit_number exit.Stalled = 3
exit_number exit.SourceFault = 4
exit_number exit.SinkFault = 5
exit_number exit.NoMemory = 6

-- what a sink tells of the bytes written, if it tells any
abbrev pub Written : Type 0
Written = Option (List ℕ)

-- the text of a journal, where it is asked for
abbrev pub text_if : Option Entries → List ℕ
text_if None = []
text_if (Some journal) = journal_text journal.entries

-- what stands behind the console text: the report, and behind it the journal's text where that is asked for
abbrev pub rest_text : List ℕ → Option Entries → List ℕ
rest_text report journal = report ++ text_if journal

-- what a run writes: the console text, the report, and behind it the journal's text where that is asked for
abbrev pub output_text : Bool → Application → List Entry → List ℕ
output_text journal app entries =
    console_text entries ++ (report_text app entries ++ (if journal then journal_text entries else []))

-- a whole run of the application: the journal is a run, its output is written, and the status is its own
pub record IsWholeRun (journal : Bool) (app : Application) (status : ℕ) (entries : List Entry) (before after : Written) : Type 0 where
  pub run : IsRun app entries
  pub own : status_of app entries ≡ status
  pub written : WhereTold before after (Appends (output_text journal app entries))

-- the application was accepted and run
abbrev pub IsDone : Bool → ℕ → Check → List Entry → Written → Written → Type 0
IsDone journal status (Accepted app) entries before after = IsWholeRun journal app status entries before after
IsDone journal status (Refused refusal) entries before after = ⊥

-- a check has refused: there are no entries, and its text is written
abbrev pub IsRefused : Check → List Entry → Written → Written → Type 0
IsRefused (Accepted app) entries before after = ⊥
IsRefused (Refused refusal) entries before after =
    (entries ≡ []) × WhereTold before after (Appends (refusal_text refusal))

-- the source has failed, at a file that is there: there are no entries, and nothing is written
pub record IsUnread (words : List (List ℕ)) (check : Check) (entries : List Entry) (before after : Written) : Type 0 where
  pub there : IsThere words check
  pub empty : entries ≡ []
  pub still : after ≡ before

-- the sink has failed, or there was no memory to go on: the journal of an accepted application is a part run, and a
-- prefix of the text is written
abbrev pub IsCutShort : Bool → Check → List Entry → Written → Written → Type 0
IsCutShort journal (Accepted app) entries before after =
    IsPartRun app entries × WhereTold before after (AppendsPrefix (output_text journal app entries))
IsCutShort journal (Refused refusal) entries before after =
    (entries ≡ []) × WhereTold before after (AppendsPrefix (refusal_text refusal))

-- what the journal is, and what was written, by the exit status, the words and what the checks find
abbrev pub Leaves : Exit → List (List ℕ) → Check → List Entry → Written → Written → Type 0
Leaves exit.Passed words check entries before after =
    IsDone (asks_journal (request_of words)) 0 check entries before after
Leaves exit.Failed words check entries before after =
    IsDone (asks_journal (request_of words)) 1 check entries before after
Leaves exit.Refused words check entries before after = IsRefused check entries before after
Leaves exit.Stalled words check entries before after =
    IsDone (asks_journal (request_of words)) 3 check entries before after
Leaves exit.SourceFault words check entries before after = IsUnread words check entries before after
Leaves exit.SinkFault words check entries before after =
    IsCutShort (asks_journal (request_of words)) check entries before after
Leaves exit.NoMemory words check entries before after =
    IsCutShort (asks_journal (request_of words)) check entries before after

-- what a run leaves that ends by this exit: there are some files, those that the shelf tells where it tells any
pub record LeavesFor (ended : Exit) (content : Option ShelfContent) (words : List (List ℕ)) (entries : List Entry) (before after : Written) : Type 0 where
  pub files : Files
  pub told : IfTold content (λ told. told.files ≡ files)
  pub left : Leaves ended words (check_of files words) entries before after

-- the same, by the number of the exit
abbrev pub LeavesBy : ℕ → Option ShelfContent → List (List ℕ) → List Entry → Written → Written → Type 0
LeavesBy status content words entries before after =
    (ended : Exit) × (exit_number ended ≡ status) × LeavesFor ended content words entries before after

-- the status is 4 if the source failed and 5 if the sink did, and no other tells of a fault
pub record TellsFaults (status source_before source_now sink_before sink_now : ℕ) : Type 0 where
  pub source : RoseIf (status == 4) source_before source_now
  pub sink : RoseIf (status == 5) sink_before sink_now

-- the exits of a run that came to its end
abbrev pub IsFinished : Exit → Type 0
IsFinished exit.Passed = Unit {0}
IsFinished exit.Failed = Unit {0}
IsFinished exit.Stalled = Unit {0}
IsFinished exit.Refused = ⊥
IsFinished exit.SourceFault = ⊥
IsFinished exit.SinkFault = ⊥
IsFinished exit.NoMemory = ⊥

-- completeness: where neither source nor sink fails, an accepted application ends with its journal's
-- status and a refused one with 2, or there was no memory
abbrev pub Completes : ℕ → Type 0 → Type 0 → Check → Type 0
Completes status source sink (Accepted app) =
    ¬ source → ¬ sink → (status ≡ 0) ⊎ ((status ≡ 1) ⊎ ((status ≡ 3) ⊎ (status ≡ 6)))
Completes status source sink (Refused refusal) = ¬ source → ¬ sink → (status ≡ 2) ⊎ (status ≡ 6)
