-- A run that has begun and may go on.
use Rattle.std.specs.Prelude.{◌≡◌, ◌<◌, List, [], ◌∷◌, length}
use Rattle.osal_base.specs.declared.time.Moment.{Moment}
use Rattle.osal_base.specs.Limits.{version1}
use Rattle.osal_call.specs.declared.call.Entry.{Entry}
use Rattle.osal_machine.specs.History.{replay}
use Rattle.osal_script.specs.App.{Application}
use Rattle.osal_runs.specs.Segments.{segments_of}
use Rattle.osal_runs.specs.Runs.{moment_by, IsPartRun}
use Rattle.osal_runs.specs.Linked.{IsLinked}

-- the moment to which the entries make time go on
abbrev pub moment_after : Moment → List Entry → Moment
moment_after now [] = now
moment_after now (entry ∷ entries) = moment_after (moment_by now entry.call) entries

-- a part run with at least one entry: its machine and its segments belong together, and the machine's moment
-- is the one to which its entries made time go on
pub record IsUnderWay (app : Application) (entries : List Entry) : Type 0 where
  pub begun : 0 < length entries
  pub part : IsPartRun app entries
  pub linked : IsLinked app (replay version1 entries) (segments_of app entries)
  pub moment : (replay version1 entries).time.moment ≡ moment_after (record { ms = 0 }) entries
