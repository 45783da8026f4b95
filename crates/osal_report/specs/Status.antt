-- The status of a journal.
use Rattle.std.specs.Prelude.{◌==◌, ℕ, List, Bool, if◌then◌else◌}
use Rattle.std.specs.List.{list_any}
use Rattle.osal_base.specs.Limits.{version1}
use Rattle.osal_call.specs.declared.call.Entry.{Entry}
use Rattle.osal_machine.specs.Step.{MachineState, part_in}
use Rattle.osal_machine.specs.OpenWaits.{part_numbers, has_waits}
use Rattle.osal_machine.specs.History.{replay}
use Rattle.osal_script.specs.App.{Application}
use Rattle.osal_runs.specs.Segments.{segments_of}
use Rattle.osal_report.specs.declared.status.End.{End}
use Rattle.osal_report.specs.Report.{all_failed}

-- the status of a journal whose scripts end so
abbrev pub end_status : End → ℕ
end_status end = if end.stalled then 3 else (if end.fails then 1 else 0)

-- whether some wait is open
abbrev pub has_open_waits : MachineState → Bool
has_open_waits state = list_any (λ part. has_waits (part_in part state)) part_numbers

-- the status: 3 where a wait is open at the end, else 1 where a case failed, else 0
abbrev pub status_of : Application → List Entry → ℕ
status_of app entries =
    if has_open_waits (replay version1 entries) then 3
    else (if all_failed (segments_of app entries) == 0 then 0 else 1)
