-- The status by how the tasks' scripts end.
use Rattle.std.proofs.Common.{◌≡◌, ◌==◌, not, ℕ, List, Bool, true, false, cond, refl, sym, ap, ◌∙◌}
use Rattle.osal_base.specs.Limits.{version1}
use Rattle.osal_call.specs.declared.call.Entry.{Entry}
use Rattle.osal_machine.specs.History.{replay}
use Rattle.osal_script.specs.App.{Application, NamesLater}
use Rattle.osal_runs.specs.Segments.{segments_of}
use Rattle.osal_runs.specs.Runs.{IsPartRun}
use Rattle.osal_runs.proofs.OpenWaitLaw.{open_waits_are_scripts}
use Rattle.osal_report.specs.Report.{all_failed}
use Rattle.osal_report.specs.Ends.{some_stalls}
use Rattle.osal_report.specs.Status.{has_open_waits, status_of}
use Rattle.osal_report.proofs.Waits.{open_where_stalls}

by_fails : (fails : Bool) → ◌≡◌ {A = ℕ} (cond (not fails) 0 1) (cond fails 1 0)
by_fails true = refl
by_fails false = refl

twice : (b : Bool) → not (not b) ≡ b
twice true = refl
twice false = refl

-- no case fails where none is counted
pub none_fails : (counted failed : ℕ) → counted ≡ failed → not (not (counted == 0)) ≡ (failed == 0)
none_fails counted failed is = twice (counted == 0) ∙ ap (λ n. n == 0) is

-- the status of a part run, by whether a script stalls and whether a case fails
pub status_by_end : (app : Application) (entries : List Entry) (stalled fails : Bool) → NamesLater app → IsPartRun app entries → stalled ≡ some_stalls (segments_of app entries) → not fails ≡ (all_failed (segments_of app entries) == 0) → ◌≡◌ {A = ℕ} (cond stalled 3 (cond fails 1 0)) (status_of app entries)
status_by_end app entries stalled fails later run by_stalls by_passes =
    let linked = open_waits_are_scripts app entries later run.legal run.follows in
    let waits = open_where_stalls app (replay version1 entries) (segments_of app entries) linked run.follows.ended in
    ap (λ b. cond b 3 (cond fails 1 0)) (by_stalls ∙ sym waits)
    ∙ ap (λ n. cond (has_open_waits (replay version1 entries)) 3 n) (sym (by_fails fails) ∙ ap (λ b. cond b 0 1) by_passes)
