-- The task that the entry creates has its segment before those of the others.
use Rattle.std.proofs.Common.{◌==◌, ◌&&◌, ◌||◌, ap, sym, ◌∙◌}
use Rattle.osal_runs.specs.Segments.{segments_of}
use Rattle.osal_report.specs.Report.{all_failed}
use Rattle.osal_report.specs.Ends.{some_stalls}
use Rattle.osal_runs.proofs.Chain.{chain_some}
use Rattle.osal_report.proofs.Reading.{no_sum}
use Rattle.osal_report.proofs.status.end_of.Goals as goal

pub returns-in-Some-clause-stalled : goal.returns-in-Some-clause-stalled
returns-in-Some-clause-stalled c =
    let chain = chain_some c.args.app.now c.args.entry.now c.args.others.now _ c.in-Some.ensures in
    ap (λ b. b || some_stalls (segments_of c.args.app.now c.args.others.now)) c.end_of_task.ensures.stalled ∙ sym (ap some_stalls chain)

pub returns-in-Some-clause-passes : goal.returns-in-Some-clause-passes
returns-in-Some-clause-passes c =
    let chain = chain_some c.args.app.now c.args.entry.now c.args.others.now _ c.in-Some.ensures in
    ap (λ b. b && (all_failed (segments_of c.args.app.now c.args.others.now) == 0)) c.end_of_task.ensures.passes
    ∙ sym (no_sum _ _) ∙ sym (ap (λ segments. all_failed segments == 0) chain)
