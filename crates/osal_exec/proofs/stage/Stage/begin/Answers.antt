use Rattle.std.proofs.Common.{◌∙◌, refl, ap, subst}
use Rattle.osal_call.specs.declared.call.Call.TheVariants.{TaskCreate}
use Rattle.osal_machine.specs.Step.{MachineState}
use Rattle.osal_runs.specs.Segments.{begun}
use Rattle.osal_exec.specs.Running.{with_begun}
use Rattle.osal_exec.specs.Driving.{MakesEntry, drive_of}
use Rattle.osal_exec.proofs.Beginning.{first_small, steady_first}
use Rattle.osal_exec.proofs.stage.Stage.begin.Goals as goal

pub admit-requires : goal.admit-requires
admit-requires c =
    let makes = subst (λ (s : MachineState). MakesEntry 0 0 (TaskCreate c.in_ok-copy.field-0 0 0 0) s c.entry_of.new.whole c.in_ok-made.made) c.requires.machine c.in_ok-made.ensures in
    first_small c.args.app.now c.main.result.now c.main.ensures.first c.in_ok-copy.field-0 (c.in_ok-copy.ensures ∙ c.as_slice.ensures.value ∙ c.name.ensures) c.entry_of.new.whole c.in_ok-made.made makes

pub returns-clause-steady : goal.returns-clause-steady
returns-clause-steady c =
    let makes = subst (λ (s : MachineState). MakesEntry 0 0 (TaskCreate c.in_ok-copy.field-0 0 0 0) s c.entry_of.new.whole c.in_ok-made.made) c.requires.machine c.in_ok-made.ensures in
    let new = drive_of c.push.new.self c.entry_of.new.whole c.admit.new.self in
    steady_first c.args.app.now c.main.result.now c.main.ensures.first c.in_ok-copy.field-0 (c.in_ok-copy.ensures ∙ c.as_slice.ensures.value ∙ c.name.ensures) c.entry_of.new.whole c.in_ok-made.made makes c.main.ensures.later c.main.ensures.handlers c.args.journal.now c.requires.empty c.requires.room new (record { entries = c.push.ensures.entries; spare = c.push.ensures.spare }) refl (c.admit.ensures ∙ ap (λ list. with_begun list (begun c.args.app.now c.in_ok-made.made)) c.requires.runners)
