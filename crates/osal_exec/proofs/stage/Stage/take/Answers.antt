use Rattle.std.proofs.Common.{◌+◌, List, Option, sym, ap, subst, ◌∙◌}
use Rattle.osal_laws.specs.ConsoleText.{is_drain}
use Rattle.osal_runs.specs.Segments.{begun}
use Rattle.osal_exec.specs.Running.{Running, runner_at, with_begun}
use Rattle.osal_exec.specs.Driving.{MakesEntry, drive_of}
use Rattle.osal_exec.proofs.Taking.{never_drains, room_left, small_begun, driven_on}
use Rattle.osal_exec.proofs.Telling.{drained_still}
use Rattle.osal_exec.proofs.stage.Stage.take.Goals as goal

pub admit-requires : goal.admit-requires
admit-requires g c =
    let old = drive_of c.args.journal.now c.args.self.now.whole c.args.self.now.runners in
    small_begun c.args.app.now old c.requires.driven c.args.slot c.args.call c.requires.may c.requires.creates c.in-Some.runner.now (sym c.in-Some.ensures) c.entry_of.new.whole c.in_ok-made.made (subst (λ task. MakesEntry (c.args.slot + 1) task c.args.call c.args.self.now.whole c.entry_of.new.whole c.in_ok-made.made) c.id-id.ensures c.in_ok-made.ensures)

pub push-requires : goal.push-requires
push-requires g c =
    let old = drive_of c.args.journal.now c.args.self.now.whole c.args.self.now.runners in
    room_left c.args.app.now old c.requires.driven c.args.slot c.args.call c.requires.may c.requires.creates

pub returns-clause-driven : goal.returns-clause-driven
returns-clause-driven g c =
    let old = drive_of c.args.journal.now c.args.self.now.whole c.args.self.now.runners in
    driven_on c.args.app.now old c.requires.driven c.args.slot c.args.call c.requires.may c.requires.creates (drive_of c.push.new.self c.entry_of.new.whole c.admit.new.self) (record {
      entry = c.in_ok-made.made;
      runner = c.in-Some.runner.now;
      own = sym c.in-Some.ensures;
      pushed = record { entries = c.push.ensures.entries; spare = c.push.ensures.spare };
      makes = subst (λ task. MakesEntry (c.args.slot + 1) task c.args.call c.args.self.now.whole c.entry_of.new.whole c.in_ok-made.made) c.id-id.ensures c.in_ok-made.ensures;
      runners = c.admit.ensures ∙ ap (λ (list : List (Option Running)). with_begun list (begun c.args.app.now c.in_ok-made.made)) c.follow.ensures;
    })

pub returns-clause-undrained : goal.returns-clause-undrained
returns-clause-undrained g c =
    drained_still c.args.journal.now.entries c.push.new.self.entries c.in_ok-made.made c.push.ensures.entries (ap is_drain c.in_ok-made.ensures.of_call ∙ never_drains c.args.self.now.whole (runner_at c.args.self.now.runners c.args.slot) c.args.call c.requires.may)
