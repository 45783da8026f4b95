use Rattle.std.proofs.Common.{◌≤◌, length, sym, ap, ◌∙◌, arith}
use Rattle.osal_laws.specs.ConsoleText.{is_drain}
use Rattle.osal_exec.specs.Driving.{drive_of}
use Rattle.osal_exec.proofs.Settling.{played_out, played_spared, played_later}
use Rattle.osal_exec.proofs.Telling.{drained_still}
use Rattle.osal_exec.proofs.stage.Stage.play.Goals as goal

pub returns-in_default-clause-played : goal.returns-in_default-clause-played
returns-in_default-clause-played g c =
    let old = drive_of c.args.journal.now c.args.self.now.whole c.args.self.now.runners in
    let mid = drive_of c.leave_all.new.journal c.leave_all.new.self.whole c.leave_all.new.self.runners in
    let new = drive_of c.round.new.journal c.round.new.self.whole c.round.new.self.runners in
    let most : length c.round.new.journal.entries ≤ length c.args.journal.now.entries = omega (arith, c.if-before-len.false) in
    played_out c.args.app.now old mid new c.in_ok-leave_all.ensures.still c.in_ok-round.ensures.still c.in_ok-round.ensures.steady most (sym c.next_deadline.ensures ∙ c.in_default.is)

pub advance-requires : goal.advance-requires
advance-requires g c =
    let old = drive_of c.args.journal.now c.args.self.now.whole c.args.self.now.runners in
    let mid = drive_of c.leave_all.new.journal c.leave_all.new.self.whole c.leave_all.new.self.runners in
    let new = drive_of c.round.new.journal c.round.new.self.whole c.round.new.self.runners in
    let most : length c.round.new.journal.entries ≤ length c.args.journal.now.entries = omega (arith, c.if-before-len.false) in
    played_spared c.args.app.now old mid new c.in_ok-leave_all.ensures.still c.in_ok-round.ensures.still c.in_ok-round.ensures.steady most c.in-Some.to (sym c.next_deadline.ensures ∙ c.in-Some.is)

pub returns-clause-played : goal.returns-clause-played
returns-clause-played g c =
    let old = drive_of c.args.journal.now c.args.self.now.whole c.args.self.now.runners in
    let mid = drive_of c.leave_all.new.journal c.leave_all.new.self.whole c.leave_all.new.self.runners in
    let new = drive_of c.round.new.journal c.round.new.self.whole c.round.new.self.runners in
    let last = drive_of c.advance.new.journal c.advance.new.self.whole c.advance.new.self.runners in
    let most : length c.round.new.journal.entries ≤ length c.args.journal.now.entries = omega (arith, c.if-before-len.false) in
    played_later c.args.app.now old mid new c.in_ok-leave_all.ensures.still c.in_ok-round.ensures.still c.in_ok-round.ensures.steady most c.in-Some.to (sym c.next_deadline.ensures ∙ c.in-Some.is) last c.in_ok-advance.ensures.made c.in_ok-advance.ensures.runners

pub returns-clause-undrained : goal.returns-clause-undrained
returns-clause-undrained g c =
    let made = c.in_ok-advance.ensures.made in
    drained_still c.round.new.journal.entries c.advance.new.journal.entries made.0 made.1.entries (ap is_drain made.2.of_call) ∙ c.round.ensures.undrained ∙ c.leave_all.ensures.undrained
