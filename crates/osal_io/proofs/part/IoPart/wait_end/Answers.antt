use Rattle.std.proofs.Common.{◌≡◌, true, [], Some, ap, sym, ◌∙◌}
use Rattle.std.specs.Prelude.{option_copied}
use Rattle.osal_base.specs.Reply.{replied, is_waits}
use Rattle.osal_object.specs.Waits.{wait_of, is_due}
use Rattle.osal_io.specs.Io.{IoState}
use Rattle.osal_io.specs.Ends.{again, ended, ended_as, ended_late}
use Rattle.osal_io.proofs.Awaits.{again_tries}
use Rattle.osal_io.proofs.Waited.{late_as}
use Rattle.osal_io.proofs.part.IoPart.wait_end.Goals as goal

pub returns-in-Waits : goal.returns-in-Waits
returns-in-Waits c =
    let io = c.args.self.now in
    let what = c.in-Some.wait.now.what in
    let waits : is_waits c.again-ack.result.answer ≡ true = ap is_waits c.in-Waits.is in
    let tried = c.again-ack.ensures ∙ ap (again io) c.copied.ensures in
    let found : wait_of io.streams.waits c.args.task ≡ Some c.in-Some.wait.now = ap (λ (s : IoState). wait_of s.streams.waits c.args.task) (sym c.self.view_is) ∙ sym c.wait_of.ensures ∙ ap option_copied c.in-Some.is in
    let late = c.end_late.ensures ∙ ap (ended_late c.again-ack.new.self c.args.task) c.is_due.ensures in
    ap (λ room. (replied c.end_late.result room, c.end_late.new.self)) c.clear-in-Waits.ensures
    ∙ late_as io (again io what) _ c.again-ack.new.self tried waits (again_tries io c.args.task c.args.now what).1.stays c.args.task (is_due c.in-Some.wait.now c.args.now) (replied c.end_late.result [], c.end_late.new.self) late
    ∙ ap (ended io c.args.task c.args.now) (sym found)
