use Rattle.std.proofs.Common.{◌∙◌, sym}
use Rattle.osal_script.proofs.Empty.{empty_passed}
use Rattle.osal_script.proofs.walk.pass_head.Goals as goal

pub returns-in-Some : goal.returns-in-Some
returns-in-Some c =
    empty_passed c.args.items.now c.args.place.now c.args.count c.in-Some.end c.requires.place_in c.requires.here (sym c.empty_end.ensures ∙ c.in-Some.is)
