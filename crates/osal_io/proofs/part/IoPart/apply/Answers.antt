use Rattle.std.proofs.Common.{refl}
use Rattle.osal_io.proofs.part.IoPart.apply.Goals as goal

pub returns-in_default : goal.returns-in_default
returns-in_default c =
    record { step = c.apply_within.ensures c.args.task c.args.now; kept = tt; asked_last = tt; memory = λ plain. refl }
