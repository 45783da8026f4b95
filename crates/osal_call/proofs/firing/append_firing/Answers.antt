use Rattle.std.proofs.Common.{append_assoc}
use Rattle.osal_call.proofs.firing.append_firing.Goals as goal

pub returns : goal.returns
returns c =
    rw (c.append-3.ensures, c.append-2.ensures, c.append.ensures, c.to_be_bytes.ensures, c.raw.ensures, c.to_be_bytes-2.ensures, c.to_be_bytes-3.ensures)
    (simp append_assoc)
