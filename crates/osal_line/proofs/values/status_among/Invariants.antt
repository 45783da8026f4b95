use Rattle.std.proofs.Common.{◌≡◌, drop, find}
use Rattle.std.specs.Str.{bytes_eq}
use Rattle.osal_base.specs.Status.{status_name}
use Rattle.osal_line.proofs.values.status_among.Given as goal

abbrev pub invariant-loop-status : goal.invariant-loop-status
invariant-loop-status l =
    find (λ s. bytes_eq (status_name s) l.word) (drop l.status-index l.statuses)
    ≡ find (λ s. bytes_eq (status_name s) l.word) l.statuses
