use Rattle.std.proofs.Common.{◌≡◌, ◌-◌, length, take, arith, append_assoc, refl, ap, ◌∙◌}
use Rattle.std.proofs.lemmas.List.{take_min}
use Rattle.osal_ring.proofs.Runs.{take-runs}
use Rattle.osal_ring.proofs.ring.append_front.Goals as goal

pub returns : goal.returns
returns c =
    let front = c.as_slices.result.0.now in
    let back = c.as_slices.result.1.now in
    let count = c.args.count in
    let rest : count - c.min-in_front.result ≡ count - length front = omega arith in
    let first : take c.min-in_front.result front ≡ take count front = ap (λ n. take n front) c.min-in_front.ensures ∙ take_min count front in
    rw (c.append-2.ensures, c.append.ensures, append_assoc, first, rest, ← c.as_slices.ensures, take-runs count front back) refl
