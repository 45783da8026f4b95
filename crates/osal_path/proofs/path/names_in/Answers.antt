use Rattle.std.proofs.Common.{◌≡◌, ◌++◌, [], length, ap, arith, length-append}
use Rattle.osal_path.specs.Path.{parts}
use Rattle.osal_path.proofs.Cuts.{some_parts}
use Rattle.osal_path.proofs.path.names_in.Goals as goal

pub returns-clause-some : goal.returns-clause-some
returns-clause-some c =
    let kept = c.loop-rest.invariant.0 in
    let whole : c.loop-rest.trail ++ [] ≡ parts c.args.path.now = (rw c.in_default.is at kept) in
    let some = some_parts c.args.path.now in
    let same = ap length whole in
    let sum = length-append c.loop-rest.trail [] in
    omega arith
