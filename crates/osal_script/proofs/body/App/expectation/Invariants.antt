use Rattle.std.proofs.Common.{◌≡◌, drop}
use Rattle.osal_script.specs.Expected.{expected_among}
use Rattle.osal_script.proofs.body.App.expectation.Given as goal

abbrev pub invariant-loop-number : goal.invariant-loop-number
invariant-loop-number l = expected_among l.line (drop l.number l.self.bodies) ≡ expected_among l.line l.self.bodies
