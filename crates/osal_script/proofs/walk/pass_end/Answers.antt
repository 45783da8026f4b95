use Rattle.std.proofs.Common.{arith}
use Rattle.osal_script.proofs.Passing.{may_turn, left_passed, turned_passed}
use Rattle.osal_script.proofs.walk.pass_end.Goals as goal

pub overflow_sub-turn : goal.overflow_sub-turn
overflow_sub-turn c = (may_turn c.args.items.now c.args.place.now c.requires.place_in c.requires.here).0

pub overflow_sub-place : goal.overflow_sub-place
overflow_sub-place c = (may_turn c.args.items.now c.args.place.now c.requires.place_in c.requires.here).0

pub returns-then-turn-eq0 : goal.returns-then-turn-eq0
returns-then-turn-eq0 c = left_passed c.args.items.now c.args.place.now c.requires.place_in c.requires.here c.if-turn-eq0.true

pub overflow_sub-place-3 : goal.overflow_sub-place-3
overflow_sub-place-3 c = (may_turn c.args.items.now c.args.place.now c.requires.place_in c.requires.here).0

pub returns : goal.returns
returns c = turned_passed c.args.items.now c.args.place.now c.requires.place_in c.requires.here (omega arith)
