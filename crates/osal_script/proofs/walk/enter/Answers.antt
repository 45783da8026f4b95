use Rattle.osal_script.proofs.Passing.{may_enter, entered_passed}
use Rattle.osal_script.proofs.walk.enter.Goals as goal

pub overflow_sub-place : goal.overflow_sub-place
overflow_sub-place c = (may_enter c.args.items.now c.args.place.now c.args.count c.requires.place_in c.requires.here).0

pub bounds-place-place : goal.bounds-place-place
bounds-place-place c = (may_enter c.args.items.now c.args.place.now c.args.count c.requires.place_in c.requires.here).1

pub returns : goal.returns
returns c = entered_passed c.args.items.now c.args.place.now c.args.count c.requires.place_in c.requires.here
