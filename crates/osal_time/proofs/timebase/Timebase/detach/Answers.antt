use Rattle.std.proofs.Common.{rules, ◌==◌, ℕ, not, refl}
use Rattle.arrayvec.proofs.ArrayVecLemmas.{filter-from_retain}
use Rattle.osal_time.proofs.timebase.Timebase.detach.Goals as goal

-- the timers that are left are those that the test passes
pub returns : goal.returns
returns c =
    let kept = filter-from_retain _ (λ (other : ℕ). not (other == c.args.timer)) _ (λ x b f y said. search rules) _ _ c.retain.ensures.filtered in
    rw (← c.self.view_is, kept) refl
