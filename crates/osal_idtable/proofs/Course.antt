-- One step along the candidates.
use Rattle.std.proofs.Common.{◌≡◌, ◌<◌, ℕ, suc, ◌+◌, ◌-◌, Bool, true, false, cond, find, Option, Some, refl, sym, ◌∙◌, arith}
use Rattle.osal_idtable.specs.declared.place.Place.{Place}
use Rattle.osal_idtable.specs.Next.{after, candidates}

module _ (free : Place → Bool) (capacity : ℕ) where
  ahead : (n k : ℕ) (place : Place) → k < n → find free (candidates capacity (n - k) place) ≡ cond (free (after capacity place)) (Some (after capacity place)) (find free (candidates capacity (n - (k + 1)) (after capacity place)))
  ahead n k place less = let more : n - k ≡ suc (n - (k + 1)) = omega arith in rw more refl

  -- the next place is free, so it is the first
  pub candidates_take : (n k : ℕ) (place next : Place) (first : Option Place) → k < n → next ≡ after capacity place → free next ≡ true → find free (candidates capacity (n - k) place) ≡ first → Some next ≡ first
  candidates_take n k place next first less is vacant whole =
      sym (ahead n k place less ∙ (rw (← is, vacant) refl)) ∙ whole

  -- the next place is taken, so the rest decides
  pub candidates_skip : (n k : ℕ) (place next : Place) (first : Option Place) → k < n → next ≡ after capacity place → free next ≡ false → find free (candidates capacity (n - k) place) ≡ first → find free (candidates capacity (n - (k + 1)) next) ≡ first
  candidates_skip n k place next first less is shut whole =
      sym (ahead n k place less ∙ (rw (← is, shut) refl)) ∙ whole
