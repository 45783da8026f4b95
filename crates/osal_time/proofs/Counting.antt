-- How the expiries of a timer are counted.
use Rattle.std.proofs.Common.{◌≡◌, ◌<◌, ◌≤◌, ◌+◌, ◌-◌, ◌*◌, ◌/◌, ◌==◌, ◌↔◌, ℕ, cond, nat_lt, arith}
use Rattle.std.proofs.Math.Nat.{le-div_iff_mul-le, le-mul_of_pos_right, lt-div-mul-add, div-lt_iff_lt-mul, add-mul}
use Rattle.std.proofs.lemmas.Bool.{cond_both}
use Rattle.std.proofs.lemmas.Bool.Decides.{nat_tests}
use Rattle.osal_time.specs.declared.timer.Setting.{Setting}
use Rattle.osal_time.specs.Expiry.{expired_by, expiry, ExpiriesAreCounted, HasExpiry}

-- the expiries at a sum or before it, where the first lies there and others follow
counted_repeated : (first interval sum k : ℕ) → 0 < interval → first ≤ sum → (k < (sum - first) / interval + 1) ↔ (first + k * interval ≤ sum)
counted_repeated first interval sum k some reached =
    let at = le-div_iff_mul-le {k = interval} {x = k} {y = sum - first} some in (
      λ below. let h : k ≤ (sum - first) / interval = omega arith in let m = at.0 h in omega arith,
      λ within. let h : k * interval ≤ sum - first = omega arith in let m = at.1 h in omega arith,
    )

-- the same where no other follows
counted_alone : (first interval sum k : ℕ) → interval ≡ 0 → first ≤ sum → (k < 1) ↔ ((interval ≡ 0 → k ≡ 0) × (first + k * interval ≤ sum))
counted_alone first interval sum k none reached = (
  λ below. let zeroth : k ≡ 0 = omega arith in (λ _. zeroth, rw zeroth (omega arith)),
  λ has. let zeroth = has.0 none in omega arith,
)

module _ (setting : Setting) where
  -- the same by the number of each expiry
  counted_reached : (sum k : ℕ) → expiry setting 0 ≤ sum
      → (k < cond (setting.interval == 0) 1 ((sum - expiry setting 0) / setting.interval + 1)) ↔ (HasExpiry setting k × (expiry setting k ≤ sum))
  counted_reached sum k reached =
      cond_both (setting.interval == 0) _ _ (λ (n : ℕ). (k < n) ↔ (HasExpiry setting k × (expiry setting k ≤ sum)))
      (λ t.
      let alone = counted_alone (expiry setting 0) setting.interval sum k (grind (arith, nat_tests)) reached in
      (λ below. let has = alone.0 below in (has.0, omega (arith, has.1)), λ has. alone.1 (has.0, omega (arith, has.1))))
      (λ t.
      let some : 0 < setting.interval = grind (arith, nat_tests) in
      let repeated = counted_repeated (expiry setting 0) setting.interval sum k some reached in
      (λ below. (λ none. absurd (omega arith), omega (arith, repeated.0 below)), λ has. repeated.1 (omega (arith, has.1))))

  -- a timer that has not expired has no expiry
  counted_before : (sum k : ℕ) → sum < expiry setting 0 → (k < 0) ↔ (HasExpiry setting k × (expiry setting k ≤ sum))
  counted_before sum k before = (λ below. absurd (omega arith), λ has. absurd (omega (arith, has.1)))

-- the expiries at a sum or before it are as many as are counted
pub counted : ExpiriesAreCounted
counted setting sum k =
    cond_both (nat_lt sum (expiry setting 0)) _ _ (λ (n : ℕ). (k < n) ↔ (HasExpiry setting k × (expiry setting k ≤ sum)))
    (λ t. counted_before setting sum k (grind (arith, nat_tests)))
    (λ t. counted_reached setting sum k (grind (arith, nat_tests)))

-- a quotient rises by no more than the number that is divided
div_between : (from to interval : ℕ) → 0 < interval → to / interval - from / interval ≤ to - from
div_between from to interval some =
    let below : from < from / interval * interval + interval = lt-div-mul-add some in
    let wide : to - from ≤ (to - from) * interval = le-mul_of_pos_right (to - from) some in
    let within : to / interval < from / interval + (to - from) + 1 =
    (div-lt_iff_lt-mul some).1 (rw (add-mul, add-mul) (omega arith)) in
    omega arith

-- no more expiries lie between two sums than microseconds
pub few_between : (setting : Setting) (from to : ℕ) → expired_by setting to - expired_by setting from ≤ to - from
few_between setting from to =
    cond_both (setting.interval == 0) _ _
    (λ (n : ℕ). cond (nat_lt to (expiry setting 0)) 0 n - expired_by setting from ≤ to - from)
    (λ t. let none : setting.interval ≡ 0 = grind (arith, nat_tests) in grind (arith, nat_tests))
    (λ t.
    let some : 0 < setting.interval = grind (arith, nat_tests) in
    let rise = div_between (from - expiry setting 0) (to - expiry setting 0) setting.interval some in
    let from_first = div_between 0 (to - expiry setting 0) setting.interval some in
    grind (arith, nat_tests))
