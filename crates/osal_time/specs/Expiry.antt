-- When a timer expires.
use Rattle.std.specs.Prelude.{◌≡◌, ◌<◌, ◌≤◌, ◌+◌, ◌-◌, ◌*◌, ◌/◌, ◌==◌, ◌↔◌, ℕ, Option, Some, None, nat_lt, if◌then◌else◌}
use Rattle.osal_time.specs.declared.timer.Setting.{Setting}

-- the microseconds from the setting of a timer to its first expiry: an interval stands for a start of 0
abbrev pub first_after : Setting → ℕ
first_after setting = if setting.start == 0 then setting.interval else setting.start

-- the sum of the timebase at a timer's expiry of a number: the first has number 0
abbrev pub expiry : Setting → ℕ → ℕ
expiry setting k = setting.at + first_after setting + k * setting.interval

-- how many expiries lie at a sum or before it: a timer without an interval has one alone
abbrev pub expired_by : Setting → ℕ → ℕ
expired_by setting sum =
    if nat_lt sum (expiry setting 0) then 0
    else (if setting.interval == 0 then 1 else (sum - expiry setting 0) / setting.interval + 1)

-- the same of a timer that may not be set: it has none
abbrev pub expired : Option Setting → ℕ → ℕ
expired None sum = 0
expired (Some setting) sum = expired_by setting sum

-- how many expiries lie above one sum and not above another
abbrev pub expiries_between : Option Setting → ℕ → ℕ → ℕ
expiries_between setting from to = expired setting to - expired setting from

-- which expiries there are: one of each number, or the first alone where there is no interval
abbrev pub HasExpiry : Setting → ℕ → Type 0
HasExpiry setting k = setting.interval ≡ 0 → k ≡ 0

-- the expiries at a sum or before it are those of the numbers below their count
abbrev pub ExpiriesAreCounted : Type 0
ExpiriesAreCounted =
    (setting : Setting) (sum k : ℕ)
    → (k < expired_by setting sum) ↔ (HasExpiry setting k × (expiry setting k ≤ sum))
