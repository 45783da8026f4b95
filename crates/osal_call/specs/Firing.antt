-- What a tick tells of the timers that fire in it.
use Rattle.std.specs.Prelude.{◌++◌, List, [], ◌∷◌, ℕ, take, drop}
use Rattle.std.specs.Int.{to_be_bytes, from_be_bytes, w32}

-- the most timers that may be attached to a timebase, and so fire in one of its ticks
abbrev pub timer_limit : ℕ
timer_limit = 64

-- a timer that fires in a tick: with the number of its expiries there beside the one that it fires for, and the
-- number of its handler
pub record Firing : Type 0 where
  pub timer : ℕ
  pub backlog : ℕ
  pub handler : ℕ

-- a firing as bytes: three numbers of four bytes, most significant first
abbrev pub firing_bytes : Firing → List ℕ
firing_bytes firing = to_be_bytes w32 firing.timer ++ to_be_bytes w32 firing.backlog ++ to_be_bytes w32 firing.handler

-- some firings as bytes
abbrev pub bytes_of : List Firing → List ℕ
bytes_of [] = []
bytes_of (firing ∷ firings) = firing_bytes firing ++ bytes_of firings

-- the number of the handler in a firing's bytes: the last four of its twelve
abbrev pub group_number : List ℕ → ℕ
group_number group = from_be_bytes w32 (take 4 (drop 8 group))
