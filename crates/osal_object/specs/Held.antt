-- What lies in a place.
use Rattle.std.specs.Prelude.{◌≡◌, true, Option, Some, None, is_some}
use Rattle.std.proofs.lemmas.Bool.{false≢true}

-- what lies in a place that is full
abbrev pub held : {X : Type 0} (place : Option X) → is_some place ≡ true → X
held (Some x) full = x
held None full = absurd (false≢true full)
