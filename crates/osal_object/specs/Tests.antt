-- What a test of values computes.
use Rattle.std.specs.Prelude.{◌≡◌, Bool}
use Rattle.std.specs.Borrow.{Bor}
use Rattle.std.specs.Fn.{FnReturnsAt, Shared}

-- each answer of a test, at a `&` to a value, is the one that `passes` gives of the value
abbrev pub Computes : {F X : Type 0} → Shared F (Bor X × Unit {0}) Bool → F → (X → Bool) → Type 0
Computes {F} {X} g test passes = (x : X) (b : Bool) → FnReturnsAt g test x b → b ≡ passes x
