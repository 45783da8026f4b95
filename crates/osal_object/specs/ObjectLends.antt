-- What objects end as, where a `&mut` to one of them is returned.
use Rattle.std.specs.Prelude.{ℕ}
use Rattle.std.specs.Borrow.{Lends, Fml, RattleType, MutBor}
use Rattle.osal_object.specs.contracts.objects.Objects as of_objects
use Rattle.osal_object.specs.Objects.{ObjectsState, with_value}

module _ (T W : RattleType) where
  -- once the borrow r ends, the last object written through it stands under the identifier
  abbrev pub lends_object : MutBor (ObjectsState T.Denot W.Denot) → ℕ → MutBor T.Denot → Fml
  lends_object s id r = Lends (of_objects.the_row T W) T s r (with_value s.now id)
