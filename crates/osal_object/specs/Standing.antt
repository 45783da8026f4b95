-- The objects that a wait stands on.
use Rattle.std.specs.Prelude.{◌==◌, ℕ, Bool, List, [], ◌∷◌, Option, Some, None}
use Rattle.std.specs.List.{list_any}
use Rattle.osal_object.specs.declared.standing.On.{On}
use Rattle.osal_object.specs.declared.standing.On.TheVariants as on

-- the most objects that a wait stands on
abbrev pub each_limit : ℕ
each_limit = 128

-- what a wait on one object, or on none, stands on
abbrev pub standing_on : Option ℕ → List ℕ
standing_on None = []
standing_on (Some id) = id ∷ []

-- the objects of a wait, as they are stored
abbrev pub listed : On → List ℕ
listed (on.One one) = standing_on one
listed (on.Each each) = each.items

-- whether an object is among some
abbrev pub is_among : ℕ → List ℕ → Bool
is_among id ids = list_any (λ other. other == id) ids
