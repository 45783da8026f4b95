-- The costs of levels as a number of 64 bits tells them.
use Rattle.std.specs.Prelude.{◌+◌, ◌*◌, List, [], ◌∷◌, ℕ}
use Rattle.osal_price.specs.Saturated.{saturated}

-- the cost of a line before the others of its level
abbrev pub onto_saturated : ℕ → List ℕ → List ℕ
onto_saturated cost [] = saturated cost ∷ []
onto_saturated cost (level ∷ levels) = saturated (cost + level) ∷ levels

-- the cost of a repeat of the first level, before what follows its end
abbrev pub repeated_saturated : ℕ → List ℕ → List ℕ
repeated_saturated count [] = []
repeated_saturated count (level ∷ []) = saturated (count * level) ∷ []
repeated_saturated count (level ∷ around ∷ levels) = saturated (saturated (count * level) + around) ∷ levels
