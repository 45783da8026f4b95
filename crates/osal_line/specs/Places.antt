-- A table of the places at which bodies are declared in a text.
use Rattle.std.specs.Prelude.{◌≡◌, ◌+◌, ◌&&◌, List, ℕ, Option, Some, None, nat_le, if◌then◌else◌}
use Rattle.std.specs.Borrow.{Bor}
use Rattle.std.specs.Cmp.Lexicographic.{slice_cmp}
use Rattle.std.specs.Ordering.{nat_cmp}
use Rattle.std.specs.Str.{bytes_eq}
use Rattle.std.specs.BTreeMap.{BTreeMap, get_by}
use Rattle.osal_line.specs.declared.kind.BodyKind.{BodyKind}
use Rattle.osal_line.specs.declared.kind.BodyKind.TheVariants as kind
use Rattle.osal_line.specs.declared.declarations.Declarations.{Declarations}
use Rattle.osal_line.specs.Declarations.{Declared, is_kind, last_place}

-- the places of the bodies of a kind
abbrev pub places_of : Declarations → BodyKind → BTreeMap (Bor (List ℕ)) ℕ
places_of table kind.Task = table.tasks
places_of table kind.Handler = table.handlers

-- the place of a name
abbrev pub place_at : BTreeMap (Bor (List ℕ)) ℕ → List ℕ → Option ℕ
place_at places name = get_by (λ key. slice_cmp nat_cmp name key.now) places

-- what a table has at a kind and a name
abbrev pub place_in : Declarations → BodyKind → List ℕ → Option ℕ
place_in table runs name = place_at (places_of table runs) name

-- a table has the last place of each kind and name in a list
abbrev pub Holds : Declarations → List Declared → Type 0
Holds table bodies = (runs : BodyKind) (name : List ℕ) → place_in table runs name ≡ last_place bodies runs name

-- a table with one more body, at a place
abbrev pub IsPut : Declarations → Declarations → Declared → ℕ → Type 0
IsPut old new body place =
    (runs : BodyKind) (name : List ℕ)
    → place_in new runs name
    ≡ (if is_kind body.kind runs && bytes_eq body.name name then Some place else place_in old runs name)

-- a table after a line, which puts the body that it declares, if it declares one, at a place
abbrev pub IsDeclared : Declarations → Declarations → ℕ → ℕ → Option Declared → Type 0
IsDeclared old new place next None = (new ≡ old) × (next ≡ place)
IsDeclared old new place next (Some body) = IsPut old new body place × (next ≡ place + 1)

-- a place that is not before a number
abbrev pub not_before : ℕ → Option ℕ → Option ℕ
not_before number None = None
not_before number (Some place) = if nat_le number place then Some place else None

-- the number of the body of a kind and a name that is declared behind so many bodies
abbrev pub number_in : Declarations → ℕ → BodyKind → List ℕ → Option ℕ
number_in table begun runs name = not_before begun (place_in table runs name)
