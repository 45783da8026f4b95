-- The entries behind a map of mounts, in the order in which they came.
use Rattle.std.specs.Prelude.{◌≡◌, ◌≤◌, List, [], ◌∷◌, ℕ, Bool, Option, None, length}
use Rattle.std.specs.Str.{bytes_eq}
use Rattle.std.specs.Ordering.{nat_cmp}
use Rattle.std.specs.Cmp.Lexicographic.{slice_cmp}
use Rattle.std.specs.Coded.{Coded, coded_ℕ, coded_list}
use Rattle.std.specs.FinMap as map
use Rattle.osal_path.specs.Mounts.{Mounts, mount_limit}

-- how a map of mounts is stored
abbrev pub mounts_code : Coded Mounts
mounts_code = map.code (coded_list coded_ℕ) coded_ℕ

-- what stands under a name in some entries
abbrev pub found : List ℕ → List (List ℕ × ℕ) → Option ℕ
found name entries = map.find (slice_cmp nat_cmp) name entries

-- whether an entry has the name
abbrev pub has_name : List ℕ → List ℕ × ℕ → Bool
has_name name entry = bytes_eq name entry.0

-- no name stands in two entries
abbrev pub Distinct : List (List ℕ × ℕ) → Type 0
Distinct [] = Unit {0}
Distinct (entry ∷ entries) = (found entry.0 entries ≡ None) × Distinct entries

-- the map that some entries make up
unfoldable pub mounts_of : List (List ℕ × ℕ) → Mounts
mounts_of entries = map.from_entries entries

-- at most as many entries as may be, no name twice, and room for all
pub record IsSound (entries : List (List ℕ × ℕ)) (capacity : ℕ) : Type 0 where
  pub few : length entries ≤ mount_limit
  pub room : mount_limit ≤ capacity
  pub distinct : Distinct entries
