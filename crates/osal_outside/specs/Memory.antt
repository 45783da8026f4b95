-- Files in memory, by name and by place.
use Rattle.std.specs.Prelude.{ℕ, Bool, false, ◌||◌, if◌then◌else◌, List, [], ◌∷◌, drop, map, Option, Some, None, is_some, String, string_bytes, bytes_eq, slice_get}
use Rattle.std.specs.Global.{Global}
use Rattle.osal_base.specs.Text.{Text}
use Rattle.osal_outside.specs.Shelf.{Files}

-- names and bytes, of those that a shelf owns
abbrev pub stored : List (String Global × Text) → List (List ℕ × List ℕ)
stored files = map (λ file. (string_bytes file.0, file.1.bytes)) files

-- the bytes of a file, where there is one
abbrev pub bytes_in : Option (String Global × Text) → List ℕ
bytes_in None = []
bytes_in (Some file) = file.1.bytes

-- the bytes of the file in that place
abbrev pub bytes_at : List (String Global × Text) → ℕ → List ℕ
bytes_at files place = bytes_in (slice_get files place)

-- what is left of the open file from there on: nothing where none is open
abbrev pub rest_from : List (String Global × Text) → Option ℕ → ℕ → List ℕ
rest_from files None at = []
rest_from files (Some place) at = drop at (bytes_at files place)

-- the file has that name
abbrev pub is_named : List ℕ → String Global × Text → Bool
is_named name file = bytes_eq (string_bytes file.0) name

-- the bytes of the first file of that name
abbrev pub found : List (List ℕ × List ℕ) → Files
found [] name = None
found (file ∷ files) name = if bytes_eq file.0 name then Some file.1 else found files name

-- some name stands twice
abbrev pub has_twins : List (List ℕ × List ℕ) → Bool
has_twins [] = false
has_twins (file ∷ files) = is_some (found files file.0) || has_twins files
