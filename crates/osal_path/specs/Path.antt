-- Paths: their parts between slashes, the names that these are, and why a path has none.
use Rattle.std.specs.Prelude.{◌||◌, ◌==◌, List, [], ◌∷◌, ℕ, Bool, false, not, Option, Some, None, Result, Ok, Err, length, codes, is_some, drop, nat_lt, if◌then◌else◌}
use Rattle.std.specs.List.{slice_split, list_any}
use Rattle.std.specs.Str.{bytes_eq}
use Rattle.osal_base.specs.declared.status.Status.{Status}
use Rattle.osal_base.specs.declared.status.Status.TheVariants as status
use Rattle.osal_base.specs.Name.{name_fault}

-- the byte that parts a path
abbrev pub is_slash : ℕ → Bool
is_slash byte = byte == 47

-- the path begins with a slash
abbrev pub is_rooted : List ℕ → Bool
is_rooted [] = false
is_rooted (byte ∷ path) = is_slash byte

-- the parts of a path: what stands before, between and after its slashes
abbrev pub parts : List ℕ → List (List ℕ)
parts path = slice_split is_slash path

-- the last of some parts, or the one given where there are none
abbrev pub last_of : List ℕ → List (List ℕ) → List ℕ
last_of part [] = part
last_of part (next ∷ parts) = last_of next parts

-- the bytes after the last slash
abbrev pub last_part : List ℕ → List ℕ
last_part path = last_of [] (parts path)

-- the names of a path: the parts after its leading slash
abbrev pub names : List ℕ → List (List ℕ)
names path = drop 1 (parts path)

-- a part that names nothing: empty, of more than 19 bytes, with a zero byte, or one or two dots
abbrev pub is_bad_part : List ℕ → Bool
is_bad_part part = is_some (name_fault part) || (bytes_eq part (codes ".") || bytes_eq part (codes ".."))

-- the first reason why a path is refused
abbrev pub path_fault : List ℕ → Option Status
path_fault path =
    if nat_lt 63 (length path) then Some status.FsErrPathTooLong
    else (if not (list_any is_slash path) then Some status.FsErrPathInvalid
    else (if nat_lt 19 (length (last_part path)) then Some status.FsErrNameTooLong
    else (if not (is_rooted path) || list_any is_bad_part (names path) then Some status.FsErrPathInvalid
    else None)))

-- a value, unless there is a fault
abbrev pub unless : {X : Type 0} → Option Status → X → Result X Status
unless None value = Ok value
unless (Some fault) value = Err fault

-- the names of a path, or its first fault
abbrev pub split_path : List ℕ → Result (List (List ℕ)) Status
split_path path = unless (path_fault path) (names path)

-- the parts of the bytes after a leading slash, where none is bad
abbrev pub names_between : List ℕ → Result (List (List ℕ)) Status
names_between rest = if list_any is_bad_part (parts rest) then Err status.FsErrPathInvalid else Ok (parts rest)
