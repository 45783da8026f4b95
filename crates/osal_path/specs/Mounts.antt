-- Mounts: the file systems by the names under which they are mounted, and where a path leads.
use Rattle.std.specs.Prelude.{List, [], ◌∷◌, ℕ, Option, Some, None, Result, Ok, Err}
use Rattle.std.specs.Ordering.{nat_cmp}
use Rattle.std.specs.Cmp.Lexicographic.{slice_cmp}
use Rattle.std.specs.FinMap as map
use Rattle.osal_base.specs.declared.status.Status.{Status}
use Rattle.osal_base.specs.declared.status.Status.TheVariants as status
use Rattle.osal_path.specs.Path.{split_path}

-- the file system of each mount, by the mount's name
abbrev pub Mounts : Type 0
Mounts = map.FinMap (slice_cmp nat_cmp) ℕ

-- the most mounts
abbrev pub mount_limit : ℕ
mount_limit = 1024

-- the file system of a mount and the names below it, or that there is no such mount
abbrev pub below : Option ℕ → List (List ℕ) → Result (ℕ × List (List ℕ)) Status
below None names = Err status.FsErrPathInvalid
below (Some id) names = Ok (id, names)

-- the first name is the mount, and the others lie below it
abbrev pub under_mount : Mounts → List (List ℕ) → Result (ℕ × List (List ℕ)) Status
under_mount mounts [] = Err status.FsErrPathInvalid
under_mount mounts (mount ∷ names) = below (map.get mounts mount) names

-- the names of a path followed, or the path's fault
abbrev pub followed : Mounts → Result (List (List ℕ)) Status → Result (ℕ × List (List ℕ)) Status
followed mounts (Err fault) = Err fault
followed mounts (Ok names) = under_mount mounts names

-- the file system that a path leads to, and the names there
abbrev pub resolve : Mounts → List ℕ → Result (ℕ × List (List ℕ)) Status
resolve mounts path = followed mounts (split_path path)
