-- The points at which file systems are mounted.
use Rattle.std.proofs.Common.{◌≡◌, ◌==◌, ℕ, List, [], ◌∷◌, false, length, refl}
use Rattle.osal_base.specs.declared.status.Status.TheVariants as status
use Rattle.osal_file.specs.declared.system.FileSystem.{FileSystem}
use Rattle.osal_file.specs.Files.{FilesState, refused}
use Rattle.osal_file.specs.Systems.{mounted_at}

-- nothing is mounted at the root, or below another point
pub not_a_point : (files : FilesState) (id : ℕ) (system : FileSystem) (names : List (List ℕ)) → (length names == 1) ≡ false → mounted_at files id system names ≡ refused files status.FsErrPathInvalid
not_a_point files id system [] more = refl
not_a_point files id system (point ∷ []) more = absurd cc
not_a_point files id system (point ∷ next ∷ names) more = refl
