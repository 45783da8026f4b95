-- The calls on nodes of a volume leave both tables of the files.
use Rattle.std.proofs.Common.{◌==◌, ℕ, Bool, not, List, length, Option, Some, None, Result, Ok, Err, codes}
use Rattle.osal_base.specs.declared.status.Status.TheVariants as status
use Rattle.osal_object.proofs.Moves.{either}
use Rattle.osal_file.specs.Volume.{VolumeState, Content, Dir, Bytes, content_at}
use Rattle.osal_file.specs.Files.{FilesState, Stepped, at_path, is_file_open, is_directory_open, is_open_within}
use Rattle.osal_file.specs.Nodes.{unless_open, remove, rename, cp, told, stat, mkdir, is_removable, rmdir}
use Rattle.osal_io.proofs.FileSteps.{IsBeside, tells_beside, refused_beside, volume_beside, path_holds}

module _ (files : FilesState) where
  abbrev Beside : Stepped → Type 0
  Beside stepped = IsBeside files stepped

  unless_open_beside : (opened : Bool) (id : ℕ) (stepped : Result (Unit {0}) _ × VolumeState) → Beside (unless_open files opened id stepped)
  unless_open_beside opened id (Err why, volume) = refused_beside status.Error
  unless_open_beside opened id (Ok done, volume) =
      either Beside opened _ _ (refused_beside status.ErrObjectInUse) (volume_beside files id (Ok done, volume))

  -- what holds at a path
  at : (path : List ℕ) (does : ℕ → VolumeState → List (List ℕ) → Stepped) → ((id : ℕ) (volume : VolumeState) (names : List (List ℕ)) → Beside (does id volume names)) → Beside (at_path files path does)
  at = path_holds files Beside refused_beside

  -- removing a file
  pub remove_beside : (path : List ℕ) → Beside (remove files path)
  remove_beside path =
      at path _ (λ id volume names. unless_open_beside (is_file_open files id names) id _)

  -- moving one
  pub rename_beside : (path to : List ℕ) → Beside (rename files path to)
  rename_beside path to =
      at path _ (λ id volume from. at to _ (λ other there target.
      either Beside (not (other == id)) _ _ (refused_beside status.Error) (unless_open_beside (is_open_within files id from) id _)))

  -- copying one
  pub cp_beside : (path to : List ℕ) → Beside (cp files path to)
  cp_beside path to =
      at path _ (λ id volume from. at to _ (λ other there target. unless_open_beside (is_file_open files other target) other _))

  told_beside : (found : Option Content) → Beside (told files found)
  told_beside None = refused_beside status.Error
  told_beside (Some Dir) = tells_beside 0 (codes "dir")
  told_beside (Some (Bytes bytes)) = tells_beside (length bytes) (codes "file")

  -- what stands at a path
  pub stat_beside : (path : List ℕ) → Beside (stat files path)
  stat_beside path = at path _ (λ id volume names. told_beside (content_at volume names))

  -- making a directory
  pub mkdir_beside : (path : List ℕ) → Beside (mkdir files path)
  mkdir_beside path = at path _ (λ id volume names. volume_beside files id _)

  -- removing one
  pub rmdir_beside : (path : List ℕ) → Beside (rmdir files path)
  rmdir_beside path =
      at path _ (λ id volume names.
      either Beside (not (is_removable volume names)) _ _ (refused_beside status.Error)
      (either Beside (is_directory_open files id names) _ _ (refused_beside status.ErrObjectInUse) (volume_beside files id _)))
