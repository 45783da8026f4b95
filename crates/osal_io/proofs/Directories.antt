-- What is known of the calls on directories that are open: each turns at most one directory.
use Rattle.std.proofs.Common.{ℕ, false, not, List, Option, Some, None, is_some, Result, Ok, Err, refl}
use Rattle.std.specs.Prelude.{slice_get}
use Rattle.osal_base.specs.declared.status.Status.TheVariants as status
use Rattle.osal_idtable.specs.declared.table.ReserveFault.{ReserveFault}
use Rattle.osal_idtable.specs.declared.table.IdFault.{IdFault}
use Rattle.osal_idtable.specs.Table.{active_at}
use Rattle.osal_idtable.specs.Steps.{peeked, reserve_step, take_out, unheld}
use Rattle.osal_idtable.specs.Faults.{answered}
use Rattle.osal_object.proofs.Moves.{either}
use Rattle.osal_object.proofs.Refusals.{fails}
use Rattle.osal_file.specs.Volume.{VolumeState, content_at, is_directory}
use Rattle.osal_file.specs.Opened.{Directory}
use Rattle.osal_file.specs.Files.{FilesState, Stepped, in_slot}
use Rattle.osal_file.specs.Directories.{directory_opened, dir_open, with_directory, on_directory, next_name, dir_read, dir_rewind, closed_where, dir_close}
use Rattle.osal_io.proofs.Makes.{makes_new, makes_less}
use Rattle.osal_io.proofs.FileSteps.{IsBeside, IsKnown, OfDirectories, refused_beside, refused_known, path_holds}

module _ (files : FilesState) where
  abbrev Known : Stepped → Type 0
  Known stepped = IsKnown false files stepped

  opened_known : (id : ℕ) (volume : VolumeState) (at : List (List ℕ)) (r : Result ℕ ReserveFault) → Known (directory_opened files id volume at r)
  opened_known id volume at (Err fault) = refused_known status.ErrNoFreeIds
  opened_known id volume at (Ok own) =
      record { turns = OfDirectories refl (makes_new files.directories None tt); keeps = fails refl; answers = refl }

  -- opening one
  pub dir_open_known : (path : List ℕ) → Known (dir_open files path)
  dir_open_known path =
      path_holds files Known refused_known path _ (λ id volume at.
      either Known (not (is_directory (content_at volume at))) _ _ (refused_known status.Error)
      (opened_known id volume at (peeked (reserve_step files.directories.table None).0)))

  taken_known : (id : ℕ) (r : Result (Unit {0}) IdFault) → Known (answered (take_out files.directories.table id r).0, closed_where files id (take_out files.directories.table id r).0)
  taken_known id (Err fault) = refused_known _
  taken_known id (Ok done) =
      record { turns = OfDirectories refl (makes_less files.directories id); keeps = fails refl; answers = refl }

  -- closing one
  pub dir_close_known : (id : ℕ) → Known (dir_close files id)
  dir_close_known id = taken_known id (unheld (active_at files.directories.table id))

module _ (files : FilesState) where
  abbrev Beside : Stepped → Type 0
  Beside stepped = IsBeside files stepped

  with_directory_beside : (does : Directory → Stepped) → ((one : Directory) → Beside (does one)) → (found : Option Directory) → Beside (with_directory files does found)
  with_directory_beside does holds None = refused_beside status.ErrInvalidId
  with_directory_beside does holds (Some one) = holds one

  directory_beside : (id : ℕ) (does : Directory → Stepped) → ((one : Directory) → Beside (does one)) → Beside (on_directory files id does)
  directory_beside id does holds =
      either Beside (is_some (active_at files.directories.table id)) _ _
      (with_directory_beside does holds (in_slot files.open_directories id)) (refused_beside status.ErrInvalidId)

  next_beside : (id : ℕ) (one : Directory) (name : Option (List ℕ)) → Beside (next_name files id one name)
  next_beside id one None = refused_beside status.Error
  next_beside id one (Some name) = record { systems = refl; directories = refl; keeps = fails refl; answers = refl }

  -- reading one
  pub dir_read_beside : (id : ℕ) → Beside (dir_read files id)
  dir_read_beside id = directory_beside id _ (λ one. next_beside id one (slice_get one.names one.next))

  -- rewinding one
  pub dir_rewind_beside : (id : ℕ) → Beside (dir_rewind files id)
  dir_rewind_beside id =
      directory_beside id _ (λ one. record { systems = refl; directories = refl; keeps = fails refl; answers = refl })
