-- What is known of the calls on file systems: each turns at most one file system.
use Rattle.std.proofs.Common.{ℕ, false, not, List, [], ◌∷◌, nat_le, Option, Some, None, is_some, Result, Ok, Err, refl}
use Rattle.std.specs.FinMap as map
use Rattle.osal_base.specs.declared.name.NameFault.{NameFault}
use Rattle.osal_base.specs.declared.status.Status.TheVariants as status
use Rattle.osal_base.specs.Name.{name_fault}
use Rattle.osal_idtable.specs.declared.table.ReserveFault.{ReserveFault}
use Rattle.osal_idtable.specs.declared.table.IdFault.{IdFault}
use Rattle.osal_idtable.specs.Table.{Active}
use Rattle.osal_idtable.specs.Steps.{peeked, reserve_step, take_out, unheld}
use Rattle.osal_idtable.specs.Faults.{name_status, answered, unless}
use Rattle.osal_object.proofs.Moves.{either}
use Rattle.osal_object.proofs.Refusals.{fails}
use Rattle.osal_file.specs.Volume.{VolumeState, fresh, free_blocks}
use Rattle.osal_file.specs.Mounts.{mount_limit}
use Rattle.osal_file.specs.declared.system.FileSystem.{FileSystem}
use Rattle.osal_file.specs.Files.{FilesState, Stepped, system_at, is_open_within}
use Rattle.osal_file.specs.Systems.{is_device, is_size, with_new, made, mkfs, system_of, in_found, with_found, on_device, mounted_at, mount, unmounted, unmounted_at, unmount, left_by, removed, rmfs, volume_text, stat_volume}
use Rattle.osal_io.proofs.Makes.{makes_new, makes_less, makes_other}
use Rattle.osal_io.proofs.FileSteps.{IsBeside, IsKnown, OfSystems, tells_beside, refused_beside, refused_known, path_holds, names_hold}

module _ (files : FilesState) where
  abbrev Known : Stepped → Type 0
  Known stepped = IsKnown false files stepped

  made_known : (device label : List ℕ) (volume : VolumeState) (r : Result ℕ ReserveFault) → Known (made files (with_new files device label) volume r)
  made_known device label volume (Err fault) = refused_known status.FsErrDeviceNotFree
  made_known device label volume (Ok id) =
      record { turns = OfSystems (makes_new files.systems (Some device) _) refl; keeps = fails refl; answers = refl }

  labelled_known : (stepped : Stepped) → Known stepped → (fault : Option NameFault) → Known (unless fault files stepped)
  labelled_known stepped known (Some fault) = refused_known (name_status fault)
  labelled_known stepped known None = known

  -- making one
  pub mkfs_known : (device label : List ℕ) (blocks : ℕ) → Known (mkfs files device label blocks)
  mkfs_known device label blocks =
      either Known (not (is_device device)) _ _ (refused_known status.ErrInvalidArgument)
      (either Known (not (is_size blocks)) _ _ (refused_known status.ErrInvalidSize)
      (labelled_known _ (made_known device label (fresh blocks) (peeked (reserve_step files.systems.table (Some device)).0)) (name_fault label)))

  there_known : (id : ℕ) (does : FileSystem → Stepped) → ((system : FileSystem) → Known (does system)) → (found : Option (Active FileSystem)) → Known (in_found files id does found)
  there_known id does known None = refused_known status.ErrNameNotFound
  there_known id does known (Some active) = known active.object

  found_known : (does : ℕ → FileSystem → Stepped) → ((id : ℕ) (system : FileSystem) → Known (does id system)) → (found : Option ℕ) → Known (with_found files does found)
  found_known does known None = refused_known status.ErrNameNotFound
  found_known does known (Some id) = there_known id (does id) (known id) (system_at files id)

  device_known : (device : List ℕ) (does : ℕ → FileSystem → Stepped) → ((id : ℕ) (system : FileSystem) → Known (does id system)) → Known (on_device files device does)
  device_known device does known = found_known does known (system_of files device)

  mounted_known : (id : ℕ) (system : FileSystem) (names : List (List ℕ)) → Known (mounted_at files id system names)
  mounted_known id system [] = refused_known status.FsErrPathInvalid
  mounted_known id system (point ∷ []) =
      either Known (is_some system.mount) _ _ (refused_known status.ErrIncorrectObjState)
      (either Known (is_some (map.get files.mounts point)) _ _ (refused_known status.ErrNameTaken)
      (either Known (nat_le mount_limit (map.len files.mounts)) _ _ (refused_known status.ErrNoFreeIds)
      (record { turns = OfSystems (makes_other files.systems id _) refl; keeps = fails refl; answers = refl })))
  mounted_known id system (point ∷ below ∷ names) = refused_known status.FsErrPathInvalid

  -- mounting one
  pub mount_known : (device path : List ℕ) → Known (mount files device path)
  mount_known device path =
      device_known device _ (λ id system. names_hold files Known refused_known path (mounted_at files id system) (mounted_known id system))

  unmounted_known : (point : List ℕ) (id : ℕ) (system : FileSystem) → Known (unmounted files point id system)
  unmounted_known point id system =
      either Known (is_open_within files id []) _ _ (refused_known status.ErrObjectInUse)
      (record { turns = OfSystems (makes_other files.systems id _) refl; keeps = fails refl; answers = refl })

  unmounted_at_known : (names : List (List ℕ)) → Known (unmounted_at files names)
  unmounted_at_known [] = refused_known status.ErrNameNotFound
  unmounted_at_known (point ∷ []) =
      found_known (unmounted files point) (unmounted_known point) (map.get files.mounts point)
  unmounted_at_known (point ∷ below ∷ names) = refused_known status.ErrNameNotFound

  -- unmounting one
  pub unmount_known : (path : List ℕ) → Known (unmount files path)
  unmount_known path = names_hold files Known refused_known path (unmounted_at files) unmounted_at_known

  taken_known : (id : ℕ) (r : Result FileSystem IdFault) → Known (answered (take_out files.systems.table id r).0, left_by files id (take_out files.systems.table id r).0)
  taken_known id (Err fault) = refused_known _
  taken_known id (Ok system) =
      record { turns = OfSystems (makes_less files.systems id) refl; keeps = fails refl; answers = refl }

  removed_known : (id : ℕ) (system : FileSystem) → Known (removed files id system)
  removed_known id system =
      either Known (is_some system.mount) _ _ (refused_known status.ErrIncorrectObjState) (taken_known id (unheld (system_at files id)))

  -- removing one
  pub rmfs_known : (device : List ℕ) → Known (rmfs files device)
  rmfs_known device = device_known device (removed files) removed_known

-- how full one is
pub stat_volume_beside : (files : FilesState) (path : List ℕ) → IsBeside files (stat_volume files path)
stat_volume_beside files path =
    path_holds files (IsBeside files) refused_beside path _ (λ id volume at. tells_beside (free_blocks volume) (volume_text volume))
