-- Making, mounting, unmounting and removing file systems, and how full one is.
use Rattle.std.specs.Prelude.{◌&&◌, ◌==◌, ◌++◌, List, [], ◌∷◌, ℕ, Bool, not, Option, Some, None, Result, Ok, Err, codes, length, take, nat_le, is_some, slice_index_or, if◌then◌else◌}
use Rattle.std.specs.Fmt.{decimal}
use Rattle.std.specs.Str.{bytes_eq}
use Rattle.std.specs.FinMap as map
use Rattle.osal_base.specs.declared.status.Status.TheVariants as status
use Rattle.osal_base.specs.Reply.{success, gives_bytes}
use Rattle.osal_idtable.specs.Table.{Active}
use Rattle.osal_idtable.specs.declared.table.ReserveFault.{ReserveFault}
use Rattle.osal_idtable.specs.declared.table.IdFault.{IdFault}
use Rattle.osal_idtable.specs.Steps.{peeked, reserve_step, remove_step, find_id}
use Rattle.osal_idtable.specs.Faults.{under_name}
use Rattle.osal_object.specs.Objects.{create_step, delete_step}
use Rattle.osal_path.specs.Mounts.{mount_limit}
use Rattle.osal_volume.specs.Volume.{VolumeState, fresh, free_blocks}
use Rattle.osal_file.specs.declared.system.FileSystem.{FileSystem}
use Rattle.osal_file.specs.Files.{FilesState, Stepped, refused, system_at, with_system, with_volume, with_slot, at_path, at_names, is_open_within}

-- a device: `/ramdev` and one digit
abbrev pub is_device : List ℕ → Bool
is_device device =
    (length device == 8) && bytes_eq (take 7 device) (codes "/ramdev")
    && (nat_le 48 (slice_index_or device 7 0) && nat_le (slice_index_or device 7 0) 57)

-- a volume of so many blocks may be made
abbrev pub is_size : ℕ → Bool
is_size blocks = nat_le 1 blocks && nat_le blocks 4096

-- the file systems with a new one under a device
abbrev pub with_new : FilesState → List ℕ → List ℕ → FilesState
with_new files device label =
    record files { systems = (create_step files.systems (Some device) (record { label = label; mount = None })).1 }

-- a volume stands under the identifier that its device gets, unless the device has a file system or no identifier is free
abbrev pub made : FilesState → FilesState → VolumeState → Result ℕ ReserveFault → Stepped
made files longer volume (Err fault) = refused files status.FsErrDeviceNotFree
made files longer volume (Ok id) = (success, with_volume longer id volume)

-- OS_mkfs: no device, a size that may not be, a label's faults, a device that is not free; else an empty volume
abbrev pub mkfs : FilesState → List ℕ → List ℕ → ℕ → Stepped
mkfs files device label blocks =
    if not (is_device device) then refused files status.ErrInvalidArgument
    else (if not (is_size blocks) then refused files status.ErrInvalidSize
    else under_name label files
    (made files (with_new files device label) (fresh blocks) (peeked (reserve_step files.systems.table (Some device)).0)))

-- the file system of a device: none has another name
abbrev pub system_of : FilesState → List ℕ → Option ℕ
system_of files device = if is_device device then find_id files.systems.table device else None

-- what a call does with a file system that may be there
abbrev pub in_found : FilesState → ℕ → (FileSystem → Stepped) → Option (Active FileSystem) → Stepped
in_found files id does None = refused files status.ErrNameNotFound
in_found files id does (Some active) = does active.object

-- what a call does with the file system of that identifier, if there is one
abbrev pub with_found : FilesState → (ℕ → FileSystem → Stepped) → Option ℕ → Stepped
with_found files does None = refused files status.ErrNameNotFound
with_found files does (Some id) = in_found files id (does id) (system_at files id)

-- what a call does with a device's file system
abbrev pub on_device : FilesState → List ℕ → (ℕ → FileSystem → Stepped) → Stepped
on_device files device does = with_found files does (system_of files device)

-- a file system is mounted at a point, unless it is mounted, the point is used, or there are 1,024 mounts, which there
-- are never, since each file system is mounted once
abbrev pub mounted_at : FilesState → ℕ → FileSystem → List (List ℕ) → Stepped
mounted_at files id system (point ∷ []) =
    if is_some system.mount then refused files status.ErrIncorrectObjState
    else (if is_some (map.get files.mounts point) then refused files status.ErrNameTaken
    else (if nat_le mount_limit (map.len files.mounts) then refused files status.ErrNoFreeIds
    else (
      success,
      record (with_system files id (record system { mount = Some point })) { mounts = map.insert files.mounts point id },
    )))
mounted_at files id system names = refused files status.FsErrPathInvalid

-- OS_mount: a device without a file system, a path's faults, a point below another; else as above
abbrev pub mount : FilesState → List ℕ → List ℕ → Stepped
mount files device path = on_device files device (λ id system. at_names files path (mounted_at files id system))

-- a file system is not mounted any more, unless something on it is open
abbrev pub unmounted : FilesState → List ℕ → ℕ → FileSystem → Stepped
unmounted files point id system =
    if is_open_within files id [] then refused files status.ErrObjectInUse
    else (
      success,
      record (with_system files id (record system { mount = None })) { mounts = map.remove files.mounts point },
    )

-- the mount of that name is taken away, if there is one
abbrev pub unmounted_at : FilesState → List (List ℕ) → Stepped
unmounted_at files (point ∷ []) = with_found files (unmounted files point) (map.get files.mounts point)
unmounted_at files names = refused files status.ErrNameNotFound

-- OS_unmount: a path's faults, a path that is no mount, a file system on which something is open
abbrev pub unmount : FilesState → List ℕ → Stepped
unmount files path = at_names files path (unmounted_at files)

-- what a removal of a file system leaves
abbrev pub left_by : FilesState → ℕ → Result FileSystem IdFault → FilesState
left_by files id (Err fault) = files
left_by files id (Ok system) =
    record files { systems = (delete_step files.systems id).1; volumes = with_slot files.volumes id None }

-- a file system that is not mounted, and that nobody holds, is removed with its files
abbrev pub removed : FilesState → ℕ → FileSystem → Stepped
removed files id system =
    if is_some system.mount then refused files status.ErrIncorrectObjState
    else ((delete_step files.systems id).0, left_by files id (remove_step files.systems.table id).0)

-- OS_rmfs: a device without a file system, one that is mounted, one that somebody holds
abbrev pub rmfs : FilesState → List ℕ → Stepped
rmfs files device = on_device files device (removed files)

-- the size of a block, how many blocks there are and how many are free, in decimal
abbrev pub volume_text : VolumeState → List ℕ
volume_text volume = codes "512 " ++ (decimal volume.total ++ (codes " " ++ decimal (free_blocks volume)))

-- OS_FileSysStatVolume: a path's faults; else the free blocks
abbrev pub stat_volume : FilesState → List ℕ → Stepped
stat_volume files path =
    at_path files path (λ id volume at. (gives_bytes (free_blocks volume) (volume_text volume), files))
