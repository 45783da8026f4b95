-- Removing, moving and copying files, making and removing directories, and what stands at a path.
use Rattle.std.specs.Prelude.{◌&&◌, ◌==◌, List, ℕ, Bool, not, Option, Some, None, Result, Ok, Err, codes, length, if◌then◌else◌}
use Rattle.osal_base.specs.declared.status.Status.TheVariants as status
use Rattle.osal_base.specs.Reply.{gives_bytes}
use Rattle.osal_volume.specs.Volume.{Content, Dir, Bytes, VolumeState, content_at, is_directory}
use Rattle.osal_volume.specs.Steps.{remove_step, mkdir_step, rmdir_step}
use Rattle.osal_volume.specs.Renames.{rename_step}
use Rattle.osal_volume.specs.Copies.{copy_step, copy_from_step}
use Rattle.osal_volume.specs.declared.fault.VolFault.{VolFault}
use Rattle.osal_file.specs.Files.{FilesState, Stepped, refused, on_volume, at_path, slot_among, is_file_open, is_directory_open, is_open_within}

-- a call that its volume allows, unless something is open
abbrev pub unless_open : FilesState → Bool → ℕ → Result (Unit {0}) VolFault × VolumeState → Stepped
unless_open files opened id (Err why, volume) = refused files status.Error
unless_open files opened id (Ok done, volume) =
    if opened then refused files status.ErrObjectInUse else on_volume files id (Ok done, volume)

-- OS_remove: a path's faults, what is no file, a file that is open
abbrev pub remove : FilesState → List ℕ → Stepped
remove files path =
    at_path files path (λ id volume at. unless_open files (is_file_open files id at) id (remove_step volume at))

-- OS_rename: the faults of each path, what the volume may not move, two volumes, what is open or has something open in it
abbrev pub rename : FilesState → List ℕ → List ℕ → Stepped
rename files path to =
    at_path files path (λ id volume from. at_path files to (λ other there target.
    if not (other == id) then refused files status.Error
    else unless_open files (is_open_within files id from) id (rename_step volume from target)))

-- whether the volumes of two file systems are one
abbrev pub is_one_volume : FilesState → ℕ → ℕ → Bool
is_one_volume files id other = slot_among files.volumes other == slot_among files.volumes id

-- the copy of a file within one volume, or from one to another
abbrev pub copied : Bool → VolumeState → List (List ℕ) → VolumeState → List (List ℕ) → Result (Unit {0}) VolFault × VolumeState
copied one volume from there target =
    if one then copy_step volume from target else copy_from_step there volume from target

-- OS_cp: the faults of each path, what the volume may not copy, a target that is open
abbrev pub cp : FilesState → List ℕ → List ℕ → Stepped
cp files path to =
    at_path files path (λ id volume from. at_path files to (λ other there target.
    unless_open files (is_file_open files other target) other (copied (is_one_volume files id other) volume from there target)))

-- what stands at a path: its length, and the word for it
abbrev pub told : FilesState → Option Content → Stepped
told files None = refused files status.Error
told files (Some Dir) = (gives_bytes 0 (codes "dir"), files)
told files (Some (Bytes bytes)) = (gives_bytes (length bytes) (codes "file"), files)

-- OS_stat: a path's faults, a path at which nothing stands
abbrev pub stat : FilesState → List ℕ → Stepped
stat files path = at_path files path (λ id volume at. told files (content_at volume at))

-- OS_mkdir: a path's faults, what the volume refuses
abbrev pub mkdir : FilesState → List ℕ → Stepped
mkdir files path = at_path files path (λ id volume at. on_volume files id (mkdir_step volume at))

-- a directory other than the root stands there
abbrev pub is_removable : VolumeState → List (List ℕ) → Bool
is_removable volume at = is_directory (content_at volume at) && not (length at == 0)

-- OS_rmdir: a path's faults, what is no directory or the root, a directory that is open, one that is not empty
abbrev pub rmdir : FilesState → List ℕ → Stepped
rmdir files path =
    at_path files path (λ id volume at.
    if not (is_removable volume at) then refused files status.Error
    else (if is_directory_open files id at then refused files status.ErrObjectInUse
    else on_volume files id (rmdir_step volume at)))
