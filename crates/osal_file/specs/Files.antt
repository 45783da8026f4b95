-- File systems and where they are mounted, the files and directories that are open, and what a call does at a path.
use Rattle.std.specs.Prelude.{◌==◌, ◌&&◌, ◌||◌, List, ℕ, Bool, false, Option, Some, None, Result, Ok, Err, replicate}
use Rattle.std.specs.List.{list_any}
use Rattle.std.specs.Ordering.{eq_by_cmp}
use Rattle.std.specs.FinMap as map
use Rattle.osal_base.specs.declared.status.Status.{Status}
use Rattle.osal_base.specs.declared.status.Status.TheVariants as status
use Rattle.osal_base.specs.declared.id.ObjType.TheVariants as kind
use Rattle.osal_base.specs.declared.limits.Limits.{Limits}
use Rattle.osal_base.specs.Identifier.{type_number}
use Rattle.osal_base.specs.Reply.{Replied, refusal, success}
use Rattle.osal_idtable.specs.Table.{Active, active_at}
use Rattle.osal_object.specs.Objects.{ObjectsState, no_objects, with_value}
use Rattle.osal_path.specs.Mounts.{Mounts, resolve}
use Rattle.osal_path.specs.Path.{split_path}
use Rattle.osal_tree.specs.Paths.{path_cmp, is_within}
use Rattle.osal_volume.specs.declared.fault.VolFault.{VolFault}
use Rattle.osal_volume.specs.Volume.{VolumeState}
use Rattle.osal_file.specs.declared.system.FileSystem.{FileSystem}
use Rattle.osal_file.specs.declared.opened.OpenFile.{OpenFile}
use Rattle.osal_file.specs.Opened.{Directory}
pub use Rattle.osal_slots.specs.Slots.{slot_among, in_slot, with_slot}

-- the file systems, the identifiers of open directories, the mounts; the volumes, each in the slot of its file system's
-- identifier; and what is open: each file in the slot of its stream's identifier, each directory in that of its own
pub record FilesState : Type 0 where
  pub systems : ObjectsState FileSystem (Unit {0})
  pub directories : ObjectsState (Unit {0}) (Unit {0})
  pub mounts : Mounts
  pub volumes : List (Option VolumeState)
  pub open_files : List (Option OpenFile)
  pub open_directories : List (Option Directory)

-- no file systems, and nothing open
abbrev pub no_files : Limits → FilesState
no_files limits = record {
  systems = no_objects (type_number kind.FileSystem) limits.file_systems limits.tasks;
  directories = no_objects (type_number kind.Directory) limits.dirs limits.tasks;
  mounts = map.empty;
  volumes = replicate limits.file_systems None;
  open_files = replicate limits.streams None;
  open_directories = replicate limits.dirs None;
}

-- a reply, and the files after the call
abbrev pub Stepped : Type 0
Stepped = Replied × FilesState

-- a refused call changes nothing
abbrev pub refused : FilesState → Status → Stepped
refused files fault = (refusal fault, files)

-- the file system under an identifier, if it is active
abbrev pub system_at : FilesState → ℕ → Option (Active FileSystem)
system_at files id = active_at files.systems.table id

-- another file system in the place of the one under an identifier
abbrev pub with_system : FilesState → ℕ → FileSystem → FilesState
with_system files id system = record files { systems = with_value files.systems id system }

-- another volume of a file system
abbrev pub with_volume : FilesState → ℕ → VolumeState → FilesState
with_volume files id volume = record files { volumes = with_slot files.volumes id (Some volume) }

-- what a call does with a volume that is there
abbrev pub on_found : FilesState → (VolumeState → Stepped) → Option VolumeState → Stepped
on_found files does None = refused files status.FsErrPathInvalid
on_found files does (Some volume) = does volume

-- what a call does with the volume of a file system
abbrev pub in_volume : FilesState → ℕ → (VolumeState → Stepped) → Stepped
in_volume files id does = on_found files does (in_slot files.volumes id)

-- what a call does on the volume to which a path leads, at the names there; or the path's fault
abbrev pub led : FilesState → (ℕ → VolumeState → List (List ℕ) → Stepped) → Result (ℕ × List (List ℕ)) Status → Stepped
led files does (Err fault) = refused files fault
led files does (Ok to) = in_volume files to.0 (λ volume. does to.0 volume to.1)

-- what a call does at a path: with the identifier of the file system, its volume, and the names there
abbrev pub at_path : FilesState → List ℕ → (ℕ → VolumeState → List (List ℕ) → Stepped) → Stepped
at_path files path does = led files does (resolve files.mounts path)

-- what a call does with the names of a path that stands for a mount, or the path's fault
abbrev pub named_by : FilesState → (List (List ℕ) → Stepped) → Result (List (List ℕ)) Status → Stepped
named_by files does (Err fault) = refused files fault
named_by files does (Ok names) = does names

-- the names of a path, whatever is mounted
abbrev pub at_names : FilesState → List ℕ → (List (List ℕ) → Stepped) → Stepped
at_names files path does = named_by files does (split_path path)

-- a call that changes a volume succeeds, or is OS_ERROR where the volume refuses it
abbrev pub on_volume : FilesState → ℕ → Result (Unit {0}) VolFault × VolumeState → Stepped
on_volume files id (Ok done, volume) = (success, with_volume files id volume)
on_volume files id (Err why, volume) = refused files status.Error

-- whether two paths of a file system are one
abbrev pub is_same : List (List ℕ) → List (List ℕ) → Bool
is_same at other = eq_by_cmp path_cmp at other

-- whether something is there and passes a test
abbrev pub passes : {X : Type 0} → (X → Bool) → Option X → Bool
passes test None = false
passes test (Some x) = test x

-- whether the file at a path is open
abbrev pub is_file_open : FilesState → ℕ → List (List ℕ) → Bool
is_file_open files id at =
    list_any (passes (λ (file : OpenFile). (file.system == id) && is_same at file.trail)) files.open_files

-- whether the directory at a path is open
abbrev pub is_directory_open : FilesState → ℕ → List (List ℕ) → Bool
is_directory_open files id at =
    list_any (passes (λ (one : Directory). (one.system == id) && is_same at one.trail)) files.open_directories

-- whether a file or a directory at a path or below it is open
abbrev pub is_open_within : FilesState → ℕ → List (List ℕ) → Bool
is_open_within files id at =
    list_any (passes (λ (file : OpenFile). (file.system == id) && is_within at file.trail)) files.open_files
    || list_any (passes (λ (one : Directory). (one.system == id) && is_within at one.trail)) files.open_directories
