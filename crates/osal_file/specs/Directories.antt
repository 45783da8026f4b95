-- Opening, reading, rewinding and closing directories.
use Rattle.std.specs.Prelude.{◌+◌, List, [], ℕ, not, Option, Some, None, Result, Ok, Err, map as list_map, filter, is_some, slice_get, if◌then◌else◌}
use Rattle.std.specs.FinMap as map
use Rattle.osal_base.specs.declared.status.Status.TheVariants as status
use Rattle.osal_base.specs.Reply.{success, gives, gives_bytes}
use Rattle.osal_idtable.specs.declared.table.ReserveFault.{ReserveFault}
use Rattle.osal_idtable.specs.declared.table.IdFault.{IdFault}
use Rattle.osal_idtable.specs.Table.{active_at}
use Rattle.osal_idtable.specs.Steps.{peeked, reserve_step, remove_step}
use Rattle.osal_object.specs.Objects.{create_step, delete_step}
use Rattle.osal_path.specs.Path.{last_of}
use Rattle.osal_tree.specs.Paths.{is_child}
use Rattle.osal_volume.specs.Volume.{VolumeState, content_at, is_directory}
use Rattle.osal_file.specs.Opened.{Directory}
use Rattle.osal_file.specs.Files.{FilesState, Stepped, refused, at_path, in_slot, with_slot}

-- the names in a directory, in the order of their bytes
abbrev pub names_in : VolumeState → List (List ℕ) → List (List ℕ)
names_in volume at = list_map (λ path. last_of [] path) (filter (is_child at) (map.keys volume.nodes))

-- a directory is open under an identifier, or there is none for it
abbrev pub directory_opened : FilesState → ℕ → VolumeState → List (List ℕ) → Result ℕ ReserveFault → Stepped
directory_opened files id volume at (Err fault) = refused files status.ErrNoFreeIds
directory_opened files id volume at (Ok own) = (
  gives own,
  record files {
    directories = (create_step files.directories None tt).1;
    open_directories = with_slot files.open_directories own (Some (record { system = id; trail = at; names = names_in volume at; next = 0 }));
  },
)

-- OS_DirectoryOpen: a path's faults, what is no directory, no free identifier
abbrev pub dir_open : FilesState → List ℕ → Stepped
dir_open files path =
    at_path files path (λ id volume at.
    if not (is_directory (content_at volume at)) then refused files status.Error
    else directory_opened files id volume at (peeked (reserve_step files.directories.table None).0))

-- what a call does with a directory that is open
abbrev pub with_directory : FilesState → (Directory → Stepped) → Option Directory → Stepped
with_directory files does None = refused files status.ErrInvalidId
with_directory files does (Some one) = does one

-- a call on the identifier of a directory
abbrev pub on_directory : FilesState → ℕ → (Directory → Stepped) → Stepped
on_directory files id does =
    if is_some (active_at files.directories.table id)
    then with_directory files does (in_slot files.open_directories id)
    else refused files status.ErrInvalidId

-- a directory at another of its names
abbrev pub at_name : FilesState → ℕ → Directory → ℕ → FilesState
at_name files id one next =
    record files { open_directories = with_slot files.open_directories id (Some (record one { next = next })) }

-- the next name of a directory, if there is one
abbrev pub next_name : FilesState → ℕ → Directory → Option (List ℕ) → Stepped
next_name files id one None = refused files status.Error
next_name files id one (Some name) = (gives_bytes 0 name, at_name files id one (one.next + 1))

-- OS_DirectoryRead: an identifier that is not active, a directory whose names were all read
abbrev pub dir_read : FilesState → ℕ → Stepped
dir_read files id = on_directory files id (λ one. next_name files id one (slice_get one.names one.next))

-- OS_DirectoryRewind: an identifier that is not active
abbrev pub dir_rewind : FilesState → ℕ → Stepped
dir_rewind files id = on_directory files id (λ one. (success, at_name files id one 0))

-- what a removal leaves open
abbrev pub closed_where : FilesState → ℕ → Result (Unit {0}) IdFault → FilesState
closed_where files id (Err fault) = files
closed_where files id (Ok done) = record files {
  directories = (delete_step files.directories id).1;
  open_directories = with_slot files.open_directories id None;
}

-- OS_DirectoryClose: removal faults
abbrev pub dir_close : FilesState → ℕ → Stepped
dir_close files id = ((delete_step files.directories id).0, closed_where files id (remove_step files.directories.table id).0)
