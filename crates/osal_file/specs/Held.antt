-- What is asked by an identifier of a file system or of a directory.
use Rattle.std.specs.Prelude.{◌==◌, ℕ, Bool, is_some, if◌then◌else◌}
use Rattle.osal_base.specs.declared.id.ObjType.TheVariants as kind
use Rattle.osal_base.specs.Identifier.{type_number, type_of}
use Rattle.osal_base.specs.Reply.{Replied}
use Rattle.osal_idtable.specs.Table.{active_at}
use Rattle.osal_object.specs.Objects.{ObjectsState, hold_call_step, release_call_step}
use Rattle.osal_file.specs.declared.system.FileSystem.{FileSystem}
use Rattle.osal_file.specs.Files.{FilesState, Stepped}

-- whether an identifier is one of a directory
abbrev pub is_of_directory : ℕ → Bool
is_of_directory id = type_of id == type_number kind.Directory

-- whether an identifier is active, as one of a directory or else of a file system
abbrev pub is_active : FilesState → ℕ → Bool
is_active files id =
    if is_of_directory id then is_some (active_at files.directories.table id)
    else is_some (active_at files.systems.table id)

-- a step of the directories' identifiers
abbrev pub in_directories : FilesState → Replied × ObjectsState (Unit {0}) (Unit {0}) → Stepped
in_directories files stepped = (stepped.0, record files { directories = stepped.1 })

-- a step of the file systems
abbrev pub in_systems : FilesState → Replied × ObjectsState FileSystem (Unit {0}) → Stepped
in_systems files stepped = (stepped.0, record files { systems = stepped.1 })

-- a hold of a directory or of a file system
abbrev pub hold : FilesState → ℕ → Stepped
hold files id =
    if is_of_directory id then in_directories files (hold_call_step files.directories id)
    else in_systems files (hold_call_step files.systems id)

-- the end of a hold
abbrev pub release : FilesState → ℕ → Stepped
release files id =
    if is_of_directory id then in_directories files (release_call_step files.directories id)
    else in_systems files (release_call_step files.systems id)
