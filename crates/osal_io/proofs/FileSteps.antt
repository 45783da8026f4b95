-- What is known of a step of the files: which tables it may turn, and what holds of a call at a path or on a volume.
use Rattle.std.proofs.Common.{◌≡◌, ℕ, Bool, false, List, Option, Some, None, Result, Ok, Err, refl}
use Rattle.osal_base.specs.declared.status.Status.{Status}
use Rattle.osal_base.specs.declared.status.Status.TheVariants as status
use Rattle.osal_base.specs.Reply.{is_waits, gives_bytes}
use Rattle.osal_object.proofs.Refusals.{Leaves, same, fails}
use Rattle.osal_file.specs.Mounts.{resolve}
use Rattle.osal_file.specs.Volume.{VolumeState}
use Rattle.osal_file.specs.Files.{FilesState, Stepped, refused, in_slot, on_found, in_volume, led, at_path, named_by, at_names, on_volume}
use Rattle.osal_io.proofs.Below.{below}
use Rattle.osal_io.proofs.Makes.{Makes, makes_none}

-- a step leaves both tables; it does not wait, and leaves the files where it answers a code below 0
pub record IsBeside (files : FilesState) (stepped : Stepped) : Type 0 where
  pub systems : stepped.1.systems ≡ files.systems
  pub directories : stepped.1.directories ≡ files.directories
  pub keeps : Leaves below files stepped
  pub answers : is_waits stepped.0.answer ≡ false

-- at most one of the two tables turns, and by a move that suits the call
pub data Turns (holding : Bool) (old new : FilesState) : Type 0 where
  OfSystems : Makes holding old.systems new.systems → new.directories ≡ old.directories → Turns holding old new
  OfDirectories : new.systems ≡ old.systems → Makes holding old.directories new.directories → Turns holding old new

-- a step turns at most one table; it does not wait, and leaves the files where it answers a code below 0
pub record IsKnown (holding : Bool) (files : FilesState) (stepped : Stepped) : Type 0 where
  pub turns : Turns holding files stepped.1
  pub keeps : Leaves below files stepped
  pub answers : is_waits stepped.0.answer ≡ false

module _ {files : FilesState} where
  -- a step that leaves both tables turns at most one
  pub beside_known : {holding : Bool} {stepped : Stepped} → IsBeside files stepped → IsKnown holding files stepped
  beside_known beside = record {
    turns = OfSystems (makes_none beside.systems) beside.directories;
    keeps = beside.keeps;
    answers = beside.answers;
  }

  -- a refusal leaves both
  pub refused_beside : (fault : Status) → IsBeside files (refused files fault)
  refused_beside fault = record { systems = refl; directories = refl; keeps = same; answers = refl }

  -- and so does what tells of the files alone
  pub tells_beside : (number : ℕ) (bytes : List ℕ) → IsBeside files (gives_bytes number bytes, files)
  tells_beside number bytes = record { systems = refl; directories = refl; keeps = same; answers = refl }

  -- a refusal turns none
  pub refused_known : {holding : Bool} (fault : Status) → IsKnown holding files (refused files fault)
  refused_known fault = beside_known (refused_beside fault)

-- what holds of each refusal, and of what the call does, holds of the call
module _ (files : FilesState) (P : Stepped → Type 0) (refuses : (fault : Status) → P (refused files fault)) where
  found_holds : (does : VolumeState → Stepped) → ((volume : VolumeState) → P (does volume)) → (found : Option VolumeState) → P (on_found files does found)
  found_holds does holds None = refuses status.FsErrPathInvalid
  found_holds does holds (Some volume) = holds volume

  -- in the volume of a file system
  pub volume_holds : (id : ℕ) (does : VolumeState → Stepped) → ((volume : VolumeState) → P (does volume)) → P (in_volume files id does)
  volume_holds id does holds = found_holds does holds (in_slot files.volumes id)

  led_holds : (does : ℕ → VolumeState → List (List ℕ) → Stepped) → ((id : ℕ) (volume : VolumeState) (at : List (List ℕ)) → P (does id volume at)) → (to : Result (ℕ × List (List ℕ)) Status) → P (led files does to)
  led_holds does holds (Err fault) = refuses fault
  led_holds does holds (Ok to) = volume_holds to.0 (λ volume. does to.0 volume to.1) (λ volume. holds to.0 volume to.1)

  -- at a path
  pub path_holds : (path : List ℕ) (does : ℕ → VolumeState → List (List ℕ) → Stepped) → ((id : ℕ) (volume : VolumeState) (at : List (List ℕ)) → P (does id volume at)) → P (at_path files path does)
  path_holds path does holds = led_holds does holds (resolve files.mounts path)

  named_holds : (does : List (List ℕ) → Stepped) → ((names : List (List ℕ)) → P (does names)) → (split : Result (List (List ℕ)) Status) → P (named_by files does split)
  named_holds does holds (Err fault) = refuses fault
  named_holds does holds (Ok names) = holds names

  -- at the names of a path
  pub names_hold : (path : List ℕ) (does : List (List ℕ) → Stepped) → ((names : List (List ℕ)) → P (does names)) → P (at_names files path does)
  names_hold path does holds = named_holds does holds _

-- what a volume allows or refuses leaves both tables
pub volume_beside : (files : FilesState) (id : ℕ) (stepped : Result (Unit {0}) _ × VolumeState) → IsBeside files (on_volume files id stepped)
volume_beside files id (Ok done, volume) = record { systems = refl; directories = refl; keeps = fails refl; answers = refl }
volume_beside files id (Err why, volume) = refused_beside status.Error
