-- The calls on the file of a stream leave both tables of the files.
use Rattle.std.proofs.Common.{◌≡◌, ◌==◌, ◌&&◌, ◌||◌, ◌+ℤ◌, ℤ, pos, ℕ, not, List, [], length, nat_lt, Option, Some, None, Result, Ok, Err, refl}
use Rattle.osal_base.specs.declared.arguments.Access.{Access}
use Rattle.osal_base.specs.declared.arguments.OpenFlags.{OpenFlags}
use Rattle.osal_base.specs.declared.arguments.Whence.{Whence}
use Rattle.osal_base.specs.declared.status.Status.TheVariants as status
use Rattle.osal_object.proofs.Moves.{either}
use Rattle.osal_object.proofs.Refusals.{fails}
use Rattle.osal_file.specs.Volume.{VolumeState, content_at}
use Rattle.osal_file.specs.declared.opened.OpenFile.{OpenFile}
use Rattle.osal_file.specs.Files.{FilesState, Stepped, in_slot}
use Rattle.osal_file.specs.Streams.{truncates, may_write, may_read, is_unopened, file_opened, open_file, counts, with_file, on_file, was_read, read, was_written, write, seeks_from, placed, sought, lseek}
use Rattle.osal_io.proofs.Below.{count_not_below}
use Rattle.osal_io.proofs.FileSteps.{IsBeside, refused_beside, volume_holds, path_holds}

module _ (files : FilesState) where
  abbrev Beside : Stepped → Type 0
  Beside stepped = IsBeside files stepped

  -- files of which no table is another, after an answer with a count
  counts_beside : (count : ℕ) (bytes : List ℕ) (new : FilesState) → new.systems ≡ files.systems → new.directories ≡ files.directories → Beside (counts count bytes, new)
  counts_beside count bytes new systems directories =
      record { systems = systems; directories = directories; keeps = fails (count_not_below count); answers = refl }

  opened_beside : (id : ℕ) (volume : VolumeState) (at : List (List ℕ)) (flags : OpenFlags) (access : Access) (stream : Option ℕ) → Beside (file_opened files id volume at flags access stream)
  opened_beside id volume at flags access None = refused_beside status.ErrNoFreeIds
  opened_beside id volume at flags access (Some stream) = record { systems = refl; directories = refl; keeps = fails refl; answers = refl }

  -- opening
  pub open_beside : (path : List ℕ) (flags : OpenFlags) (access : Access) (stream : Option ℕ) → Beside (open_file files path flags access stream)
  open_beside path flags access stream =
      path_holds files Beside refused_beside path _ (λ id volume at.
      either Beside (is_unopened volume at flags (content_at volume at) || (truncates flags && not (may_write access))) _ _
      (refused_beside status.Error) (opened_beside id volume at flags access stream))

  with_file_beside : (does : OpenFile → Stepped) → ((file : OpenFile) → Beside (does file)) → (found : Option OpenFile) → Beside (with_file files does found)
  with_file_beside does holds None = refused_beside status.ErrInvalidId
  with_file_beside does holds (Some file) = holds file

  file_beside : (stream : ℕ) (does : OpenFile → Stepped) → ((file : OpenFile) → Beside (does file)) → Beside (on_file files stream does)
  file_beside stream does holds = with_file_beside does holds (in_slot files.open_files stream)

  read_beside : (stream : ℕ) (file : OpenFile) (r : Result (List ℕ) _) → Beside (was_read files stream file r)
  read_beside stream file (Err why) = refused_beside status.Error
  read_beside stream file (Ok bytes) = counts_beside (length bytes) bytes _ refl refl

  -- reading
  pub reads_beside : (stream n : ℕ) → Beside (read files stream n)
  reads_beside stream n =
      either Beside ((n == 0) || nat_lt 1024 n) _ _ (refused_beside status.ErrInvalidSize)
      (file_beside stream _ (λ file. either Beside (not (may_read file.access)) _ _ (refused_beside status.Error)
      (volume_holds files Beside refused_beside file.system _ (λ volume. read_beside stream file _))))

  written_beside : (stream : ℕ) (file : OpenFile) (r : Result ℕ _ × VolumeState) → Beside (was_written files stream file r)
  written_beside stream file (Err why, volume) = refused_beside status.Error
  written_beside stream file (Ok count, volume) = counts_beside count [] _ refl refl

  -- writing
  pub writes_beside : (stream : ℕ) (payload : List ℕ) → Beside (write files stream payload)
  writes_beside stream payload =
      either Beside ((length payload == 0) || nat_lt 4096 (length payload)) _ _ (refused_beside status.ErrInvalidSize)
      (file_beside stream _ (λ file. either Beside (not (may_write file.access)) _ _ (refused_beside status.Error)
      (volume_holds files Beside refused_beside file.system _ (λ volume. written_beside stream file _))))

  sought_beside : (stream : ℕ) (file : OpenFile) (place : Option ℕ) → Beside (sought files stream file place)
  sought_beside stream file None = refused_beside status.Error
  sought_beside stream file (Some place) = counts_beside place [] _ refl refl

  -- seeking
  pub seeks_beside : (stream : ℕ) (offset : ℤ) (from : Whence) → Beside (lseek files stream offset from)
  seeks_beside stream offset from =
      file_beside stream _ (λ file. volume_holds files Beside refused_beside file.system _ (λ volume.
      sought_beside stream file (placed (pos (seeks_from from file volume) +ℤ offset))))
