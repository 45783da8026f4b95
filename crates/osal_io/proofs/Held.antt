-- What is known of a hold of a directory or of a file system, and of its end.
use Rattle.std.proofs.Common.{ℕ, true, refl}
use Rattle.osal_object.proofs.Moves.{either}
use Rattle.osal_object.proofs.Refusals.{within}
use Rattle.osal_file.specs.Files.{FilesState}
use Rattle.osal_file.specs.Held.{is_of_directory, hold, release}
use Rattle.osal_io.proofs.Below.{hold_answers, release_answers, hold_leaves, release_leaves}
use Rattle.osal_io.proofs.Makes.{makes_held, makes_released}
use Rattle.osal_io.proofs.FileSteps.{IsKnown, OfSystems, OfDirectories}

module _ (files : FilesState) (id : ℕ) where
  -- a hold
  pub hold_known : IsKnown true files (hold files id)
  hold_known =
      either (IsKnown true files) (is_of_directory id) _ _
      (record {
        turns = OfDirectories refl (makes_held files.directories id);
        keeps = within (λ o. record files { directories = o }) (hold_leaves files.directories id);
        answers = hold_answers files.directories id;
      })
      (record {
        turns = OfSystems (makes_held files.systems id) refl;
        keeps = within (λ o. record files { systems = o }) (hold_leaves files.systems id);
        answers = hold_answers files.systems id;
      })

  -- its end
  pub release_known : IsKnown true files (release files id)
  release_known =
      either (IsKnown true files) (is_of_directory id) _ _
      (record {
        turns = OfDirectories refl (makes_released files.directories id);
        keeps = within (λ o. record files { directories = o }) (release_leaves files.directories id);
        answers = release_answers files.directories id;
      })
      (record {
        turns = OfSystems (makes_released files.systems id) refl;
        keeps = within (λ o. record files { systems = o }) (release_leaves files.systems id);
        answers = release_answers files.systems id;
      })
