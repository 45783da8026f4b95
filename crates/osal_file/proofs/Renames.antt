-- Moves within a volume.
use Rattle.std.proofs.Common.{◌≡◌, ◌==◌, ℕ, Bool, true, not, List, Option, Some, None, if◌then◌else◌, refl, ap, ◌∙◌, arith}
use Rattle.std.proofs.lemmas.Bool.Decides.{nat_tests}
use Rattle.osal_base.specs.declared.status.Status.TheVariants as status
use Rattle.osal_volume.specs.Volume.{VolumeState}
use Rattle.osal_volume.specs.Renames.{rename_step}
use Rattle.osal_file.specs.Files.{FilesState, refused, in_slot, on_found, in_volume}
use Rattle.osal_file.specs.Nodes.{unless_open}

module _ (files : FilesState) (id other : ℕ) (from to : List (List ℕ)) (opened : Bool) where
  -- where both paths lead to one file system, it moves what is there
  pub one_system : other ≡ id → in_volume files id (λ volume. in_volume files other (λ there. if not (other == id) then refused files status.Error else unless_open files opened id (rename_step volume from to))) ≡ in_volume files id (λ volume. unless_open files opened id (rename_step volume from to))
  one_system one =
      ap (λ b. in_volume files id (λ volume. in_volume files other (λ there. if not b then refused files status.Error else unless_open files opened id (rename_step volume from to)))) yes
      ∙ ap (λ one. in_volume files id (λ volume. in_volume files one (λ there. unless_open files opened id (rename_step volume from to)))) one
      ∙ twice (in_slot files.volumes id)
    where
      yes : (other == id) ≡ true
      yes = grind (arith, nat_tests)

      twice : (found : Option VolumeState) → on_found files (λ volume. on_found files (λ there. unless_open files opened id (rename_step volume from to)) found) found ≡ on_found files (λ volume. unless_open files opened id (rename_step volume from to)) found
      twice None = refl
      twice (Some volume) = refl
