-- Copies of files: which volumes they are about, and what is left once a volume was out of its slot.
use Rattle.std.proofs.Common.{◌≡◌, ℕ, Bool, true, false, List, Option, Some, None, slice_index_or, slice_set, refl, sym, ap, ◌∙◌, arith}
use Rattle.std.proofs.lemmas.Bool.{false_from_ne_true}
use Rattle.std.proofs.lemmas.Bool.Decides.{nat_tests}
use Rattle.std.proofs.lemmas.List.{set_comm, set-set, set-get_or}
use Rattle.osal_volume.specs.Volume.{VolumeState}
use Rattle.osal_volume.specs.Copies.{copy_step, copy_from_step}
use Rattle.osal_file.specs.Files.{FilesState, slot_among, in_slot, on_found, in_volume}
use Rattle.osal_file.specs.Nodes.{unless_open, is_one_volume, copied}

-- what was taken out of its slot and put back is there again
pub put_back : {V : Type 0} (volumes : List (Option V)) (home slot : ℕ) (gone x : Option V) (source : V) → (slot ≡ home → ⊥) → slice_index_or volumes home None ≡ Some source → slice_set (slice_set (slice_set volumes home gone) slot x) home (Some source) ≡ slice_set volumes slot x
put_back volumes home slot gone x source apart is =
    set_comm (slice_set volumes home gone) slot home x (Some source) apart
    ∙ ap (λ l. slice_set l slot x) (set-set volumes home gone (Some source) ∙ ap (slice_set volumes home) (sym is) ∙ set-get_or volumes home None)

module _ (files : FilesState) (id other : ℕ) (from to : List (List ℕ)) (opened : Bool) where
  -- where both file systems have one volume, the copy is within it
  pub one_volume : slot_among files.volumes other ≡ slot_among files.volumes id → in_volume files id (λ volume. in_volume files other (λ there. unless_open files opened other (copied (is_one_volume files id other) volume from there to))) ≡ in_volume files other (λ volume. unless_open files opened other (copy_step volume from to))
  one_volume one =
      ap (λ slot. on_found files (λ volume. in_volume files other (λ there. unless_open files opened other (copied (is_one_volume files id other) volume from there to))) (slice_index_or files.volumes slot None)) (sym one)
      ∙ ap (λ b. in_volume files other (λ volume. in_volume files other (λ there. unless_open files opened other (copied b volume from there to)))) yes
      ∙ twice (in_slot files.volumes other)
    where
      yes : is_one_volume files id other ≡ true
      yes = grind (arith, nat_tests)

      twice : (found : Option VolumeState) → on_found files (λ volume. on_found files (λ there. unless_open files opened other (copied true volume from there to)) found) found ≡ on_found files (λ volume. unless_open files opened other (copy_step volume from to)) found
      twice None = refl
      twice (Some volume) = refl

  -- else it is from one to the other
  pub two_volumes : (slot_among files.volumes other ≡ slot_among files.volumes id → ⊥) → in_volume files id (λ volume. in_volume files other (λ there. unless_open files opened other (copied (is_one_volume files id other) volume from there to))) ≡ in_volume files id (λ volume. in_volume files other (λ there. unless_open files opened other (copy_from_step there volume from to)))
  two_volumes apart = ap (λ b. in_volume files id (λ volume. in_volume files other (λ there. unless_open files opened other (copied b volume from there to)))) no
    where
      no : is_one_volume files id other ≡ false
      no = false_from_ne_true (is_one_volume files id other) (λ same. apart (grind (arith, nat_tests)))
