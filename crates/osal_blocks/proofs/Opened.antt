-- The tables at the opening, where all blocks are free.
use Rattle.std.proofs.Common.{◌≡◌, ◌≢◌, ◌<◌, ◌≤◌, ◌+◌, ◌-◌, ℕ, List, [], inl, inr, length, get_or, ap, sym, ◌∙◌, arith}
use Rattle.std.proofs.lemmas.Bool.{cases_eq, cases_lt}
use Rattle.std.proofs.lemmas.List.{get_or_past}
use Rattle.osal_blocks.specs.declared.ends.Ends.{Ends}
use Rattle.osal_blocks.specs.Chains.{walk, walk_of, ends_at, no_ends, chains_in, blocks_at, free_list, AllFree, IsThreaded}
use Rattle.osal_blocks.proofs.Walks.{walk_in_a_row, blocks_at-chains_in, length-blocks_at}

module _ (next : List ℕ) (ends : List Ends) (total : ℕ) (size : length next ≡ total)
    (row : (k : ℕ) → k < total → get_or next k 0 ≡ k + 1) (few : total ≤ 4096) (all_free : AllFree ends total) where
  -- only the list of free blocks has blocks
  only_free : (list : ℕ) → list ≢ free_list → ends_at ends list ≡ no_ends
  only_free list other =
      elim (cases_lt list 256) [
        | inl file ↦ all_free.files list file
        | inr past ↦ get_or_past ends list no_ends (rw all_free.lists (omega arith))
      ]

  where_it_is : (list k : ℕ) → k < (ends_at ends list).count → list ≡ free_list
  where_it_is list k within =
      elim (cases_eq list 256) [
        | inl e ↦ e
        | inr other ↦
            let none : (ends_at ends list).count ≡ 0 = ap (λ (e : Ends). e.count) (only_free list other) in
            absurd (omega arith)
      ]

  count_free : (ends_at ends free_list).count ≡ total
  count_free = ap (λ (e : Ends). e.count) all_free.free

  block_free : (k : ℕ) → k < total → get_or (walk_of next (ends_at ends free_list)) k 0 ≡ k
  block_free k within =
      let met : get_or (walk next 0 total) k 0 ≡ 0 + k =
      walk_in_a_row next 0 total k (λ j h. row j (omega arith)) (omega arith) within in
      ap (λ (e : Ends). get_or (walk_of next e) k 0) all_free.free ∙ (met ∙ omega arith)

  block_is : (list k : ℕ) → k < length (blocks_at (chains_in next ends) list)
      → (list ≡ free_list) × (get_or (blocks_at (chains_in next ends) list) k 0 ≡ k) × (k < total)
  block_is list k within =
      let there : k < (ends_at ends list).count = rw (length-blocks_at next ends list) at within in
      let e : list ≡ free_list = where_it_is list k there in
      let below : k < total = rw (← count_free) (rw e at there) in
      (e, rw (blocks_at-chains_in next ends list, e) (block_free k below), below)

  short : (list : ℕ) → (ends_at ends list).count ≤ 4096
  short list =
      elim (cases_eq list 256) [
        | inl e ↦ rw (e, count_free) few
        | inr other ↦
            let none : (ends_at ends list).count ≡ 0 = ap (λ (e : Ends). e.count) (only_free list other) in
            omega arith
      ]

  -- the lists are threaded
  pub threaded-opened : IsThreaded next ends
  threaded-opened = record {
    lists = all_free.lists;
    apart = record {
      few = rw size few;
      short = λ list. rw (length-blocks_at next ends list) (short list);
      below = λ list k within. let b = block_is list k within in rw (size, b.1) b.2;
      once = λ list k other j here there same.
          let b = block_is list k here in
          let d = block_is other j there in
          (b.0 ∙ sym d.0, sym b.1 ∙ (same ∙ d.1));
    };
    last = λ list there.
        let e : list ≡ free_list = where_it_is list 0 there in
        let some : 0 < total = rw (← count_free) (rw e at there) in
        let last : (ends_at ends free_list).last ≡ total - 1 = ap (λ (e : Ends). e.last) all_free.free in
        let spot : (ends_at ends free_list).count - 1 ≡ total - 1 = ap (λ (n : ℕ). n - 1) count_free in
        rw e
        (last ∙ (sym (block_free (total - 1) (omega arith)) ∙ ap (λ (i : ℕ). get_or (walk_of next (ends_at ends free_list)) i 0) (sym spot)));
  }

  -- no file has a block
  pub files-opened : (file : ℕ) → file < 256 → blocks_at (chains_in next ends) file ≡ []
  files-opened file within =
      blocks_at-chains_in next ends file ∙ ap (λ (e : Ends). walk_of next e) (all_free.files file within)

  -- all blocks are free
  pub free-opened : length (blocks_at (chains_in next ends) free_list) ≡ total
  free-opened = length-blocks_at next ends free_list ∙ count_free
