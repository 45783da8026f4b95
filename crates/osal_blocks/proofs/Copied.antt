-- How the bytes of one list come to lie on the blocks of another, from the first byte on.
use Rattle.std.proofs.Common.{◌≡◌, ◌≢◌, ◌<◌, ◌≤◌, ◌+◌, ◌-◌, ◌*◌, ◌/◌, ◌%◌, ℕ, List, inl, inr, min, length, get_or, take, drop, ap, sym, ◌∙◌, subst, arith, zero-add, length-take, length-drop}
use Rattle.std.specs.List.{CopiedTo, SameBelow, SameFrom}
use Rattle.std.proofs.lemmas.List.FromFn.{get_or-map-range_with_len, length-map-range_with_len}
use Rattle.std.proofs.lemmas.List.Edits.{get_or-between}
use Rattle.std.proofs.lemmas.List.{ext_get_or, get_or-take, get_or-drop}
use borrow.Rule.Slice.PartMut.{put_mid}
use Rattle.osal_blocks.specs.Bytes.{address, bytes_in, Laid, Reads}
use Rattle.osal_blocks.specs.Chains.{ChainsState, blocks_at, IsApart}
use Rattle.osal_blocks.proofs.Laid.{address_once, address_in_a_row, Written, laid_more, part_after, part_laid, part_within}

-- as many bytes as were asked for
pub length-bytes_in : (store blocks : List ℕ) (n : ℕ) → length (bytes_in store blocks n) ≡ n
unfolding bytes_in
length-bytes_in store blocks n = length-map-range_with_len (λ i. get_or store (address blocks i) 0) 0 n

-- each byte lies at its address
pub get_or-bytes_in : (store blocks : List ℕ) (n i : ℕ) → i < n → get_or (bytes_in store blocks n) i 0 ≡ get_or store (address blocks i) 0
unfolding bytes_in
get_or-bytes_in store blocks n i below = get_or-map-range_with_len (λ i. get_or store (address blocks i) 0) 0 n i i 0 below (zero-add i)

-- bytes that were read are those of the file from the place on
pub reads_is : (store blocks room : List ℕ) (size place n count : ℕ) → count ≡ min (size - place) n → Reads store blocks place room count
    → room ≡ take n (drop place (bytes_in store blocks size))
reads_is store blocks room size place n count most reads =
    let bytes = bytes_in store blocks size in
    let all : length bytes ≡ size = length-bytes_in store blocks size in
    let long : length (take n (drop place bytes)) ≡ count = omega (arith, length-take n (drop place bytes), length-drop place bytes, all) in
    ext_get_or 0 room (take n (drop place bytes)) (reads.count ∙ sym long)
    (λ i below.
    reads.each i (omega (arith, reads.count))
    ∙ (sym (get_or-bytes_in store blocks size (place + i) (omega (arith, reads.count)))
    ∙ (sym (get_or-drop place bytes i 0) ∙ sym (get_or-take n (drop place bytes) i 0 (omega (arith, reads.count))))))

-- the address of a byte on the block that it lies on
spot : (blocks : List ℕ) (block done j : ℕ) → block ≡ get_or blocks (done / 512) 0 → done % 512 + j < 512
    → block * 512 + done % 512 + j ≡ address blocks (done + j)
spot blocks block done j here within =
    ap (λ (b : ℕ). b * 512 + done % 512 + j) here ∙ sym (address_in_a_row blocks done j within)

-- one step of a loop over the parts of a list from its first byte on
module _ (chains : ChainsState) (list done total block count : ℕ) (apart : IsApart chains)
    (room : total ≤ length (blocks_at chains list) * 512) (more : done < total)
    (here : block ≡ get_or (blocks_at chains list) (done / 512) 0)
    (most : count ≡ min (512 - done % 512) (total - done)) where
  from_first : 0 + done ≡ done
  from_first = zero-add done

  here_too : block ≡ get_or (blocks_at chains list) ((0 + done) / 512) 0
  here_too = rw from_first here

  most_too : count ≡ min (512 - (0 + done) % 512) (total - done)
  most_too = rw from_first most

  -- the part lies in the store
  pub front_within : (store : List ℕ) → length store ≡ chains.total * 512 → block * 512 + done % 512 + count ≤ length store
  front_within store size =
      subst (λ (d : ℕ). block * 512 + d % 512 + count ≤ length store) from_first
      (part_within chains list 0 done total block count apart (omega arith) more here_too most_too store size)

  -- the block behind this one is that of the next part
  pub front_after : (after : ℕ)
      → ((l k : ℕ) → k + 1 < length (blocks_at chains l) → get_or (blocks_at chains l) k 0 ≡ block → after ≡ get_or (blocks_at chains l) (k + 1) 0)
      → done + count < total → after ≡ get_or (blocks_at chains list) ((done + count) / 512) 0
  front_after after behind still =
      subst (λ (d : ℕ). after ≡ get_or (blocks_at chains list) (d / 512) 0) (zero-add (done + count))
      (part_after chains list 0 done total block count apart (omega arith) more here_too most_too after behind still)

  -- the part lies where it should
  pub front_laid : (old mid bytes piece : List ℕ) → length mid ≡ chains.total * 512 → length bytes ≡ count
      → ((j : ℕ) → j < count → get_or bytes j 0 ≡ get_or piece (done + j) 0)
      → Laid old mid (blocks_at chains list) 0 piece done
      → Laid old (put_mid (block * 512 + done % 512) (block * 512 + done % 512 + count - (block * 512 + done % 512)) mid bytes)
      (blocks_at chains list) 0 piece (done + count)
  front_laid old mid bytes piece size all same laid =
      subst (λ (d : ℕ). Laid old (put_mid (block * 512 + d % 512) (block * 512 + d % 512 + count - (block * 512 + d % 512)) mid bytes) (blocks_at chains list) 0 piece (done + count)) from_first
      (part_laid chains list 0 done total block count apart (omega arith) more here_too most_too old mid bytes piece size all same laid)

  -- bytes of other blocks are those of the piece that they make up
  pub front_bytes : (store blocks : List ℕ) (source : ℕ) → source ≡ get_or blocks (done / 512) 0
      → source * 512 + done % 512 + count ≤ length store → (j : ℕ) → j < count
      → get_or (take (source * 512 + done % 512 + count - (source * 512 + done % 512)) (drop (source * 512 + done % 512) store)) j 0
      ≡ get_or (bytes_in store blocks total) (done + j) 0
  front_bytes store blocks source there within j below =
      get_or-between store (source * 512 + done % 512) (source * 512 + done % 512 + count) j 0 (omega arith)
      ∙ (ap (λ (p : ℕ). get_or store p 0) (spot blocks source done j there (omega arith))
      ∙ sym (get_or-bytes_in store blocks total (done + j) (omega arith)))

  -- a part that was copied from another list
  pub front_copied : (from : ℕ) (old mid new : List ℕ) (source k : ℕ) → from ≢ list → total ≤ length (blocks_at chains from) * 512
      → source ≡ get_or (blocks_at chains from) (done / 512) 0 → k ≡ count
      → CopiedTo mid new (source * 512 + done % 512) (block * 512 + done % 512) k × SameBelow mid new (block * 512 + done % 512) × SameFrom mid new (block * 512 + done % 512 + k)
      → Laid old mid (blocks_at chains list) 0 (bytes_in old (blocks_at chains from) total) done
      → Laid old new (blocks_at chains list) 0 (bytes_in old (blocks_at chains from) total) (done + count)
  front_copied from old mid new source k two long there size copied laid =
      let start = block * 512 + done % 512 in
      let written : Written mid new start count (bytes_in old (blocks_at chains from) total) done =
      record {
        inside = λ j below.
            let less : start + j - start ≡ j = omega arith in
            let apart_from : (i : ℕ) → i < done → address (blocks_at chains list) (0 + i) ≢ address (blocks_at chains from) (done + j) =
            λ i before same. two (sym (address_once chains apart list (0 + i) from (done + j) (omega arith) (omega arith) same).0) in
            copied.0 (start + j) 0 (omega arith) (omega arith)
            ∙ (ap (λ (i : ℕ). get_or mid (source * 512 + done % 512 + i) 0) less
            ∙ (ap (λ (p : ℕ). get_or mid p 0) (spot (blocks_at chains from) source done j there (omega arith))
            ∙ (laid.outside (address (blocks_at chains from) (done + j)) apart_from
            ∙ sym (get_or-bytes_in old (blocks_at chains from) total (done + j) (omega arith)))));
        outside = λ p away. elim away [
          | inl below ↦ copied.1 p 0 below
          | inr past ↦ copied.2 p 0 (omega arith)
        ];
      } in
      let first : start ≡ address (blocks_at chains list) (0 + done) = ap (λ (b : ℕ). b * 512 + done % 512) here ∙ ap (λ (d : ℕ). address (blocks_at chains list) d) (sym from_first) in
      laid_more chains list old mid new 0 done count (bytes_in old (blocks_at chains from) total) apart (omega arith) (rw from_first (omega arith)) laid
      (subst (λ (s : ℕ). Written mid new s count (bytes_in old (blocks_at chains from) total) done) first written)
