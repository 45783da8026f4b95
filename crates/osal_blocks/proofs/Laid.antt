-- How a piece comes to lie on the blocks of a list, one part of a block after another.
use Rattle.std.proofs.Common.{◌≡◌, ◌≢◌, ◌<◌, ◌≤◌, ◌+◌, ◌-◌, ◌*◌, ◌/◌, ◌%◌, ℕ, List, ◌++◌, ◌⊎◌, inl, inr, min, length, get_or, take, drop, ap, sym, ◌∙◌, subst, arith, length-append}
use Rattle.std.proofs.lemmas.Bool.{cases_lt}
use Rattle.std.proofs.lemmas.List.{get_or-take, get_or-drop, get_or_append_left, get_or-append_right, length-take-le}
use Rattle.std.proofs.lemmas.List.Edits.{get_or-between, length-between}
use borrow.Rule.Slice.PartMut.{put_mid}
use Rattle.osal_blocks.specs.Bytes.{address, Laid, Reads}
use Rattle.osal_blocks.specs.Chains.{ChainsState, blocks_at, IsApart}

-- two places of the lists have two addresses
pub address_once : (chains : ChainsState) → IsApart chains → (list i other j : ℕ)
    → i < length (blocks_at chains list) * 512 → j < length (blocks_at chains other) * 512
    → address (blocks_at chains list) i ≡ address (blocks_at chains other) j → (list ≡ other) × (i ≡ j)
address_once chains apart list i other j here there same =
    let one = apart.once list (i / 512) other (j / 512) (omega arith) (omega arith) (omega arith) in
    (one.0, omega (arith, one.1))

-- the bytes of one block lie in a row
pub address_in_a_row : (blocks : List ℕ) (i j : ℕ) → i % 512 + j < 512 → address blocks (i + j) ≡ address blocks i + j
address_in_a_row blocks i j within =
    let block : (i + j) / 512 ≡ i / 512 = omega arith in
    let rest : (i + j) % 512 ≡ i % 512 + j = omega arith in
    rw (block, rest) (omega arith)

-- a place that is none of a row is below or above it
beside : (p start count : ℕ) → ((j : ℕ) → j < count → start + j ≢ p) → (p < start) ⊎ (start + count ≤ p)
beside p start count other =
    elim (cases_lt p start) [
      | inl below ↦ inl below
      | inr above ↦ elim (cases_lt p (start + count)) [
        | inl within ↦ absurd (other (p - start) (omega arith) (omega arith))
        | inr past ↦ inr past
      ]
    ]

-- a row of the store has the bytes of a piece behind the first `done`, and all else is as it was
pub record Written (old new : List ℕ) (start count : ℕ) (piece : List ℕ) (done : ℕ) : Type 0 where
  pub inside : (j : ℕ) → j < count → get_or new (start + j) 0 ≡ get_or piece (done + j) 0
  pub outside : (p : ℕ) → (p < start) ⊎ (start + count ≤ p) → get_or new p 0 ≡ get_or old p 0

-- a write to a row
pub written-put_mid : (old bytes piece : List ℕ) (start k count done : ℕ) → k ≡ count → start + count ≤ length old
    → length bytes ≡ count → ((j : ℕ) → j < count → get_or bytes j 0 ≡ get_or piece (done + j) 0)
    → Written old (put_mid start k old bytes) start count piece done
written-put_mid old bytes piece start k count done size within all same = record {
  inside = λ j below.
      let less : start + j - start ≡ j = omega arith in
      get_or-append_right (take start old) (bytes ++ drop k (drop start old)) start (start + j) 0 (length-take-le start old (omega arith)) (omega arith)
      ∙ (rw less (get_or_append_left bytes (drop k (drop start old)) 0 j (omega arith)) ∙ same j below);
  outside = λ p away. elim away [
    | inl below ↦
        let front : p < length (take start old) = omega (arith, length-take-le start old (omega arith)) in
        get_or_append_left (take start old) (bytes ++ drop k (drop start old)) 0 p front ∙ get_or-take start old p 0 below
    | inr past ↦
        let there : start + (k + (p - start - count)) ≡ p = omega arith in
        get_or-append_right (take start old) (bytes ++ drop k (drop start old)) start p 0 (length-take-le start old (omega arith)) (omega arith)
        ∙ (get_or-append_right bytes (drop k (drop start old)) count (p - start) 0 all (omega arith)
        ∙ (get_or-drop k (drop start old) (p - start - count) 0
        ∙ (get_or-drop start old (k + (p - start - count)) 0
        ∙ ap (λ (i : ℕ). get_or old i 0) there)))
  ];
}

-- one part more
pub laid_more : (chains : ChainsState) (list : ℕ) (old mid new : List ℕ) (place done count : ℕ) (piece : List ℕ) → IsApart chains
    → place + (done + count) ≤ length (blocks_at chains list) * 512 → (place + done) % 512 + count ≤ 512
    → Laid old mid (blocks_at chains list) place piece done
    → Written mid new (address (blocks_at chains list) (place + done)) count piece done
    → Laid old new (blocks_at chains list) place piece (done + count)
laid_more chains list old mid new place done count piece apart room within laid written =
    let blocks = blocks_at chains list in
    let start = address blocks (place + done) in
    let row : (j : ℕ) → j < count → address blocks (place + (done + j)) ≡ start + j =
    λ j below.
    let one : place + (done + j) ≡ place + done + j = omega arith in
    rw one (address_in_a_row blocks (place + done) j (omega arith)) in
    let apart_from : (i : ℕ) → i < done → (j : ℕ) → j < count → start + j ≢ address blocks (place + i) =
    λ i before j below same.
    let one = address_once chains apart list (place + (done + j)) list (place + i) (omega arith) (omega arith) (row j below ∙ same) in
    absurd (omega (arith, one.1)) in
    record {
      inside = λ i below. elim (cases_lt i done) [
        | inl before ↦
            written.outside (address blocks (place + i)) (beside (address blocks (place + i)) start count (apart_from i before))
            ∙ laid.inside i before
        | inr behind ↦
            let whole : done + (i - done) ≡ i = omega arith in
            let here : address blocks (place + i) ≡ start + (i - done) =
            ap (λ (n : ℕ). address blocks (place + n)) (sym whole) ∙ row (i - done) (omega arith) in
            ap (λ (p : ℕ). get_or new p 0) here
            ∙ (written.inside (i - done) (omega arith) ∙ ap (λ (n : ℕ). get_or piece n 0) whole)
      ];
      outside = λ p away.
          written.outside p (beside p start count (λ j below same. away (done + j) (omega arith) (row j below ∙ same)))
          ∙ laid.outside p (λ i before. away i (omega arith));
    }

-- one step of a loop over the parts of a list: so far `done` of `total` bytes, and `count` more on one block
module _ (chains : ChainsState) (list place done total block count : ℕ) (apart : IsApart chains)
    (room : place + total ≤ length (blocks_at chains list) * 512) (more : done < total)
    (here : block ≡ get_or (blocks_at chains list) ((place + done) / 512) 0)
    (most : count ≡ min (512 - (place + done) % 512) (total - done)) where
  -- the part lies in the store
  pub part_within : (store : List ℕ) → length store ≡ chains.total * 512 → block * 512 + (place + done) % 512 + count ≤ length store
  part_within store size =
      let below : get_or (blocks_at chains list) ((place + done) / 512) 0 < chains.total = apart.below list ((place + done) / 512) (omega arith) in
      omega arith

  -- the block behind this one is that of the next part
  pub part_after : (after : ℕ)
      → ((l k : ℕ) → k + 1 < length (blocks_at chains l) → get_or (blocks_at chains l) k 0 ≡ block → after ≡ get_or (blocks_at chains l) (k + 1) 0)
      → done + count < total → after ≡ get_or (blocks_at chains list) ((place + (done + count)) / 512) 0
  part_after after behind still =
      let next : (place + (done + count)) / 512 ≡ (place + done) / 512 + 1 = omega arith in
      rw next (behind list ((place + done) / 512) (omega arith) (sym here))

  -- the part lies where it should
  pub part_laid : (old mid bytes piece : List ℕ) → length mid ≡ chains.total * 512 → length bytes ≡ count
      → ((j : ℕ) → j < count → get_or bytes j 0 ≡ get_or piece (done + j) 0)
      → Laid old mid (blocks_at chains list) place piece done
      → Laid old (put_mid (block * 512 + (place + done) % 512) (block * 512 + (place + done) % 512 + count - (block * 512 + (place + done) % 512)) mid bytes)
      (blocks_at chains list) place piece (done + count)
  part_laid old mid bytes piece size all same laid =
      let start : block * 512 + (place + done) % 512 ≡ address (blocks_at chains list) (place + done) =
      ap (λ (b : ℕ). b * 512 + (place + done) % 512) here in
      let end = part_within mid size in
      laid_more chains list old mid (put_mid (block * 512 + (place + done) % 512) (block * 512 + (place + done) % 512 + count - (block * 512 + (place + done) % 512)) mid bytes) place done count piece apart (omega arith) (omega arith) laid
      (subst (λ (s : ℕ). Written mid (put_mid (block * 512 + (place + done) % 512) (block * 512 + (place + done) % 512 + count - (block * 512 + (place + done) % 512)) mid bytes) s count piece done) start
      (written-put_mid mid bytes piece (block * 512 + (place + done) % 512) (block * 512 + (place + done) % 512 + count - (block * 512 + (place + done) % 512)) count done (omega arith) end all same))

  -- the part was read behind those before it
  pub part_read : (store room : List ℕ) → length store ≡ chains.total * 512 → Reads store (blocks_at chains list) place room done
      → Reads store (blocks_at chains list) place
      (room ++ take (block * 512 + (place + done) % 512 + count - (block * 512 + (place + done) % 512)) (drop (block * 512 + (place + done) % 512) store))
      (done + count)
  part_read store room size reads =
      let start = block * 512 + (place + done) % 512 in
      let end = part_within store size in
      let part = take (start + count - start) (drop start store) in
      let all : length part ≡ count = length-between store start (start + count) end ∙ omega arith in
      record {
        count = length-append room part ∙ omega (arith, reads.count);
        each = λ i below. elim (cases_lt i done) [
          | inl before ↦
              get_or_append_left room part 0 i (omega (arith, reads.count)) ∙ reads.each i before
          | inr behind ↦
              let whole : place + done + (i - done) ≡ place + i = omega arith in
              let row : address (blocks_at chains list) (place + done + (i - done)) ≡ address (blocks_at chains list) (place + done) + (i - done) =
              address_in_a_row (blocks_at chains list) (place + done) (i - done) (omega arith) in
              let first : start ≡ address (blocks_at chains list) (place + done) = ap (λ (b : ℕ). b * 512 + (place + done) % 512) here in
              let spot : start + (i - done) ≡ address (blocks_at chains list) (place + i) =
              ap (λ (s : ℕ). s + (i - done)) first ∙ (sym row ∙ ap (λ (n : ℕ). address (blocks_at chains list) n) whole) in
              get_or-append_right room part done i 0 reads.count behind
              ∙ (get_or-between store start (start + count) (i - done) 0 (omega arith)
              ∙ ap (λ (p : ℕ). get_or store p 0) spot)
        ];
      }
