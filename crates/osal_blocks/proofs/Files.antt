-- The bytes of the files, where one file gets other blocks and other bytes.
use Rattle.std.proofs.Common.{◌≡◌, ◌≢◌, ◌<◌, ◌≤◌, ◌+◌, ◌-◌, ◌*◌, ◌/◌, ◌%◌, ℕ, List, [], ◌++◌, ◌⊎◌, inl, inr, max, length, get_or, set, take, drop, replicate, refl, ap, sym, ◌∙◌, subst, arith, zero-add, length-set, length-append, length-take, length-drop, get_or-set_same, get_or-set_other}
use Rattle.std.proofs.lemmas.Bool.{cases_lt, cases_eq}
use Rattle.std.proofs.lemmas.List.{ext_get_or, get_or_append_left, get_or-append_right, get_or-take, get_or-drop, length-take-le}
use Rattle.std.proofs.lemmas.List.FromFn.{get_or-map-range_with_len, length-map-range_with_len}
use Rattle.osal_blocks.specs.Blocks.{overwritten}
use Rattle.osal_blocks.specs.Bytes.{address, bytes_in, files_in, Laid}
use Rattle.osal_blocks.specs.Chains.{ChainsState, blocks_at, IsApart}
use Rattle.osal_blocks.proofs.Laid.{address_once}
use Rattle.osal_blocks.proofs.Copied.{length-bytes_in, get_or-bytes_in}

-- there are as many files as lengths
pub length-files_in : (store : List ℕ) (lists : List (List ℕ)) (lengths : List ℕ) → length (files_in store lists lengths) ≡ length lengths
unfolding files_in
length-files_in store lists lengths =
    length-map-range_with_len (λ file. bytes_in store (get_or lists file []) (get_or lengths file 0)) 0 (length lengths)

-- the bytes of a file are those on its blocks
pub get_or-files_in : (store : List ℕ) (lists : List (List ℕ)) (lengths : List ℕ) (file : ℕ) → file < length lengths
    → get_or (files_in store lists lengths) file [] ≡ bytes_in store (get_or lists file []) (get_or lengths file 0)
unfolding files_in
get_or-files_in store lists lengths file there =
    get_or-map-range_with_len (λ file. bytes_in store (get_or lists file []) (get_or lengths file 0)) 0 (length lengths) file file [] there (zero-add file)

-- bytes that lie alike are alike
same_bytes : (store new blocks : List ℕ) (n : ℕ)
    → ((i : ℕ) → i < n → get_or new (address blocks i) 0 ≡ get_or store (address blocks i) 0)
    → bytes_in new blocks n ≡ bytes_in store blocks n
same_bytes store new blocks n same =
    ext_get_or 0 (bytes_in new blocks n) (bytes_in store blocks n) (length-bytes_in new blocks n ∙ sym (length-bytes_in store blocks n))
    (λ i below.
    let within : i < n = rw (length-bytes_in new blocks n) at below in
    get_or-bytes_in new blocks n i within ∙ (same i within ∙ sym (get_or-bytes_in store blocks n i within)))

-- what was laid on the blocks of one list leaves the bytes of another
pub kept-laid : (chains : ChainsState) → IsApart chains → (list other : ℕ) → other ≢ list → (store new : List ℕ) (place n count : ℕ) (piece : List ℕ)
    → place + count ≤ length (blocks_at chains list) * 512 → n ≤ length (blocks_at chains other) * 512
    → Laid store new (blocks_at chains list) place piece count
    → bytes_in new (blocks_at chains other) n ≡ bytes_in store (blocks_at chains other) n
kept-laid chains apart list other two store new place n count piece room size laid =
    same_bytes store new (blocks_at chains other) n
    (λ i below. laid.outside (address (blocks_at chains other) i)
    (λ j within same. two (sym (address_once chains apart list (place + j) other i (omega arith) (omega arith) same).0)))

-- where one file changes, the others stay
pub files_in-changed : (store new : List ℕ) (lists next : List (List ℕ)) (lengths : List ℕ) (file n : ℕ) (bytes : List ℕ) → file < length lengths
    → bytes_in new (get_or next file []) n ≡ bytes
    → ((other : ℕ) → other < length lengths → other ≢ file
    → bytes_in new (get_or next other []) (get_or lengths other 0) ≡ bytes_in store (get_or lists other []) (get_or lengths other 0))
    → files_in new next (set lengths file n) ≡ set (files_in store lists lengths) file bytes
files_in-changed store new lists next lengths file n bytes there this others =
    let size : length (set lengths file n) ≡ length lengths = length-set lengths file n in
    let all : length (files_in store lists lengths) ≡ length lengths = length-files_in store lists lengths in
    ext_get_or [] (files_in new next (set lengths file n)) (set (files_in store lists lengths) file bytes)
    (length-files_in new next (set lengths file n) ∙ (size ∙ (sym all ∙ sym (length-set (files_in store lists lengths) file bytes))))
    (λ i below.
    let within : i < length lengths = omega (arith, length-files_in new next (set lengths file n)) in
    let left = get_or-files_in new next (set lengths file n) i (omega arith) in
    elim (cases_eq i file) [
      | inl e ↦
          let One : ℕ → Type 0 = λ k. bytes_in new (get_or next k []) (get_or (set lengths file n) k 0) ≡ get_or (set (files_in store lists lengths) file bytes) k [] in
          left ∙ subst One (sym e)
          (ap (λ (m : ℕ). bytes_in new (get_or next file []) m) (get_or-set_same lengths file n 0 there)
          ∙ (this ∙ sym (get_or-set_same (files_in store lists lengths) file bytes [] (omega arith))))
      | inr other ↦
          left ∙ (ap (λ (m : ℕ). bytes_in new (get_or next i []) m) (get_or-set_other lengths file i n 0 other)
          ∙ (others i within other
          ∙ (sym (get_or-files_in store lists lengths i within)
          ∙ sym (get_or-set_other (files_in store lists lengths) file i bytes [] other))))
    ])

-- a piece at a place that is none past the end has no zero bytes before it
pub overwritten_is : (bytes : List ℕ) (place : ℕ) (piece : List ℕ) → place ≤ length bytes
    → overwritten bytes place piece ≡ take place bytes ++ (piece ++ drop (place + length piece) bytes)
overwritten_is bytes place piece within =
    let none : place - length bytes ≡ 0 = omega arith in
    ap (λ (n : ℕ). take place bytes ++ (replicate n 0 ++ (piece ++ drop (place + length piece) bytes))) none

-- how long it is then
pub length-overwritten : (bytes : List ℕ) (place : ℕ) (piece : List ℕ) → place ≤ length bytes
    → length (overwritten bytes place piece) ≡ max (length bytes) (place + length piece)
length-overwritten bytes place piece within =
    rw (overwritten_is bytes place piece within)
    (omega (arith, length-append (take place bytes) (piece ++ drop (place + length piece) bytes), length-append piece (drop (place + length piece) bytes), length-take place bytes, length-drop (place + length piece) bytes))

-- a piece that was laid on a list of blocks, perhaps longer than it was, is written over its bytes
module _ (chains : ChainsState) (apart : IsApart chains) (file : ℕ) (store new blocks more : List ℕ) (n place longer : ℕ) (piece : List ℕ)
    (taken : blocks_at chains file ≡ blocks ++ more) (size : n ≤ length blocks * 512) (within : place ≤ n)
    (long : longer ≡ max n (place + length piece)) (room : longer ≤ length (blocks_at chains file) * 512)
    (laid : Laid store new (blocks_at chains file) place piece (length piece)) where
  old_bytes : List ℕ
  old_bytes = bytes_in store blocks n

  -- a byte beside the piece is as it was
  untouched : (i : ℕ) → i < n → (i < place) ⊎ (place + length piece ≤ i)
      → get_or new (address (blocks_at chains file) i) 0 ≡ get_or old_bytes i 0
  unfolding old_bytes
  untouched i below beside =
      let other : (j : ℕ) → j < length piece → place + j ≢ i = λ j there same. elim beside [ inl l ↦ omega arith | inr r ↦ omega arith ] in
      let away : (j : ℕ) → j < length piece → address (blocks_at chains file) (place + j) ≢ address (blocks_at chains file) i =
      λ j there same. other j there (address_once chains apart file (place + j) file i (omega arith) (omega arith) same).1 in
      let block : get_or (blocks_at chains file) (i / 512) 0 ≡ get_or blocks (i / 512) 0 =
      ap (λ (l : List ℕ). get_or l (i / 512) 0) taken ∙ get_or_append_left blocks more 0 (i / 512) (omega arith) in
      laid.outside (address (blocks_at chains file) i) away
      ∙ (ap (λ (b : ℕ). get_or store (b * 512 + i % 512) 0) block ∙ sym (get_or-bytes_in store blocks n i below))

  -- each byte is that of the piece or the old one
  each_byte : (i : ℕ) → i < longer → get_or new (address (blocks_at chains file) i) 0
      ≡ get_or (take place old_bytes ++ (piece ++ drop (place + length piece) old_bytes)) i 0
  unfolding old_bytes
  each_byte i below =
      let count : length old_bytes ≡ n = length-bytes_in store blocks n in
      let front : length (take place old_bytes) ≡ place = length-take-le place old_bytes (omega arith) in
      let rest = piece ++ drop (place + length piece) old_bytes in
      elim (cases_lt i place) [
        | inl before ↦
            untouched i (omega arith) (inl before)
            ∙ (sym (get_or-take place old_bytes i 0 before) ∙ sym (get_or_append_left (take place old_bytes) rest 0 i (omega arith)))
        | inr behind ↦ elim (cases_lt i (place + length piece)) [
          | inl inside ↦
              let whole : place + (i - place) ≡ i = omega arith in
              ap (λ (k : ℕ). get_or new (address (blocks_at chains file) k) 0) (sym whole)
              ∙ (laid.inside (i - place) (omega arith)
              ∙ (sym (get_or_append_left piece (drop (place + length piece) old_bytes) 0 (i - place) (omega arith))
              ∙ sym (get_or-append_right (take place old_bytes) rest place i 0 front behind)))
          | inr past ↦
              let whole : place + length piece + (i - place - length piece) ≡ i = omega arith in
              untouched i (omega arith) (inr past)
              ∙ (ap (λ (k : ℕ). get_or old_bytes k 0) (sym whole)
              ∙ (sym (get_or-drop (place + length piece) old_bytes (i - place - length piece) 0)
              ∙ (sym (get_or-append_right piece (drop (place + length piece) old_bytes) (length piece) (i - place) 0 refl (omega arith))
              ∙ sym (get_or-append_right (take place old_bytes) rest place i 0 front behind))))
        ]
      ]

  pub overwritten-laid : bytes_in new (blocks_at chains file) longer ≡ overwritten (bytes_in store blocks n) place piece
  unfolding old_bytes
  overwritten-laid =
      let count : length (bytes_in store blocks n) ≡ n = length-bytes_in store blocks n in
      let is = overwritten_is (bytes_in store blocks n) place piece (omega arith) in
      let size : length (bytes_in new (blocks_at chains file) longer) ≡ length (overwritten (bytes_in store blocks n) place piece) =
      length-bytes_in new (blocks_at chains file) longer
      ∙ (long ∙ (ap (λ (m : ℕ). max m (place + length piece)) (sym count) ∙ sym (length-overwritten (bytes_in store blocks n) place piece (omega arith)))) in
      ext_get_or 0 (bytes_in new (blocks_at chains file) longer) (overwritten (bytes_in store blocks n) place piece) size
      (λ i below.
      let there : i < longer = rw (length-bytes_in new (blocks_at chains file) longer) at below in
      get_or-bytes_in new (blocks_at chains file) longer i there
      ∙ (each_byte i there ∙ ap (λ (l : List ℕ). get_or l i 0) (sym is)))
