-- What holds of the parts together, after a file got more blocks and other bytes, and after it gave its blocks back.
use Rattle.std.proofs.Common.{◌≡◌, ◌≢◌, ◌<◌, ◌≤◌, ◌+◌, ◌-◌, ◌*◌, ℕ, suc, List, [], ◌∷◌, inl, inr, max, length, get_or, set, take, replicate, refl, ap, sym, ◌∙◌, arith, length-set, length-append, length-take, length-drop, get_or-set_same, get_or-set_other}
use Rattle.std.specs.List.{sum_by}
use Rattle.std.proofs.lemmas.Bool.{cases_eq, cases_lt}
use Rattle.std.proofs.lemmas.List.Sums.{sum_by-set, sum_by-cons, get_or-le-sum_by}
use Rattle.std.proofs.lemmas.List.{drop_all, nil_from_length, get_or_past, get_or-replicate, length-replicate}
use Rattle.osal_blocks.specs.Blocks.{BlocksState, IsSound, IsEmpty, overwritten, blocks_for, blocks_of, bytes_of, free, with_file}
use Rattle.osal_blocks.specs.Bytes.{bytes_in, files_in, Laid}
use Rattle.osal_blocks.specs.Chains.{ChainsState, blocks_at, free_list, IsApart, Moved}
use Rattle.osal_blocks.specs.Sound.{IsWhole, CanGrow, blocks_in}
use Rattle.osal_blocks.proofs.Copied.{length-bytes_in}
use Rattle.osal_blocks.proofs.Files.{length-files_in, get_or-files_in, kept-laid, files_in-changed, length-overwritten, overwritten-laid}

-- a file has other bytes, and the parts fit together
pub record Rewritten (before : BlocksState) (file : ℕ) (bytes : List ℕ) (store : List ℕ) (chains : ChainsState) (lengths : List ℕ) : Type 0 where
  pub whole : IsWhole store chains lengths before.reserved
  pub state : blocks_in store chains lengths before.reserved ≡ with_file before file bytes

module _ (store : List ℕ) (chains : ChainsState) (lengths : List ℕ) (reserved : ℕ) (whole : IsWhole store chains lengths reserved)
    (file : ℕ) (is_file : file < 256) where
  there : file < length lengths
  there = omega (arith, whole.files)

  -- the bytes of the file
  pub file_bytes : get_or (files_in store chains.lists lengths) file [] ≡ bytes_in store (blocks_at chains file) (get_or lengths file 0)
  file_bytes = get_or-files_in store chains.lists lengths file there

  -- how many they are
  pub file_length : length (get_or (files_in store chains.lists lengths) file []) ≡ get_or lengths file 0
  file_length = ap (λ (l : List ℕ). length l) file_bytes ∙ length-bytes_in store (blocks_at chains file) (get_or lengths file 0)

  -- the sum of the blocks of all files, where this file has other bytes
  pub sum_changed : (bytes : List ℕ)
      → sum_by blocks_of (set (files_in store chains.lists lengths) file bytes) + blocks_for (get_or lengths file 0)
      ≡ sum_by blocks_of (files_in store chains.lists lengths) + blocks_of bytes
  sum_changed bytes =
      let sum = sum_by-set blocks_of (files_in store chains.lists lengths) file bytes [] (omega (arith, length-files_in store chains.lists lengths, whole.files)) in
      let own : blocks_of (get_or (files_in store chains.lists lengths) file []) ≡ blocks_for (get_or lengths file 0) = ap blocks_for file_length in
      rw own at sum

  -- the free blocks are those of the list of them that no directory took
  pub free_is : free (blocks_in store chains lengths reserved) + reserved ≡ length (blocks_at chains free_list)
  free_is = omega (arith, whole.spare, whole.sum)

  -- the free blocks and those of a file are no more than there are
  pub most_blocks : length (blocks_at chains free_list) + blocks_for (get_or lengths file 0) ≤ 4096
  most_blocks =
      let own : blocks_of (get_or (files_in store chains.lists lengths) file []) ≡ blocks_for (get_or lengths file 0) = ap blocks_for file_length in
      let part = get_or-le-sum_by blocks_of (files_in store chains.lists lengths) file [] (omega (arith, length-files_in store chains.lists lengths, whole.files)) in
      omega (arith, own, part, whole.sum, whole.few)

  -- what fits on the free blocks and on those of the file
  pub fits_is : (n : ℕ) → n ≤ free (blocks_in store chains lengths reserved) + blocks_of (bytes_of (blocks_in store chains lengths reserved) file)
      → n + reserved ≤ length (blocks_at chains free_list) + blocks_for (get_or lengths file 0)
  fits_is n fits =
      let own : blocks_of (get_or (files_in store chains.lists lengths) file []) ≡ blocks_for (get_or lengths file 0) = ap blocks_for file_length in
      omega (arith, own, free_is, fits)

  -- the file can have the blocks for more bytes
  pub can_grow : (longer : ℕ) → get_or lengths file 0 ≤ longer
      → blocks_for longer + reserved ≤ length (blocks_at chains free_list) + blocks_for (get_or lengths file 0)
      → CanGrow chains file (get_or lengths file 0) longer
  can_grow longer more enough = record {
    more = more;
    own = whole.counts file is_file;
    enough = omega arith;
    most = most_blocks;
  }

  -- the file got more blocks, and a piece was written over its bytes
  module _ (new : List ℕ) (next : ChainsState) (place longer count : ℕ) (piece : List ℕ) (apart : IsApart next)
      (size : length new ≡ length store)
      (grown : count ≡ blocks_for longer - blocks_for (get_or lengths file 0))
      (moved : Moved chains next free_list file count)
      (enough : blocks_for longer + reserved ≤ length (blocks_at chains free_list) + blocks_for (get_or lengths file 0))
      (within : place ≤ get_or lengths file 0) (long : longer ≡ max (get_or lengths file 0) (place + length piece))
      (laid : Laid store new (blocks_at next file) place piece (length piece)) where
    own_count : length (blocks_at chains file) ≡ blocks_for (get_or lengths file 0)
    own_count = whole.counts file is_file

    count_grown : length (blocks_at next file) ≡ blocks_for longer
    count_grown =
        rw moved.taken
        (omega (arith, own_count, length-append (blocks_at chains file) (take count (blocks_at chains free_list)), length-take count (blocks_at chains free_list)))

    free_grown : length (blocks_at next free_list) + blocks_for longer ≡ length (blocks_at chains free_list) + blocks_for (get_or lengths file 0)
    free_grown =
        rw moved.given (omega (arith, length-drop count (blocks_at chains free_list)))

    other_same : (other : ℕ) → other < 256 → other ≢ file → blocks_at next other ≡ blocks_at chains other
    other_same other below two = moved.others other (λ e. omega arith) two

    others_kept : (other : ℕ) → other < length lengths → other ≢ file
        → bytes_in new (get_or next.lists other []) (get_or lengths other 0) ≡ bytes_in store (get_or chains.lists other []) (get_or lengths other 0)
    others_kept other below two =
        let is_file : other < 256 = omega (arith, whole.files) in
        let same = other_same other is_file two in
        let count : length (blocks_at next other) ≡ blocks_for (get_or lengths other 0) = ap (λ (l : List ℕ). length l) same ∙ whole.counts other is_file in
        kept-laid next apart file other two store new place (get_or lengths other 0) (length piece) piece (omega (arith, count_grown)) (omega (arith, count)) laid
        ∙ ap (λ (l : List ℕ). bytes_in store l (get_or lengths other 0)) same

    -- the files after it
    files-grown : files_in new next.lists (set lengths file longer)
        ≡ set (files_in store chains.lists lengths) file (overwritten (get_or (files_in store chains.lists lengths) file []) place piece)
    files-grown =
        let mine = overwritten-laid next apart file store new (blocks_at chains file) (take count (blocks_at chains free_list))
        (get_or lengths file 0) place longer piece moved.taken (omega (arith, own_count)) within long (omega (arith, count_grown)) laid in
        files_in-changed store new chains.lists next.lists lengths file longer
        (overwritten (get_or (files_in store chains.lists lengths) file []) place piece) there
        (mine ∙ ap (λ (l : List ℕ). overwritten l place piece) (sym file_bytes)) others_kept

    -- what the parts stand for after it
    state-grown : blocks_in new next (set lengths file longer) reserved
        ≡ with_file (blocks_in store chains lengths reserved) file (overwritten (bytes_of (blocks_in store chains lengths reserved) file) place piece)
    state-grown = rw (moved.total, files-grown) refl

    -- the parts still fit together
    whole-grown : IsWhole new next (set lengths file longer) reserved
    whole-grown =
        let bytes = overwritten (get_or (files_in store chains.lists lengths) file []) place piece in
        let blocks : blocks_of bytes ≡ blocks_for longer =
        ap blocks_for (length-overwritten (get_or (files_in store chains.lists lengths) file []) place piece (omega (arith, file_length)) ∙ (ap (λ (n : ℕ). max n (place + length piece)) file_length ∙ sym long)) in
        record {
          some = rw moved.total whole.some;
          few = rw moved.total whole.few;
          size = rw moved.total (size ∙ whole.size);
          files = length-set lengths file longer ∙ whole.files;
          counts = λ other below. elim (cases_eq other file) [
            | inl e ↦ rw (e, get_or-set_same lengths file longer 0 there) count_grown
            | inr two ↦ rw (get_or-set_other lengths file other longer 0 two, other_same other below two) (whole.counts other below)
          ];
          spare = omega (arith, free_grown);
          sum = rw (files-grown, moved.total) (omega (arith, free_grown, sum_changed bytes, blocks, whole.sum));
        }

    -- both
    pub rewritten : Rewritten (blocks_in store chains lengths reserved) file
        (overwritten (bytes_of (blocks_in store chains lengths reserved) file) place piece) new next (set lengths file longer)
    rewritten = record { whole = whole-grown; state = state-grown }

-- what is more than a file has, and fits, still fits where it is counted from the more of both
pub longer_fits : (own longer end spare reserved : ℕ) → reserved ≤ spare → longer ≡ max own end
    → blocks_for end + reserved ≤ spare + blocks_for own → blocks_for longer + reserved ≤ spare + blocks_for own
longer_fits own longer end spare reserved some long fits = omega arith

-- what the parts stand for is sound
pub sound : (store : List ℕ) (chains : ChainsState) (lengths : List ℕ) (reserved : ℕ) → IsWhole store chains lengths reserved
    → IsSound (blocks_in store chains lengths reserved)
sound store chains lengths reserved whole = record {
  files = length-files_in store chains.lists lengths ∙ whole.files;
  within = omega (arith, whole.spare, whole.sum);
  some = whole.some;
  few = whole.few;
}

module _ (store : List ℕ) (chains : ChainsState) (lengths : List ℕ) (reserved : ℕ) (whole : IsWhole store chains lengths reserved)
    (file : ℕ) (is_file : file < 256) (next : ChainsState) (moved : Moved chains next file free_list (length (blocks_at chains file))) where
  none_left : blocks_at next file ≡ []
  none_left = moved.given ∙ drop_all (length (blocks_at chains file)) (blocks_at chains file) (omega arith)

  free_given : length (blocks_at next free_list) ≡ length (blocks_at chains free_list) + length (blocks_at chains file)
  free_given =
      ap (λ (l : List ℕ). length l) moved.taken
      ∙ omega (arith, length-append (blocks_at chains free_list) (take (length (blocks_at chains file)) (blocks_at chains file)), length-take (length (blocks_at chains file)) (blocks_at chains file))

  others_stay : (other : ℕ) → other < 256 → other ≢ file → blocks_at next other ≡ blocks_at chains other
  others_stay other below two = moved.others other two (λ e. omega arith)

  -- the files after a file gave its blocks back
  files-emptied : files_in store next.lists (set lengths file 0) ≡ set (files_in store chains.lists lengths) file []
  files-emptied =
      files_in-changed store store chains.lists next.lists lengths file 0 [] (omega (arith, whole.files))
      (nil_from_length (bytes_in store (blocks_at next file) 0) (length-bytes_in store (blocks_at next file) 0))
      (λ other below two.
      let is_other : other < 256 = omega (arith, whole.files) in
      ap (λ (l : List ℕ). bytes_in store l (get_or lengths other 0)) (others_stay other is_other two))

  -- what the parts stand for then
  pub state-emptied : blocks_in store next (set lengths file 0) reserved ≡ with_file (blocks_in store chains lengths reserved) file []
  state-emptied = rw (moved.total, files-emptied) refl

  -- the parts still fit together
  pub whole-emptied : IsWhole store next (set lengths file 0) reserved
  whole-emptied =
      let own = whole.counts file is_file in
      record {
        some = rw moved.total whole.some;
        few = rw moved.total whole.few;
        size = rw moved.total whole.size;
        files = length-set lengths file 0 ∙ whole.files;
        counts = λ other below. elim (cases_eq other file) [
          | inl e ↦ rw (e, get_or-set_same lengths file 0 0 (omega (arith, whole.files)), none_left) refl
          | inr two ↦ rw (get_or-set_other lengths file other 0 0 two, others_stay other below two) (whole.counts other below)
        ];
        spare = omega (arith, free_given, whole.spare);
        sum = rw (files-emptied, moved.total) (omega (arith, free_given, own, sum_changed store chains lengths reserved whole file is_file [], whole.sum));
      }

  -- there are so many more free blocks
  pub free-emptied : free (blocks_in store next (set lengths file 0) reserved)
      ≡ free (blocks_in store chains lengths reserved) + blocks_of (bytes_of (blocks_in store chains lengths reserved) file)
  free-emptied =
      let before = free_is store chains lengths reserved whole file is_file in
      let after = free_is store next (set lengths file 0) reserved whole-emptied file is_file in
      let own : blocks_of (bytes_of (blocks_in store chains lengths reserved) file) ≡ blocks_for (get_or lengths file 0) =
      ap blocks_for (file_length store chains lengths reserved whole file is_file) in
      omega (arith, before, after, own, free_given, whole.counts file is_file)

-- files without bytes take no blocks
sum_none : (files : List (List ℕ)) → ((file : ℕ) → get_or files file [] ≡ []) → sum_by blocks_of files ≡ 0
sum_none [] none = refl
sum_none (bytes ∷ files) none =
    let first : blocks_of bytes ≡ 0 = ap blocks_of (none 0) in
    let rest : sum_by blocks_of files ≡ 0 = sum_none files (λ file. none (suc file)) in
    sum_by-cons blocks_of bytes files ∙ omega (arith, first, rest)

-- the parts at the opening
module _ (store : List ℕ) (chains : ChainsState) (lengths : List ℕ) (total : ℕ) (some : 1 ≤ total) (few : total ≤ 4096)
    (size : length store ≡ total * 512) (is : chains.total ≡ total)
    (none : (file : ℕ) → file < 256 → blocks_at chains file ≡ []) (all : length (blocks_at chains free_list) ≡ total)
    (count : length lengths ≡ 256) (zero_lengths : (file : ℕ) → get_or lengths file 0 ≡ 0) where
  no_bytes : (file : ℕ) → get_or (files_in store chains.lists lengths) file [] ≡ []
  no_bytes file =
      elim (cases_lt file 256) [
        | inl below ↦
            get_or-files_in store chains.lists lengths file (omega (arith, count))
            ∙ nil_from_length (bytes_in store (blocks_at chains file) (get_or lengths file 0))
            (length-bytes_in store (blocks_at chains file) (get_or lengths file 0) ∙ zero_lengths file)
        | inr past ↦ get_or_past (files_in store chains.lists lengths) file [] (omega (arith, length-files_in store chains.lists lengths, count))
      ]

  no_sum : sum_by blocks_of (files_in store chains.lists lengths) ≡ 0
  no_sum = sum_none (files_in store chains.lists lengths) no_bytes

  pub whole-opened : IsWhole store chains lengths 0
  whole-opened = record {
    some = rw is some;
    few = rw is few;
    size = rw is size;
    files = count;
    counts = λ file below. rw (none file below, zero_lengths file) refl;
    spare = omega arith;
    sum = rw (no_sum, is) (omega (arith, all));
  }

  pub empty-opened : IsEmpty (blocks_in store chains lengths 0) total
  empty-opened = record {
    blocks = is;
    reserved = refl;
    count = length-files_in store chains.lists lengths ∙ count;
    files = no_bytes;
  }

-- zero bytes are zero wherever they are read
pub zeros_are : (numbers : List ℕ) (n : ℕ) → numbers ≡ replicate n 0 → (i : ℕ) → get_or numbers i 0 ≡ 0
zeros_are numbers n zeros i =
    ap (λ (l : List ℕ). get_or l i 0) zeros ∙ elim (cases_lt i n) [
      | inl below ↦ get_or-replicate n i 0 0 below
      | inr past ↦ get_or_past (replicate n 0) i 0 (omega (arith, length-replicate {A = ℕ} n 0))
    ]
