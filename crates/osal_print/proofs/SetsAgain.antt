-- A set of registers is read again as it is printed, in no more bytes.
use Rattle.std.proofs.Common.{◌≡◌, ◌<◌, ◌≤◌, ◌+◌, ◌*◌, ℕ, suc, Bool, true, false, cond, List, [], ◌∷◌, ◌++◌, length, map, eqb, ltb, bytes_eq, Option, Some, None, option_and_then, codes, refl, sym, ap, subst, ◌∙◌, arith, ne_eqb, append_assoc, append-nil}
use Rattle.std.specs.List.{slice_split, onto_first, AllByRecursion}
use Rattle.std.proofs.lemmas.Bool.{cond-true, cond-false, cond_both}
use Rattle.std.proofs.lemmas.Option.{none-some, same_Some, option_and_then_some}
use Rattle.std.proofs.lemmas.Slice.Eq.{bytes_eq-Decides}
use Rattle.osal_line.specs.Registers.{Registers, register_at}
use Rattle.osal_line.specs.Sets.{is_comma, parts_of, next_of, more_of, set_at}
use Rattle.osal_print.specs.Shortest.{register_text, more_registers, set_text}
use Rattle.osal_print.proofs.IsWord.{IsWord}
use Rattle.osal_print.proofs.Mirrored.{mirrored}
use Rattle.osal_print.proofs.Bytes.{AreBetween, run_word, run_stands}
use Rattle.osal_print.proofs.PrintedNames.{letter, letter_apart}
use Rattle.osal_print.proofs.RegistersAgain.{register_again, still_few}

-- some registers are among those of a body
abbrev AreBelow : List ℕ → Type 0
AreBelow registers = AllByRecursion (λ register. register < 32) registers

-- some words are long enough to name a register
abbrev AreLong : List (List ℕ) → Type 0
AreLong words = AllByRecursion (λ word. 2 ≤ length word) words

-- some more registers of a set are read again
record MoreAgain (set : List ℕ) (before : Registers) (words : List (List ℕ)) (made : List ℕ × Registers) : Type 0 where
  added : List ℕ
  whole : made.0 ≡ set ++ added
  again : more_of set (mirrored before) (map register_text added) ≡ Some (made.0, mirrored made.1)
  below : AreBelow added
  many : length added ≡ length words
  long : AreLong words
  few : length made.1.names ≤ 32
  over : before.over ≡ false

next_again : (set : List ℕ) (registers after : Registers) (word : List ℕ) (words : List (List ℕ)) (k : ℕ) → ltb (length set) 64 ≡ true → register_at registers word ≡ Some (k, after) → more_of set registers (word ∷ words) ≡ more_of (set ++ k ∷ []) after words
next_again set registers after word words k room read =
    ap (option_and_then (λ named. more_of (set ++ named.0 ∷ []) named.1 words)) (cond-true (ltb (length set) 64) (register_at registers word) None room ∙ read)

cond_full : {A : Type 0} (b : Bool) (o : Option A) (a : A) → cond b o None ≡ Some a → (b ≡ true) × (o ≡ Some a)
cond_full true o a e = (refl, e)
cond_full false o a e = absurd (none-some a e)

more_still_few : (words : List (List ℕ)) (set : List ℕ) (before : Registers) (made : List ℕ × Registers) → length before.names ≤ 32 → more_of set before words ≡ Some made → length made.1.names ≤ 32
more_still_few [] set before made few read =
    subst (λ (m : List ℕ × Registers). length m.1.names ≤ 32) (same_Some (set, before) made read) few
more_still_few (word ∷ words) set before made few read =
    option_and_then_some _ (next_of set before word) made read (λ named next rest.
    let room = cond_full (ltb (length set) 64) (register_at before word) named next in
    more_still_few words (set ++ named.0 ∷ []) named.1 made (still_few before word named few room.1) rest)

more_again : (words : List (List ℕ)) (set : List ℕ) (before : Registers) (made : List ℕ × Registers) → length before.names ≤ 32 → more_of set before words ≡ Some made → made.1.over ≡ false → MoreAgain set before words made
more_again [] set before made few read told =
    subst (λ (m : List ℕ × Registers). m.1.over ≡ false → MoreAgain set before [] m) (same_Some (set, before) made read)
    (λ told. record { added = []; whole = sym (append-nil set); again = refl; below = tt; many = refl; long = tt; few = few; over = told })
    told
more_again (word ∷ words) set before made few read told =
    option_and_then_some _ (next_of set before word) made read (λ named next rest.
    let room = cond_full (ltb (length set) 64) (register_at before word) named next in
    let far = still_few before word named few room.1 in
    let later = more_again words (set ++ named.0 ∷ []) named.1 made far rest told in
    let first = register_again before word named few room.1 later.over in
    let before_first = first.over in
    record {
      added = named.0 ∷ later.added;
      whole = later.whole ∙ append_assoc set (named.0 ∷ []) later.added;
      again =
          next_again set (mirrored before) (mirrored named.1) (register_text named.0) (map register_text later.added) named.0 room.0 first.again
          ∙ later.again;
      below = (first.below, later.below);
      many = omega (arith, later.many);
      long = (first.shorter, later.long);
      few = later.few;
      over = before_first;
    })

parts_first : (k : ℕ) (rest : List ℕ) (parts : List (List ℕ)) → k < 32 → slice_split is_comma rest ≡ [] ∷ parts → slice_split is_comma (register_text k ++ rest) ≡ register_text k ∷ parts
parts_first k rest parts few split =
    let apart = letter_apart k few in
    let above = apart.0 in
    ap (onto_first 36) (cond-false (eqb (letter k) 44) _ _ (ne_eqb (letter k) 44 (λ e. omega (arith, above, e))) ∙ ap (onto_first (letter k)) split)

parts_more : (registers : List ℕ) → AreBelow registers → slice_split is_comma (more_registers registers) ≡ [] ∷ map register_text registers
parts_more [] below = refl
parts_more (register ∷ registers) below =
    ap (λ (parts : List (List ℕ)). [] ∷ parts) (parts_first register (more_registers registers) (map register_text registers) below.0 (parts_more registers below.1))

-- the parts of a printed set are the printed registers
parts_again : (register : ℕ) (registers : List ℕ) → AreBelow (register ∷ registers) → parts_of (set_text (register ∷ registers)) ≡ map register_text (register ∷ registers)
parts_again register registers below =
    parts_first register (more_registers registers) (map register_text registers) below.0 (parts_more registers below.1)

register_between : (k : ℕ) (rest : List ℕ) → k < 32 → AreBetween 33 126 rest → AreBetween 33 126 (register_text k ++ rest)
register_between k rest few are =
    let apart = letter_apart k few in ((omega arith, omega arith), ((omega (arith, apart), omega (arith, apart)), are))

more_between : (registers : List ℕ) → AreBelow registers → AreBetween 33 126 (more_registers registers)
more_between [] below = tt
more_between (register ∷ registers) below =
    ((omega arith, omega arith), register_between register (more_registers registers) below.0 (more_between registers below.1))

-- a printed set is a word
set_word : (registers : List ℕ) → AreBelow registers → IsWord (set_text registers)
set_word [] below = record { stands = run_stands 45 [] ((omega arith, omega arith), tt) refl; no_arrow = refl }
set_word (register ∷ registers) below =
    run_word 36 _ (register_between register (more_registers registers) below.0 (more_between registers below.1)) refl refl

more_length : (registers : List ℕ) → length (more_registers registers) ≡ 3 * length registers
more_length [] = refl
more_length (register ∷ registers) = omega (arith, more_length registers)

-- how many bytes some parts take, each with a comma
abbrev total : List (List ℕ) → ℕ
total [] = 0
total (part ∷ parts) = suc (length part) + total parts

total_onto : (byte : ℕ) (parts : List (List ℕ)) → 0 < total parts → total (onto_first byte parts) ≡ suc (total parts)
total_onto byte [] some = absurd (omega arith)
total_onto byte (part ∷ parts) some = omega arith

parts_total : (word : List ℕ) → total (parts_of word) ≡ suc (length word)
parts_total [] = omega arith
parts_total (byte ∷ bytes) =
    let rest = parts_total bytes in
    cond_both (is_comma byte) ([] ∷ slice_split is_comma bytes) (onto_first byte (slice_split is_comma bytes)) (λ parts. total parts ≡ suc (suc (length bytes)))
    (λ _. omega (arith, rest))
    (λ _. omega (arith, rest, total_onto byte (slice_split is_comma bytes) (omega (arith, rest))))

long_total : (parts : List (List ℕ)) → AreLong parts → 3 * length parts ≤ total parts
long_total [] long = omega arith
long_total (part ∷ parts) long = let first = long.0 in omega (arith, first, long_total parts long.1)

-- a set is read as it, is a word, and takes no more bytes than the word that it was read from
pub record SetAgain (before : Registers) (word : List ℕ) (made : List ℕ × Registers) : Type 0 where
  pub again : set_at (mirrored before) (set_text made.0) ≡ Some (made.0, mirrored made.1)
  pub fit : IsWord (set_text made.0)
  pub shorter : length (set_text made.0) ≤ length word
  pub few : length made.1.names ≤ 32
  pub over : before.over ≡ false

empty_again : (before : Registers) (word : List ℕ) → length before.names ≤ 32 → before.over ≡ false → bytes_eq word (codes "-") ≡ true → SetAgain before word ([], before)
empty_again before word few told is =
    let same = (bytes_eq-Decides word (codes "-")).0 is in
    record { again = refl; fit = set_word [] tt; shorter = omega (arith, ap length same); few = few; over = told }

some_again : (before : Registers) (word : List ℕ) (made : List ℕ × Registers) → MoreAgain [] before (parts_of word) made → SetAgain before word made
some_again before word made more = by more.added more.whole more.again more.below more.many
  where
    by : (added : List ℕ) → made.0 ≡ added → more_of [] (mirrored before) (map register_text added) ≡ Some (made.0, mirrored made.1) → AreBelow added → length added ≡ length (parts_of word) → SetAgain before word made
    by [] whole again below many = absurd (no_parts (parts_of word) (parts_total word) many)
      where
        no_parts : (parts : List (List ℕ)) → total parts ≡ suc (length word) → 0 ≡ length parts → ⊥
        no_parts [] sum none = omega (arith, sum)
        no_parts (part ∷ parts) sum none = omega (arith, none)
    by (register ∷ registers) whole again below many =
        let text = ap set_text whole in
        record {
          again = ap (set_at (mirrored before)) text ∙ ap (more_of [] (mirrored before)) (parts_again register registers below) ∙ again;
          fit = subst IsWord (sym text) (set_word (register ∷ registers) below);
          shorter = omega (arith, ap length text, more_length registers, many, parts_total word, long_total (parts_of word) more.long);
          few = more.few;
          over = more.over;
        }

-- a set that was read is read again
pub set_again : (before : Registers) (word : List ℕ) (made : List ℕ × Registers) → length before.names ≤ 32 → set_at before word ≡ Some made → made.1.over ≡ false → SetAgain before word made
set_again before word made few read told =
    cond_both (bytes_eq word (codes "-")) (Some ([], before)) (more_of [] before (parts_of word)) (λ found. found ≡ Some made → SetAgain before word made)
    (λ is found.
    subst (λ (m : List ℕ × Registers). m.1.over ≡ false → SetAgain before word m) (same_Some ([], before) made found) (λ fits. empty_again before word few fits is) told)
    (λ _ found. some_again before word made (more_again (parts_of word) [] before made few found told))
    read

-- no set that is read makes the registers too many
pub set_still_few : (before : Registers) (word : List ℕ) (made : List ℕ × Registers) → length before.names ≤ 32 → set_at before word ≡ Some made → length made.1.names ≤ 32
set_still_few before word made few read =
    cond_both (bytes_eq word (codes "-")) (Some ([], before)) (more_of [] before (parts_of word)) (λ found. found ≡ Some made → length made.1.names ≤ 32)
    (λ _ found. subst (λ (m : List ℕ × Registers). length m.1.names ≤ 32) (same_Some ([], before) made found) few)
    (λ _ found. more_still_few (parts_of word) [] before made few found)
    read
