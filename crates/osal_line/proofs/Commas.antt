-- The first part of a word, and the parts behind its comma.
use Rattle.std.proofs.Common.{◌≡◌, ◌+◌, ◌-◌, ◌≤◌, ◌<◌, ℕ, Bool, true, false, cond, nat_lt, List, [], ◌∷◌, length, take, drop, Some, None, arith, sym, ap, ◌∙◌}
use Rattle.std.specs.List.{position, position_or_len}
use Rattle.std.proofs.lemmas.Bool.Decides.{nat_tests}
use Rattle.std.proofs.lemmas.List.{take_rest}
use Rattle.std.proofs.lemmas.List.Elements.{All-from_get_or}
use Rattle.std.proofs.lemmas.List.Sums.{fails_before_first}
use Rattle.std.proofs.lemmas.List.Splits.{slice_split_none, slice_split_first}
use Rattle.osal_line.specs.Sets.{is_comma, parts_of}

answered : (b : Bool) (n at : ℕ) → cond b (Some n) None ≡ Some at → (b ≡ true) × (n ≡ at)
answered true n at e = grind arith
answered false n at e = grind arith

refused : (b : Bool) (n : ℕ) → cond b (Some n) None ≡ None → b ≡ false
refused true n e = grind arith
refused false n e = grind arith

-- a place that is found is the first comma's, and lies within
found_within : (word : List ℕ) (at : ℕ) → position is_comma word ≡ Some at → (position_or_len is_comma word < length word) × (position_or_len is_comma word ≡ at)
found_within word at e =
    let both = answered (nat_lt (position_or_len is_comma word) (length word)) (position_or_len is_comma word) at e in
    (let test = both.0 in grind (arith, nat_tests), both.1)

-- where none is found the search comes to the end
missed : (word : List ℕ) → position is_comma word ≡ None → length word ≤ position_or_len is_comma word
missed word e =
    let test = refused (nat_lt (position_or_len is_comma word) (length word)) (position_or_len is_comma word) e in grind (arith, nat_tests)

-- a comma ends the first part
pub parts_at : (word : List ℕ) (at : ℕ) → position is_comma word ≡ Some at → parts_of word ≡ take at word ∷ parts_of (take (length word - (at + 1)) (drop (at + 1) word))
parts_at word at e =
    let place = found_within word at e in
    slice_split_first is_comma word 0 place.0
    ∙ ap (λ n. take n word ∷ parts_of (drop (n + 1) word)) place.1
    ∙ ap (λ rest. take at word ∷ parts_of rest) (sym (take_rest word (at + 1)))

-- a word without a comma is its one part
pub parts_whole : (word : List ℕ) → position is_comma word ≡ None → parts_of word ≡ word ∷ []
parts_whole word e =
    let past = missed word e in
    slice_split_none is_comma word
    (All-from_get_or (λ byte. is_comma byte ≡ false) word 0 (λ k h. fails_before_first is_comma word k 0 (omega arith)))
