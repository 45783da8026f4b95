-- Words of bytes within bounds: runs that are no quotations stand alone between blanks.
use Rattle.std.proofs.Common.{◌≡◌, ◌<◌, ◌≤◌, ◌+◌, ◌/◌, ◌%◌, ◌&&◌, ◌||◌, ℕ, zero, suc, Bool, true, false, not, List, [], ◌∷◌, ◌++◌, eqb, ltb, leb, refl, sym, ap, subst, ◌∙◌, arith, le-leb, mod-lt, ne_eqb}
use Rattle.std.specs.List.{list_all, AllByRecursion}
use Rattle.std.specs.Fmt.{digits, digits_onto, digit_glyph}
use Rattle.std.proofs.lemmas.Bool.{cond-false, cond_both, and_from, and_left, and_parts, not-true, true≢false, or_right, or_from, ltb-true, ltb-false, leb-true}
use Rattle.osal_line.specs.declared.words.WordPhase.TheVariants as phase
use Rattle.osal_line.specs.Words.{words_from, onto_word, is_blank, is_line_byte}
use Rattle.osal_line.specs.Values.{is_between}
use Rattle.osal_print.proofs.IsWord.{Stands, IsWord}
use Rattle.osal_print.proofs.Digits.{digits_by_steps}

-- each byte of some bytes lies between two others
abbrev pub AreBetween : ℕ → ℕ → List ℕ → Type 0
AreBetween low high bytes = AllByRecursion (λ byte. (low ≤ byte) × (byte ≤ high)) bytes

-- so it does between two that are further apart
pub wider : (low high lowest highest : ℕ) (bytes : List ℕ) → lowest ≤ low → high ≤ highest → AreBetween low high bytes → AreBetween lowest highest bytes
wider low high lowest highest [] down up are = tt
wider low high lowest highest (byte ∷ bytes) down up are =
    let first = are.0 in ((omega (arith, first), omega (arith, first)), wider low high lowest highest bytes down up are.1)

-- some such bytes and some more
pub between_append : (low high : ℕ) (bytes more : List ℕ) → AreBetween low high bytes → AreBetween low high more → AreBetween low high (bytes ++ more)
between_append low high [] more are also = also
between_append low high (byte ∷ bytes) more are also = (are.0, between_append low high bytes more are.1 also)

-- a byte that is printed and no space
pub solid : (byte : ℕ) → 33 ≤ byte → byte ≤ 126 → (is_blank byte ≡ false) × (is_line_byte byte ≡ true)
solid byte above below = (
  or_from (eqb byte 32 || eqb byte 9) (eqb byte 13)
      (or_from (eqb byte 32) (eqb byte 9) (ne_eqb byte 32 (λ e. omega arith)) (ne_eqb byte 9 (λ e. omega arith)))
      (ne_eqb byte 13 (λ e. omega arith)),
  or_right (is_blank byte) (leb 33 byte && leb byte 126) (and_from (leb 33 byte) (leb byte 126) (le-leb 33 byte above) (le-leb byte 126 below)),
)

run_clean : (bytes : List ℕ) → AreBetween 33 126 bytes → list_all is_line_byte bytes ≡ true
run_clean [] are = refl
run_clean (byte ∷ bytes) are =
    and_from (is_line_byte byte) (list_all is_line_byte bytes) (solid byte are.0.0 are.0.1).1 (run_clean bytes are.1)

run_cut : (bytes rest : List ℕ) → AreBetween 33 126 bytes → words_from phase.Run (bytes ++ 32 ∷ rest) ≡ bytes ∷ words_from phase.Between rest
run_cut [] rest are = refl
run_cut (byte ∷ bytes) rest are =
    cond-false (is_blank byte) _ _ (solid byte are.0.0 are.0.1).0 ∙ ap (onto_word byte) (run_cut bytes rest are.1)

run_last : (bytes : List ℕ) → AreBetween 33 126 bytes → words_from phase.Run bytes ≡ bytes ∷ []
run_last [] are = refl
run_last (byte ∷ bytes) are =
    cond-false (is_blank byte) _ _ (solid byte are.0.0 are.0.1).0 ∙ ap (onto_word byte) (run_last bytes are.1)

run_begins : (byte : ℕ) (bytes : List ℕ) → 33 ≤ byte → byte ≤ 126 → eqb byte 34 ≡ false → words_from phase.Between (byte ∷ bytes) ≡ onto_word byte (words_from phase.Run bytes)
run_begins byte bytes above below plain =
    cond-false (is_blank byte) _ _ (solid byte above below).0
    ∙ ap (λ at. onto_word byte (words_from at bytes)) (cond-false (eqb byte 34) phase.Quoted phase.Run plain)

-- a run that does not begin with a quotation mark stands alone between blanks
pub run_stands : (byte : ℕ) (bytes : List ℕ) → AreBetween 33 126 (byte ∷ bytes) → eqb byte 34 ≡ false → Stands (byte ∷ bytes)
run_stands byte bytes are plain = record {
  cut = λ rest. run_begins byte (bytes ++ 32 ∷ rest) are.0.0 are.0.1 plain ∙ ap (onto_word byte) (run_cut bytes rest are.1);
  last = run_begins byte bytes are.0.0 are.0.1 plain ∙ ap (onto_word byte) (run_last bytes are.1);
  clean = run_clean (byte ∷ bytes) are;
}

-- it is a word, where it does not begin as the arrow does
pub run_word : (byte : ℕ) (bytes : List ℕ) → AreBetween 33 126 (byte ∷ bytes) → eqb byte 34 ≡ false → eqb byte 45 ≡ false → IsWord (byte ∷ bytes)
run_word byte bytes are plain other = record {
  stands = run_stands byte bytes are plain;
  no_arrow = and_left (eqb byte 45) _ other;
}

-- whether some bytes are a run that begins neither as a quotation nor as the arrow does
abbrev pub is_plain : List ℕ → Bool
is_plain [] = false
is_plain (byte ∷ bytes) = not (eqb byte 34) && not (eqb byte 45) && list_all (is_between 33 126) (byte ∷ bytes)

all_between : (low high : ℕ) (bytes : List ℕ) → list_all (is_between low high) bytes ≡ true → AreBetween low high bytes
all_between low high [] are = tt
all_between low high (byte ∷ bytes) are =
    let parts = and_parts (is_between low high byte) (list_all (is_between low high) bytes) are in
    let within = and_parts (leb low byte) (leb byte high) parts.0 in
    ((leb-true low byte within.0, leb-true byte high within.1), all_between low high bytes parts.1)

unlike : (byte other : ℕ) → not (eqb byte other) ≡ true → eqb byte other ≡ false
unlike byte other differs = not-true (eqb byte other) differs

-- such a run is a word
pub plain_word : (word : List ℕ) → is_plain word ≡ true → IsWord word
plain_word [] plain = absurd (true≢false (sym plain))
plain_word (byte ∷ bytes) plain =
    let parts = and_parts (not (eqb byte 34) && not (eqb byte 45)) (list_all (is_between 33 126) (byte ∷ bytes)) plain in
    let firsts = and_parts (not (eqb byte 34)) (not (eqb byte 45)) parts.0 in
    run_word byte bytes (all_between 33 126 (byte ∷ bytes) parts.1) (unlike byte 34 firsts.0) (unlike byte 45 firsts.1)

glyph_between : (base high d : ℕ) → d < base → base ≤ 16 → 57 ≤ high → (10 < base → 102 ≤ high) → (48 ≤ digit_glyph false d) × (digit_glyph false d ≤ high)
glyph_between base high d small most low up =
    cond_both (ltb d 10) (48 + d) (87 + d) (λ glyph. (48 ≤ glyph) × (glyph ≤ high))
    (λ t. let l = ltb-true d 10 t in (omega arith, omega arith))
    (λ t. let l = ltb-false d 10 t in let h = up (omega arith) in (omega arith, omega arith))

module _ (base high : ℕ) (least : 2 ≤ base) (most : base ≤ 16) (low : 57 ≤ high) (up : 10 < base → 102 ≤ high) where
  onto_between : (k n : ℕ) (acc : List ℕ) → AreBetween 48 high acc → AreBetween 48 high (digits_onto k base false n acc)
  onto_between zero n acc are = are
  onto_between (suc k) n acc are =
      let small : n % base < base = mod-lt n (omega arith) in
      let more : AreBetween 48 high (digit_glyph false (n % base) ∷ acc) = (glyph_between base high (n % base) small most low up, are) in
      cond_both (eqb (n / base) 0) (digit_glyph false (n % base) ∷ acc) (digits_onto k base false (n / base) (digit_glyph false (n % base) ∷ acc)) (AreBetween 48 high)
      (λ t. more)
      (λ t. onto_between k (n / base) (digit_glyph false (n % base) ∷ acc) more)

  -- the digits of a number are glyphs
  pub digits_between : (n : ℕ) → AreBetween 48 high (digits base false n)
  digits_between n = subst (AreBetween 48 high) (digits_by_steps base n) (onto_between 64 n [] tt)
