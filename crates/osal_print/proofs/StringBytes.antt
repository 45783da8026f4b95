-- How each byte of a string is printed: it is read again, and stays between the quotation marks.
use Rattle.std.proofs.Common.{◌≡◌, ◌<◌, ◌≤◌, ◌+◌, ◌*◌, ◌/◌, ◌%◌, ◌&&◌, ◌||◌, ℕ, true, false, cond, List, [], ◌∷◌, ◌++◌, length, eqb, ltb, ⊎_elim, Option, Some, None, is_some, unwrap_or, refl, sym, ap, ◌∙◌, arith, ne_eqb}
use Rattle.std.specs.List.{list_all}
use Rattle.std.proofs.lemmas.Bool.{cond-true, cond-false, cond_both, and_from, or_parts, or_cases, ltb-true, ltb-false, eqb-true}
use Rattle.osal_spelling.specs.Spelling.{hex_digit}
use Rattle.osal_line.specs.declared.strings.StringPhase.TheVariants as string
use Rattle.osal_line.specs.declared.words.WordPhase.{WordPhase}
use Rattle.osal_line.specs.declared.words.WordPhase.TheVariants as phase
use Rattle.osal_line.specs.Values.{digit_value, prepended, string_from}
use Rattle.osal_line.specs.Words.{words_from, onto_word, is_line_byte, phase_in_quotes}
use Rattle.osal_print.specs.Shortest.{string_byte}
use Rattle.osal_print.proofs.Digits.{glyph_value}
use Rattle.osal_print.proofs.Bytes.{solid}

-- a byte that stands for itself
pub record IsPlain (byte : ℕ) : Type 0 where
  pub marks : (eqb byte 34 || eqb byte 92) ≡ false
  pub end : eqb byte 10 ≡ false
  pub line : is_line_byte byte ≡ true

-- what holds of each of the four ways in which a byte is printed holds of the way in which one is
pub by_way : (P : List ℕ → Type 0) (byte : ℕ) → ((eqb byte 34 || eqb byte 92) ≡ true → P (92 ∷ byte ∷ [])) → (byte ≡ 10 → P (92 ∷ 110 ∷ [])) → (IsPlain byte → P (byte ∷ [])) → P (92 ∷ 120 ∷ hex_digit (byte / 16) ∷ hex_digit (byte % 16) ∷ []) → P (string_byte byte)
by_way P byte mark end plain hex =
    cond_both (eqb byte 34 || eqb byte 92) _ _ P mark (λ marks.
    cond_both (eqb byte 10) _ _ P (λ t. end (eqb-true byte 10 t)) (λ no_end.
    cond_both (is_line_byte byte) _ _ P (λ t. plain (record { marks = marks; end = no_end; line = t })) (λ t. hex)))

-- a plain byte is printed as it is
pub plain_way : (byte : ℕ) → IsPlain byte → string_byte byte ≡ byte ∷ []
plain_way byte plain =
    cond-false (eqb byte 34 || eqb byte 92) _ _ plain.marks ∙ cond-false (eqb byte 10) _ _ plain.end ∙ cond-true (is_line_byte byte) _ _ plain.line

-- a quotation mark or a backslash stands behind a backslash
pub mark_way : (byte : ℕ) → (eqb byte 34 || eqb byte 92) ≡ true → string_byte byte ≡ 92 ∷ byte ∷ []
mark_way byte mark = cond-true (eqb byte 34 || eqb byte 92) _ _ mark

-- no byte takes more than four
pub at_most_four : (byte : ℕ) → length (string_byte byte) ≤ 4
at_most_four byte = by_way (λ text. length text ≤ 4) byte (λ t. omega arith) (λ t. omega arith) (λ t. omega arith) (omega arith)

hex_value : (digit : ℕ) → digit < 16 → digit_value (hex_digit digit) ≡ Some digit
hex_value digit small = glyph_value digit small

read_high : (high : ℕ) (rest : List ℕ) → high < 16 → string_from string.Hex (hex_digit high ∷ rest) ≡ string_from (string.HexEnd high) rest
read_high high rest small =
    ap (λ (found : Option ℕ). cond (is_some found) (string_from (string.HexEnd (unwrap_or found 0)) rest) None) (hex_value high small)

read_low : (high low : ℕ) (rest : List ℕ) → low < 16 → string_from (string.HexEnd high) (hex_digit low ∷ rest) ≡ prepended (16 * high + low) (string_from string.Plain rest)
read_low high low rest small =
    ap (λ (found : Option ℕ). cond (is_some found) (prepended (16 * high + unwrap_or found 0) (string_from string.Plain rest)) None) (hex_value low small)

-- a printed byte is read as it
pub byte_again : (byte : ℕ) (rest : List ℕ) → byte < 256 → string_from string.Plain (string_byte byte ++ rest) ≡ prepended byte (string_from string.Plain rest)
byte_again byte rest small =
    by_way (λ text. string_from string.Plain (text ++ rest) ≡ prepended byte (string_from string.Plain rest)) byte
    (λ mark. cond-true (eqb byte 34 || eqb byte 92) _ _ mark)
    (λ is. ap (λ (b : ℕ). prepended b (string_from string.Plain rest)) (sym is))
    (λ plain.
    let parts = or_parts (eqb byte 34) (eqb byte 92) plain.marks in
    cond-false (eqb byte 34) _ _ parts.0 ∙ cond-false (eqb byte 92) _ _ parts.1)
    (read_high (byte / 16) (hex_digit (byte % 16) ∷ rest) (omega arith)
    ∙ read_low (byte / 16) (byte % 16) rest (omega arith)
    ∙ ap (λ (b : ℕ). prepended b (string_from string.Plain rest)) (omega arith))

hex_bounds : (digit : ℕ) → digit < 16 → (48 ≤ hex_digit digit) × (hex_digit digit ≤ 102) × (hex_digit digit ≡ 92 → ⊥)
hex_bounds digit small =
    cond_both (ltb digit 10) (48 + digit) (87 + digit) (λ byte. (48 ≤ byte) × (byte ≤ 102) × (byte ≡ 92 → ⊥))
    (λ t. let h = ltb-true digit 10 t in (omega arith, omega arith, λ e. omega arith))
    (λ t. let h = ltb-false digit 10 t in (omega arith, omega arith, λ e. omega arith))

stays_quoted : (byte : ℕ) → eqb byte 34 ≡ false → eqb byte 92 ≡ false → phase_in_quotes byte ≡ phase.Quoted
stays_quoted byte mark backslash = cond-false (eqb byte 34) _ _ mark ∙ cond-false (eqb byte 92) _ _ backslash

digit_stays : (digit : ℕ) → digit < 16 → phase_in_quotes (hex_digit digit) ≡ phase.Quoted
digit_stays digit small =
    let bounds = hex_bounds digit small in
    let above = bounds.0 in
    stays_quoted (hex_digit digit) (ne_eqb (hex_digit digit) 34 (λ e. omega (arith, above, e))) (ne_eqb (hex_digit digit) 92 bounds.2)

-- a printed byte stays in its word
pub byte_quoted : (byte : ℕ) (rest word : List ℕ) (words : List (List ℕ)) → byte < 256 → words_from phase.Quoted rest ≡ word ∷ words → words_from phase.Quoted (string_byte byte ++ rest) ≡ (string_byte byte ++ word) ∷ words
byte_quoted byte rest word words small inside =
    by_way (λ text. words_from phase.Quoted (text ++ rest) ≡ (text ++ word) ∷ words) byte
    (λ mark. ap (λ ws. onto_word 92 (onto_word byte ws)) inside)
    (λ is. ap (λ ws. onto_word 92 (onto_word 110 ws)) inside)
    (λ plain.
    let parts = or_parts (eqb byte 34) (eqb byte 92) plain.marks in
    ap (λ (at : WordPhase). onto_word byte (words_from at rest)) (stays_quoted byte parts.0 parts.1) ∙ ap (onto_word byte) inside)
    (let high : ℕ = hex_digit (byte / 16) in
    let low : ℕ = hex_digit (byte % 16) in
    ap (λ (at : WordPhase). onto_word 92 (onto_word 120 (onto_word high (words_from at (low ∷ rest))))) (digit_stays (byte / 16) (omega arith))
    ∙ ap (λ (at : WordPhase). onto_word 92 (onto_word 120 (onto_word high (onto_word low (words_from at rest))))) (digit_stays (byte % 16) (omega arith))
    ∙ ap (λ ws. onto_word 92 (onto_word 120 (onto_word high (onto_word low ws)))) inside)

digit_clean : (digit : ℕ) → digit < 16 → is_line_byte (hex_digit digit) ≡ true
digit_clean digit small =
    let bounds = hex_bounds digit small in
    let low = bounds.0 in
    let high = bounds.1 in
    (solid (hex_digit digit) (omega (arith, low)) (omega (arith, high))).1

mark_clean : (byte : ℕ) → (eqb byte 34 || eqb byte 92) ≡ true → is_line_byte byte ≡ true
mark_clean byte mark =
    ⊎_elim
    (λ t. ap is_line_byte (eqb-true byte 34 t))
    (λ t. ap is_line_byte (eqb-true byte 92 t))
    (or_cases (eqb byte 34) (eqb byte 92) mark)

-- its bytes may stand in a line
pub byte_clean : (byte : ℕ) → byte < 256 → list_all is_line_byte (string_byte byte) ≡ true
byte_clean byte small =
    by_way (λ text. list_all is_line_byte text ≡ true) byte
    (λ mark. and_from (is_line_byte byte) true (mark_clean byte mark) refl)
    (λ is. refl)
    (λ plain. and_from (is_line_byte byte) true plain.line refl)
    (and_from (is_line_byte (hex_digit (byte / 16))) (is_line_byte (hex_digit (byte % 16)) && true) (digit_clean (byte / 16) (omega arith))
    (and_from (is_line_byte (hex_digit (byte % 16))) true (digit_clean (byte % 16) (omega arith)) refl))
