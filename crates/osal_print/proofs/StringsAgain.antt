-- A string that was read is no longer as it is printed.
use Rattle.std.proofs.Common.{◌≡◌, ◌<◌, ◌≤◌, ◌+◌, ◌*◌, ◌&&◌, ◌||◌, ℕ, suc, true, false, List, [], ◌∷◌, length, flat_map, eqb, leb, ⊎_elim, Option, Some, None, unwrap_or, refl, ap, subst, arith, ne_eqb, length-append}
use Rattle.std.specs.List.{list_all}
use Rattle.std.proofs.lemmas.Bool.{cond_both, and_parts, or_from, or_cases, eqb-true, leb-true}
use Rattle.std.proofs.lemmas.Option.{none-some, same_Some}
use Rattle.osal_line.specs.declared.strings.StringPhase.{StringPhase}
use Rattle.osal_line.specs.declared.strings.StringPhase.TheVariants as string
use Rattle.osal_line.specs.Values.{is_between, is_hex, hex_of, prepended, at_end, string_from, string_of}
use Rattle.osal_line.specs.Words.{is_line_byte, is_blank}
use Rattle.osal_line.specs.Turns.{HasDigit}
use Rattle.osal_print.specs.Shortest.{string_byte, string_text}
use Rattle.osal_print.proofs.Shown.{Shows}
use Rattle.osal_print.proofs.StringBytes.{IsPlain, plain_way, mark_way, at_most_four}
use Rattle.osal_print.proofs.PrintedStrings.{AreBytes, string_word, string_read, string_length}

-- the bytes are bytes, and so many are enough to print them and the closing mark
record FitsIn (room : ℕ) (bytes : List ℕ) : Type 0 where
  are : AreBytes bytes
  short : length (flat_map string_byte bytes) + 1 ≤ room

roomier : (room more : ℕ) (bytes : List ℕ) → room ≤ more → FitsIn room bytes → FitsIn more bytes
roomier room more bytes le fits = let short = fits.short in record { are = fits.are; short = omega (arith, short) }

put : (byte count room : ℕ) (read : Option (List ℕ)) (bytes : List ℕ) → byte < 256 → length (string_byte byte) ≤ count → ((rest : List ℕ) → read ≡ Some rest → FitsIn room rest) → prepended byte read ≡ Some bytes → FitsIn (count + room) bytes
put byte count room None bytes small short fits read = absurd (none-some bytes read)
put byte count room (Some rest) bytes small short fits read =
    let there = fits rest refl in
    let enough = there.short in
    subst (FitsIn (count + room)) (same_Some (byte ∷ rest) bytes read)
    (record { are = (small, there.are); short = omega (arith, enough, length-append (string_byte byte) (flat_map string_byte rest)) })

ended : (rest bytes : List ℕ) → at_end rest ≡ Some bytes → FitsIn 1 bytes
ended [] bytes read = subst (FitsIn 1) (same_Some [] bytes read) (record { are = tt; short = omega arith })
ended (byte ∷ rest) bytes read = absurd (none-some bytes read)

line_bounds : (byte : ℕ) → is_line_byte byte ≡ true → (byte < 256) × (eqb byte 10 ≡ false)
line_bounds byte line =
    ⊎_elim
    (λ blank. ⊎_elim
    (λ either. ⊎_elim
    (λ t. let e = eqb-true byte 32 t in (omega arith, ne_eqb byte 10 (λ f. omega arith)))
    (λ t. let e = eqb-true byte 9 t in (omega arith, ne_eqb byte 10 (λ f. omega arith)))
    (or_cases (eqb byte 32) (eqb byte 9) either))
    (λ t. let e = eqb-true byte 13 t in (omega arith, ne_eqb byte 10 (λ f. omega arith)))
    (or_cases (eqb byte 32 || eqb byte 9) (eqb byte 13) blank))
    (λ within.
    let parts = and_parts (leb 33 byte) (leb byte 126) within in
    let low = leb-true 33 byte parts.0 in
    let high = leb-true byte 126 parts.1 in
    (omega arith, ne_eqb byte 10 (λ f. omega arith)))
    (or_cases (is_blank byte) (leb 33 byte && leb byte 126) line)

hex_small : (byte : ℕ) → hex_of byte < 16
hex_small byte =
    cond_both (is_between 48 57 byte) _ _ (λ found. unwrap_or found 0 < 16)
    (λ t. let high = leb-true byte 57 (and_parts (leb 48 byte) (leb byte 57) t).1 in omega arith)
    (λ _. cond_both (is_between 97 102 byte) _ _ (λ found. unwrap_or found 0 < 16)
    (λ t. let high = leb-true byte 102 (and_parts (leb 97 byte) (leb byte 102) t).1 in omega arith)
    (λ _. cond_both (is_between 65 70 byte) _ _ (λ found. unwrap_or found 0 < 16)
    (λ t. let high = leb-true byte 70 (and_parts (leb 65 byte) (leb byte 70) t).1 in omega arith)
    (λ _. omega arith)))

-- how many bytes of an escape came before a phase
abbrev before : StringPhase → ℕ
before string.Plain = 0
before string.Backslash = 1
before string.Hex = 2
before (string.HexEnd high) = 3

mark_bounds : (byte : ℕ) → (eqb byte 34 || eqb byte 92) ≡ true → byte < 256
mark_bounds byte mark =
    ⊎_elim
    (λ t. let e = eqb-true byte 34 t in omega arith)
    (λ t. let e = eqb-true byte 92 t in omega arith)
    (or_cases (eqb byte 34) (eqb byte 92) mark)

-- the rest of a quotation is enough to print what it stands for
rest_enough : (word : List ℕ) (at : StringPhase) (bytes : List ℕ) → HasDigit at → list_all is_line_byte word ≡ true → string_from at word ≡ Some bytes → FitsIn (length word + before at) bytes
rest_enough [] string.Plain bytes digit clean read = absurd (none-some bytes read)
rest_enough [] string.Backslash bytes digit clean read = absurd (none-some bytes read)
rest_enough [] string.Hex bytes digit clean read = absurd (none-some bytes read)
rest_enough [] (string.HexEnd high) bytes digit clean read = absurd (none-some bytes read)
rest_enough (byte ∷ rest) string.Plain bytes digit clean read =
    let parts = and_parts (is_line_byte byte) (list_all is_line_byte rest) clean in
    let bounds = line_bounds byte parts.0 in
    let count : ℕ = suc (length rest) + 0 in
    cond_both (eqb byte 34) (at_end rest) _ (λ found. found ≡ Some bytes → FitsIn count bytes)
    (λ mark found. roomier 1 count bytes (omega arith) (ended rest bytes found))
    (λ no_mark. cond_both (eqb byte 92) (string_from string.Backslash rest) (prepended byte (string_from string.Plain rest)) (λ found. found ≡ Some bytes → FitsIn count bytes)
    (λ slash found. roomier (length rest + 1) count bytes (omega arith) (rest_enough rest string.Backslash bytes tt parts.1 found))
    (λ no_slash found.
    let plain : IsPlain byte = record { marks = or_from (eqb byte 34) (eqb byte 92) no_mark no_slash; end = bounds.1; line = parts.0 } in
    roomier (1 + (length rest + 0)) count bytes (omega arith)
    (put byte 1 (length rest + 0) (string_from string.Plain rest) bytes bounds.0 (omega (arith, ap length (plain_way byte plain))) (λ v e. rest_enough rest string.Plain v tt parts.1 e) found)))
    read
rest_enough (byte ∷ rest) string.Backslash bytes digit clean read =
    let parts = and_parts (is_line_byte byte) (list_all is_line_byte rest) clean in
    let count : ℕ = suc (length rest) + 1 in
    let plain : (v : List ℕ) → string_from string.Plain rest ≡ Some v → FitsIn (length rest + 0) v = λ v e. rest_enough rest string.Plain v tt parts.1 e in
    cond_both (eqb byte 34 || eqb byte 92) (prepended byte (string_from string.Plain rest)) _ (λ found. found ≡ Some bytes → FitsIn count bytes)
    (λ mark found.
    roomier (2 + (length rest + 0)) count bytes (omega arith)
    (put byte 2 (length rest + 0) (string_from string.Plain rest) bytes (mark_bounds byte mark) (omega (arith, ap length (mark_way byte mark))) plain found))
    (λ _. cond_both (eqb byte 110) (prepended 10 (string_from string.Plain rest)) _ (λ found. found ≡ Some bytes → FitsIn count bytes)
    (λ _ found. roomier (2 + (length rest + 0)) count bytes (omega arith) (put 10 2 (length rest + 0) (string_from string.Plain rest) bytes (omega arith) (omega arith) plain found))
    (λ _. cond_both (eqb byte 120) (string_from string.Hex rest) None (λ found. found ≡ Some bytes → FitsIn count bytes)
    (λ _ found. roomier (length rest + 2) count bytes (omega arith) (rest_enough rest string.Hex bytes tt parts.1 found))
    (λ _ found. absurd (none-some bytes found))))
    read
rest_enough (byte ∷ rest) string.Hex bytes digit clean read =
    let parts = and_parts (is_line_byte byte) (list_all is_line_byte rest) clean in
    let count : ℕ = suc (length rest) + 2 in
    cond_both (is_hex byte) (string_from (string.HexEnd (hex_of byte)) rest) None (λ found. found ≡ Some bytes → FitsIn count bytes)
    (λ _ found. roomier (length rest + 3) count bytes (omega arith) (rest_enough rest (string.HexEnd (hex_of byte)) bytes (hex_small byte) parts.1 found))
    (λ _ found. absurd (none-some bytes found))
    read
rest_enough (byte ∷ rest) (string.HexEnd high) bytes digit clean read =
    let parts = and_parts (is_line_byte byte) (list_all is_line_byte rest) clean in
    let count : ℕ = suc (length rest) + 3 in
    let low = hex_small byte in
    let value : ℕ = 16 * high + hex_of byte in
    cond_both (is_hex byte) (prepended value (string_from string.Plain rest)) None (λ found. found ≡ Some bytes → FitsIn count bytes)
    (λ _ found.
    roomier (4 + (length rest + 0)) count bytes (omega arith)
    (put value 4 (length rest + 0) (string_from string.Plain rest) bytes (omega (arith, low, digit)) (at_most_four value) (λ v e. rest_enough rest string.Plain v tt parts.1 e) found))
    (λ _ found. absurd (none-some bytes found))
    read

quotation_enough : (word bytes : List ℕ) → list_all is_line_byte word ≡ true → string_of word ≡ Some bytes → AreBytes bytes × (length (string_text bytes) ≤ length word)
quotation_enough [] bytes clean read = absurd (none-some bytes read)
quotation_enough (byte ∷ rest) bytes clean read =
    let parts = and_parts (is_line_byte byte) (list_all is_line_byte rest) clean in
    cond_both (eqb byte 34) (string_from string.Plain rest) None (λ found. found ≡ Some bytes → AreBytes bytes × (length (string_text bytes) ≤ length (byte ∷ rest)))
    (λ _ found.
    let fits = rest_enough rest string.Plain bytes tt parts.1 found in
    let short = fits.short in
    (fits.are, omega (arith, short, string_length bytes)))
    (λ _ found. absurd (none-some bytes found))
    read

-- the bytes that a string stands for
pub string_bytes : (word bytes : List ℕ) → list_all is_line_byte word ≡ true → string_of word ≡ Some bytes → AreBytes bytes
string_bytes word bytes clean read = (quotation_enough word bytes clean read).0

-- a string that was read is shown as it is printed
pub string_again : (word bytes : List ℕ) → list_all is_line_byte word ≡ true → string_of word ≡ Some bytes → Shows string_of bytes (string_text bytes) word
string_again word bytes clean read =
    let enough = quotation_enough word bytes clean read in
    record { again = string_read bytes enough.0; fit = string_word bytes enough.0; shorter = enough.1 }
