-- A payload is read again as it is printed, in no more bytes.
use Rattle.std.proofs.Common.{◌≡◌, ◌<◌, ◌≤◌, ◌+◌, ◌&&◌, ℕ, zero, suc, Bool, true, false, List, [], ◌∷◌, length, replicate, flat_map, eqb, Some, None, codes, refl, sym, ap, subst, ◌∙◌, arith, eq-eqb, length-append}
use Rattle.std.specs.List.{list_all}
use Rattle.std.specs.Fmt.{decimal}
use Rattle.std.proofs.lemmas.Bool.{cond_both, and_from, and_parts, eqb-true, ltb-true, ltb-false, true≢false}
use Rattle.std.proofs.lemmas.List.{length-replicate}
use Rattle.std.proofs.lemmas.Option.{none-some, same_Some, option_and_then_some}
use Rattle.std.proofs.lemmas.Slice.Eq.{bytes_eq-Decides}
use Rattle.osal_line.specs.Values.{number_below, string_of}
use Rattle.osal_line.specs.Words.{is_line_byte}
use Rattle.osal_line.specs.Payload.{is_fill, filled, payload_of}
use Rattle.osal_print.specs.Shortest.{string_byte, string_text, fill_words, fill_length, is_filled, filler, payload_words}
use Rattle.osal_print.specs.PrintText.{spaced}
use Rattle.osal_print.proofs.IsWord.{AreWords, AreClean}
use Rattle.osal_print.proofs.Bytes.{plain_word}
use Rattle.osal_print.proofs.Numbers.{decimal_again, decimal_word}
use Rattle.osal_print.proofs.Decimals.{numbers_read}
use Rattle.osal_print.proofs.StringBytes.{by_way}
use Rattle.osal_print.proofs.PrintedStrings.{AreBytes, string_word, string_read, string_length}
use Rattle.osal_print.proofs.StringsAgain.{string_bytes, string_again}
use Rattle.osal_print.proofs.Spaces.{spaced_more}

-- the printed words of a payload are read as it, and fit in some room
pub record PayloadAgain (room : ℕ) (payload : List ℕ) : Type 0 where
  pub again : payload_of (payload_words payload) ≡ Some payload
  pub fit : AreWords (payload_words payload)
  pub shorter : length (spaced (payload_words payload)) ≤ room

all_one : (byte : ℕ) (bytes : List ℕ) → list_all (λ other. eqb other byte) bytes ≡ true → replicate (length bytes) byte ≡ bytes
all_one byte [] all = refl
all_one byte (other ∷ bytes) all =
    let parts = and_parts (eqb other byte) (list_all (λ v. eqb v byte) bytes) all in
    let first = sym (eqb-true other byte parts.0) in
    let rest = all_one byte bytes parts.1 in
    λ i. first i ∷ rest i

one_all : (byte n : ℕ) → list_all (λ other. eqb other byte) (replicate n byte) ≡ true
one_all byte zero = refl
one_all byte (suc n) = and_from (eqb byte byte) (list_all (λ v. eqb v byte) (replicate n byte)) (eq-eqb byte byte refl) (one_all byte n)

filled_read : (count byte : List ℕ) (n b : ℕ) → number_below 8193 count ≡ Some n → number_below 256 byte ≡ Some b → payload_of (codes "fill" ∷ count ∷ byte ∷ []) ≡ Some (replicate n b)
filled_read count byte n b count-is byte-is = rw (count-is, byte-is) refl

fill_read : (byte : ℕ) (bytes : List ℕ) → byte < 256 → length (byte ∷ bytes) < 8193 → list_all (λ other. eqb other byte) bytes ≡ true → payload_of (fill_words (length (byte ∷ bytes)) byte) ≡ Some (byte ∷ bytes)
fill_read byte bytes small few all =
    filled_read (decimal (length (byte ∷ bytes))) (decimal byte) (length (byte ∷ bytes)) byte (decimal_again 8193 (length (byte ∷ bytes)) few (omega arith)) (decimal_again 256 byte small (omega arith))
    ∙ ap (λ rest. Some (byte ∷ rest)) (all_one byte bytes all)

fill_spaced : (count byte : ℕ) → length (spaced (fill_words count byte)) ≡ 1 + fill_length count byte
fill_spaced count byte =
    omega (arith, spaced_more (codes "fill") (decimal count ∷ decimal byte ∷ []), spaced_more (decimal count) (decimal byte ∷ []), spaced_more (decimal byte) [])

fill_again : (room : ℕ) (payload : List ℕ) → AreBytes payload → length payload < 8193 → is_filled payload ≡ true → 1 + fill_length (length payload) (filler payload) ≤ room → (payload_of (fill_words (length payload) (filler payload)) ≡ Some payload) × AreWords (fill_words (length payload) (filler payload)) × (length (spaced (fill_words (length payload) (filler payload))) ≤ room)
fill_again room [] are few is fits = absurd (true≢false (sym is))
fill_again room (byte ∷ bytes) are few is fits =
    let parts = and_parts (list_all (λ other. eqb other byte) bytes) _ is in
    let small = are.0 in
    (fill_read byte bytes small few parts.0, (plain_word (codes "fill") refl, (decimal_word (length (byte ∷ bytes)) (omega arith), (decimal_word byte (omega arith), tt))), omega (arith, fits, fill_spaced (length (byte ∷ bytes)) byte))

-- a payload that has room as a fill, or as a string, is printed so
pub payload_printed : (room : ℕ) (payload : List ℕ) → AreBytes payload → length payload < 8193 → (is_filled payload ≡ true → 1 + fill_length (length payload) (filler payload) ≤ room) → (is_filled payload ≡ false → 1 + length (string_text payload) ≤ room) → PayloadAgain room payload
payload_printed room payload are few as_fill as_string =
    let both = cond_both (is_filled payload) (fill_words (length payload) (filler payload)) (string_text payload ∷ []) (λ words. (payload_of words ≡ Some payload) × AreWords words × (length (spaced words) ≤ room))
    (λ is. fill_again room payload are few is (as_fill is))
    (λ is. (string_read payload are, (string_word payload are, tt), omega (arith, as_string is, spaced_more (string_text payload) []))) in
    record { again = both.0; fit = both.1; shorter = both.2 }

spelled_long : (bytes : List ℕ) → length bytes ≤ length (flat_map string_byte bytes)
spelled_long [] = omega arith
spelled_long (byte ∷ bytes) =
    omega (arith, spelled_long bytes, length-append (string_byte byte) (flat_map string_byte bytes), by_way (λ text. 1 ≤ length text) byte (λ t. omega arith) (λ t. omega arith) (λ t. omega arith) (omega arith))

fill_shorter : (payload : List ℕ) → is_filled payload ≡ true → fill_length (length payload) (filler payload) < length (string_text payload)
fill_shorter [] is = absurd (true≢false (sym is))
fill_shorter (byte ∷ bytes) is =
    ltb-true (fill_length (length (byte ∷ bytes)) byte) (length (string_text (byte ∷ bytes)))
    (and_parts (list_all (λ other. eqb other byte) bytes) _ is).1

-- a payload that was read from a string
string_payload : (text payload : List ℕ) → list_all is_line_byte text ≡ true → length text ≤ 255 → string_of text ≡ Some payload → PayloadAgain (length (spaced (text ∷ []))) payload
string_payload text payload clean short read =
    let shown = string_again text payload clean read in
    let shorter = shown.shorter in
    let room = spaced_more text [] in
    payload_printed (length (spaced (text ∷ []))) payload (string_bytes text payload clean read) (omega (arith, short, shorter, spelled_long payload, string_length payload))
    (λ is. omega (arith, shorter, room, fill_shorter payload is))
    (λ is. omega (arith, shorter, room))

bytes_of_one : (byte n : ℕ) → byte < 256 → AreBytes (replicate n byte)
bytes_of_one byte zero small = tt
bytes_of_one byte (suc n) small = (small, bytes_of_one byte n small)

string_shorter : (byte n : ℕ) → is_filled (replicate (suc n) byte) ≡ false → length (string_text (replicate (suc n) byte)) ≤ fill_length (length (replicate (suc n) byte)) byte
string_shorter byte n not = ltb-false (fill_length (length (replicate (suc n) byte)) byte) (length (string_text (replicate (suc n) byte))) (sym (and_true (one_all byte n)) ∙ not)
  where
    and_true : {b c : Bool} → b ≡ true → (b && c) ≡ c
    and_true {b} {c} is = ap (λ t. t && c) is

-- a payload that was read from a fill
fill_payload : (room : ℕ) (n b : ℕ) → n < 8193 → b < 256 → 7 + length (decimal n) + length (decimal b) ≤ room → PayloadAgain room (replicate n b)
fill_payload room zero b few small fits =
    payload_printed room [] tt (omega arith) (λ is. absurd (true≢false (sym is))) (λ is. omega (arith, fits, string_length []))
fill_payload room (suc n) b few small fits =
    let many = length-replicate (suc n) b in
    let same = ap decimal many in
    payload_printed room (replicate (suc n) b) (bytes_of_one b (suc n) small) (omega (arith, many, few))
    (λ is. omega (arith, fits, ap length same))
    (λ not. omega (arith, fits, ap length same, string_shorter b n not))

-- a payload that was read is read again
pub payload_again : (words : List (List ℕ)) (payload : List ℕ) → AreClean words → length (spaced words) ≤ 255 → payload_of words ≡ Some payload → PayloadAgain (length (spaced words)) payload
payload_again [] payload clean short read = absurd (none-some payload read)
payload_again (text ∷ []) payload clean short read = string_payload text payload clean.0 (omega (arith, short, spaced_more text [])) read
payload_again (a ∷ b ∷ []) payload clean short read = absurd (none-some payload read)
payload_again (word ∷ count ∷ byte ∷ []) payload clean short read =
    cond_both (is_fill word) (filled count byte) None (λ found. found ≡ Some payload → PayloadAgain (length (spaced (word ∷ count ∷ byte ∷ []))) payload)
    (λ is found.
    let same = (bytes_eq-Decides word (codes "fill")).0 is in
    option_and_then_some _ (number_below 8193 count) payload found (λ n count-is rest.
    option_and_then_some _ (number_below 256 byte) payload rest (λ b byte-is made.
    let counts = numbers_read 8193 (omega arith) (omega arith) in
    let fillers = numbers_read 256 (omega arith) (omega arith) in
    subst (PayloadAgain (length (spaced (word ∷ count ∷ byte ∷ [])))) (same_Some (replicate n b) payload made)
    (fill_payload (length (spaced (word ∷ count ∷ byte ∷ []))) n b (counts.below count n count-is) (fillers.below byte b byte-is)
    (omega (arith, ap length same, spaced_more word (count ∷ byte ∷ []), spaced_more count (byte ∷ []), spaced_more byte [], (counts.shown count n count-is).shorter, (fillers.shown byte b byte-is).shorter))))))
    (λ _ found. absurd (none-some payload found))
    read
payload_again (a ∷ b ∷ c ∷ d ∷ words) payload clean short read = absurd (none-some payload read)
