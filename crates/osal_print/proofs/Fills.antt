-- A fill says bytes that are all the same: their string is as long as one of them, so many times.
use Rattle.std.proofs.Common.{◌≡◌, ◌+◌, ◌*◌, ◌==◌, ℕ, Bool, true, false, List, [], ◌∷◌, length, nat_lt, refl, arith, length-append}
use Rattle.std.specs.List.{flat_map, list_all}
use Rattle.std.proofs.lemmas.Bool.{and_parts, eq-eqb, eqb-true}
use Rattle.osal_print.specs.Shortest.{string_byte, string_text, fill_length, is_filled}

-- what is between the quotation marks
repeated_bytes : (byte : ℕ) (bytes : List ℕ) → list_all (λ other. other == byte) bytes ≡ true → length (flat_map string_byte bytes) ≡ length bytes * length (string_byte byte)
repeated_bytes byte [] same = omega arith
repeated_bytes byte (first ∷ bytes) same =
    let parts = and_parts (first == byte) (list_all (λ other. other == byte) bytes) same in
    let is : first ≡ byte = eqb-true first byte parts.0 in
    rw (is, length-append, repeated_bytes byte bytes parts.1) (omega arith)

-- the whole string
repeated_string : (byte : ℕ) (bytes : List ℕ) → list_all (λ other. other == byte) bytes ≡ true → length (string_text bytes) ≡ length bytes * length (string_byte byte) + 2
unfolding string_text
repeated_string byte bytes same =
    rw (length-append, repeated_bytes byte bytes same) (omega arith)

-- whether bytes are filled, where not all are the first
pub unlike : (bytes others : List ℕ) (byte : ℕ) → bytes ≡ byte ∷ others → false ≡ list_all (λ other. other == byte) others → is_filled bytes ≡ false
unlike bytes others byte is all = rw (is, ← all) refl

-- and where all are: whether the fill is shorter than that many of the first
pub filled_by : (bytes others : List ℕ) (byte : ℕ) (shorter : Bool) → bytes ≡ byte ∷ others → true ≡ list_all (λ other. other == byte) others → shorter ≡ nat_lt (fill_length (length bytes) byte) (length bytes * length (string_byte byte) + 2) → is_filled bytes ≡ shorter
filled_by bytes others byte shorter is all fewer =
    let own : (byte == byte) ≡ true = eq-eqb byte byte refl in
    let every : list_all (λ other. other == byte) (byte ∷ others) ≡ true = rw (own, ← all) refl in
    let long = repeated_string byte (byte ∷ others) every in
    rw (is, ← all, long, fewer, is) refl
