-- Bytes are spelled in runs: what was appended, and the plain run behind it, are the spelling of the bytes so far.
use Rattle.std.proofs.Common.{◌≡◌, ◌≤◌, ◌<◌, ℕ, ◌+◌, ◌-◌, List, [], ◌∷◌, ◌++◌, length, take, drop, get_or, sym, ap, ◌∙◌, append_assoc, append-nil, arith}
use Rattle.std.proofs.lemmas.List.{take_more, drop-append-le, drop-take, drop_all, length-take, length-take-le, flat_map_more}
use Rattle.std.specs.List.{flat_map}
use Rattle.osal_spelling.specs.Spelling.{quoted_byte}

-- the spelling of one more byte stands behind that of the bytes before it
spelled_more : (start bytes : List ℕ) (at : ℕ) → at < length bytes → (start ++ flat_map quoted_byte (take at bytes)) ++ quoted_byte (get_or bytes at 0) ≡ start ++ flat_map quoted_byte (take (at + 1) bytes)
spelled_more start bytes at inside =
    flat_map_more quoted_byte start (take at bytes) (get_or bytes at 0)
    ∙ ap (λ v. start ++ flat_map quoted_byte v) (sym (take_more bytes at 0 inside))

-- a plain byte makes the run longer
pub plain_more : (out start bytes : List ℕ) (from at : ℕ) → from ≤ at → at < length bytes → quoted_byte (get_or bytes at 0) ≡ get_or bytes at 0 ∷ [] → out ++ drop from (take at bytes) ≡ start ++ flat_map quoted_byte (take at bytes) → out ++ drop from (take (at + 1) bytes) ≡ start ++ flat_map quoted_byte (take (at + 1) bytes)
plain_more out start bytes from at within inside plain so_far =
    let short : from ≤ length (take at bytes) = omega (arith, length-take-le at bytes (omega arith)) in
    ap (λ v. out ++ drop from v) (take_more bytes at 0 inside)
    ∙ ap (λ v. out ++ v) (drop-append-le from (take at bytes) (get_or bytes at 0 ∷ []) short)
    ∙ sym (append_assoc out (drop from (take at bytes)) (get_or bytes at 0 ∷ []))
    ∙ ap (λ v. v ++ get_or bytes at 0 ∷ []) so_far
    ∙ ap (λ v. (start ++ flat_map quoted_byte (take at bytes)) ++ v) (sym plain)
    ∙ spelled_more start bytes at inside

-- the run is appended, and then the spelling of a byte that ends it
pub run_ends : (out start bytes : List ℕ) (from at : ℕ) → from ≤ at → at < length bytes → out ++ drop from (take at bytes) ≡ start ++ flat_map quoted_byte (take at bytes) → ((out ++ take (at - from) (drop from bytes)) ++ quoted_byte (get_or bytes at 0)) ++ drop (at + 1) (take (at + 1) bytes) ≡ start ++ flat_map quoted_byte (take (at + 1) bytes)
run_ends out start bytes from at within inside so_far =
    let reached : at ≡ from + (at - from) = omega arith in
    let run : drop from (take at bytes) ≡ take (at - from) (drop from bytes) = ap (λ n. drop from (take n bytes)) reached ∙ drop-take from (at - from) bytes in
    let none : drop (at + 1) (take (at + 1) bytes) ≡ [] = drop_all (at + 1) (take (at + 1) bytes) (omega (arith, length-take (at + 1) bytes)) in
    ap (λ v. ((out ++ take (at - from) (drop from bytes)) ++ quoted_byte (get_or bytes at 0)) ++ v) none
    ∙ append-nil ((out ++ take (at - from) (drop from bytes)) ++ quoted_byte (get_or bytes at 0))
    ∙ ap (λ v. (out ++ v) ++ quoted_byte (get_or bytes at 0)) (sym run)
    ∙ ap (λ v. v ++ quoted_byte (get_or bytes at 0)) so_far
    ∙ spelled_more start bytes at inside
