-- Bytes with a piece over them: zero bytes first and then the piece, and what no piece leaves.
use Rattle.std.proofs.Common.{◌≡◌, ◌≢◌, ◌<◌, ◌≤◌, ◌+◌, ◌-◌, ℕ, List, [], ◌++◌, length, take, drop, replicate, ap, sym, ◌∙◌, arith, add-zero, length-append, length-take, get_or-set_same, get_or-set_other}
use Rattle.std.proofs.lemmas.List.{take_all, drop_all, append-nil, append_assoc, take_at, drop_at, drop-drop, length-replicate, take-append-drop, set-set, set-get_or}
use Rattle.osal_blocks.specs.Blocks.{BlocksState, bytes_of, with_file, overwritten}

-- zero bytes up to a place, and what stood behind it
padded_is : (bytes : List ℕ) (place : ℕ)
    → overwritten bytes place [] ≡ (take place bytes ++ replicate (place - length bytes) 0) ++ drop place bytes
padded_is bytes place =
    ap (λ (n : ℕ). take place bytes ++ (replicate (place - length bytes) 0 ++ drop n bytes)) (add-zero place)
    ∙ sym (append_assoc (take place bytes) (replicate (place - length bytes) 0) (drop place bytes))

-- they go as far as the place
length-padding : (bytes : List ℕ) (place : ℕ) → length (take place bytes ++ replicate (place - length bytes) 0) ≡ place
length-padding bytes place =
    omega (arith, length-append (take place bytes) (replicate (place - length bytes) 0), length-take place bytes, length-replicate {A = ℕ} (place - length bytes) 0)

-- a piece over bytes that were filled up with zero bytes first
pub overwritten-padded : (bytes : List ℕ) (place : ℕ) (piece : List ℕ)
    → overwritten (overwritten bytes place []) place piece ≡ overwritten bytes place piece
overwritten-padded bytes place piece =
    let front = take place bytes ++ replicate (place - length bytes) 0 in
    let back = drop place bytes in
    let size : length front ≡ place = length-padding bytes place in
    let none : place - length (front ++ back) ≡ 0 = omega (arith, length-append front back, size) in
    let behind : drop (place + length piece) (front ++ back) ≡ drop (place + length piece) bytes =
    sym (drop-drop (length piece) place (front ++ back))
    ∙ (ap (λ (l : List ℕ). drop (length piece) l) (drop_at front back place size) ∙ drop-drop (length piece) place bytes) in
    ap (λ (l : List ℕ). overwritten l place piece) (padded_is bytes place)
    ∙ (ap (λ (l : List ℕ). l ++ (replicate (place - length (front ++ back)) 0 ++ (piece ++ drop (place + length piece) (front ++ back)))) (take_at front back place size)
    ∙ (ap (λ (n : ℕ). front ++ (replicate n 0 ++ (piece ++ drop (place + length piece) (front ++ back)))) none
    ∙ (ap (λ (l : List ℕ). front ++ (piece ++ l)) behind
    ∙ append_assoc (take place bytes) (replicate (place - length bytes) 0) (piece ++ drop (place + length piece) bytes))))

-- zero bytes behind all bytes
pub overwritten-zeros : (bytes : List ℕ) (n place : ℕ) → n ≡ length bytes → n ≤ place
    → overwritten bytes n (replicate (place - n) 0) ≡ overwritten bytes place []
overwritten-zeros bytes n place size past =
    let zeros : List ℕ = replicate (place - n) 0 in
    let count : length zeros ≡ place - n = length-replicate {A = ℕ} (place - n) 0 in
    let no_gap : n - length bytes ≡ 0 = omega arith in
    let gap : place - length bytes ≡ place - n = omega arith in
    let all : take n bytes ≡ bytes = take_all n bytes (omega arith) in
    let all_too : take place bytes ≡ bytes = take_all place bytes (omega arith) in
    let nothing : drop (n + length zeros) bytes ≡ [] = drop_all (n + length zeros) bytes (omega arith) in
    let nothing_too : drop (place + 0) bytes ≡ [] = drop_all (place + 0) bytes (omega arith) in
    ap (λ (l : List ℕ). l ++ (replicate (n - length bytes) 0 ++ (zeros ++ drop (n + length zeros) bytes))) all
    ∙ (ap (λ (k : ℕ). bytes ++ (replicate k 0 ++ (zeros ++ drop (n + length zeros) bytes))) no_gap
    ∙ (ap (λ (l : List ℕ). bytes ++ (zeros ++ l)) nothing
    ∙ (ap (λ (l : List ℕ). bytes ++ l) (append-nil zeros)
    ∙ (ap (λ (l : List ℕ). bytes ++ l) (sym (append-nil zeros))
    ∙ (ap (λ (l : List ℕ). bytes ++ (zeros ++ l)) (sym nothing_too)
    ∙ (ap (λ (k : ℕ). bytes ++ (replicate k 0 ++ drop (place + 0) bytes)) (sym gap)
    ∙ ap (λ (l : List ℕ). l ++ (replicate (place - length bytes) 0 ++ drop (place + 0) bytes)) (sym all_too)))))))

-- no piece within the bytes leaves them as they were
pub overwritten-nothing : (bytes : List ℕ) (place : ℕ) → place ≤ length bytes → overwritten bytes place [] ≡ bytes
overwritten-nothing bytes place within =
    let no_gap : place - length bytes ≡ 0 = omega arith in
    padded_is bytes place
    ∙ (ap (λ (k : ℕ). (take place bytes ++ replicate k 0) ++ drop place bytes) no_gap
    ∙ (ap (λ (l : List ℕ). l ++ drop place bytes) (append-nil (take place bytes)) ∙ take-append-drop place bytes))

-- a piece over no bytes
pub overwritten-first : (piece : List ℕ) → overwritten [] 0 piece ≡ piece
overwritten-first piece =
    let nothing : drop {A = ℕ} (0 + length piece) [] ≡ [] = drop_all (0 + length piece) [] (omega arith) in
    ap (λ (l : List ℕ). piece ++ l) nothing ∙ append-nil piece

-- a file that gets its own bytes is as it was
pub with_file-same : (state : BlocksState) (file : ℕ) → with_file state file (bytes_of state file) ≡ state
with_file-same state file = ap (λ (files : List (List ℕ)). record state { files = files }) (set-get_or state.files file [])

-- a file that is written twice
pub with_file-twice : (state : BlocksState) (file : ℕ) (first second : List ℕ) → with_file (with_file state file first) file second ≡ with_file state file second
with_file-twice state file first second = ap (λ (files : List (List ℕ)). record state { files = files }) (set-set state.files file first second)

-- what was written is there
pub bytes_of-with_file : (state : BlocksState) (file : ℕ) (bytes : List ℕ) → file < length state.files → bytes_of (with_file state file bytes) file ≡ bytes
bytes_of-with_file state file bytes there = get_or-set_same state.files file bytes [] there

-- zero bytes up to the place, and then the piece
pub written-padded : (old mid new : BlocksState) (file place : ℕ) (piece : List ℕ) → file < length old.files
    → mid ≡ with_file old file (overwritten (bytes_of old file) place [])
    → new ≡ with_file mid file (overwritten (bytes_of mid file) place piece)
    → new ≡ with_file old file (overwritten (bytes_of old file) place piece)
written-padded old mid new file place piece there first second =
    let padded = overwritten (bytes_of old file) place [] in
    second
    ∙ (ap (λ (s : BlocksState). with_file s file (overwritten (bytes_of s file) place piece)) first
    ∙ (ap (λ (l : List ℕ). with_file (with_file old file padded) file (overwritten l place piece)) (bytes_of-with_file old file padded there)
    ∙ (ap (λ (l : List ℕ). with_file (with_file old file padded) file l) (overwritten-padded (bytes_of old file) place piece)
    ∙ with_file-twice old file padded (overwritten (bytes_of old file) place piece))))

-- a file that was emptied first
pub filled-emptied : (old mid new : BlocksState) (file : ℕ) (bytes : List ℕ) → mid ≡ with_file old file [] → new ≡ with_file mid file bytes
    → new ≡ with_file old file bytes
filled-emptied old mid new file bytes first second =
    second ∙ (ap (λ (s : BlocksState). with_file s file bytes) first ∙ with_file-twice old file [] bytes)

-- the bytes of another file
pub bytes_of-other : (old mid : BlocksState) (file other : ℕ) (bytes : List ℕ) → other ≢ file → mid ≡ with_file old file bytes
    → bytes_of mid other ≡ bytes_of old other
bytes_of-other old mid file other bytes two is =
    ap (λ (s : BlocksState). bytes_of s other) is ∙ get_or-set_other old.files file other bytes [] two
