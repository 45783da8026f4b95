-- Messages in one run of bytes: what they are after one more behind them, and without the first.
use Rattle.std.proofs.Common.{◌≡◌, ◌<◌, ◌≤◌, ◌+◌, ◌-◌, ◌*◌, ◌∙◌, ℕ, List, [], ◌∷◌, ◌++◌, length, take, drop, Some, slice_get, refl, ap, arith, length-drop, length-take, zero-le}
use Rattle.std.specs.List.{All, sum}
use Rattle.std.proofs.Math.Seq.{take-length}
use Rattle.std.proofs.Math.Nat.{mul-le-mul_right, add-mul}
use Rattle.std.proofs.lemmas.List.{take-append-le, drop-append-le, drop-drop}
use Rattle.std.proofs.lemmas.List.Sums.{sum_by-cons, sum_by-le}
use Rattle.osal_ring.specs.Messages.{oldest}
use Rattle.osal_ring.specs.Stored.{cut}

-- there are as many messages as lengths
pub length-cut : (lengths bytes : List ℕ) → length (cut lengths bytes) ≡ length lengths
length-cut [] bytes = refl
length-cut (n ∷ lengths) bytes = grind (arith, length-cut lengths (drop n bytes))

-- bytes behind a whole run are one message more
pub cut-push : (lengths bytes message : List ℕ) (n : ℕ) → n ≡ length message → sum lengths ≡ length bytes
    → cut (lengths ++ n ∷ []) (bytes ++ message) ≡ cut lengths bytes ++ message ∷ []
cut-push [] [] message n e whole = rw (e, take-length) refl
cut-push [] (b ∷ bytes) message n e whole = absurd (omega arith)
cut-push (first ∷ lengths) bytes message n e whole =
    let split : sum (first ∷ lengths) ≡ first + sum lengths = sum_by-cons (λ x. x) first lengths in
    let within : first ≤ length bytes = omega arith in
    let rest : sum lengths ≡ length (drop first bytes) = omega (arith, length-drop first bytes) in
    rw (take-append-le first bytes message within, drop-append-le first bytes message within, cut-push lengths (drop first bytes) message n e rest) refl

-- the first of the lengths is that of the first message
pub cut-pop : (lengths bytes : List ℕ) (n : ℕ) → slice_get lengths 0 ≡ Some n
    → cut lengths bytes ≡ take n bytes ∷ cut (drop 1 lengths) (drop n bytes)
cut-pop [] bytes n first = absurd cc
cut-pop (m ∷ lengths) bytes n first = cc

-- the first of the lengths is one of those that make up the bytes
pub sum-pop : (lengths : List ℕ) (n : ℕ) → slice_get lengths 0 ≡ Some n → sum lengths ≡ n + sum (drop 1 lengths)
sum-pop [] n first = absurd cc
sum-pop (m ∷ lengths) n first =
    let same : m ≡ n = cc in
    rw (← same) (sum_by-cons (λ x. x) m lengths)

-- where there may be one more, there is room for the bytes of one more message
pub room_for_one : (lengths : List ℕ) (size depth bytes message : ℕ) → sum lengths ≡ bytes → All (λ n. n ≤ size) lengths
    → length lengths < depth → message ≤ size → bytes + message ≤ depth * size
room_for_one lengths size depth bytes message whole each room fits =
    let most : sum lengths ≤ length lengths * size = sum_by-le (λ x. x) size lengths each in
    let one_more : (length lengths + 1) * size ≤ depth * size = mul-le-mul_right size (omega arith) in
    omega (arith, add-mul (length lengths) 1 size)

-- some of a first run go, and then what is left of it
pub drop-rest : (count n : ℕ) (bytes : List ℕ) → count ≤ n → drop (n - count) (drop count bytes) ≡ drop n bytes
drop-rest count n bytes some =
    let whole : count + (n - count) ≡ n = omega arith in
    drop-drop (n - count) count bytes ∙ ap (λ k. drop k bytes) whole

-- the first of the messages is no longer than its length, which is none too great
pub short : (lengths bytes : List ℕ) (size : ℕ) → All (λ n. n ≤ size) lengths → length (oldest (cut lengths bytes)) ≤ size
short [] bytes size each = zero-le
short (n ∷ lengths) bytes size each =
    let least : n ≤ size = each 0 n (omega arith) in
    omega (arith, length-take n bytes)
