-- Walks along the table of blocks: how long they are, what a write to the table leaves of them, and one step more.
use Rattle.std.proofs.Common.{◌≡◌, ◌≢◌, ◌<◌, ◌≤◌, ◌+◌, ◌-◌, ℕ, zero, suc, List, [], ◌∷◌, ◌++◌, length, get_or, set, take, drop, refl, ap, sym, ◌∙◌, arith, add-one, get_or-set_other}
use Rattle.osal_blocks.specs.declared.ends.Ends.{Ends}
use Rattle.osal_blocks.specs.Chains.{walk, walk_of, ends_at, chains_in, blocks_at, IsApart}

-- a walk meets as many blocks as it has steps
pub length-walk : (next : List ℕ) (block n : ℕ) → length (walk next block n) ≡ n
length-walk next block zero = refl
length-walk next block (suc n) = ap suc (length-walk next (get_or next block 0) n)

-- a write behind no block but the last leaves a walk as it was
pub walk-set : (next : List ℕ) (last value block n : ℕ) → ((k : ℕ) → k + 1 < n → get_or (walk next block n) k 0 ≢ last)
    → walk (set next last value) block n ≡ walk next block n
walk-set next last value block zero other = refl
walk-set next last value block (suc zero) other = refl
walk-set next last value block (suc (suc n)) other =
    let first : block ≢ last = other 0 (omega arith) in
    let same : get_or (set next last value) block 0 ≡ get_or next block 0 = get_or-set_other next last block value 0 first in
    rw same (ap (λ l. block ∷ l) (walk-set next last value (get_or next block 0) (suc n) (λ k within. other (suc k) (omega arith))))

-- a walk with one step more meets the block behind the last
pub walk_more : (next : List ℕ) (block n : ℕ)
    → walk next block (suc (suc n)) ≡ walk next block (suc n) ++ get_or next (get_or (walk next block (suc n)) n 0) 0 ∷ []
walk_more next block zero = refl
walk_more next block (suc n) = ap (λ l. block ∷ l) (walk_more next (get_or next block 0) n)

-- each block of a walk but the first stands behind the one before it
pub walk_behind : (next : List ℕ) (block n k : ℕ) → suc k < n
    → get_or (walk next block n) (suc k) 0 ≡ get_or next (get_or (walk next block n) k 0) 0
walk_behind next block zero k within = absurd (omega arith)
walk_behind next block (suc zero) k within = absurd (omega arith)
walk_behind next block (suc (suc n)) zero within = refl
walk_behind next block (suc (suc n)) (suc k) within =
    walk_behind next (get_or next block 0) (suc n) k (omega arith)

-- the first blocks of a walk do not depend on its steps
pub walk_shorter : (next : List ℕ) (block n m k : ℕ) → k < n → k < m
    → get_or (walk next block n) k 0 ≡ get_or (walk next block m) k 0
walk_shorter next block zero m k within short = absurd (omega arith)
walk_shorter next block (suc n) zero k within short = absurd (omega arith)
walk_shorter next block (suc n) (suc m) zero within short = refl
walk_shorter next block (suc n) (suc m) (suc k) within short =
    walk_shorter next (get_or next block 0) n m k (omega arith) (omega arith)

-- in a table where each block stands before the next, a walk meets them in a row
pub walk_in_a_row : (next : List ℕ) (block n k : ℕ) → ((j : ℕ) → j < length next → get_or next j 0 ≡ j + 1)
    → block + n ≤ length next → k < n → get_or (walk next block n) k 0 ≡ block + k
walk_in_a_row next block zero k row within short = absurd (omega arith)
walk_in_a_row next block (suc n) zero row within short = omega arith
walk_in_a_row next block (suc zero) (suc k) row within short = absurd (omega arith)
walk_in_a_row next block (suc (suc n)) (suc k) row within short =
    let step : get_or next block 0 ≡ block + 1 = row block (omega arith) in
    let rest : get_or (walk next (get_or next block 0) (suc n)) k 0 ≡ get_or next block 0 + k =
    walk_in_a_row next (get_or next block 0) (suc n) k row (omega arith) (omega arith) in
    omega arith

-- the blocks of a list are those of the walk between its ends
pub blocks_at-chains_in : (next : List ℕ) (ends : List Ends) (list : ℕ)
    → blocks_at (chains_in next ends) list ≡ walk_of next (ends_at ends list)
blocks_at-chains_in next [] list = refl
blocks_at-chains_in next (e ∷ ends) zero = refl
blocks_at-chains_in next (e ∷ ends) (suc list) = blocks_at-chains_in next ends list

-- a list has as many blocks as its ends say
pub length-blocks_at : (next : List ℕ) (ends : List Ends) (list : ℕ)
    → length (blocks_at (chains_in next ends) list) ≡ (ends_at ends list).count
length-blocks_at next ends list =
    rw blocks_at-chains_in (length-walk next (ends_at ends list).first (ends_at ends list).count)

-- a walk of some steps begins with its first block
pub take-walk : (next : List ℕ) (block n : ℕ) → 0 < n → take 1 (walk next block n) ≡ block ∷ []
take-walk next block zero some = absurd (omega arith)
take-walk next block (suc n) some = refl

-- a walk without its first block begins at the second
pub drop-walk : (next : List ℕ) (block n : ℕ) → 0 < n → drop 1 (walk next block n) ≡ walk next (get_or next block 0) (n - 1)
drop-walk next block zero some = absurd (omega arith)
drop-walk next block (suc n) some =
    let less : suc n - 1 ≡ n = omega arith in
    rw less refl

-- the first block of a walk
pub walk_first : (next : List ℕ) (block n : ℕ) → 0 < n → get_or (walk next block n) 0 0 ≡ block
walk_first next block zero some = absurd (omega arith)
walk_first next block (suc n) some = refl

-- a list's blocks are below the number of blocks
pub walk_within : (next : List ℕ) (ends : List Ends) (list k : ℕ) → IsApart (chains_in next ends)
    → k < (ends_at ends list).count → get_or (walk_of next (ends_at ends list)) k 0 < length next
walk_within next ends list k apart within =
    rw (blocks_at-chains_in next ends list) at (apart.below list k (rw (length-blocks_at next ends list) within))

-- the last block of a walk stands behind the last of a walk that is one step shorter
pub walk_step : (next : List ℕ) (block n : ℕ)
    → get_or next (get_or (walk next block (n + 1)) n 0) 0 ≡ get_or (walk next block (n + 1 + 1)) (n + 1) 0
walk_step next block n =
    let one : n + 1 ≡ suc n = add-one n in
    let two : n + 1 + 1 ≡ suc (suc n) = omega arith in
    rw (two, one)
    (ap (λ (b : ℕ). get_or next b 0) (walk_shorter next block (suc n) (suc (suc n)) n (omega arith) (omega arith))
    ∙ sym (walk_behind next block (suc (suc n)) n (omega arith)))

-- the block behind a block of a list is the next of the list
pub behind_at : (next : List ℕ) (ends : List Ends) (list k : ℕ) → k + 1 < length (blocks_at (chains_in next ends) list)
    → get_or next (get_or (blocks_at (chains_in next ends) list) k 0) 0 ≡ get_or (blocks_at (chains_in next ends) list) (k + 1) 0
behind_at next ends list k within =
    let there : k + 1 < (ends_at ends list).count = rw (length-blocks_at next ends list) at within in
    let one : k + 1 ≡ suc k = add-one k in
    rw (blocks_at-chains_in next ends list, one)
    (sym (walk_behind next (ends_at ends list).first (ends_at ends list).count k (omega arith)))
