-- The numbers of workers that a word may spell, one after the other.
use Rattle.std.proofs.Common.{◌≡◌, ◌≤◌, ◌<◌, ◌+◌, ◌-◌, ℕ, zero, suc, List, [], ◌∷◌, Bool, true, false, cond, Option, Some, None, length, map, refl, sym, ap, subst, arith}
use Rattle.std.specs.Prelude.{IfSome, option_map}
use Rattle.std.specs.List.{find}
use Rattle.std.specs.Fmt.{decimal}
use Rattle.std.specs.Str.{bytes_eq}
use Rattle.osal_make.specs.MakeText.{counted}
use Rattle.osal_run.specs.Request.{Request, File, Make, HasWorkers, file_name, worker_count, has_make, is_journal, is_make, request_of}

-- the number that a word spells, from a number on
abbrev pub count_from : List ℕ → ℕ → Option ℕ
count_from word n = find (λ k. bytes_eq word (decimal k)) (counted (61 - n) n)

-- it is the first, or one behind it
pub count_here : (word : List ℕ) (n : ℕ) → n < 61 → count_from word n ≡ cond (bytes_eq word (decimal n)) (Some n) (count_from word (n + 1))
count_here word n within =
    let more : 61 - n ≡ suc (61 - (n + 1)) = omega arith in
    ap (λ m. find (λ k. bytes_eq word (decimal k)) (counted m n)) more

either_within : (is : Bool) (from n : ℕ) (found : Option ℕ) → IfSome found (λ k. (from + 1 ≤ k) × (k < from + 1 + n)) → IfSome (cond is (Some from) found) (λ k. (from ≤ k) × (k < from + suc n))
either_within true from n found within = (omega arith, omega arith)
either_within false from n None within = tt
either_within false from n (Some k) within = (omega (arith, within.0), omega (arith, within.1))

-- what is found is one of the numbers
found_within : (test : ℕ → Bool) (n from : ℕ) → IfSome (find test (counted n from)) (λ k. (from ≤ k) × (k < from + n))
found_within test zero from = tt
found_within test (suc n) from =
    either_within (test from) from n (find test (counted n (from + 1))) (found_within test n (from + 1))

-- a request that is made, if any is, has workers as it may
abbrev MayHave : Option Request → Type 0
MayHave request = IfSome request HasWorkers

make_has : (found : Option ℕ) → IfSome found (λ k. (1 ≤ k) × (k < 61)) → MayHave (option_map (λ count. Make count) found)
make_has None within = tt
make_has (Some k) within = (within.0, omega (arith, within.1))

file_has : (name : Option (List ℕ)) (journal : Bool) → MayHave (option_map (λ name. File name journal) name)
file_has None journal = tt
file_has (Some name) journal = tt

either_has : (is : Bool) (first second : Option Request) → MayHave first → MayHave second → MayHave (cond is first second)
either_has true first second one two = one
either_has false first second one two = two

count_has : (word : List ℕ) → MayHave (option_map (λ count. Make count) (worker_count word))
count_has word = make_has (worker_count word) (found_within (λ k. bytes_eq word (decimal k)) 60 1)

-- what words ask for has workers as it may
request_has : (words : List (List ℕ)) → MayHave (request_of words)
request_has [] = tt
request_has (word ∷ []) =
    either_has (has_make word) _ _ (count_has _) (file_has (file_name word) false)
request_has (first ∷ second ∷ []) =
    either_has (is_journal first) _ _ (file_has (file_name second) true) (either_has (is_journal second) _ _ (file_has (file_name first) true) (either_has (is_make first) _ None (count_has second) tt))
request_has (first ∷ second ∷ third ∷ words) = tt

-- the same of a request that is known
pub asked_has : (words : List (List ℕ)) (request : Request) → Some request ≡ request_of words → HasWorkers request
asked_has words request asks = subst MayHave (sym asks) (request_has words)

-- more words than two ask for nothing
pub more_words : {X : Type 0} (read : X → List ℕ) (words : List X) → 3 ≤ length words → request_of (map read words) ≡ None
more_words read [] many = absurd (omega arith)
more_words read (word ∷ []) many = absurd (omega arith)
more_words read (first ∷ second ∷ []) many = absurd (omega arith)
more_words read (first ∷ second ∷ third ∷ words) many = refl
