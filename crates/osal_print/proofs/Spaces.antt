-- Words behind spaces: how many bytes they take.
use Rattle.std.proofs.Common.{◌≡◌, ◌≤◌, ◌+◌, ℕ, suc, List, [], ◌∷◌, ◌++◌, length, arith, length-append}
use Rattle.osal_print.specs.PrintText.{spaced}
use Rattle.osal_print.proofs.IsWord.{IsWord, AreWords}

-- one word and more
pub spaced_more : (word : List ℕ) (words : List (List ℕ)) → length (spaced (word ∷ words)) ≡ suc (length word + length (spaced words))
spaced_more word words = omega (arith, length-append word (spaced words))

-- words that are no longer, and their number the same, take no more bytes
pub spaced_shorter : (word other : List ℕ) (words others : List (List ℕ)) → length word ≤ length other → length (spaced words) ≤ length (spaced others) → length (spaced (word ∷ words)) ≤ length (spaced (other ∷ others))
spaced_shorter word other words others first rest =
    omega (arith, spaced_more word words, spaced_more other others, first, rest)

-- some words and one more
pub spaced_push : (words : List (List ℕ)) (last : List ℕ) → length (spaced (words ++ last ∷ [])) ≡ length (spaced words) + suc (length last)
spaced_push [] last = omega (arith, spaced_more last [])
spaced_push (word ∷ words) last =
    omega (arith, spaced_more word (words ++ last ∷ []), spaced_more word words, spaced_push words last)

-- some words and one more are words
pub words_push : (words : List (List ℕ)) (last : List ℕ) → AreWords words → IsWord last → AreWords (words ++ last ∷ [])
words_push [] last are also = (also, tt)
words_push (word ∷ words) last are also = (are.0, words_push words last are.1 also)
