-- The words of a line about its arrow.
use Rattle.std.proofs.Common.{◌≡◌, ◌+◌, ℕ, List, [], ◌∷◌, ◌++◌, length, inl, inr, refl, sym, ap, ◌∙◌, length-append}
use Rattle.std.specs.List.{AllByRecursion}
use Rattle.std.proofs.lemmas.Bool.{cases_Bool, cond_both, cond-false}
use Rattle.osal_line.specs.Expectation.{is_arrow, before_arrow, from_arrow}
use Rattle.osal_print.specs.PrintText.{spaced}
use Rattle.osal_print.proofs.IsWord.{Stands, AreWords, AreClean}
use Rattle.osal_print.proofs.LineWords.{spaced_append}
use Rattle.osal_print.proofs.ExpectationAgain.{BeginsWithArrow}

-- the words before the arrow and those from it on are all
pub around_arrow : (words : List (List ℕ)) → before_arrow words ++ from_arrow words ≡ words
around_arrow [] = refl
around_arrow (word ∷ words) =
    elim (cases_Bool (is_arrow word)) [
      | inl arrow ↦ rw arrow refl
      | inr other ↦ rw other (ap (λ (v : List (List ℕ)). word ∷ v) (around_arrow words))
    ]

-- both parts of a line are as long as the line
pub arrow_long : (words : List (List ℕ)) → length (spaced (before_arrow words)) + length (spaced (from_arrow words)) ≡ length (spaced words)
arrow_long words =
    sym (length-append (spaced (before_arrow words)) (spaced (from_arrow words)))
    ∙ ap length (sym (spaced_append (before_arrow words) (from_arrow words)))
    ∙ ap (λ (v : List (List ℕ)). length (spaced v)) (around_arrow words)

-- the second begins with the arrow
pub arrow_first : (words : List (List ℕ)) → BeginsWithArrow (from_arrow words)
arrow_first [] = tt
arrow_first (word ∷ words) =
    cond_both (is_arrow word) _ _ BeginsWithArrow (λ arrow. arrow) (λ other. arrow_first words)

-- what holds of each word holds of each before the arrow
pub clean_before : (words : List (List ℕ)) → AreClean words → AreClean (before_arrow words)
clean_before [] all = tt
clean_before (word ∷ words) all =
    cond_both (is_arrow word) _ _ AreClean (λ arrow. tt) (λ other. (all.0, clean_before words all.1))

-- and of each from it on
pub clean_from : (words : List (List ℕ)) → AreClean words → AreClean (from_arrow words)
clean_from [] all = tt
clean_from (word ∷ words) all =
    cond_both (is_arrow word) _ _ AreClean (λ arrow. all) (λ other. clean_from words all.1)

-- the arguments of a line before what it expects
pub arguments_before : (arguments expected : List (List ℕ)) → AreWords arguments → before_arrow expected ≡ [] → before_arrow (arguments ++ expected) ≡ arguments
arguments_before [] expected all none = none
arguments_before (word ∷ arguments) expected all none =
    cond-false (is_arrow word) _ _ all.0.no_arrow ∙ ap (λ (v : List (List ℕ)). word ∷ v) (arguments_before arguments expected all.1 none)

-- what a line expects behind its arguments
pub expected_from : (arguments expected : List (List ℕ)) → AreWords arguments → from_arrow (arguments ++ expected) ≡ from_arrow expected
expected_from [] expected all = refl
expected_from (word ∷ arguments) expected all =
    cond-false (is_arrow word) _ _ all.0.no_arrow ∙ expected_from arguments expected all.1

-- the arguments and what is expected stand
pub both_stand : (arguments expected : List (List ℕ)) → AreWords arguments → AllByRecursion Stands expected → AllByRecursion Stands (arguments ++ expected)
both_stand [] expected all also = also
both_stand (word ∷ arguments) expected all also = (all.0.stands, both_stand arguments expected all.1 also)
