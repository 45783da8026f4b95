-- The words of a line, one by one and about its arrow.
use Rattle.std.proofs.Common.{◌≡◌, ◌<◌, ◌+◌, ℕ, List, [], ◌∷◌, ◌++◌, length, map, take, drop, get_or, true, false, None, Bor, refl, sym, ap, ◌∙◌, append_assoc, arith}
use Rattle.std.proofs.lemmas.Bool.{cond-true, cond-false}
use Rattle.std.proofs.lemmas.List.{at_drop_more, take_more, append-nil, map-append}
use Rattle.osal_line.specs.Expectation.{before_arrow, from_arrow, is_arrow, expectation_of}

-- what the words are
abbrev pub texts : List (Bor (List ℕ)) → List (List ℕ)
texts words = map (λ word. word.now) words

-- what stands for a word behind the last
abbrev pub nowhere : Bor (List ℕ)
nowhere = record { ref_ptr = (0, 0); now = [] }

-- two words
pub two : (xs : List (Bor (List ℕ))) (d : Bor (List ℕ)) → length xs ≡ 2 → texts xs ≡ (get_or xs 0 d).now ∷ (get_or xs 1 d).now ∷ []
two [] d h = absurd (omega arith)
two (x ∷ []) d h = absurd (omega arith)
two (x ∷ y ∷ []) d h = refl
two (x ∷ y ∷ z ∷ xs) d h = absurd (omega arith)

-- three words
pub three : (xs : List (Bor (List ℕ))) (d : Bor (List ℕ)) → length xs ≡ 3 → texts xs ≡ (get_or xs 0 d).now ∷ (get_or xs 1 d).now ∷ (get_or xs 2 d).now ∷ []
three [] d h = absurd (omega arith)
three (x ∷ []) d h = absurd (omega arith)
three (x ∷ y ∷ []) d h = absurd (omega arith)
three (x ∷ y ∷ z ∷ []) d h = refl
three (x ∷ y ∷ z ∷ w ∷ xs) d h = absurd (omega arith)

-- an expectation has two or three words
pub no_expectation : (xs : List (Bor (List ℕ))) → 0 < length xs → (length xs ≡ 2 → ⊥) → (length xs ≡ 3 → ⊥) → expectation_of (texts xs) ≡ None
no_expectation [] some h k = absurd (omega arith)
no_expectation (x ∷ []) some h k = refl
no_expectation (x ∷ y ∷ []) some h k = absurd (h refl)
no_expectation (x ∷ y ∷ z ∷ []) some h k = absurd (k refl)
no_expectation (x ∷ y ∷ z ∷ w ∷ xs) some h k = refl

before_at : (xs : List (Bor (List ℕ))) (d : Bor (List ℕ)) (i : ℕ) → i < length xs → before_arrow (texts (drop i xs)) ≡ before_arrow (texts (get_or xs i d ∷ drop (i + 1) xs))
before_at xs d i within = at_drop_more (λ (ys : List (Bor (List ℕ))). before_arrow (texts ys)) xs i d within

from_at : (xs : List (Bor (List ℕ))) (d : Bor (List ℕ)) (i : ℕ) → i < length xs → from_arrow (texts (drop i xs)) ≡ from_arrow (texts (get_or xs i d ∷ drop (i + 1) xs))
from_at xs d i within = at_drop_more (λ (ys : List (Bor (List ℕ))). from_arrow (texts ys)) xs i d within

texts_more : (xs : List (Bor (List ℕ))) (d : Bor (List ℕ)) (i : ℕ) → i < length xs → texts (take (i + 1) xs) ≡ texts (take i xs) ++ (get_or xs i d).now ∷ []
texts_more xs d i within = ap texts (take_more xs i d within) ∙ map-append (λ (word : Bor (List ℕ)). word.now) (take i xs) (get_or xs i d ∷ [])

-- a word before the arrow
pub before_more : (xs : List (Bor (List ℕ))) (d : Bor (List ℕ)) (i : ℕ) → i < length xs → is_arrow (get_or xs i d).now ≡ false → before_arrow (texts xs) ≡ texts (take i xs) ++ before_arrow (texts (drop i xs)) → before_arrow (texts xs) ≡ texts (take (i + 1) xs) ++ before_arrow (texts (drop (i + 1) xs))
before_more xs d i within plain so_far =
    let x : List ℕ = (get_or xs i d).now in
    let rest : List (List ℕ) = before_arrow (texts (drop (i + 1) xs)) in
    so_far
    ∙ ap (λ (v : List (List ℕ)). texts (take i xs) ++ v) (before_at xs d i within ∙ cond-false (is_arrow x) [] (x ∷ rest) plain)
    ∙ sym (append_assoc (texts (take i xs)) (x ∷ []) rest)
    ∙ ap (λ (v : List (List ℕ)). v ++ rest) (sym (texts_more xs d i within))

-- the arrow comes behind that word
pub from_more : (xs : List (Bor (List ℕ))) (d : Bor (List ℕ)) (i : ℕ) → i < length xs → is_arrow (get_or xs i d).now ≡ false → from_arrow (texts (drop i xs)) ≡ from_arrow (texts (drop (i + 1) xs))
from_more xs d i within plain =
    from_at xs d i within ∙ cond-false (is_arrow (get_or xs i d).now) _ _ plain

-- the arrow ends the words before it
pub before_here : (xs : List (Bor (List ℕ))) (d : Bor (List ℕ)) (i : ℕ) → i < length xs → is_arrow (get_or xs i d).now ≡ true → before_arrow (texts xs) ≡ texts (take i xs) ++ before_arrow (texts (drop i xs)) → before_arrow (texts xs) ≡ texts (take i xs)
before_here xs d i within arrow so_far =
    so_far
    ∙ ap (λ (v : List (List ℕ)). texts (take i xs) ++ v) (before_at xs d i within ∙ cond-true (is_arrow (get_or xs i d).now) _ _ arrow)
    ∙ append-nil (texts (take i xs))

-- the words from the arrow on
pub from_here : (xs : List (Bor (List ℕ))) (d : Bor (List ℕ)) (i : ℕ) → i < length xs → is_arrow (get_or xs i d).now ≡ true → from_arrow (texts (drop i xs)) ≡ texts (drop i xs)
from_here xs d i within arrow =
    from_at xs d i within
    ∙ cond-true (is_arrow (get_or xs i d).now) _ _ arrow
    ∙ sym (at_drop_more texts xs i d within)
