-- A word is read byte by byte, behind the blanks before it.
use Rattle.std.proofs.Common.{◌≡◌, ◌<◌, ◌≤◌, ◌+◌, ℕ, suc, List, [], ◌∷◌, ◌++◌, length, take, drop, get_or, Bool, true, false, cond, Some, None, refl, sym, ap, ◌∙◌, append_assoc}
use Rattle.std.proofs.Math.Numerals.{add-one}
use Rattle.std.proofs.lemmas.Bool.{cond-true, cond-false}
use Rattle.std.proofs.lemmas.List.{at_drop_more, at_drop_all, take_more, append-nil}
use Rattle.osal_line.specs.declared.words.WordPhase.{WordPhase}
use Rattle.osal_line.specs.declared.words.WordPhase.TheVariants as phase
use Rattle.osal_line.specs.Words.{words_from, words_of, onto_word, is_blank, phase_after_first, phase_in_quotes}
use Rattle.osal_line.specs.Inside.{IsInside, GoesOn}

-- some bytes at the front of the first word
abbrev pub onto_front : List ℕ → List (List ℕ) → List (List ℕ)
onto_front front [] = front ∷ []
onto_front front (word ∷ words) = (front ++ word) ∷ words

-- a choice between two lists that have the property has it
either : {X : Type 0} (P : X → Type 0) (b : Bool) (x y : X) → P x → P y → P (cond b x y)
either P true x y p q = p
either P false x y p q = q

front_of_word : (byte : ℕ) (words : List (List ℕ)) → onto_front [] (onto_word byte words) ≡ onto_word byte words
front_of_word byte [] = refl
front_of_word byte (word ∷ words) = refl

-- no bytes are read of a word that has begun
pub front_none : (at : WordPhase) (bytes : List ℕ) → IsInside at → words_from at bytes ≡ onto_front [] (words_from at bytes)
front_none phase.Between bytes inside = absurd inside
front_none phase.Run [] inside = refl
front_none phase.Quoted [] inside = refl
front_none phase.Escaped [] inside = refl
front_none phase.Run (byte ∷ bytes) inside =
    either (λ (ws : List (List ℕ)). ws ≡ onto_front [] ws) (is_blank byte) _ _ refl (sym (front_of_word byte (words_from phase.Run bytes)))
front_none phase.Quoted (byte ∷ bytes) inside = sym (front_of_word byte (words_from (phase_in_quotes byte) bytes))
front_none phase.Escaped (byte ∷ bytes) inside = sym (front_of_word byte (words_from phase.Quoted bytes))

front_push : (front : List ℕ) (byte : ℕ) (words : List (List ℕ)) → onto_front front (onto_word byte words) ≡ onto_front (front ++ byte ∷ []) words
front_push front byte [] = refl
front_push front byte (word ∷ words) = ap (λ (v : List ℕ). v ∷ words) (sym (append_assoc front (byte ∷ []) word))

-- one more byte is read of a word
pub front_more : (first at next : WordPhase) (bytes : List ℕ) (i : ℕ) → i < length bytes → words_from first bytes ≡ onto_front (take i bytes) (words_from at (drop i bytes)) → GoesOn at (get_or bytes i 0) (Some next) → words_from first bytes ≡ onto_front (take (i + 1) bytes) (words_from next (drop (i + 1) bytes))
front_more first at next bytes i within so_far goes =
    so_far
    ∙ ap (onto_front (take i bytes)) (at_drop_more (words_from at) bytes i 0 within ∙ goes.1 (drop (i + 1) bytes))
    ∙ front_push (take i bytes) (get_or bytes i 0) (words_from next (drop (i + 1) bytes))
    ∙ ap (λ (v : List ℕ). onto_front v (words_from next (drop (i + 1) bytes))) (sym (take_more bytes i 0 within))

-- a word ends before a byte
pub word_ends : (first at : WordPhase) (bytes : List ℕ) (i : ℕ) → i < length bytes → words_from first bytes ≡ onto_front (take i bytes) (words_from at (drop i bytes)) → GoesOn at (get_or bytes i 0) None → words_from first bytes ≡ take i bytes ∷ words_from phase.Between (drop i bytes)
word_ends first at bytes i within so_far goes =
    so_far
    ∙ ap (onto_front (take i bytes)) (at_drop_more (words_from at) bytes i 0 within ∙ goes (drop (i + 1) bytes))
    ∙ ap (λ (v : List ℕ). v ∷ words_from phase.Between (get_or bytes i 0 ∷ drop (i + 1) bytes)) (append-nil (take i bytes))
    ∙ ap (λ (v : List (List ℕ)). take i bytes ∷ v) (sym (at_drop_more (words_from phase.Between) bytes i 0 within))

last_of : (at : WordPhase) → IsInside at → words_from at [] ≡ [] ∷ []
last_of phase.Between inside = absurd inside
last_of phase.Run inside = refl
last_of phase.Quoted inside = refl
last_of phase.Escaped inside = refl

-- a word ends with its line
pub word_ends_line : (first at : WordPhase) (bytes : List ℕ) (i : ℕ) → length bytes ≤ i → IsInside at → words_from first bytes ≡ onto_front (take i bytes) (words_from at (drop i bytes)) → words_from first bytes ≡ take i bytes ∷ words_from phase.Between (drop i bytes)
word_ends_line first at bytes i past inside so_far =
    so_far
    ∙ ap (onto_front (take i bytes)) (at_drop_all (words_from at) bytes i past ∙ last_of at inside)
    ∙ ap (λ (v : List ℕ). v ∷ []) (append-nil (take i bytes))
    ∙ ap (λ (v : List (List ℕ)). take i bytes ∷ v) (sym (at_drop_all (words_from phase.Between) bytes i past))

-- a blank is skipped
pub blank_skipped : (line : List ℕ) (i : ℕ) → i < length line → is_blank (get_or line i 0) ≡ true → words_of (drop i line) ≡ words_of (drop (i + 1) line)
blank_skipped line i within blank = at_drop_more words_of line i 0 within ∙ cond-true (is_blank (get_or line i 0)) _ _ blank

-- the word that begins at a byte that is no blank
pub word_at : (line : List ℕ) (start more : ℕ) → start < length line → is_blank (get_or line start 0) ≡ false → words_from (phase_after_first (get_or line start 0)) (drop (start + 1) line) ≡ take more (drop (start + 1) line) ∷ words_from phase.Between (drop more (drop (start + 1) line)) → words_of (drop start line) ≡ take (suc more) (drop start line) ∷ words_of (drop more (drop (start + 1) line))
word_at line start more within solid rest =
    at_drop_more words_of line start 0 within
    ∙ cond-false (is_blank (get_or line start 0)) _ _ solid
    ∙ ap (onto_word (get_or line start 0)) rest
    ∙ ap (λ (v : List ℕ). v ∷ words_of (drop more (drop (start + 1) line))) (sym (at_drop_more (take (suc more)) line start 0 within))

-- the first word of a line and what comes after it, found in steps
pub word_found : (line word after tail : List ℕ) (first : WordPhase) (start more : ℕ) → start < length line → words_of line ≡ words_of (drop start line) → is_blank (get_or line start 0) ≡ false → first ≡ phase_after_first (get_or line start 0) → tail ≡ drop (start + 1) line → words_from first tail ≡ take more tail ∷ words_from phase.Between (drop more tail) → word ≡ take (more + 1) (drop start line) → after ≡ drop more tail → words_of line ≡ word ∷ words_of after
word_found line word after tail first start more within skipped solid first-is tail-is rest word-is after-is =
    let read : words_from (phase_after_first (get_or line start 0)) (drop (start + 1) line) ≡ take more (drop (start + 1) line) ∷ words_from phase.Between (drop more (drop (start + 1) line)) = cc in
    let found = word_at line start more within solid read in
    let same : more + 1 ≡ suc more = add-one more in
    skipped ∙ found ∙ cc
