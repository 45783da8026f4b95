-- The words of a line are those that it was made of, and it is no longer than any other line of these words.
use Rattle.std.proofs.Common.{◌≡◌, ◌≤◌, ℕ, suc, List, [], ◌∷◌, ◌++◌, length, true, refl, sym, ap, ◌∙◌, append_assoc, arith}
use Rattle.std.specs.List.{list_all, AllByRecursion}
use Rattle.std.proofs.lemmas.Bool.{cond_both, and_from, and_parts}
use Rattle.std.proofs.lemmas.List.{append-nil}
use Rattle.osal_line.specs.declared.words.WordPhase.{WordPhase}
use Rattle.osal_line.specs.declared.words.WordPhase.TheVariants as phase
use Rattle.osal_line.specs.Words.{words_from, words_of, onto_word, is_blank, is_line_byte, phase_after_first, phase_in_quotes}
use Rattle.osal_print.specs.PrintText.{spaced, line_text}
use Rattle.osal_print.proofs.IsWord.{Stands, AreClean}

-- the words of a line that was made of words
pub words_again : (words : List (List ℕ)) → AllByRecursion Stands words → words_of (line_text words) ≡ words
words_again [] all = refl
words_again (word ∷ []) all = ap (words_from phase.Between) (append-nil word) ∙ all.0.last
words_again (word ∷ next ∷ words) all =
    all.0.cut (line_text (next ∷ words)) ∙ ap (λ (v : List (List ℕ)). word ∷ v) (words_again (next ∷ words) all.1)

clean_append : (one other : List ℕ) → list_all is_line_byte one ≡ true → list_all is_line_byte other ≡ true → list_all is_line_byte (one ++ other) ≡ true
clean_append [] other clean also = also
clean_append (byte ∷ one) other clean also =
    let parts = and_parts (is_line_byte byte) (list_all is_line_byte one) clean in
    and_from (is_line_byte byte) (list_all is_line_byte (one ++ other)) parts.0 (clean_append one other parts.1 also)

spaced_clean : (words : List (List ℕ)) → AllByRecursion Stands words → list_all is_line_byte (spaced words) ≡ true
spaced_clean [] all = refl
spaced_clean (word ∷ words) all = clean_append word (spaced words) all.0.clean (spaced_clean words all.1)

-- its bytes may stand in a line
pub line_clean : (words : List (List ℕ)) → AllByRecursion Stands words → list_all is_line_byte (line_text words) ≡ true
line_clean [] all = refl
line_clean (word ∷ words) all = clean_append word (spaced words) all.0.clean (spaced_clean words all.1)

onto_longer : (byte : ℕ) (words : List (List ℕ)) → length (line_text (onto_word byte words)) ≡ suc (length (line_text words))
onto_longer byte [] = refl
onto_longer byte (word ∷ words) = refl

space_longer : (words : List (List ℕ)) → length (spaced words) ≤ suc (length (line_text words))
space_longer [] = omega arith
space_longer (word ∷ words) = omega arith

words_shorter : (at : WordPhase) (bytes : List ℕ) → length (line_text (words_from at bytes)) ≤ length bytes
words_shorter phase.Between [] = omega arith
words_shorter phase.Run [] = omega arith
words_shorter phase.Quoted [] = omega arith
words_shorter phase.Escaped [] = omega arith
words_shorter phase.Between (byte ∷ bytes) =
    let Short : List (List ℕ) → Type 0 = λ words. length (line_text words) ≤ suc (length bytes) in
    cond_both (is_blank byte) _ _ Short (λ e. omega (arith, words_shorter phase.Between bytes)) (λ e.
    omega (arith, onto_longer byte (words_from (phase_after_first byte) bytes), words_shorter (phase_after_first byte) bytes))
words_shorter phase.Run (byte ∷ bytes) =
    let Short : List (List ℕ) → Type 0 = λ words. length (line_text words) ≤ suc (length bytes) in
    cond_both (is_blank byte) _ _ Short (λ e. omega (arith, space_longer (words_from phase.Between bytes), words_shorter phase.Between bytes)) (λ e.
    omega (arith, onto_longer byte (words_from phase.Run bytes), words_shorter phase.Run bytes))
words_shorter phase.Quoted (byte ∷ bytes) =
    omega (arith, onto_longer byte (words_from (phase_in_quotes byte) bytes), words_shorter (phase_in_quotes byte) bytes)
words_shorter phase.Escaped (byte ∷ bytes) =
    omega (arith, onto_longer byte (words_from phase.Quoted bytes), words_shorter phase.Quoted bytes)

-- the words of a line, with one space between each two, are no longer than the line
pub line_shorter : (line : List ℕ) → length (line_text (words_of line)) ≤ length line
line_shorter line = words_shorter phase.Between line

onto_clean : (byte : ℕ) (words : List (List ℕ)) → is_line_byte byte ≡ true → AreClean words → AreClean (onto_word byte words)
onto_clean byte [] clean all = (and_from (is_line_byte byte) true clean refl, tt)
onto_clean byte (word ∷ words) clean all =
    (and_from (is_line_byte byte) (list_all is_line_byte word) clean all.0, all.1)

words_clean : (at : WordPhase) (bytes : List ℕ) → list_all is_line_byte bytes ≡ true → AreClean (words_from at bytes)
words_clean phase.Between [] clean = tt
words_clean phase.Run [] clean = (refl, tt)
words_clean phase.Quoted [] clean = (refl, tt)
words_clean phase.Escaped [] clean = (refl, tt)
words_clean phase.Between (byte ∷ bytes) clean =
    let parts = and_parts (is_line_byte byte) (list_all is_line_byte bytes) clean in
    cond_both (is_blank byte) _ _ AreClean (λ e. words_clean phase.Between bytes parts.1) (λ e.
    onto_clean byte (words_from (phase_after_first byte) bytes) parts.0 (words_clean (phase_after_first byte) bytes parts.1))
words_clean phase.Run (byte ∷ bytes) clean =
    let parts = and_parts (is_line_byte byte) (list_all is_line_byte bytes) clean in
    cond_both (is_blank byte) _ _ AreClean (λ e. (refl, words_clean phase.Between bytes parts.1)) (λ e.
    onto_clean byte (words_from phase.Run bytes) parts.0 (words_clean phase.Run bytes parts.1))
words_clean phase.Quoted (byte ∷ bytes) clean =
    let parts = and_parts (is_line_byte byte) (list_all is_line_byte bytes) clean in
    onto_clean byte (words_from (phase_in_quotes byte) bytes) parts.0 (words_clean (phase_in_quotes byte) bytes parts.1)
words_clean phase.Escaped (byte ∷ bytes) clean =
    let parts = and_parts (is_line_byte byte) (list_all is_line_byte bytes) clean in
    onto_clean byte (words_from phase.Quoted bytes) parts.0 (words_clean phase.Quoted bytes parts.1)

-- the bytes of the words of a line may stand in one where those of the line may
pub line_words_clean : (line : List ℕ) → list_all is_line_byte line ≡ true → AreClean (words_of line)
line_words_clean line clean = words_clean phase.Between line clean

-- the words of two lists, each behind a space
pub spaced_append : (one other : List (List ℕ)) → spaced (one ++ other) ≡ spaced one ++ spaced other
spaced_append [] other = refl
spaced_append (word ∷ one) other =
    ap (λ (v : List ℕ). 32 ∷ word ++ v) (spaced_append one other)
    ∙ ap (λ (v : List ℕ). 32 ∷ v) (sym (append_assoc word (spaced one) (spaced other)))
