-- A string that was read is read again as it is printed, in no more bytes.
use Rattle.std.proofs.Common.{◌≡◌, ◌<◌, ◌+◌, ℕ, true, List, [], ◌∷◌, ◌++◌, length, flat_map, Some, refl, sym, ap, ◌∙◌, arith, append_assoc, append-nil, length-append}
use Rattle.std.specs.List.{list_all, AllByRecursion}
use Rattle.std.proofs.lemmas.Bool.{and_from}
use Rattle.std.proofs.lemmas.List.Folds.{list_all-append}
use Rattle.osal_line.specs.declared.strings.StringPhase.TheVariants as string
use Rattle.osal_line.specs.declared.words.WordPhase.TheVariants as phase
use Rattle.osal_line.specs.Values.{prepended, string_from, string_of}
use Rattle.osal_line.specs.Words.{words_from, onto_word, is_line_byte}
use Rattle.osal_print.specs.Shortest.{string_byte, string_text}
use Rattle.osal_print.proofs.IsWord.{IsWord}
use Rattle.osal_print.proofs.StringBytes.{byte_again, byte_quoted, byte_clean}

-- the bytes of a string
abbrev pub AreBytes : List ℕ → Type 0
AreBytes bytes = AllByRecursion (λ byte. byte < 256) bytes

-- a printed string behind its first mark
abbrev tail : List ℕ → List ℕ
tail bytes = flat_map string_byte bytes ++ 34 ∷ []

tail_more : (byte : ℕ) (bytes : List ℕ) → tail (byte ∷ bytes) ≡ string_byte byte ++ tail bytes
tail_more byte bytes = append_assoc (string_byte byte) (flat_map string_byte bytes) (34 ∷ [])

tail_again : (bytes : List ℕ) → AreBytes bytes → string_from string.Plain (tail bytes) ≡ Some bytes
tail_again [] are = refl
tail_again (byte ∷ bytes) are =
    ap (string_from string.Plain) (tail_more byte bytes)
    ∙ byte_again byte (tail bytes) are.0
    ∙ ap (prepended byte) (tail_again bytes are.1)

tail_quoted : (bytes rest : List ℕ) (words : List (List ℕ)) → AreBytes bytes → words_from phase.Run rest ≡ [] ∷ words → words_from phase.Quoted (tail bytes ++ rest) ≡ tail bytes ∷ words
tail_quoted [] rest words are ends = ap (onto_word 34) ends
tail_quoted (byte ∷ bytes) rest words are ends =
    ap (λ (text : List ℕ). words_from phase.Quoted (text ++ rest)) (tail_more byte bytes)
    ∙ ap (words_from phase.Quoted) (append_assoc (string_byte byte) (tail bytes) rest)
    ∙ byte_quoted byte (tail bytes ++ rest) (tail bytes) words are.0 (tail_quoted bytes rest words are.1 ends)
    ∙ ap (λ (text : List ℕ). text ∷ words) (sym (tail_more byte bytes))

spelled_clean : (bytes : List ℕ) → AreBytes bytes → list_all is_line_byte (flat_map string_byte bytes) ≡ true
spelled_clean [] are = refl
spelled_clean (byte ∷ bytes) are =
    list_all-append is_line_byte (string_byte byte) (flat_map string_byte bytes)
    ∙ and_from (list_all is_line_byte (string_byte byte)) (list_all is_line_byte (flat_map string_byte bytes)) (byte_clean byte are.0) (spelled_clean bytes are.1)

-- a printed string is a word
pub string_word : (bytes : List ℕ) → AreBytes bytes → IsWord (string_text bytes)
unfolding string_text
string_word bytes are = record {
  stands = record {
    cut = λ rest. ap (onto_word 34) (tail_quoted bytes (32 ∷ rest) (words_from phase.Between rest) are refl);
    last = ap (onto_word 34) (ap (words_from phase.Quoted) (sym (append-nil (tail bytes))) ∙ tail_quoted bytes [] [] are refl);
    clean =
        list_all-append is_line_byte (flat_map string_byte bytes) (34 ∷ [])
        ∙ and_from (list_all is_line_byte (flat_map string_byte bytes)) true (spelled_clean bytes are) refl;
  };
  no_arrow = refl;
}

-- it is read as its bytes
pub string_read : (bytes : List ℕ) → AreBytes bytes → string_of (string_text bytes) ≡ Some bytes
unfolding string_text
string_read bytes are = tail_again bytes are

-- it has so many bytes
pub string_length : (bytes : List ℕ) → length (string_text bytes) ≡ length (flat_map string_byte bytes) + 2
unfolding string_text
string_length bytes = omega (arith, length-append (flat_map string_byte bytes) (34 ∷ []))
