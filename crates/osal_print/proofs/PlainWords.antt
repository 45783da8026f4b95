-- The words that begin lines, and the names of bodies, stand alone between blanks.
use Rattle.std.proofs.Common.{◌≡◌, ◌==◌, ◌≤◌, ◌&&◌, ℕ, List, [], ◌∷◌, length, Bool, true, false, not, Option, Some, codes, bytes_eq, eqb, leb, ltb, find, refl, sym, ap, ◌∙◌, arith}
use Rattle.std.specs.List.{list_all}
use Rattle.std.proofs.lemmas.Bool.{cond_both, and_parts, not-true, leb-true}
use Rattle.std.proofs.lemmas.Bool.Decides.{nat_tests}
use Rattle.std.proofs.lemmas.Slice.Eq.{bytes_eq-Decides}
use Rattle.osal_call.specs.declared.word.CallWord.{CallWord}
use Rattle.osal_call.specs.Signature.{word_text, call_words, call_word}
use Rattle.osal_line.specs.declared.kind.BodyKind.{BodyKind}
use Rattle.osal_line.specs.declared.kind.BodyKind.TheVariants as kind
use Rattle.osal_line.specs.Values.{is_between, is_name_byte, is_body_name}
use Rattle.osal_print.specs.PrintText.{kind_word}
use Rattle.osal_print.proofs.IsWord.{Stands}
use Rattle.osal_print.proofs.Bytes.{AreBetween, run_stands}

-- whether a word has some bytes, none of them a blank, and does not begin with a quotation mark
abbrev pub is_plain : List ℕ → Bool
is_plain [] = false
is_plain (byte ∷ word) = not (byte == 34) && list_all (is_between 33 126) (byte ∷ word)

are_between : (low high : ℕ) (bytes : List ℕ) → list_all (is_between low high) bytes ≡ true → AreBetween low high bytes
are_between low high [] all = tt
are_between low high (byte ∷ bytes) all =
    let parts = and_parts (is_between low high byte) (list_all (is_between low high) bytes) all in
    let bounds = and_parts (leb low byte) (leb byte high) parts.0 in
    ((leb-true low byte bounds.0, leb-true byte high bounds.1), are_between low high bytes parts.1)

-- such a word stands alone
pub plain_stands : (word : List ℕ) → is_plain word ≡ true → Stands word
plain_stands [] all = cc
plain_stands (byte ∷ word) all =
    let parts = and_parts (not (eqb byte 34)) (list_all (is_between 33 126) (byte ∷ word)) all in
    run_stands byte word (are_between 33 126 (byte ∷ word) parts.1) (not-true (eqb byte 34) parts.0)

-- the word with which a body begins
pub kind_stands : (runs : BodyKind) → Stands (kind_word runs)
kind_stands kind.Task = plain_stands (codes "task") refl
kind_stands kind.Handler = plain_stands (codes "handler") refl

name_byte : (byte : ℕ) → is_name_byte byte ≡ true → (33 ≤ byte) × (byte ≤ 126) × (eqb byte 34 ≡ false)
name_byte byte e = (grind (arith, nat_tests), grind (arith, nat_tests), grind (arith, nat_tests))

name_bytes : (word : List ℕ) → list_all is_name_byte word ≡ true → AreBetween 33 126 word
name_bytes [] all = tt
name_bytes (byte ∷ word) all =
    let parts = and_parts (is_name_byte byte) (list_all is_name_byte word) all in
    let one = name_byte byte parts.0 in
    ((one.0, one.1), name_bytes word parts.1)

-- the name of a body
pub name_stands : (word : List ℕ) → is_body_name word ≡ true → Stands word
name_stands [] e = cc
name_stands (byte ∷ word) e =
    let all = (and_parts (ltb 0 (length (byte ∷ word)) && ltb (length (byte ∷ word)) 20) (list_all is_name_byte (byte ∷ word)) e).1 in
    let first = (and_parts (is_name_byte byte) (list_all is_name_byte word) all).0 in
    run_stands byte word (name_bytes (byte ∷ word) all) (name_byte byte first).2

-- what is found among some, of which each passes a test, passes it and the search
found_passes : {A : Type 0} (wanted test : A → Bool) (all : List A) (one : A) → list_all test all ≡ true → find wanted all ≡ Some one → (wanted one ≡ true) × (test one ≡ true)
found_passes wanted test [] one passed e = cc
found_passes {A = A} wanted test (first ∷ all) one passed e =
    let parts = and_parts (test first) (list_all test all) passed in
    let Found : Option A → Type 0 = λ found. found ≡ Some one → (wanted one ≡ true) × (test one ≡ true) in
    cond_both (wanted first) (Some first) (find wanted all) Found (λ here same.
    let is : first ≡ one = cc in
    (ap wanted (sym is) ∙ here, ap test (sym is) ∙ parts.0)) (λ other same. found_passes wanted test all one parts.1 same) e

names_plain : list_all (λ word. is_plain (word_text word)) call_words ≡ true
names_plain = refl

-- a word that names a call is its name, and stands alone
pub call_stands : (word : List ℕ) (called : CallWord) → call_word word ≡ Some called → (word ≡ word_text called) × Stands word
call_stands word called e =
    let found = found_passes (λ other. bytes_eq word (word_text other)) (λ other. is_plain (word_text other)) call_words called names_plain e in
    let same = (bytes_eq-Decides word (word_text called)).0 found.0 in
    (same, plain_stands word (ap is_plain same ∙ found.1))
