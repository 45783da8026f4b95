-- What it is for a call line to be read again from its printed words.
use Rattle.std.proofs.Common.{◌≡◌, ◌≤◌, ℕ, List, [], ◌∷◌, length, false, Option, Some, None, option_and_then, option_map, refl, arith}
use Rattle.osal_call.specs.declared.word.CallWord.{CallWord}
use Rattle.osal_line.specs.declared.kind.BodyKind.{BodyKind}
use Rattle.osal_line.specs.declared.line.ScriptCall.{ScriptCall}
use Rattle.osal_line.specs.Registers.{Registers}
use Rattle.osal_line.specs.Calls.{word_of}
use Rattle.osal_line.specs.Grammar.{call_of_words}
use Rattle.osal_print.specs.Words.{argument_words}
use Rattle.osal_print.specs.PrintText.{spaced}
use Rattle.osal_print.proofs.IsWord.{IsWord, AreWords}
use Rattle.osal_print.proofs.Shown.{Shows}
use Rattle.osal_print.proofs.Mirrored.{mirrored}
use Rattle.osal_print.proofs.Spaces.{spaced_shorter}

-- where later lines of the text declare a body of a number under a name, the printed text declares it under the name
-- that it has for the number, which is the same
abbrev pub SameBodies : (BodyKind → List ℕ → Option ℕ) → (BodyKind → List ℕ → Option ℕ) → (ℕ → List ℕ) → Type 0
SameBodies later printed names =
    (kind : BodyKind) (word : List ℕ) (number : ℕ) → later kind word ≡ Some number → (names number ≡ word) × (printed kind word ≡ Some number)

-- the printed words of a call are read as it, stand alone, and take no more bytes than those that it was read from
pub record CallAgain (printed : BodyKind → List ℕ → Option ℕ) (names : ℕ → List ℕ) (called : CallWord) (words : List (List ℕ)) (before after : Registers) (call : ScriptCall) : Type 0 where
  pub again : call_of_words printed called (argument_words names call) (mirrored before) ≡ Some (call, mirrored after)
  pub word : word_of call ≡ called
  pub shorter : length (spaced (argument_words names call)) ≤ length (spaced words)
  pub fit : AreWords (argument_words names call)
  pub few : length after.names ≤ 32

-- what was read is read again, unless a line named one register too many, or a body that no later line declares
abbrev pub IsReadAgain : (BodyKind → List ℕ → Option ℕ) → (ℕ → List ℕ) → CallWord → List (List ℕ) → Registers → Option (ScriptCall × Registers) → Type 0
IsReadAgain printed names called words before None = Unit {0}
IsReadAgain printed names called words before (Some made) =
    made.1.over ≡ false → made.1.undeclared ≡ false → CallAgain printed names called words before made.1 made.0

-- what holds of each value that may be there holds of what follows from it
pub given : {A B : Type 0} (P : Option B → Type 0) (o : Option A) (f : A → Option B) → P None → ((a : A) → o ≡ Some a → P (f a)) → P (option_and_then f o)
given P None f none some = none
given P (Some a) f none some = some a refl

-- the same where a value is made of it
pub mapped : {A B : Type 0} (P : Option B → Type 0) (o : Option A) (f : A → B) → P None → ((a : A) → o ≡ Some a → P (Some (f a))) → P (option_map f o)
mapped P None f none some = none
mapped P (Some a) f none some = some a refl

-- a word is one, and no longer than another
pub record IsFor (text word : List ℕ) : Type 0 where
  pub fit : IsWord text
  pub shorter : length text ≤ length word

-- so is the text that shows a value
pub is_for : {A : Type 0} {read : List ℕ → Option A} {value : A} (text word : List ℕ) → Shows read value text word → IsFor text word
is_for text word shows = record { fit = shows.fit; shorter = shows.shorter }

-- some words are words, and each is no longer than its other
abbrev pub AreFor : List (List ℕ) → List (List ℕ) → Type 0
AreFor [] [] = Unit {0}
AreFor (text ∷ texts) (word ∷ words) = IsFor text word × AreFor texts words
AreFor texts words = ⊥

-- they take no more bytes
pub for_shorter : (texts words : List (List ℕ)) → AreFor texts words → length (spaced texts) ≤ length (spaced words)
for_shorter [] [] are = omega arith
for_shorter [] (word ∷ words) are = absurd are
for_shorter (text ∷ texts) [] are = absurd are
for_shorter (text ∷ texts) (word ∷ words) are =
    spaced_shorter text word texts words are.0.shorter (for_shorter texts words are.1)

-- they are words
pub for_words : (texts words : List (List ℕ)) → AreFor texts words → AreWords texts
for_words [] [] are = tt
for_words [] (word ∷ words) are = tt
for_words (text ∷ texts) [] are = absurd are
for_words (text ∷ texts) (word ∷ words) are = (are.0.fit, for_words texts words are.1)

-- a call whose words are for those that it was read from
pub call_for : (printed : BodyKind → List ℕ → Option ℕ) (names : ℕ → List ℕ) (called : CallWord) (words : List (List ℕ)) (before after : Registers) (call : ScriptCall) → word_of call ≡ called → length after.names ≤ 32 → AreFor (argument_words names call) words → call_of_words printed called (argument_words names call) (mirrored before) ≡ Some (call, mirrored after) → CallAgain printed names called words before after call
call_for printed names called words before after call word few are again = record {
  again = again;
  word = word;
  shorter = for_shorter (argument_words names call) words are;
  fit = for_words (argument_words names call) words are;
  few = few;
}
