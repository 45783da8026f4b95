-- What it is for a text to show a value that a word was read as.
use Rattle.std.proofs.Common.{◌≡◌, ◌≤◌, ℕ, List, length, Option, Some}
use Rattle.osal_print.proofs.IsWord.{IsWord}

-- a text is read as a value, is a word, and takes no more bytes than another word
pub record Shows {A : Type 0} (read : List ℕ → Option A) (value : A) (text word : List ℕ) : Type 0 where
  pub again : read text ≡ Some value
  pub fit : IsWord text
  pub shorter : length text ≤ length word

-- what is found shows the value that it is found to be
abbrev pub Shown : {A : Type 0} → (List ℕ → Option A) → (A → List ℕ) → List ℕ → A → Option A → Type 0
Shown read text_of word value found = found ≡ Some value → Shows read value (text_of value) word
