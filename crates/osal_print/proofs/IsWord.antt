-- Words that stand alone between blanks.
use Rattle.std.proofs.Common.{◌≡◌, ℕ, List, [], ◌∷◌, ◌++◌, true, false}
use Rattle.std.specs.List.{list_all, AllByRecursion}
use Rattle.osal_line.specs.declared.words.WordPhase.TheVariants as phase
use Rattle.osal_line.specs.Words.{words_from, is_line_byte}
use Rattle.osal_line.specs.Expectation.{is_arrow}

-- a word is cut from the words behind it, is the last of a line, and may stand in one
pub record Stands (word : List ℕ) : Type 0 where
  pub cut : (rest : List ℕ) → words_from phase.Between (word ++ 32 ∷ rest) ≡ word ∷ words_from phase.Between rest
  pub last : words_from phase.Between word ≡ word ∷ []
  pub clean : list_all is_line_byte word ≡ true

-- such a word that is not the arrow
pub record IsWord (word : List ℕ) : Type 0 where
  pub stands : Stands word
  pub no_arrow : is_arrow word ≡ false

-- each of some words is one
abbrev pub AreWords : List (List ℕ) → Type 0
AreWords words = AllByRecursion IsWord words

-- each of some words may stand in a line
abbrev pub AreClean : List (List ℕ) → Type 0
AreClean words = AllByRecursion (λ word. list_all is_line_byte word ≡ true) words
