-- The bytes of a word behind its first.
use Rattle.std.specs.Prelude.{◌≡◌, List, [], ◌∷◌, ℕ, Option, Some, None}
use Rattle.osal_line.specs.declared.words.WordPhase.{WordPhase}
use Rattle.osal_line.specs.declared.words.WordPhase.TheVariants as phase
use Rattle.osal_line.specs.Words.{words_from, onto_word}

-- the phases in which a word has begun
abbrev pub IsInside : WordPhase → Type 0
IsInside phase.Between = ⊥
IsInside phase.Run = Unit {0}
IsInside phase.Quoted = Unit {0}
IsInside phase.Escaped = Unit {0}

-- a byte belongs to the word that has begun, which goes on in that phase; or the word ends before it
abbrev pub GoesOn : WordPhase → ℕ → Option WordPhase → Type 0
GoesOn at byte (Some next) =
    IsInside next × ((rest : List ℕ) → words_from at (byte ∷ rest) ≡ onto_word byte (words_from next rest))
GoesOn at byte None =
    (rest : List ℕ) → words_from at (byte ∷ rest) ≡ [] ∷ words_from phase.Between (byte ∷ rest)
