-- The lines of a text that was made of lines are these lines.
use Rattle.std.proofs.Common.{◌≡◌, ℕ, List, [], ◌∷◌, ◌++◌, true, false, eqb, flat_map, map, inl, inr, refl, ap, ◌∙◌, append_assoc}
use Rattle.std.specs.List.{list_all, AllByRecursion}
use Rattle.std.proofs.lemmas.Bool.{cond-false, and_parts}
use Rattle.std.proofs.lemmas.Bool.Decides.{eqb_tells}
use Rattle.osal_line.specs.Words.{lines_of, onto_line, is_line_byte}
use Rattle.osal_print.specs.PrintText.{line_text, ended_line}
use Rattle.osal_print.proofs.IsWord.{Stands}
use Rattle.osal_print.proofs.LineWords.{line_clean}

-- a byte that may stand in a line does not end it
no_end : (byte : ℕ) → is_line_byte byte ≡ true → eqb byte 10 ≡ false
no_end byte clean =
    elim (eqb_tells byte 10) [
      | inl end ↦ absurd (let here = ap is_line_byte end.1 in cc)
      | inr other ↦ other.0
    ]

first_line : (line rest : List ℕ) → list_all is_line_byte line ≡ true → lines_of (line ++ 10 ∷ rest) ≡ line ∷ lines_of rest
first_line [] rest clean = refl
first_line (byte ∷ line) rest clean =
    let parts = and_parts (is_line_byte byte) (list_all is_line_byte line) clean in
    cond-false (eqb byte 10) _ _ (no_end byte parts.0) ∙ ap (onto_line byte) (first_line line rest parts.1)

-- each of some lines has words that stand alone
abbrev pub LinesStand : List (List (List ℕ)) → Type 0
LinesStand lines = AllByRecursion (λ words. AllByRecursion Stands words) lines

-- the lines of their text
pub lines_again : (lines : List (List (List ℕ))) → LinesStand lines → lines_of (flat_map ended_line lines) ≡ map line_text lines
lines_again [] all = refl
lines_again (words ∷ lines) all =
    ap lines_of (append_assoc (line_text words) (10 ∷ []) (flat_map ended_line lines))
    ∙ first_line (line_text words) (flat_map ended_line lines) (line_clean words all.0)
    ∙ ap (λ (v : List (List ℕ)). line_text words ∷ v) (lines_again lines all.1)
