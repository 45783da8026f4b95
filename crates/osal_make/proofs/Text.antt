-- The lines of a text that was made of lines are these lines.
use Rattle.std.proofs.Common.{◌≡◌, ℕ, List, [], ◌∷◌, ◌++◌, true, false, eqb, flat_map, inl, inr, refl, ap, ◌∙◌}
use Rattle.std.specs.List.{list_all, AllByRecursion}
use Rattle.std.proofs.lemmas.Bool.{cond-false, and_parts}
use Rattle.std.proofs.lemmas.Bool.Decides.{eqb_tells}
use Rattle.osal_line.specs.Words.{lines_of, onto_line, is_line_byte}
use Rattle.osal_make.specs.MakeText.{ended_line}
use Rattle.osal_make.proofs.Forms.{Form, HasWords}

-- a byte that may stand in a line does not end it
no_end : (byte : ℕ) → is_line_byte byte ≡ true → eqb byte 10 ≡ false
no_end byte clean =
    elim (eqb_tells byte 10) [
      | inl end ↦ absurd (let here = ap is_line_byte end.1 in cc)
      | inr other ↦ other.0
    ]

first_line : (line rest : List ℕ) → list_all is_line_byte line ≡ true → lines_of (ended_line line ++ rest) ≡ line ∷ lines_of rest
first_line [] rest clean = refl
first_line (byte ∷ line) rest clean =
    let parts = and_parts (is_line_byte byte) (list_all is_line_byte line) clean in
    cond-false (eqb byte 10) _ _ (no_end byte parts.0) ∙ ap (onto_line byte) (first_line line rest parts.1)

-- each of some lines can be read
abbrev pub AreClean : List (List ℕ) → Type 0
AreClean lines = AllByRecursion (λ line. list_all is_line_byte line ≡ true) lines

-- the lines of their text
pub lines_again : (lines : List (List ℕ)) → AreClean lines → lines_of (flat_map ended_line lines) ≡ lines
lines_again [] clean = refl
lines_again (line ∷ lines) clean =
    first_line line (flat_map ended_line lines) clean.0 ∙ ap (λ (v : List (List ℕ)). line ∷ v) (lines_again lines clean.1)

-- a line that has words can be read
pub clean_line : (line : List ℕ) (words : List (List ℕ)) → HasWords line words → list_all is_line_byte line ≡ true
clean_line line words form = ap (λ (f : Form). f.clean) form

-- so can some lines and some more
pub clean_append : (lines more : List (List ℕ)) → AreClean lines → AreClean more → AreClean (lines ++ more)
clean_append [] more clean also = also
clean_append (line ∷ lines) more clean also = (clean.0, clean_append lines more clean.1 also)
