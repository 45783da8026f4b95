-- A body that a line names is named again, under the name of its number.
use Rattle.std.proofs.Common.{◌≡◌, ◌≤◌, ◌&&◌, ◌||◌, ℕ, true, false, List, [], ◌∷◌, length, eqb, leb, ltb, ⊎_elim, Option, Some, None, refl, sym, ap, subst, ◌∙◌, arith, true≢false}
use Rattle.std.specs.List.{list_all}
use Rattle.std.proofs.lemmas.Bool.{cond-true, and_parts, or_cases, leb-true, ltb-true, eqb-true}
use Rattle.std.proofs.lemmas.Option.{cond_some}
use Rattle.osal_line.specs.declared.kind.BodyKind.{BodyKind}
use Rattle.osal_line.specs.Values.{is_between, is_name_byte, is_body_name}
use Rattle.osal_line.specs.Registers.{Registers, body_number, body_at}
use Rattle.osal_print.proofs.IsWord.{IsWord}
use Rattle.osal_print.proofs.Mirrored.{mirrored}
use Rattle.osal_print.proofs.Bytes.{AreBetween}
use Rattle.osal_print.proofs.Numbers.{glyphs_word}
use Rattle.osal_print.proofs.CallAgain.{SameBodies, IsFor}

within : (low high byte : ℕ) → 48 ≤ low → high ≤ 122 → is_between low high byte ≡ true → (48 ≤ byte) × (byte ≤ 122)
within low high byte above below is =
    let parts = and_parts (leb low byte) (leb byte high) is in
    let from = leb-true low byte parts.0 in
    let to = leb-true byte high parts.1 in
    (omega arith, omega arith)

name_bounds : (byte : ℕ) → is_name_byte byte ≡ true → (48 ≤ byte) × (byte ≤ 122)
name_bounds byte is =
    ⊎_elim
    (λ glyph. ⊎_elim
    (λ letter. ⊎_elim
    (λ lower. within 97 122 byte (omega arith) (omega arith) lower)
    (λ upper. within 65 90 byte (omega arith) (omega arith) upper)
    (or_cases (is_between 97 122 byte) (is_between 65 90 byte) letter))
    (λ digit. within 48 57 byte (omega arith) (omega arith) digit)
    (or_cases (is_between 97 122 byte || is_between 65 90 byte) (is_between 48 57 byte) glyph))
    (λ line. let e = eqb-true byte 95 line in (omega arith, omega arith))
    (or_cases (is_between 97 122 byte || is_between 65 90 byte || is_between 48 57 byte) (eqb byte 95) is)

names_between : (bytes : List ℕ) → list_all is_name_byte bytes ≡ true → AreBetween 48 122 bytes
names_between [] are = tt
names_between (byte ∷ bytes) are =
    let parts = and_parts (is_name_byte byte) (list_all is_name_byte bytes) are in
    (name_bounds byte parts.0, names_between bytes parts.1)

-- the name of a body is a word
pub body_word : (word : List ℕ) → is_body_name word ≡ true → IsWord word
body_word word is =
    let parts = and_parts (ltb 0 (length word) && ltb (length word) 20) (list_all is_name_byte word) is in
    let sizes = and_parts (ltb 0 (length word)) (ltb (length word) 20) parts.0 in
    glyphs_word 122 word (omega arith) (ltb-true 0 (length word) sizes.0) (names_between word parts.1)

-- a body is named again
pub record BodyAgain (printed : List ℕ → Option ℕ) (names : ℕ → List ℕ) (before : Registers) (word : List ℕ) (made : ℕ × Registers) : Type 0 where
  pub again : body_at printed (mirrored before) (names made.0) ≡ Some (made.0, mirrored made.1)
  pub body : IsFor (names made.0) word
  pub same : made.1 ≡ before

module _ (later printed : BodyKind → List ℕ → Option ℕ) (names : ℕ → List ℕ) (bodies : SameBodies later printed names) (runs : BodyKind) (before : Registers) (word : List ℕ) where
  declared_again : (number : ℕ) → is_body_name word ≡ true → later runs word ≡ Some number → BodyAgain (printed runs) names before word (number, before)
  declared_again number is there =
      let facts = bodies runs word number there in
      record {
        again =
            ap (body_at (printed runs) (mirrored before)) facts.0
            ∙ cond-true (is_body_name word) _ _ is
            ∙ ap (λ found. Some (body_number (mirrored before) found)) facts.1;
        body = record {
          fit = subst IsWord (sym facts.0) (body_word word is);
          shorter = omega (arith, ap length facts.0);
        };
        same = refl;
      }

  found_again : (o : Option ℕ) → is_body_name word ≡ true → later runs word ≡ o → (body_number before o).1.undeclared ≡ false → BodyAgain (printed runs) names before word (body_number before o)
  found_again None is there known = absurd (true≢false known)
  found_again (Some number) is there known = declared_again number is there

  pub body_again : (made : ℕ × Registers) → body_at (later runs) before word ≡ Some made → made.1.undeclared ≡ false → BodyAgain (printed runs) names before word made
  body_again made read =
      let parts = cond_some (is_body_name word) (body_number before (later runs word)) made read in
      subst (λ (m : ℕ × Registers). m.1.undeclared ≡ false → BodyAgain (printed runs) names before word m) parts.1 (found_again (later runs word) parts.0 refl)
