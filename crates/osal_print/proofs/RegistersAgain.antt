-- A register that was read is read again from its printed name, where its body names registers by their printed names.
use Rattle.std.proofs.Common.{◌≡◌, ◌<◌, ◌≤◌, ◌+◌, ◌&&◌, ℕ, suc, Bool, true, false, List, [], ◌∷◌, ◌++◌, length, eqb, ltb, bytes_eq, ⊎_elim, Option, Some, None, option_map, refl, sym, ap, subst, ◌∙◌, arith, lt-ltb, true≢false}
use Rattle.std.proofs.lemmas.Bool.{cond-true, cond-false, cond_both, ltb-true, cases_Bool}
use Rattle.std.proofs.lemmas.List.{length_push}
use Rattle.std.proofs.lemmas.Option.{none-some, same_Some}
use Rattle.osal_line.specs.Values.{register_name}
use Rattle.osal_line.specs.Registers.{Registers, register_at, register_number, numbered, place_from}
use Rattle.osal_print.specs.Shortest.{register_name as printed_name, register_text}
use Rattle.osal_print.proofs.Mirrored.{printed_names, mirrored}
use Rattle.osal_print.proofs.PrintedNames.{printed_is_name, printed_many, printed_new, printed_old}

-- a place that is found is one of the names
place_within : (at : ℕ) (names : List (List ℕ)) (name : List ℕ) (place : ℕ) → place_from at names name ≡ Some place → place < at + length names
place_within at [] name place found = absurd (none-some place found)
place_within at (other ∷ names) name place found =
    ⊎_elim
    (λ is. omega (arith, same_Some at place (sym (cond-true (bytes_eq other name) (Some at) (place_from (at + 1) names name) is) ∙ found)))
    (λ is. omega (arith, place_within (at + 1) names name place (sym (cond-false (bytes_eq other name) (Some at) (place_from (at + 1) names name) is) ∙ found)))
    (cases_Bool (bytes_eq other name))

-- the printed name of a register is read as it, and is no longer than the word that it was read from
pub record RegisterAgain (before : Registers) (word : List ℕ) (made : ℕ × Registers) : Type 0 where
  pub again : register_at (mirrored before) (register_text made.0) ≡ Some (made.0, mirrored made.1)
  pub shorter : 2 ≤ length word
  pub below : made.0 < 32
  pub few : length made.1.names ≤ 32
  pub over : before.over ≡ false

numbered_again : (registers : Registers) (k : ℕ) (o : Option ℕ) → k < 32 → place_from 0 registers.names (printed_name k) ≡ o → register_at registers (register_text k) ≡ Some (numbered registers (printed_name k) o)
numbered_again registers k o few place =
    ap (option_map (register_number registers)) (printed_is_name k few) ∙ ap (λ found. Some (numbered registers (printed_name k) found)) place

module _ (before : Registers) (word name : List ℕ) (few : length before.names ≤ 32) (long : 2 ≤ length word) where
  old_again : (place : ℕ) → place_from 0 before.names name ≡ Some place → before.over ≡ false → RegisterAgain before word (place, before)
  old_again place found told =
      let within = place_within 0 before.names name place found in
      record {
        again = numbered_again (mirrored before) place (Some place) (omega arith) (printed_old (length before.names) place (omega arith) few);
        shorter = long;
        below = omega arith;
        few = few;
        over = told;
      }

  new_again : length before.names < 32 → before.over ≡ false → RegisterAgain before word (length before.names, record before { names = before.names ++ name ∷ [] })
  new_again room told =
      let n : ℕ = length before.names in
      let many = printed_many n in
      let pushed = length_push before.names name in
      let longer : suc n ≡ length (before.names ++ name ∷ []) = omega (arith, pushed) in
      record {
        again =
            numbered_again (mirrored before) n None room (printed_new n n (omega arith) room)
            ∙ ap Some (cond-true (ltb (length (printed_names n)) 32) _ _ (lt-ltb (length (printed_names n)) 32 (omega (arith, many))) ∙ (λ i. (many i, record before { names = printed_names (longer i) })));
        shorter = long;
        below = room;
        few = omega (arith, pushed);
        over = told;
      }

  numbered_well : (o : Option ℕ) → place_from 0 before.names name ≡ o → (numbered before name o).1.over ≡ false → RegisterAgain before word (numbered before name o)
  numbered_well (Some place) found told = old_again place found told
  numbered_well None found told =
      cond_both (ltb (length before.names) 32) (length before.names, record before { names = before.names ++ name ∷ [] }) (0, record before { over = true }) (λ made. made.1.over ≡ false → RegisterAgain before word made)
      (λ room fits. new_again (ltb-true (length before.names) 32 room) fits)
      (λ full fits. absurd (true≢false fits))
      told

never : (b : Bool) → (b && false && true && true) ≡ false
never true = refl
never false = refl

two_bytes : (word name : List ℕ) → register_name word ≡ Some name → 2 ≤ length word
two_bytes [] name found = absurd (none-some name found)
two_bytes (byte ∷ []) name found = absurd (none-some name (sym (cond-false (eqb byte 36 && false && true && true) (Some []) None (never (eqb byte 36))) ∙ found))
two_bytes (byte ∷ more ∷ bytes) name found = omega arith

-- a register that was read is read again
pub register_again : (before : Registers) (word : List ℕ) (made : ℕ × Registers) → length before.names ≤ 32 → register_at before word ≡ Some made → made.1.over ≡ false → RegisterAgain before word made
register_again before word made few read told = by (register_name word) refl read
  where
    by : (o : Option (List ℕ)) → register_name word ≡ o → option_map (register_number before) o ≡ Some made → RegisterAgain before word made
    by None is read = absurd (none-some made read)
    by (Some name) is read =
        let same = same_Some (register_number before name) made read in
        subst (λ m. m.1.over ≡ false → RegisterAgain before word m) same (numbered_well before word name few (two_bytes word name is) (place_from 0 before.names name) refl) told

numbered_few : (before : Registers) (name : List ℕ) (o : Option ℕ) → length before.names ≤ 32 → length (numbered before name o).1.names ≤ 32
numbered_few before name (Some place) few = few
numbered_few before name None few =
    cond_both (ltb (length before.names) 32) (length before.names, record before { names = before.names ++ name ∷ [] }) (0, record before { over = true }) (λ (made : ℕ × Registers). length made.1.names ≤ 32)
    (λ room. omega (arith, ltb-true (length before.names) 32 room, length_push before.names name))
    (λ full. few)

-- no register that is read makes the registers too many
pub still_few : (before : Registers) (word : List ℕ) (made : ℕ × Registers) → length before.names ≤ 32 → register_at before word ≡ Some made → length made.1.names ≤ 32
still_few before word made few read = by (register_name word) read
  where
    by : (o : Option (List ℕ)) → option_map (register_number before) o ≡ Some made → length made.1.names ≤ 32
    by None read = absurd (none-some made read)
    by (Some name) read =
        subst (λ (m : ℕ × Registers). length m.1.names ≤ 32) (same_Some (register_number before name) made read)
        (numbered_few before name (place_from 0 before.names name) few)
