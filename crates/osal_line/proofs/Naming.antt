-- The names of registers and bodies are names.
use Rattle.std.proofs.Common.{◌≡◌, ℕ, List, [], ◌∷◌, length, Bool, true, false, ◌&&◌, eqb, ltb, inl, inr, Some, None, refl, sym, ap, ◌∙◌, arith}
use Rattle.std.specs.List.{list_all}
use Rattle.std.proofs.lemmas.Bool.{cond-false}
use Rattle.std.proofs.lemmas.Bool.Decides.{nat_tests, eqb_tells}
use Rattle.std.proofs.lemmas.Option.{cond_some}
use Rattle.osal_base.specs.declared.name.NameFault.{NameFault}
use Rattle.osal_base.specs.Name.{name_fault, has_zero}
use Rattle.osal_line.specs.Values.{register_name, is_register_byte, is_body_name, is_name_byte}

first_true : (a b : Bool) → (a && b) ≡ true → a ≡ true
first_true true b h = refl
first_true false b h = cc

second_true : (a b : Bool) → (a && b) ≡ true → b ≡ true
second_true true b h = h
second_true false b h = cc

-- bytes that pass a test which zero fails hold no zero
no_zero : (test : ℕ → Bool) → test 0 ≡ false → (bytes : List ℕ) → list_all test bytes ≡ true → has_zero bytes ≡ false
no_zero test fails [] passed = refl
no_zero test fails (byte ∷ bytes) passed =
    let rest = no_zero test fails bytes (second_true (test byte) (list_all test bytes) passed) in
    let one = first_true (test byte) (list_all test bytes) passed in
    elim (eqb_tells byte 0) [
      | inl p ↦ absurd (let e = ap test p.1 in cc)
      | inr p ↦ rw p.0 rest
    ]

-- 1 to 19 such bytes are a name
sound : (test : ℕ → Bool) → test 0 ≡ false → (bytes : List ℕ) → (ltb 0 (length bytes) && ltb (length bytes) 20 && list_all test bytes) ≡ true → name_fault bytes ≡ None
sound test fails bytes passed =
    let sized = first_true (ltb 0 (length bytes) && ltb (length bytes) 20) (list_all test bytes) passed in
    let some = first_true (ltb 0 (length bytes)) (ltb (length bytes) 20) sized in
    let short = second_true (ltb 0 (length bytes)) (ltb (length bytes) 20) sized in
    let all = second_true (ltb 0 (length bytes) && ltb (length bytes) 20) (list_all test bytes) passed in
    let not_none : eqb (length bytes) 0 ≡ false = grind (arith, nat_tests) in
    let not_long : ltb 19 (length bytes) ≡ false = grind (arith, nat_tests) in
    cond-false (eqb (length bytes) 0) _ _ not_none
    ∙ cond-false (ltb 19 (length bytes)) _ _ not_long
    ∙ cond-false (has_zero bytes) _ _ (no_zero test fails bytes all)

-- the name of a body is one
pub body_is_name : (word : List ℕ) → is_body_name word ≡ true → name_fault word ≡ None
body_is_name word passed = sound is_name_byte refl word passed

-- so is that of a register
pub register_is_name : (word name : List ℕ) → register_name word ≡ Some name → name_fault name ≡ None
register_is_name [] name found = cc
register_is_name (byte ∷ bytes) name found =
    let parts = cond_some (eqb byte 36 && ltb 0 (length bytes) && ltb (length bytes) 20 && list_all is_register_byte bytes) bytes name found in
    let all = second_true (eqb byte 36 && ltb 0 (length bytes) && ltb (length bytes) 20) (list_all is_register_byte bytes) parts.0 in
    let front = first_true (eqb byte 36 && ltb 0 (length bytes) && ltb (length bytes) 20) (list_all is_register_byte bytes) parts.0 in
    let short = second_true (eqb byte 36 && ltb 0 (length bytes)) (ltb (length bytes) 20) front in
    let some = second_true (eqb byte 36) (ltb 0 (length bytes)) (first_true (eqb byte 36 && ltb 0 (length bytes)) (ltb (length bytes) 20) front) in
    let passed : (ltb 0 (length bytes) && ltb (length bytes) 20 && list_all is_register_byte bytes) ≡ true = rw (some, short, all) refl in
    let fits = sound is_register_byte refl bytes passed in
    ap name_fault (sym parts.1) ∙ fits

none_some : {A : Type 0} (x : A) → None ≡ Some x → ⊥
none_some x e = cc

-- so it has no fault
pub register_without_fault : (word name : List ℕ) (fault : NameFault) → register_name word ≡ Some name → name_fault name ≡ Some fault → ⊥
register_without_fault word name fault found wrong = none_some fault (sym (register_is_name word name found) ∙ wrong)

-- nor has the name of a body
pub body_without_fault : (word : List ℕ) (fault : NameFault) → is_body_name word ≡ true → name_fault word ≡ Some fault → ⊥
body_without_fault word fault passed wrong = none_some fault (sym (body_is_name word passed) ∙ wrong)
