-- The name of a device is a name.
use Rattle.std.proofs.Common.{◌≡◌, ◌++◌, ◌&&◌, ◌==◌, ◌≤◌, ℕ, true, false, nat_le, List, [], ◌∷◌, length, take, get_or, None, sym, ap, ◌∙◌, arith, drop_of_length-le}
use Rattle.std.specs.Prelude.{codes}
use Rattle.std.specs.Str.{bytes_eq}
use Rattle.std.proofs.lemmas.Bool.{and_parts}
use Rattle.std.proofs.lemmas.Bool.Decides.{nat_tests}
use Rattle.std.proofs.lemmas.List.{drop_more, take-append-drop}
use Rattle.std.proofs.lemmas.Slice.Eq.{bytes_eq-Decides}
use Rattle.osal_base.specs.Name.{name_fault, has_zero}
use Rattle.osal_file.specs.Systems.{is_device}

-- no digit is zero
no_zero : (digit : ℕ) → 48 ≤ digit → has_zero (codes "/ramdev" ++ digit ∷ []) ≡ false
no_zero digit above = grind (arith, nat_tests)

-- what is a device has no fault as a name
pub device_is_name : (device : List ℕ) → is_device device ≡ true → name_fault device ≡ None
device_is_name device is =
    let digit = get_or device 7 0 in
    let front = and_parts ((length device == 8) && bytes_eq (take 7 device) (codes "/ramdev")) (nat_le 48 digit && nat_le digit 57) is in
    let parts = and_parts (length device == 8) (bytes_eq (take 7 device) (codes "/ramdev")) front.0 in
    let long : length device ≡ 8 = (let t = parts.0 in grind (arith, nat_tests)) in
    let above : 48 ≤ digit = (let t = (and_parts (nat_le 48 digit) (nat_le digit 57) front.1).0 in grind (arith, nat_tests)) in
    let none : has_zero device ≡ false =
    ap has_zero (sym (take-append-drop 7 device)
    ∙ (λ i. (bytes_eq-Decides (take 7 device) (codes "/ramdev")).0 parts.1 i ++ (drop_more device 7 0 (omega arith) ∙ ap (λ l. digit ∷ l) (drop_of_length-le device {i = 8} (omega arith))) i))
    ∙ no_zero digit above in
    grind (arith, nat_tests)
