-- The first file of a name: its place agrees with the look-up by name.
use Rattle.std.proofs.Common.{◌≡◌, ℕ, suc, ◌+◌, Bool, true, false, cond, List, [], ◌∷◌, length, nat_lt, Option, Some, None, IfSome, IfNone, refl, sym, subst, arith}
use Rattle.std.proofs.lemmas.Bool.Decides.{nat_tests}
use Rattle.std.specs.Prelude.{position, String}
use Rattle.std.specs.List.{position_or_len}
use Rattle.std.specs.declared.alloc.Global.{Global}
use Rattle.osal_base.specs.Text.{Text}
use Rattle.osal_outside.specs.Memory.{stored, found, is_named, bytes_at}

-- what the look-up gives where the first file of that name is in this place
abbrev pub Agrees : List (String Global × Text) → List ℕ → Option ℕ → Type 0
Agrees files name (Some place) = found (stored files) name ≡ Some (bytes_at files place)
Agrees files name None = found (stored files) name ≡ None

-- a place among the later files, as one among all
shifted : (n : ℕ) (file : String Global × Text) (files : List (String Global × Text)) → nat_lt (1 + n) (length (file ∷ files)) ≡ nat_lt n (length files)
shifted n file files = grind (arith, nat_tests)

-- the first place is one of a list that is not empty
first : (file : String Global × Text) (files : List (String Global × Text)) → nat_lt 0 (length (file ∷ files)) ≡ true
first file files = grind (arith, nat_tests)

-- a file of another name stands in front
after_other : (file : String Global × Text) (files : List (String Global × Text)) (name : List ℕ) (b : Bool) (n : ℕ) → is_named name file ≡ false → Agrees files name (cond b (Some n) None) → Agrees (file ∷ files) name (cond b (Some (suc n)) None)
after_other file files name true n other here = rw other here
after_other file files name false n other here = rw other here

-- the file in front, by whether it has the name
with_front : (file : String Global × Text) (files : List (String Global × Text)) (name : List ℕ) (b : Bool) → is_named name file ≡ b → Agrees files name (position (is_named name) files) → Agrees (file ∷ files) name (position (is_named name) (file ∷ files))
with_front file files name true named here =
    let front : Agrees (file ∷ files) name (Some 0) = rw named refl in
    rw (named, first file files) front
with_front file files name false other here =
    let e : 1 + position_or_len (is_named name) files ≡ suc (position_or_len (is_named name) files) = omega arith in
    rw (other, shifted (position_or_len (is_named name) files) file files, e) (after_other file files name (nat_lt (position_or_len (is_named name) files) (length files)) (position_or_len (is_named name) files) other here)

-- the first place of a name agrees with the look-up
pub agrees : (files : List (String Global × Text)) (name : List ℕ) → Agrees files name (position (is_named name) files)
agrees [] name = refl
agrees (file ∷ files) name = with_front file files name (is_named name file) refl (agrees files name)

-- the place, where there is one
pub there : (files : List (String Global × Text)) (name : List ℕ) (place : Option ℕ) → place ≡ position (is_named name) files → IfSome place (λ p. found (stored files) name ≡ Some (bytes_at files p))
there files name (Some p) e = subst (Agrees files name) (sym e) (agrees files name)
there files name None e = tt

-- no place
pub nowhere : (files : List (String Global × Text)) (name : List ℕ) (place : Option ℕ) → place ≡ position (is_named name) files → IfNone place (found (stored files) name ≡ None)
nowhere files name (Some p) e = tt
nowhere files name None e = subst (Agrees files name) (sym e) (agrees files name)
