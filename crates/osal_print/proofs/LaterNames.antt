-- A number by which a line names a later body is that of the body of that name.
use Rattle.std.proofs.Common.{◌≡◌, ◌+◌, ◌&&◌, ◌++◌, ℕ, suc, List, [], ◌∷◌, Bool, true, false, Option, Some, None, length, map, option_map, bytes_eq, refl, sym, ap, ◌∙◌, arith, add-one, length-append}
use Rattle.std.specs.List.{slice_get}
use Rattle.std.proofs.lemmas.Bool.{and_parts}
use Rattle.std.proofs.lemmas.List.{length-map}
use Rattle.std.proofs.lemmas.Option.{slice_get-map}
use Rattle.std.proofs.lemmas.Slice.Eq.{bytes_eq-Decides}
use Rattle.osal_line.specs.declared.kind.BodyKind.{BodyKind}
use Rattle.osal_line.specs.Declarations.{Declared, is_kind, one_further, last_place, later_number}
use Rattle.osal_script.specs.App.{ScriptBody, Application}
use Rattle.osal_reading.specs.Draft.{OpenBody, one_of, begun}
use Rattle.osal_print.specs.PrintText.{name_found, body_name}
use Rattle.osal_print.proofs.LineKinds.{behind}
use Rattle.osal_print.proofs.Declared.{declared_body, declared_open, begun_bodies}

-- the name of what declares a body
abbrev declared_name : Option Declared → List ℕ
declared_name None = []
declared_name (Some body) = body.name

further_named : (other : Declared) (bodies : List Declared) (name : List ℕ) (here : Bool) (found : Option ℕ) (place : ℕ) → (here ≡ true → other.name ≡ name) → ((p : ℕ) → found ≡ Some p → declared_name (slice_get bodies p) ≡ name) → one_further here found ≡ Some place → declared_name (slice_get (other ∷ bodies) place) ≡ name
further_named other bodies name here (Some p) place same rest e =
    let place-is : p + 1 ≡ place = cc in
    ap (λ (n : ℕ). declared_name (slice_get (other ∷ bodies) n)) (sym place-is ∙ add-one p) ∙ rest p refl
further_named other bodies name true None place same rest e =
    let place-is : 0 ≡ place = cc in
    ap (λ (n : ℕ). declared_name (slice_get (other ∷ bodies) n)) (sym place-is) ∙ same refl
further_named other bodies name false None place same rest e = cc

place_named : (bodies : List Declared) (runs : BodyKind) (name : List ℕ) (place : ℕ) → last_place bodies runs name ≡ Some place → declared_name (slice_get bodies place) ≡ name
place_named [] runs name place e = cc
place_named (other ∷ bodies) runs name place e =
    let here : Bool = is_kind other.kind runs && bytes_eq other.name name in
    further_named other bodies name here (last_place bodies runs name) place (λ is.
    (bytes_eq-Decides other.name name).0 ((and_parts (is_kind other.kind runs) (bytes_eq other.name name) is).1)) (λ p.
    place_named bodies runs name p) e

behind_front : (front rest : List Declared) (p : ℕ) → slice_get (front ++ rest) (length front + p) ≡ slice_get rest p
behind_front [] rest p = ap (slice_get rest) (omega arith)
behind_front (other ∷ front) rest p =
    let one : length (other ∷ front) + p ≡ suc (length front + p) = omega arith in
    ap (slice_get (other ∷ front ++ rest)) one ∙ behind_front front rest p

name_declared : (found : Option ScriptBody) → name_found found ≡ declared_name (option_map declared_body found)
name_declared None = refl
name_declared (Some body) = refl

number_named : (app : Application) (front rest : List Declared) (first number : ℕ) (found : Option ℕ) (word : List ℕ) → map declared_body app.bodies ≡ front ++ rest → length front ≡ first → ((p : ℕ) → found ≡ Some p → declared_name (slice_get rest p) ≡ word) → option_map (λ place. first + place) found ≡ Some number → body_name app number ≡ word
number_named app front rest first number None word all long named e = cc
number_named app front rest first number (Some p) word all long named e =
    let first-is : first + p ≡ number = cc in
    let number-is : number ≡ length front + p = omega (arith, long, first-is) in
    name_declared (slice_get app.bodies number)
    ∙ ap declared_name (sym (slice_get-map declared_body app.bodies number))
    ∙ ap (λ (v : List Declared). declared_name (slice_get v number)) all
    ∙ ap (λ (n : ℕ). declared_name (slice_get (front ++ rest) n)) number-is
    ∙ ap declared_name (behind_front front rest p)
    ∙ named p refl

open_long : (current : Option OpenBody) → length (declared_open current) ≡ one_of current
open_long None = refl
open_long (Some body) = refl

-- so many bodies have begun
begun_long : (bodies : List ScriptBody) (current : Option OpenBody) → length (begun_bodies bodies current) ≡ begun (behind bodies current)
begun_long bodies current =
    omega (arith, length-append (map declared_body bodies) (declared_open current), length-map bodies declared_body, open_long current)

-- the name of a body by its number among the later ones
pub later_named : (app : Application) (bodies : List ScriptBody) (current : Option OpenBody) (rest : List Declared) (runs : BodyKind) (word : List ℕ) (number : ℕ) → map declared_body app.bodies ≡ begun_bodies bodies current ++ rest → later_number (begun (behind bodies current)) rest runs word ≡ Some number → body_name app number ≡ word
later_named app bodies current rest runs word number all e =
    number_named app (begun_bodies bodies current) rest (begun (behind bodies current)) number (last_place rest runs word) word all (begun_long bodies current) (λ p. place_named rest runs word p) e
