-- What stands under a name in some entries, and what is left of them without the first that has a name.
use Rattle.std.proofs.Common.{◌≡◌, ◌+◌, ℕ, suc, true, false, not, cond, List, [], ◌∷◌, get_or, Some, None, option_map, refl, sym, ap, ◌∙◌, arith}
use Rattle.std.specs.Ordering.{nat_cmp, eq_by_cmp}
use Rattle.std.specs.Cmp.Lexicographic.{slice_cmp}
use Rattle.std.specs.List.{slice_get, remove, position, position_or_len}
use Rattle.std.specs.Str.{bytes_eq}
use Rattle.std.proofs.lemmas.Map.Text.{is_eq-slice_cmp}
use Rattle.std.proofs.lemmas.Option.{slice_get_past, slice_get-get_or}
use Rattle.std.proofs.lemmas.Slice.Eq.{bytes_eq-Decides}
use Rattle.osal_path.specs.Entries.{found, has_name}
use Rattle.osal_path.proofs.Positions.{place_found, place_missed}

-- names tie where they are equal
pub ties : (q k : List ℕ) → eq_by_cmp (slice_cmp nat_cmp) q k ≡ bytes_eq q k
ties q k = is_eq-slice_cmp q k

-- what stands under a name, by the entry in front
pub found_more : (q : List ℕ) (e : List ℕ × ℕ) (es : List (List ℕ × ℕ)) → found q (e ∷ es) ≡ cond (has_name q e) (Some e.1) (found q es)
found_more q e es = ap (λ b. cond b (Some e.1) (found q es)) (ties q e.0)

-- names with the same bytes are equal
pub same_name : (q k : List ℕ) → bytes_eq q k ≡ true → q ≡ k
same_name q k t = (bytes_eq-Decides q k).0 t

-- a name has its own bytes
pub name_itself : (q : List ℕ) → bytes_eq q q ≡ true
name_itself q = (bytes_eq-Decides q q).1 refl

-- the entries without the first that has the name
abbrev pub without : List ℕ → List (List ℕ × ℕ) → List (List ℕ × ℕ)
without q [] = []
without q (e ∷ es) = cond (has_name q e) es (e ∷ without q es)

-- the place of the first entry with the name
abbrev place : List ℕ → List (List ℕ × ℕ) → ℕ
place q es = position_or_len (has_name q) es

one_more : (n : ℕ) → suc n ≡ 1 + n
one_more n = omega arith

found_at_place : (q : List ℕ) (es : List (List ℕ × ℕ)) → found q es ≡ option_map (λ e. e.1) (slice_get es (place q es))
found_at_place q [] = refl
found_at_place q (e ∷ es) =
    found_more q e es
    ∙ elim (has_name q e) as (λ b. cond b (Some e.1) (found q es) ≡ option_map (λ e. e.1) (slice_get (e ∷ es) (cond (not b) (1 + place q es) 0))) [
      | true ↦ refl
      | false ↦ found_at_place q es ∙ ap (λ n. option_map (λ e. e.1) (slice_get (e ∷ es) n)) (one_more (place q es))
    ]

without_place : (q : List ℕ) (es : List (List ℕ × ℕ)) → remove es (place q es) ≡ without q es
without_place q [] = refl
without_place q (e ∷ es) =
    elim (has_name q e) as (λ b. remove (e ∷ es) (cond (not b) (1 + place q es) 0) ≡ cond b es (e ∷ without q es)) [
      | true ↦ refl
      | false ↦ ap (remove (e ∷ es)) (sym (one_more (place q es))) ∙ ap (λ rest. e ∷ rest) (without_place q es)
    ]

module _ (q : List ℕ) (es : List (List ℕ × ℕ)) where
  -- an entry that is found has what stands under the name
  pub found_there : (at : ℕ) (d : List ℕ × ℕ) → position (has_name q) es ≡ Some at → found q es ≡ Some (get_or es at d).1
  found_there at d e =
      let there = place_found (has_name q) es at e in
      found_at_place q es
      ∙ ap (option_map (λ e. e.1)) (slice_get-get_or es (place q es) d there.0)
      ∙ ap (λ n. Some (get_or es n d).1) there.1

  -- nothing stands under a name that is not found
  pub found_nowhere : position (has_name q) es ≡ None → found q es ≡ None
  found_nowhere e = found_at_place q es ∙ ap (option_map (λ e. e.1)) (slice_get_past es (place q es) (place_missed (has_name q) es e))

  -- to remove the entry that is found is to leave it out
  pub removed_there : (at : ℕ) → position (has_name q) es ≡ Some at → remove es at ≡ without q es
  removed_there at e = ap (remove es) (sym (place_found (has_name q) es at e).1) ∙ without_place q es
