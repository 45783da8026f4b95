-- Paths by their last name, and what stands within what.
use Rattle.std.proofs.Common.{◌≡◌, ◌⊎◌, ◌-◌, ◌≤◌, ℕ, Bool, true, false, List, [], ◌∷◌, ◌++◌, length, take, drop, get_or, length-append, append_assoc, append-nil, drop_of_length-le, ◌<◌, refl, sym, ap, subst, ◌∙◌, inl, inr, arith}
use Rattle.std.specs.Str.{bytes_eq}
use Rattle.std.specs.Cmp.Lexicographic.{pointwise}
use Rattle.std.proofs.lemmas.Bool.{cases_Bool, and_parts, and_from, false_from_ne_true}
use Rattle.std.proofs.lemmas.List.{append_cancel_left, take_at, drop_more}
use Rattle.std.proofs.lemmas.List.Prefix.{front_fits}
use Rattle.std.proofs.lemmas.Slice.Eq.{bytes_eq-Decides, slice_eq-Decides}
use Rattle.osal_tree.specs.Paths.{is_within}

pub clash : (b : Bool) → b ≡ true → b ≡ false → ⊥
clash b e f = cc

module _ {A : Type 0} where
  build : (P : List A → Type 0) → ((xs : List A) (x : A) → P xs → P (xs ++ x ∷ [])) → (xs rest : List A) → P xs → P (xs ++ rest)
  build P step xs [] p = subst P (sym (append-nil xs)) p
  build P step xs (x ∷ rest) p = subst P (append_assoc xs (x ∷ []) rest) (build P step (xs ++ x ∷ []) rest (step xs x p))

  -- a fact about lists, by what it takes to push one more
  pub by_last : (P : List A → Type 0) → P [] → ((xs : List A) (x : A) → P xs → P (xs ++ x ∷ [])) → (xs : List A) → P xs
  by_last P none step xs = build P step [] xs none

  -- a list is empty, or one that was pushed to
  pub last_cases : (xs : List A) → (xs ≡ []) ⊎ ((ys : List A) × ((x : A) × (xs ≡ ys ++ x ∷ [])))
  last_cases = by_last (λ xs. (xs ≡ []) ⊎ ((ys : List A) × ((x : A) × (xs ≡ ys ++ x ∷ [])))) (inl refl) (λ xs x _. inr (xs, (x, refl)))

  pub all_but_last : (xs : List A) (x : A) → take (length (xs ++ x ∷ []) - 1) (xs ++ x ∷ []) ≡ xs
  all_but_last xs x = take_at xs (x ∷ []) (length (xs ++ x ∷ []) - 1) (omega (arith, length-append xs (x ∷ [])))

  pub same_front : (xs ys : List A) (x y : A) → xs ++ x ∷ [] ≡ ys ++ y ∷ [] → xs ≡ ys
  same_front xs ys x y e = sym (all_but_last xs x) ∙ ap (λ l. take (length l - 1) l) e ∙ all_but_last ys y

  pub same_last : (xs ys : List A) (x y : A) → xs ++ x ∷ [] ≡ ys ++ y ∷ [] → x ≡ y
  same_last xs ys x y e =
      ap (λ l. get_or l 0 x) (append_cancel_left ys (x ∷ []) (y ∷ []) (ap (λ l. l ++ x ∷ []) (sym (same_front xs ys x y e)) ∙ e))

  pub not_empty : (xs : List A) (x : A) → xs ++ x ∷ [] ≡ [] → ⊥
  not_empty xs x e = let n = ap length e in omega (arith, length-append xs (x ∷ []))

-- paths are told apart
pub path_cases : (at other : List (List ℕ)) → (at ≡ other) ⊎ (at ≡ other → ⊥)
path_cases at other =
    let decides = slice_eq-Decides bytes_eq-Decides at other (pointwise bytes_eq at other) refl in
    elim (cases_Bool (pointwise bytes_eq at other)) [
      | inl same ↦ inl (decides.0 same)
      | inr differ ↦ inr (λ e. clash (pointwise bytes_eq at other) (decides.1 e) differ)
    ]

-- what stands within begins with the upper path
pub within_rest : (upper at : List (List ℕ)) → is_within upper at ≡ true → at ≡ upper ++ drop (length upper) at
within_rest [] at t = refl
within_rest (name ∷ upper) [] t = absurd cc
within_rest (name ∷ upper) (other ∷ at) t =
    let parts = and_parts (bytes_eq name other) (is_within upper at) t in
    λ i. sym ((bytes_eq-Decides name other).0 parts.0) i ∷ within_rest upper at parts.1 i

within_itself : (upper rest : List (List ℕ)) → is_within upper (upper ++ rest) ≡ true
within_itself [] rest = refl
within_itself (name ∷ upper) rest = and_from (bytes_eq name name) (is_within upper (upper ++ rest)) ((bytes_eq-Decides name name).1 refl) (within_itself upper rest)

pub within_from : (upper at rest : List (List ℕ)) → at ≡ upper ++ rest → is_within upper at ≡ true
within_from upper at rest is = ap (is_within upper) is ∙ within_itself upper rest

pub within_fits : (upper at : List (List ℕ)) → is_within upper at ≡ true → length upper ≤ length at
within_fits upper at t = front_fits at upper (drop (length upper) at) (within_rest upper at t)

pub within_more : (upper at rest : List (List ℕ)) → is_within upper at ≡ true → is_within upper (at ++ rest) ≡ true
within_more upper at rest t =
    within_from upper (at ++ rest) (drop (length upper) at ++ rest)
    (ap (λ l. l ++ rest) (within_rest upper at t) ∙ append_assoc upper (drop (length upper) at) rest)

-- what is not within the upper path has no part that is
pub without_front : (upper at rest : List (List ℕ)) → is_within upper (at ++ rest) ≡ false → is_within upper at ≡ false
without_front upper at rest f =
    false_from_ne_true (is_within upper at) (λ t. clash (is_within upper (at ++ rest)) (within_more upper at rest t) f)

-- of two paths that begin with a third one, one begins with the other
pub without_shorter : (upper at rest : List (List ℕ)) → upper ≡ at ++ rest → (length rest ≡ 0 → ⊥) → is_within upper at ≡ false
without_shorter upper at rest is more =
    false_from_ne_true (is_within upper at) (λ t. let fits = within_fits upper at t in let long = ap length is in more (omega (arith, length-append at rest)))

-- a path that ends first is not within
pub too_short : (upper at : List (List ℕ)) (i : ℕ) → i < length upper → length at ≤ i → is_within (drop i upper) (drop i at) ≡ false
too_short upper at i less past =
    ap (is_within (drop i upper)) (drop_of_length-le at past) ∙ ap (λ l. is_within l []) (drop_more upper i [] less)
