-- A node is moved with all that is below it: what that makes of the map of nodes.
use Rattle.std.proofs.Common.{◌≡◌, ◌+◌, ℕ, Bool, true, false, cond, ◌&&◌, T, is_some, List, [], ◌∷◌, ◌++◌, map as list_map, length, drop, Option, None, Some, Ordering, Less, Equal, Greater, is_lt, is_eq, refl, sym, ap, ◌∙◌, inl, inr, arith}
use Rattle.std.specs.Ordering.{eq_by_cmp}
use Rattle.std.specs.FinMap as map
use Rattle.std.specs.FinMap.Entries.{below_all, is_sorted}
use Rattle.std.proofs.lemmas.Bool.{cases_Bool, false_from_ne_true}
use Rattle.std.proofs.lemmas.List.{drop_at}
use Rattle.osal_tree.specs.declared.kind.Kind.{Kind}
use Rattle.osal_tree.specs.Paths.{path_cmp, is_within, moved}
use Rattle.osal_tree.specs.Nodes.{Nodes}
use Rattle.osal_tree.specs.Steps.{renamed}
use Rattle.osal_tree.specs.Order.{path_total}
use Rattle.osal_tree.proofs.Paths.{within_rest, within_from, clash}
use Rattle.osal_tree.proofs.Maps.{tied, untied, tied_same}
use Rattle.osal_tree.proofs.Entries.{both_ways}

abbrev pub Entry : Type 0
Entry = List (List ℕ) × Kind

-- no path of the entries is within the upper one
abbrev pub Clear : List (List ℕ) → List Entry → Type 0
Clear upper [] = Unit {0}
Clear upper (e ∷ es) = (is_within upper e.0 ≡ false) × Clear upper es

-- no path stands twice
abbrev pub Distinct : List Entry → Type 0
Distinct [] = Unit {0}
Distinct (e ∷ es) = (map.find path_cmp e.0 es ≡ None) × Distinct es

-- where nothing is found within the upper path, no entry is there
pub clear_from : (upper : List (List ℕ)) (es : List Entry) → ((q : List (List ℕ)) → is_within upper q ≡ true → map.find path_cmp q es ≡ None) → Clear upper es
clear_from upper [] none = tt
clear_from upper (e ∷ es) none = (
  false_from_ne_true (is_within upper e.0) (λ t.
      let found : Some e.1 ≡ None = sym (ap (λ b. cond b (Some e.1) (map.find path_cmp e.0 es)) (tied e.0)) ∙ none e.0 t in absurd cc),
  clear_from upper es (λ q t. rest q (eq_by_cmp path_cmp q e.0) (none q t)),
)
  where
    rest : (q : List (List ℕ)) (b : Bool) → cond b (Some e.1) (map.find path_cmp q es) ≡ None → map.find path_cmp q es ≡ None
    rest q true is = absurd cc
    rest q false is = is

lower : (r : Ordering) (rest : Bool) (there : Kind) (found : Option Kind) → T (is_lt r && rest) → (T rest → found ≡ None) → cond (is_eq r) (Some there) found ≡ None
lower Less rest there found low none = none low
lower Equal rest there found low none = absurd low
lower Greater rest there found low none = absurd low

not_found : (q : List (List ℕ)) (es : List Entry) → T (below_all path_cmp q es) → map.find path_cmp q es ≡ None
not_found q [] low = refl
not_found q (e ∷ es) low = lower (path_cmp q e.0) (below_all path_cmp q es) e.1 (map.find path_cmp q es) low (not_found q es)

-- entries in order are distinct
pub distinct_from : (es : List Entry) → T (is_sorted path_cmp es) → Distinct es
distinct_from [] up = tt
distinct_from (e ∷ es) up = let parts = both (below_all path_cmp e.0 es) (is_sorted path_cmp es) up in (not_found e.0 es parts.0, distinct_from es parts.1)
  where
    both : (a b : Bool) → T (a && b) → T a × T b
    both true b t = (tt, t)
    both false b t = absurd t

module _ (from to : List (List ℕ)) (outside : is_within from to ≡ false) where
  abbrev shift : Entry → Entry
  shift e = (moved from to e.0, e.1)

  moved_within : (k : List (List ℕ)) → is_within from k ≡ true → moved from to k ≡ to ++ drop (length from) k
  moved_within k t = ap (λ b. cond b (to ++ drop (length from) k) k) t

  moved_else : (k : List (List ℕ)) → is_within from k ≡ false → moved from to k ≡ k
  moved_else k f = ap (λ b. cond b (to ++ drop (length from) k) k) f

  -- the path from which a path within the new one was moved
  abbrev back : List (List ℕ) → List (List ℕ)
  back q = from ++ drop (length to) q

  -- what is moved is found back
  pub back_moved : (k : List (List ℕ)) → is_within from k ≡ true → back (to ++ drop (length from) k) ≡ k
  back_moved k t = ap (λ l. from ++ l) (drop_at to (drop (length from) k) (length to) refl) ∙ sym (within_rest from k t)

  tie_there : (q k : List (List ℕ)) → is_within to q ≡ true → is_within to k ≡ false → eq_by_cmp path_cmp q (moved from to k) ≡ eq_by_cmp path_cmp (back q) k
  tie_there q k t out =
      both_ways (eq_by_cmp path_cmp q (moved from to k)) (eq_by_cmp path_cmp (back q) k)
      (λ tie.
      let is = tied_same q (moved from to k) tie in
      elim (cases_Bool (is_within from k)) [
        | inl inside ↦
            let same : back q ≡ k = ap back (is ∙ moved_within k inside) ∙ back_moved k inside in
            ap (λ p. eq_by_cmp path_cmp p k) same ∙ tied k
        | inr away ↦ absurd (clash (is_within to k) (ap (is_within to) (sym (is ∙ moved_else k away)) ∙ t) out)
      ])
      (λ tie.
      let is = tied_same (back q) k tie in
      let inside : is_within from k ≡ true = within_from from k (drop (length to) q) (sym is) in
      let tail : drop (length from) k ≡ drop (length to) q = ap (drop (length from)) (sym is) ∙ drop_at from (drop (length to) q) (length from) refl in
      let same : q ≡ moved from to k = within_rest to q t ∙ ap (λ l. to ++ l) (sym tail) ∙ sym (moved_within k inside) in
      ap (eq_by_cmp path_cmp q) (sym same) ∙ tied q)

  tie_gone : (q k : List (List ℕ)) → is_within to q ≡ false → is_within from q ≡ true → eq_by_cmp path_cmp q (moved from to k) ≡ false
  tie_gone q k off inside =
      untied q (moved from to k) (λ is.
      elim (cases_Bool (is_within from k)) [
        | inl within ↦ clash (is_within to q) (within_from to q (drop (length from) k) (is ∙ moved_within k within)) off
        | inr away ↦ clash (is_within from q) inside (ap (is_within from) (is ∙ moved_else k away) ∙ away)
      ])

  tie_away : (q k : List (List ℕ)) → is_within to q ≡ false → is_within from q ≡ false → eq_by_cmp path_cmp q (moved from to k) ≡ eq_by_cmp path_cmp q k
  tie_away q k off out =
      both_ways (eq_by_cmp path_cmp q (moved from to k)) (eq_by_cmp path_cmp q k)
      (λ tie.
      let is = tied_same q (moved from to k) tie in
      elim (cases_Bool (is_within from k)) [
        | inl within ↦ absurd (clash (is_within to q) (within_from to q (drop (length from) k) (is ∙ moved_within k within)) off)
        | inr away ↦ ap (eq_by_cmp path_cmp q) (sym (moved_else k away)) ∙ tie
      ])
      (λ tie.
      let is = tied_same q k tie in
      ap (eq_by_cmp path_cmp q) (moved_else k (ap (is_within from) (sym is) ∙ out)) ∙ tie)

  -- what is found at a path after the move
  pub find_there : (q : List (List ℕ)) (es : List Entry) → Clear to es → is_within to q ≡ true → map.find path_cmp q (list_map shift es) ≡ map.find path_cmp (back q) es
  find_there q [] clear t = refl
  find_there q (e ∷ es) clear t = λ i. cond (tie_there q e.0 t clear.0 i) (Some e.1) (find_there q es clear.1 t i)

  pub find_gone : (q : List (List ℕ)) (es : List Entry) → is_within to q ≡ false → is_within from q ≡ true → map.find path_cmp q (list_map shift es) ≡ None
  find_gone q [] off inside = refl
  find_gone q (e ∷ es) off inside = ap (λ b. cond b (Some e.1) (map.find path_cmp q (list_map shift es))) (tie_gone q e.0 off inside) ∙ find_gone q es off inside

  pub find_away : (q : List (List ℕ)) (es : List Entry) → is_within to q ≡ false → is_within from q ≡ false → map.find path_cmp q (list_map shift es) ≡ map.find path_cmp q es
  find_away q [] off out = refl
  find_away q (e ∷ es) off out = λ i. cond (tie_away q e.0 off out i) (Some e.1) (find_away q es off out i)

  still_none : (k : List (List ℕ)) (es : List Entry) → is_within to k ≡ false → Clear to es → map.find path_cmp k es ≡ None → map.find path_cmp (moved from to k) (list_map shift es) ≡ None
  still_none k es out clear none =
      elim (cases_Bool (is_within from k)) [
        | inl inside ↦
            ap (λ p. map.find path_cmp p (list_map shift es)) (moved_within k inside)
            ∙ find_there (to ++ drop (length from) k) es clear (within_from to (to ++ drop (length from) k) (drop (length from) k) refl)
            ∙ ap (λ p. map.find path_cmp p es) (back_moved k inside) ∙ none
        | inr away ↦ ap (λ p. map.find path_cmp p (list_map shift es)) (moved_else k away) ∙ find_away k es out away ∙ none
      ]

  same_len : (es : List Entry) → Clear to es → Distinct es → map.len (map.from_entries {R = path_cmp} (list_map shift es)) ≡ length es
  same_len [] clear d = map.len-empty path_cmp Kind
  same_len (e ∷ es) clear d =
      map.len-insert path_total (map.from_entries (list_map shift es)) (moved from to e.0) e.1
      ∙ ap (λ o. cond (is_some o) (map.len (map.from_entries {R = path_cmp} (list_map shift es))) (map.len (map.from_entries {R = path_cmp} (list_map shift es)) + 1)) (map.get-from_entries path_total (list_map shift es) (moved from to e.0) ∙ still_none e.0 es clear.0 clear.1 d.0)
      ∙ (let rest = same_len es clear.1 d.1 in omega arith)

  module _ (nodes : Nodes) (none : (q : List (List ℕ)) → is_within to q ≡ true → map.get nodes q ≡ None) where
    clear_nodes : Clear to (map.entries nodes)
    clear_nodes = clear_from to (map.entries nodes) (λ q t. sym (map.get-entries nodes q) ∙ none q t)

    -- what stands at a path after the move
    pub renamed_there : (q : List (List ℕ)) → is_within to q ≡ true → map.get (renamed nodes from to) q ≡ map.get nodes (from ++ drop (length to) q)
    renamed_there q t =
        map.get-from_entries path_total (list_map shift (map.entries nodes)) q ∙ find_there q (map.entries nodes) clear_nodes t ∙ sym (map.get-entries nodes (back q))

    pub renamed_gone : (q : List (List ℕ)) → is_within to q ≡ false → is_within from q ≡ true → map.get (renamed nodes from to) q ≡ None
    renamed_gone q off inside =
        map.get-from_entries path_total (list_map shift (map.entries nodes)) q ∙ find_gone q (map.entries nodes) off inside

    pub renamed_away : (q : List (List ℕ)) → is_within to q ≡ false → is_within from q ≡ false → map.get (renamed nodes from to) q ≡ map.get nodes q
    renamed_away q off out =
        map.get-from_entries path_total (list_map shift (map.entries nodes)) q ∙ find_away q (map.entries nodes) off out ∙ sym (map.get-entries nodes q)

    -- as many nodes as before
    pub renamed_len : map.len (renamed nodes from to) ≡ map.len nodes
    renamed_len = same_len (map.entries nodes) clear_nodes (distinct_from (map.entries nodes) (map.entries_sorted nodes)) ∙ sym (map.len-entries nodes)
