-- Two lists that strictly ascend and have the same members are one.
use Rattle.std.proofs.Common.{◌≡◌, Bool, true, false, map, List, [], ◌∷◌, Option, None, Some, is_some, Ordering, Less, Equal, Greater, refl, sym, ap, subst, ◌∙◌}
use Rattle.std.specs.Prelude.{T}
use Rattle.std.specs.List.{list_any, AllByRecursion}
use Rattle.std.specs.List.Sorted.{IsStrictlySortedBy}
use Rattle.std.specs.Ordering.{is_lt, eq_by_cmp}
use Rattle.std.specs.Cmp.{IsTotalOrder}
use Rattle.std.specs.FinMap as map_of
use Rattle.std.specs.FinMap.Entries.{is_sorted, below_all, is_some-find, same_entries, find}
use Rattle.std.proofs.lemmas.Bool.{and_parts, and_from}

less : (r : Ordering) → is_lt r ≡ true → r ≡ Less
less Less t = refl
less Equal t = absurd cc
less Greater t = absurd cc

true_of : (b : Bool) → T b → b ≡ true
true_of true t = refl
true_of false t = absurd t

-- a key as an entry
abbrev as_entry : {K : Type 0} → K → K × Unit {0}
as_entry key = (key, tt)

one_value : (a b : Option (Unit {0})) → is_some a ≡ is_some b → a ≡ b
one_value None None e = refl
one_value None (Some y) e = absurd cc
one_value (Some x) None e = absurd cc
one_value (Some x) (Some y) e = refl

module _ {K X : Type 0} (R : K → K → Ordering) where
  below_keys : (x : K) (es : List (K × X)) → below_all R x es ≡ true → AllByRecursion (λ y. R x y ≡ Less) (map (λ e. e.0) es)
  below_keys x [] t = tt
  below_keys x (e ∷ es) t =
      let parts = and_parts (is_lt (R x e.0)) (below_all R x es) t in (less (R x e.0) parts.0, below_keys x es parts.1)

  sorted_keys : (es : List (K × X)) → is_sorted R es ≡ true → IsStrictlySortedBy R (map (λ e. e.0) es)
  unfolding IsStrictlySortedBy
  sorted_keys [] t = tt
  sorted_keys (e ∷ es) t =
      let parts = and_parts (below_all R e.0 es) (is_sorted R es) t in (below_keys e.0 es parts.0, sorted_keys es parts.1)

  -- the keys of a finite map strictly ascend
  pub keys_ascend : (m : map_of.FinMap R X) → IsStrictlySortedBy R (map_of.keys m)
  keys_ascend m = sorted_keys (map_of.entries m) (true_of (is_sorted R (map_of.entries m)) (map_of.entries_sorted m))

keys_again : {K : Type 0} (keys : List K) → map (λ (e : K × Unit {0}). e.0) (map as_entry keys) ≡ keys
keys_again [] = refl
keys_again (key ∷ keys) = λ i. key ∷ keys_again keys i

module _ {K : Type 0} (R : K → K → Ordering) where
  below_entries : (x : K) (keys : List K) → AllByRecursion (λ y. R x y ≡ Less) keys → below_all R x (map as_entry keys) ≡ true
  below_entries x [] all = refl
  below_entries x (key ∷ keys) all =
      and_from (is_lt (R x key)) (below_all R x (map as_entry keys)) (ap is_lt all.0) (below_entries x keys all.1)

  sorted_entries : (keys : List K) → IsStrictlySortedBy R keys → is_sorted R (map as_entry keys) ≡ true
  unfolding IsStrictlySortedBy
  sorted_entries [] ascending = refl
  sorted_entries (key ∷ keys) ascending =
      and_from (below_all R key (map as_entry keys)) (is_sorted R (map as_entry keys)) (below_entries key keys ascending.0) (sorted_entries keys ascending.1)

  found_in : (q : K) (keys : List K) → is_some (find R q (map as_entry keys)) ≡ list_any (eq_by_cmp R q) keys
  found_in q keys = is_some-find R q (map as_entry keys) ∙ ap (list_any (eq_by_cmp R q)) (keys_again keys)

  -- two ascending lists in which the same is found are one
  pub same_lists : IsTotalOrder R → map_of.IsAntisymmetric R → (keys others : List K) → IsStrictlySortedBy R keys → IsStrictlySortedBy R others → ((q : K) → list_any (eq_by_cmp R q) keys ≡ list_any (eq_by_cmp R q) others) → keys ≡ others
  same_lists total ties keys others ascending also members =
      let same = same_entries R total ties (map as_entry keys) (map as_entry others)
      (subst T (sym (sorted_entries keys ascending)) tt) (subst T (sym (sorted_entries others also)) tt)
      (λ q. one_value (find R q (map as_entry keys)) (find R q (map as_entry others)) (found_in q keys ∙ members q ∙ sym (found_in q others))) in
      sym (keys_again keys) ∙ ap (map (λ (e : K × Unit {0}). e.0)) same ∙ keys_again others
