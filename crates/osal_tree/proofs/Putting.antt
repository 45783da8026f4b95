-- Names in the order of their bytes, and one more.
use Rattle.std.proofs.Common.{◌≡◌, ◌<◌, ◌+◌, ◌||◌, ℕ, Bool, true, false, List, [], ◌∷◌, ◌++◌, length, take, drop, get_or, insert, take-append-drop, Ordering, Less, Equal, Greater, refl, sym, ap, ◌∙◌}
use Rattle.std.specs.List.{list_any, AllByRecursion}
use Rattle.std.specs.List.Sorted.{IsStrictlySortedBy}
use Rattle.std.specs.Str.{bytes_eq}
use Rattle.std.specs.Ordering.{nat_cmp, ordering_reverse}
use Rattle.std.specs.Cmp.{IsTotalOrder, nat_cmp_total}
use Rattle.std.specs.Cmp.Lexicographic.{slice_cmp, lists_total}
use Rattle.std.specs.FinMap as map
use Rattle.std.proofs.lemmas.List.{drop_more}
use Rattle.osal_tree.specs.Gathering.{by_ordering, put}

module _ (name : List ℕ) (names : List (List ℕ)) (i : ℕ) (other : List ℕ) (less : i < length names) (is : other ≡ get_or names i other) (before : put name names ≡ take i names ++ put name (drop i names)) where
  front : drop i names ≡ other ∷ drop (i + 1) names
  front = drop_more names i other less ∙ ap (λ o. o ∷ drop (i + 1) names) (sym is)

  by : (r : Ordering) → slice_cmp nat_cmp name other ≡ r → put name names ≡ take i names ++ by_ordering r (name ∷ other ∷ drop (i + 1) names) (other ∷ drop (i + 1) names) (other ∷ put name (drop (i + 1) names))
  by r e =
      before ∙ ap (λ l. take i names ++ put name l) front
      ∙ ap (λ r. take i names ++ by_ordering r (name ∷ other ∷ drop (i + 1) names) (other ∷ drop (i + 1) names) (other ∷ put name (drop (i + 1) names))) e

  -- before the first name that comes after it
  pub put_less : slice_cmp nat_cmp name other ≡ Less → put name names ≡ insert names i name
  put_less e = by Less e ∙ ap (λ l. take i names ++ name ∷ l) (sym front)

  -- nowhere, where it is there
  pub put_equal : slice_cmp nat_cmp name other ≡ Equal → put name names ≡ names
  put_equal e = by Equal e ∙ ap (λ l. take i names ++ l) (sym front) ∙ take-append-drop i names

order : IsTotalOrder (slice_cmp nat_cmp)
order = lists_total nat_cmp_total

or_again : (a x : Bool) → (a || x) ≡ (a || (a || x))
or_again true x = refl
or_again false x = refl

or_swap : (a b x : Bool) → (a || (b || x)) ≡ (b || (a || x))
or_swap true true x = refl
or_swap true false x = refl
or_swap false b x = refl

-- what is put is there, beside what was
pub any_put : (q name : List ℕ) (names : List (List ℕ)) → list_any (bytes_eq q) (put name names) ≡ (bytes_eq q name || list_any (bytes_eq q) names)
any_put q name [] = refl
any_put q name (other ∷ names) =
    elim (slice_cmp nat_cmp name other) as (λ r. slice_cmp nat_cmp name other ≡ r → list_any (bytes_eq q) (by_ordering r (name ∷ other ∷ names) (other ∷ names) (other ∷ put name names)) ≡ (bytes_eq q name || (bytes_eq q other || list_any (bytes_eq q) names))) [
      | Less ↦ λ e. refl
      | Equal ↦ λ e.
          or_again (bytes_eq q other) (list_any (bytes_eq q) names)
          ∙ ap (λ n. bytes_eq q n || (bytes_eq q other || list_any (bytes_eq q) names)) (sym (map.slice_cmp-IsAntisymmetric map.nat_cmp-IsAntisymmetric name other e))
      | Greater ↦ λ e.
          ap (λ b. bytes_eq q other || b) (any_put q name names) ∙ or_swap (bytes_eq q other) (bytes_eq q name) (list_any (bytes_eq q) names)
    ] refl

all_put : (P : List ℕ → Type 0) (name : List ℕ) (names : List (List ℕ)) → P name → AllByRecursion P names → AllByRecursion P (put name names)
all_put P name [] p all = (p, tt)
all_put P name (other ∷ names) p all =
    elim (slice_cmp nat_cmp name other) as (λ r. AllByRecursion P (by_ordering r (name ∷ other ∷ names) (other ∷ names) (other ∷ put name names))) [
      | Less ↦ (p, all)
      | Equal ↦ all
      | Greater ↦ (all.0, all_put P name names p all.1)
    ]

all_after : (name other : List ℕ) (names : List (List ℕ)) → slice_cmp nat_cmp name other ≡ Less → AllByRecursion (λ y. slice_cmp nat_cmp other y ≡ Less) names → AllByRecursion (λ y. slice_cmp nat_cmp name y ≡ Less) names
all_after name other [] e all = tt
all_after name other (next ∷ names) e all = (order.trans name other next e all.0, all_after name other names e all.1)

-- and the names still ascend
pub ascending_put : (name : List ℕ) (names : List (List ℕ)) → IsStrictlySortedBy (slice_cmp nat_cmp) names → IsStrictlySortedBy (slice_cmp nat_cmp) (put name names)
unfolding IsStrictlySortedBy
ascending_put name [] up = (tt, tt)
ascending_put name (other ∷ names) up =
    elim (slice_cmp nat_cmp name other) as (λ r. slice_cmp nat_cmp name other ≡ r → IsStrictlySortedBy (slice_cmp nat_cmp) (by_ordering r (name ∷ other ∷ names) (other ∷ names) (other ∷ put name names))) [
      | Less ↦ λ e. ((e, all_after name other names e up.0), up)
      | Equal ↦ λ e. up
      | Greater ↦ λ e. (
        all_put (λ y. slice_cmp nat_cmp other y ≡ Less) name names (order.antisymm other name ∙ ap ordering_reverse e) up.0,
        ascending_put name names up.1,
      )
    ] refl

pub ascending_none : IsStrictlySortedBy (slice_cmp nat_cmp) []
unfolding IsStrictlySortedBy
ascending_none = tt
