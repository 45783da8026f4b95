-- Lists of open waits: how many stand on an object after one comes, one goes, or some are released.
use Rattle.std.proofs.Common.{◌≡◌, ◌≤◌, ◌+◌, ◌||◌, ℕ, Bool, true, false, not, cond, List, [], ◌∷◌, ◌++◌, map, filter, find, length, Some, is_some, refl, sym, ap, ◌∙◌, arith}
use Rattle.std.specs.List.{list_any, AllByRecursion}
use Rattle.std.proofs.lemmas.Bool.{or_parts, or_from, both_ways}
use Rattle.std.proofs.lemmas.List.Folds.{list_any-append}
use Rattle.std.proofs.lemmas.List.Filters.{length-filter_both}
use Rattle.osal_object.specs.declared.waits.WaitRecord.{WaitRecord}
use Rattle.osal_idtable.specs.Sound.{AtMostOne}
use Rattle.osal_object.specs.Waits.{is_of, stands_on, count_on, released_if}
use Rattle.osal_idtable.proofs.Holding.{either}

last_fails : (b c rest : Bool) → b ≡ true → (c ≡ true → (b || rest) ≡ false) → (c || false) ≡ false
last_fails b true rest is fresh = absurd (both_ways b (or_parts b rest (fresh refl)).0 is)
last_fails b false rest is fresh = refl

module _ {E : Type 0} where
  -- where nothing is found, nothing passes
  pub none_found : (p : E → Bool) (xs : List E) → is_some (find p xs) ≡ false → list_any p xs ≡ false
  none_found p [] none = refl
  none_found p (x ∷ xs) none =
      elim (p x) as (λ b. is_some (cond b (Some x) (find p xs)) ≡ false → (b || list_any p xs) ≡ false) [
        | true ↦ λ none. none
        | false ↦ λ none. none_found p xs none
      ] none

  -- what holds of each element holds of the one that is found
  pub found_is : (P : E → Type 0) (p : E → Bool) (xs : List E) (x : E) → AllByRecursion P xs → find p xs ≡ Some x → P x
  found_is P p [] x all is = cc
  found_is P p (y ∷ xs) x all is =
      elim (p y) as (λ b. cond b (Some y) (find p xs) ≡ Some x → P x) [
        | true ↦ λ is. let same : y ≡ x = cc in rw same at all.0
        | false ↦ λ is. found_is P p xs x all.1 is
      ] is

  -- at most one element passes, also with one more where none passed before
  pub once_more : (p : E → Bool) (xs : List E) (x : E) → AtMostOne p xs → (p x ≡ true → list_any p xs ≡ false) → AtMostOne p (xs ++ x ∷ [])
  once_more p [] x once fresh = ((λ t. refl), tt)
  once_more p (y ∷ xs) x once fresh = (
    (λ t. list_any-append p xs (x ∷ []) ∙ or_from (list_any p xs) (p x || false) (once.0 t) (last_fails (p y) (p x) (list_any p xs) t fresh)),
    once_more p xs x once.1 (λ t. (or_parts (p y) (list_any p xs) (fresh t)).1),
  )

  -- what holds of each element holds of them and of one more
  pub all_more : (P : E → Type 0) (xs : List E) (x : E) → AllByRecursion P xs → P x → AllByRecursion P (xs ++ x ∷ [])
  all_more P [] x all last = (last, tt)
  all_more P (y ∷ xs) x all last = (all.0, all_more P xs x all.1 last)

  none_kept : (p f : E → Bool) (xs : List E) → list_any p xs ≡ false → list_any p (filter f xs) ≡ false
  none_kept p f [] none = refl
  none_kept p f (x ∷ xs) none =
      let parts = or_parts (p x) (list_any p xs) none in
      let rest = none_kept p f xs parts.1 in
      either (λ (ys : List E). list_any p ys ≡ false) (f x) _ _ (or_from (p x) (list_any p (filter f xs)) parts.0 rest) rest

  -- at most one of the elements that are kept passes
  pub once_kept : (p f : E → Bool) (xs : List E) → AtMostOne p xs → AtMostOne p (filter f xs)
  once_kept p f [] once = tt
  once_kept p f (x ∷ xs) once =
      let rest = once_kept p f xs once.1 in
      either (AtMostOne p) (f x) _ _ ((λ t. none_kept p f xs (once.0 t)), rest) rest

  -- what holds of each element holds of those that are kept
  pub all_kept : (P : E → Type 0) (f : E → Bool) (xs : List E) → AllByRecursion P xs → AllByRecursion P (filter f xs)
  all_kept P f [] all = tt
  all_kept P f (x ∷ xs) all =
      let rest = all_kept P f xs all.1 in either (AllByRecursion P) (f x) _ _ (all.0, rest) rest

  -- no more elements are kept than there were
  pub fewer_kept : (f : E → Bool) (xs : List E) → length (filter f xs) ≤ length xs
  fewer_kept f xs = omega (arith, length-filter_both f (λ x. not (f x)) (λ x. refl) xs)

  -- where none passes, the others are all
  pub all_others : (p : E → Bool) (xs : List E) → list_any p xs ≡ false → filter (λ x. not (p x)) xs ≡ xs
  all_others p [] none = refl
  all_others p (x ∷ xs) none =
      let parts = or_parts (p x) (list_any p xs) none in rw (parts.0, all_others p xs parts.1) refl

module _ {W : Type 0} where
  -- one for a wait that stands on an object, else none
  abbrev pub share : ℕ → WaitRecord W → ℕ
  share id wait = cond (stands_on id wait) 1 0

  -- one more wait counts where it stands
  pub count_more : (id : ℕ) (waits : List (WaitRecord W)) (wait : WaitRecord W) → count_on id (waits ++ wait ∷ []) ≡ count_on id waits + share id wait
  count_more id [] wait = omega arith
  count_more id (one ∷ waits) wait = let rest = count_more id waits wait in omega arith

  -- no more waits stand on an object than there are
  pub count_few : (id : ℕ) (waits : List (WaitRecord W)) → count_on id waits ≤ length waits
  count_few id [] = omega arith
  count_few id (one ∷ waits) =
      let rest = count_few id waits in
      let little : share id one ≤ 1 = either (λ (n : ℕ). n ≤ 1) (stands_on id one) 1 0 (omega arith) (omega arith) in
      omega arith

  -- without the wait that is found there is one less where it stood
  pub count_less : (id : ℕ) (p : WaitRecord W → Bool) (waits : List (WaitRecord W)) (wait : WaitRecord W) → AtMostOne p waits → find p waits ≡ Some wait → count_on id waits ≡ count_on id (filter (λ other. not (p other)) waits) + share id wait
  count_less id p [] wait once is = cc
  count_less id p (one ∷ waits) wait once is =
      elim (p one) as (λ b. (b ≡ true → list_any p waits ≡ false) → cond b (Some one) (find p waits) ≡ Some wait → share id one + count_on id waits ≡ count_on id (cond (not b) (one ∷ filter (λ other. not (p other)) waits) (filter (λ other. not (p other)) waits)) + share id wait) [
        | true ↦ λ alone is.
            let same : one ≡ wait = cc in
            let others = ap (count_on id) (all_others p waits (alone refl)) in
            let shares = ap (share id) same in
            omega arith
        | false ↦ λ alone is. let rest = count_less id p waits wait once.1 is in omega arith
      ] once.0 is

  module _ (test : WaitRecord W → Bool) where
    -- a wait that is released stands where it stood
    pub count_released : (id : ℕ) (waits : List (WaitRecord W)) → count_on id (map (released_if test) waits) ≡ count_on id waits
    count_released id [] = refl
    count_released id (one ∷ waits) =
        let rest = count_released id waits in
        let same : share id (released_if test one) ≡ share id one = either (λ (wait : WaitRecord W). share id wait ≡ share id one) (test one) _ _ refl refl in
        omega arith

    any_released : (task : ℕ) (waits : List (WaitRecord W)) → list_any (is_of task) (map (released_if test) waits) ≡ list_any (is_of task) waits
    any_released task [] = refl
    any_released task (one ∷ waits) =
        let same : is_of task (released_if test one) ≡ is_of task one = either (λ (wait : WaitRecord W). is_of task wait ≡ is_of task one) (test one) _ _ refl refl in
        ap (λ b. b || list_any (is_of task) (map (released_if test) waits)) same ∙ ap (λ b. is_of task one || b) (any_released task waits)

    -- a wait that is released is still its task's
    pub once_released : (task : ℕ) (waits : List (WaitRecord W)) → AtMostOne (is_of task) waits → AtMostOne (is_of task) (map (released_if test) waits)
    once_released task [] once = tt
    once_released task (one ∷ waits) once =
        let same : is_of task (released_if test one) ≡ is_of task one = either (λ (wait : WaitRecord W). is_of task wait ≡ is_of task one) (test one) _ _ refl refl in (
          (λ t. any_released task waits ∙ once.0 (sym same ∙ t)),
          once_released task waits once.1,
        )

    -- what holds of where each wait stands still does
    pub all_released : (P : List ℕ → Type 0) (waits : List (WaitRecord W)) → AllByRecursion (λ (wait : WaitRecord W). P wait.on) waits → AllByRecursion (λ (wait : WaitRecord W). P wait.on) (map (released_if test) waits)
    all_released P [] all = tt
    all_released P (one ∷ waits) all = (
      either (λ (wait : WaitRecord W). P wait.on) (test one) _ _ all.0 all.0,
      all_released P waits all.1,
    )
