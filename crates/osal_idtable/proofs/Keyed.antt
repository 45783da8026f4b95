-- Keyed lists: what a finite map made of entries with distinct keys says, read off their list.
use Rattle.std.proofs.Common.{◌≡◌, ℕ, ◌+◌, ◌||◌, Bool, true, false, cond, eqb, List, [], ◌∷◌, length, Some, None, is_some, find, refl, sym, ap, ◌∙◌, arith}
use Rattle.std.specs.List.{list_any}
use Rattle.std.specs.declared.cmp.Ordering.TheVariants.{Less, Equal, Greater}
use Rattle.std.specs.Ordering.{nat_cmp, eq_by_cmp}
use Rattle.std.specs.Cmp.{nat_cmp_total}
use Rattle.std.specs.FinMap as map
use Rattle.std.specs.FinMap.Entries.{by_order}
use Rattle.std.proofs.lemmas.Bool.{or_parts}
use Rattle.std.proofs.lemmas.Bool.Decides.{nat_tests}
use Rattle.std.proofs.lemmas.List.{nil_from_length}
use Rattle.osal_idtable.specs.Sound.{AtMostOne}

-- keys tie where they are equal
pub ties : (q k : ℕ) → eq_by_cmp nat_cmp q k ≡ eqb q k
ties q k = grind (arith, nat_tests)

pub apart : (q k : ℕ) → (q ≡ k → ⊥) → eqb q k ≡ false
apart q k ne = grind (arith, nat_tests)

swap_or : (a b c : Bool) → (a || (b || c)) ≡ (b || (a || c))
swap_or true true c = refl
swap_or true false c = refl
swap_or false b c = refl

swap_cond : {A : Type 0} (a b : Bool) (x y z : A) → (a ≡ true → b ≡ true → ⊥) → cond b y (cond a x z) ≡ cond a x (cond b y z)
swap_cond true true x y z never = absurd (never refl refl)
swap_cond true false x y z never = refl
swap_cond false b x y z never = refl

not_both : (a : Bool) → a ≡ true → a ≡ false → ⊥
not_both a e f = cc

module _ {X : Type 0} where
  -- no key stands twice
  abbrev pub Distinct : List (ℕ × X) → Type 0
  Distinct [] = Unit {0}
  Distinct (e ∷ es) = (map.find nat_cmp e.0 es ≡ None) × Distinct es

  -- a key that is in front is found
  in_front : (k : ℕ) (e : ℕ × X) (es : List (ℕ × X)) → nat_cmp k e.0 ≡ Equal → map.find nat_cmp k (e ∷ es) ≡ None → ⊥
  in_front k e es same none = let found : Some e.1 ≡ None = (rw same at none) in cc

  behind : (k : ℕ) (e : ℕ × X) (es : List (ℕ × X)) → nat_cmp k e.0 ≡ Greater → map.find nat_cmp k (e ∷ es) ≡ None → map.find nat_cmp k es ≡ None
  behind k e es above none = rw above at none

  any_put : (p : ℕ × X → Bool) (k : ℕ) (v : X) (es : List (ℕ × X)) → map.find nat_cmp k es ≡ None → list_any p (map.put nat_cmp k v es) ≡ (p (k, v) || list_any p es)
  any_put p k v [] none = refl
  any_put p k v (e ∷ es) none =
      elim (nat_cmp k e.0) as (λ r. nat_cmp k e.0 ≡ r → list_any p (by_order r ((k, v) ∷ e ∷ es) ((e.0, v) ∷ es) (e ∷ map.put nat_cmp k v es)) ≡ (p (k, v) || (p e || list_any p es))) [
        | Less ↦ λ r. refl
        | Equal ↦ λ r. absurd (in_front k e es r none)
        | Greater ↦ λ r. ap (λ b. p e || b) (any_put p k v es (behind k e es r none)) ∙ swap_or (p e) (p (k, v)) (list_any p es)
      ] refl

  find_put : (p : ℕ × X → Bool) (k : ℕ) (v : X) (es : List (ℕ × X)) → map.find nat_cmp k es ≡ None → (p (k, v) ≡ true → list_any p es ≡ false) → find p (map.put nat_cmp k v es) ≡ cond (p (k, v)) (Some (k, v)) (find p es)
  find_put p k v [] none alone = refl
  find_put p k v (e ∷ es) none alone =
      elim (nat_cmp k e.0) as (λ r. nat_cmp k e.0 ≡ r → find p (by_order r ((k, v) ∷ e ∷ es) ((e.0, v) ∷ es) (e ∷ map.put nat_cmp k v es)) ≡ cond (p (k, v)) (Some (k, v)) (cond (p e) (Some e) (find p es))) [
        | Less ↦ λ r. refl
        | Equal ↦ λ r. absurd (in_front k e es r none)
        | Greater ↦ λ r.
            ap (cond (p e) (Some e)) (find_put p k v es (behind k e es r none) (λ t. (or_parts (p e) (list_any p es) (alone t)).1))
            ∙ swap_cond (p (k, v)) (p e) (Some (k, v)) (Some e) (find p es) (λ t u. not_both (p e) u (or_parts (p e) (list_any p es) (alone t)).0)
      ] refl

  no_entries : map.entries (map.empty {X = X} {R = nat_cmp}) ≡ []
  no_entries = nil_from_length _ (sym (map.len-entries (map.empty {X = X} {R = nat_cmp})) ∙ map.len-empty nat_cmp X)

  new_key : (e : ℕ × X) (es : List (ℕ × X)) → map.find nat_cmp e.0 es ≡ None → map.find nat_cmp e.0 (map.entries (map.from_entries {R = nat_cmp} es)) ≡ None
  new_key e es none = sym (map.get-entries (map.from_entries {R = nat_cmp} es) e.0) ∙ map.get-from_entries nat_cmp_total es e.0 ∙ none

  entries_more : (e : ℕ × X) (es : List (ℕ × X)) → map.entries (map.from_entries {R = nat_cmp} (e ∷ es)) ≡ map.put nat_cmp e.0 e.1 (map.entries (map.from_entries {R = nat_cmp} es))
  entries_more e es = map.entries-insert nat_cmp_total (map.from_entries es) e.0 e.1

  -- a test of any entry is one of the list
  pub any_entries : (p : ℕ × X → Bool) (es : List (ℕ × X)) → Distinct es → list_any p (map.entries (map.from_entries {R = nat_cmp} es)) ≡ list_any p es
  any_entries p [] d = ap (list_any p) no_entries
  any_entries p (e ∷ es) d =
      ap (list_any p) (entries_more e es) ∙ any_put p e.0 e.1 _ (new_key e es d.0) ∙ ap (λ b. p e || b) (any_entries p es d.1)

  -- the one entry that passes is found in either order
  pub find_entries : (p : ℕ × X → Bool) (es : List (ℕ × X)) → Distinct es → AtMostOne p es → find p (map.entries (map.from_entries {R = nat_cmp} es)) ≡ find p es
  find_entries p [] d one = ap (find p) no_entries
  find_entries p (e ∷ es) d one =
      ap (find p) (entries_more e es)
      ∙ find_put p e.0 e.1 _ (new_key e es d.0) (λ t. any_entries p es d.1 ∙ one.0 t)
      ∙ ap (cond (p e) (Some e)) (find_entries p es d.1 one.1)

  -- the map has as many entries as the list
  pub len_entries : (es : List (ℕ × X)) → Distinct es → map.len (map.from_entries {R = nat_cmp} es) ≡ length es
  len_entries [] d = map.len-empty nat_cmp X
  len_entries (e ∷ es) d =
      map.len-insert nat_cmp_total (map.from_entries es) e.0 e.1
      ∙ ap (λ o. cond (is_some o) (map.len (map.from_entries {R = nat_cmp} es)) (map.len (map.from_entries {R = nat_cmp} es) + 1)) (map.get-from_entries nat_cmp_total es e.0 ∙ d.0)
      ∙ (let rest = len_entries es d.1 in omega arith)
