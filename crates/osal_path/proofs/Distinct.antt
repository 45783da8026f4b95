-- Entries of which no two have one name: what is found after one is pushed or left out.
use Rattle.std.proofs.Common.{◌≡◌, ℕ, Bool, true, false, cond, List, [], ◌∷◌, ◌++◌, Option, Some, None, refl, sym, ap, ◌∙◌}
use Rattle.std.specs.Ordering.{nat_cmp}
use Rattle.std.specs.Cmp.Lexicographic.{slice_cmp, nat_list_cmp_total}
use Rattle.std.specs.Str.{bytes_eq}
use Rattle.std.specs.FinMap.Entries.{find-append}
use Rattle.std.proofs.lemmas.Slice.Eq.{bytes_eq-Decides}
use Rattle.osal_path.specs.Entries.{found, has_name, Distinct}
use Rattle.osal_path.proofs.Named.{ties, found_more, same_name, without}

-- a test is not both true and false
not_both : (b : Bool) → b ≡ true → b ≡ false → ⊥
not_both b t f = cc

swapped : {A : Type 0} (a b : Bool) (x y z : A) → (a ≡ true → b ≡ true → ⊥) → cond a x (cond b y z) ≡ cond b y (cond a x z)
swapped true true x y z never = absurd (never refl refl)
swapped true false x y z never = refl
swapped false b x y z never = refl

none_either : {A : Type 0} (b : Bool) → cond {A = Option A} b None None ≡ None
none_either true = refl
none_either false = refl

no_front : {A : Type 0} (b : Bool) (v : A) (o : Option A) → cond b (Some v) o ≡ None → (b ≡ false) × (o ≡ None)
no_front true v o e = cc
no_front false v o e = (refl, e)

turned : (q k : List ℕ) → bytes_eq q k ≡ false → bytes_eq k q ≡ false
turned q k f =
    elim (bytes_eq k q) as (λ b. bytes_eq k q ≡ b → b ≡ false) [
      | true ↦ λ t. absurd (not_both (bytes_eq q k) ((bytes_eq-Decides q k).1 (sym (same_name k q t))) f)
      | false ↦ λ t. refl
    ] refl

-- behind the entry that has the name, nothing stands under it
behind : (k : List ℕ) (e : List ℕ × ℕ) (es : List (List ℕ × ℕ)) → found e.0 es ≡ None → found k es ≡ cond (bytes_eq k e.0) None (found k (e ∷ es))
behind k e es alone =
    elim (bytes_eq k e.0) as (λ b. bytes_eq k e.0 ≡ b → found k es ≡ cond b None (cond b (Some e.1) (found k es))) [
      | true ↦ λ t. ap (λ n. found n es) (same_name k e.0 t) ∙ alone
      | false ↦ λ t. refl
    ] refl ∙ ap (cond (bytes_eq k e.0) None) (sym (found_more k e es))

-- what is found in the entries without a name
pub found_without : (q k : List ℕ) (es : List (List ℕ × ℕ)) → Distinct es → found k (without q es) ≡ cond (bytes_eq k q) None (found k es)
found_without q k [] d = sym (none_either (bytes_eq k q))
found_without q k (e ∷ es) d =
    elim (has_name q e) as (λ b. has_name q e ≡ b → found k (cond b es (e ∷ without q es)) ≡ cond (bytes_eq k q) None (found k (e ∷ es))) [
      | true ↦ λ t. behind k e es d.0 ∙ ap (λ n. cond (bytes_eq k n) None (found k (e ∷ es))) (sym (same_name q e.0 t))
      | false ↦ λ f.
          found_more k e (without q es)
          ∙ ap (cond (has_name k e) (Some e.1)) (found_without q k es d.1)
          ∙ swapped (has_name k e) (bytes_eq k q) (Some e.1) None (found k es) (λ t u. not_both (has_name q e) ((bytes_eq-Decides q e.0).1 (sym (same_name k q u) ∙ same_name k e.0 t)) f)
          ∙ ap (cond (bytes_eq k q) None) (sym (found_more k e es))
    ] refl

-- no name stands twice where one is left out
pub distinct_without : (q : List ℕ) (es : List (List ℕ × ℕ)) → Distinct es → Distinct (without q es)
distinct_without q [] d = tt
distinct_without q (e ∷ es) d =
    elim (has_name q e) as (λ b. Distinct (cond b es (e ∷ without q es))) [
      | true ↦ d.1
      | false ↦ (
        found_without q e.0 es d.1 ∙ ap (cond (bytes_eq e.0 q) None) d.0 ∙ none_either (bytes_eq e.0 q),
        distinct_without q es d.1,
      )
    ]

-- no name stands twice where a new one is pushed
pub distinct_pushed : (q : List ℕ) (id : ℕ) (es : List (List ℕ × ℕ)) → Distinct es → found q es ≡ None → Distinct (es ++ (q, id) ∷ [])
distinct_pushed q id [] d new = (refl, tt)
distinct_pushed q id (e ∷ es) d new =
    let parts = no_front (has_name q e) e.1 (found q es) (sym (found_more q e es) ∙ new) in (
      find-append (slice_cmp nat_cmp) nat_list_cmp_total es q id e.0 parts.1
          ∙ ap (λ b. cond b (Some id) (found e.0 es)) (ties e.0 q ∙ turned q e.0 parts.0)
          ∙ d.0,
      distinct_pushed q id es d.1 parts.1,
    )
