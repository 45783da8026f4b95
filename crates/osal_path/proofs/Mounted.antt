-- What the map that some entries make up says, and what becomes of it where an entry is added or left out.
use Rattle.std.proofs.Common.{◌≡◌, ◌+◌, ℕ, true, false, cond, List, [], ◌∷◌, ◌++◌, length, get_or, Some, None, is_some, refl, sym, ap, ◌∙◌, arith}
use Rattle.std.specs.Ordering.{nat_cmp}
use Rattle.std.specs.Cmp.Lexicographic.{slice_cmp, nat_list_cmp_total}
use Rattle.std.specs.Str.{bytes_eq}
use Rattle.std.specs.List.{position}
use Rattle.std.specs.FinMap as map
use Rattle.osal_path.specs.Mounts.{Mounts}
use Rattle.osal_path.specs.Entries.{found, has_name, Distinct, mounts_of}
use Rattle.osal_path.proofs.Distinct.{found_without}
use Rattle.osal_path.proofs.Named.{ties, same_name, without, found_there, found_nowhere}

-- only equal names tie
antisymmetric : map.IsAntisymmetric (slice_cmp nat_cmp)
antisymmetric = map.slice_cmp-IsAntisymmetric map.nat_cmp-IsAntisymmetric

-- the map looks a name up in the entries
pub get_found : (es : List (List ℕ × ℕ)) (q : List ℕ) → map.get (mounts_of es) q ≡ found q es
unfolding mounts_of
get_found es q = map.get-from_entries nat_list_cmp_total es q

-- a name that is not found in the entries is not in the map
pub missed : (es : List (List ℕ × ℕ)) (q : List ℕ) → position (has_name q) es ≡ None → map.get (mounts_of es) q ≡ None
missed es q none = get_found es q ∙ found_nowhere q es none

-- what the map says of a name stands in the entry that is found
pub met : (es : List (List ℕ × ℕ)) (q : List ℕ) (at : ℕ) (e : List ℕ × ℕ) → position (has_name q) es ≡ Some at → e ≡ get_or es at e → map.get (mounts_of es) q ≡ Some e.1
met es q at e there is = get_found es q ∙ found_there q es at e there ∙ ap (λ e. Some e.1) (sym is)

-- the map of no entries is empty
pub none_mounted : mounts_of [] ≡ map.empty
unfolding mounts_of
none_mounted = refl

-- an entry that is pushed under a new name is inserted
pub pushed : (es : List (List ℕ × ℕ)) (q : List ℕ) (id : ℕ) → map.get (mounts_of es) q ≡ None → mounts_of (es ++ (q, id) ∷ []) ≡ map.insert (mounts_of es) q id
unfolding mounts_of
pushed es q id new = map.from_entries_push nat_list_cmp_total antisymmetric es q id (sym (get_found es q) ∙ new)

-- the map has as many names as there are entries
pub counted : (es : List (List ℕ × ℕ)) → Distinct es → map.len (mounts_of es) ≡ length es
unfolding mounts_of
counted [] d = map.len-empty (slice_cmp nat_cmp) ℕ
counted (e ∷ es) d =
    map.len-insert nat_list_cmp_total (mounts_of es) e.0 e.1
    ∙ ap (λ o. cond (is_some o) (map.len (mounts_of es)) (map.len (mounts_of es) + 1)) (get_found es e.0 ∙ d.0)
    ∙ (let rest = counted es d.1 in omega arith)

get_left : (m : Mounts) (q k : List ℕ) → map.get (map.remove m q) k ≡ cond (bytes_eq k q) None (map.get m k)
get_left m q k = map.get-remove nat_list_cmp_total m q k ∙ ap (λ b. cond b None (map.get m k)) (ties k q)

-- the entries without a name make up the map without it
pub left_out : (es : List (List ℕ × ℕ)) (q : List ℕ) → Distinct es → mounts_of (without q es) ≡ map.remove (mounts_of es) q
left_out es q d =
    map.same_map nat_list_cmp_total antisymmetric (mounts_of (without q es)) (map.remove (mounts_of es) q)
    (λ k. get_found (without q es) k ∙ found_without q k es d ∙ sym (get_left (mounts_of es) q k ∙ ap (cond (bytes_eq k q) None) (get_found es k)))

-- a map is as it was without a name that is not in it
pub unmoved : (m : Mounts) (q : List ℕ) → map.get m q ≡ None → m ≡ map.remove m q
unmoved m q none =
    map.same_map nat_list_cmp_total antisymmetric m (map.remove m q)
    (λ k. elim (bytes_eq k q) as (λ b. bytes_eq k q ≡ b → map.get m k ≡ cond b None (map.get m k)) [
      | true ↦ λ t. ap (map.get m) (same_name k q t) ∙ none
      | false ↦ λ t. refl
    ] refl ∙ sym (get_left m q k))
