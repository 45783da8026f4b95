-- The names that a volume lists are those of the children in its finite map.
use Rattle.std.proofs.Common.{◌≡◌, ◌++◌, ◌&&◌, ◌||◌, ℕ, false, map, filter, List, [], ◌∷◌, is_some, Ordering, Less, Equal, Greater, refl, sym, ap, ◌∙◌, inl, inr}
use Rattle.std.specs.List.{list_any, AllByRecursion}
use Rattle.std.specs.List.Sorted.{IsStrictlySortedBy}
use Rattle.std.specs.Str.{bytes_eq}
use Rattle.std.specs.Ordering.{nat_cmp, is_eq, eq_by_cmp, ordering_then}
use Rattle.std.specs.Cmp.{tied_itself, nat_cmp_total}
use Rattle.std.specs.Cmp.Lexicographic.{slice_cmp, lists_total}
use Rattle.std.specs.FinMap as map_of
use Rattle.std.proofs.lemmas.Bool.{cases_Bool, false_from_ne_true}
use Rattle.std.proofs.lemmas.List.Kept.{IsStrictlySortedBy-filter}
use Rattle.std.proofs.lemmas.Map.Text.{is_eq-slice_cmp}
use Rattle.std.proofs.lemmas.Map.Views.{any-filter_same}
use Rattle.osal_path.specs.Path.{last_of}
use Rattle.osal_tree.specs.Paths.{path_cmp, is_child}
use Rattle.osal_tree.specs.Order.{path_total, path_ties}
use Rattle.osal_tree.proofs.Entries.{child_path, path_child}
use Rattle.osal_tree.proofs.Maps.{tied_same}
use Rattle.osal_tree.proofs.Paths.{clash}
use Rattle.osal_volume.specs.Volume.{VolumeState}
use Rattle.osal_volume.specs.Listing.{IsListing}
use Rattle.osal_file.specs.Directories.{names_in}
use Rattle.osal_file.proofs.Sorted.{keys_ascend, same_lists}

then_equal : (r : Ordering) → ordering_then r Equal ≡ r
then_equal Less = refl
then_equal Equal = refl
then_equal Greater = refl

last_is : (at : List (List ℕ)) (before name : List ℕ) → last_of before (at ++ name ∷ []) ≡ name
last_is [] before name = refl
last_is (first ∷ at) before name = last_is at first name

-- children of one directory are in the order of their last names
by_names : (at : List (List ℕ)) (name other : List ℕ) → path_cmp (at ++ name ∷ []) (at ++ other ∷ []) ≡ slice_cmp nat_cmp name other
by_names [] name other = then_equal (slice_cmp nat_cmp name other)
by_names (first ∷ at) name other =
    ap (λ r. ordering_then r (path_cmp (at ++ name ∷ []) (at ++ other ∷ []))) (tied_itself (lists_total nat_cmp_total) first)
    ∙ by_names at name other

module _ (at : List (List ℕ)) where
  -- the paths of the children of those names
  abbrev paths : List (List ℕ) → List (List (List ℕ))
  paths names = map (λ name. at ++ name ∷ []) names

  last_names : (names : List (List ℕ)) → map (λ path. last_of [] path) (paths names) ≡ names
  last_names [] = refl
  last_names (name ∷ names) = λ i. last_is at [] name i ∷ last_names names i

  below_paths : (name : List ℕ) (names : List (List ℕ)) → AllByRecursion (λ other. slice_cmp nat_cmp name other ≡ Less) names → AllByRecursion (λ path. path_cmp (at ++ name ∷ []) path ≡ Less) (paths names)
  below_paths name [] all = tt
  below_paths name (other ∷ names) all = (by_names at name other ∙ all.0, below_paths name names all.1)

  paths_ascend : (names : List (List ℕ)) → IsStrictlySortedBy (slice_cmp nat_cmp) names → IsStrictlySortedBy path_cmp (paths names)
  unfolding IsStrictlySortedBy
  paths_ascend [] ascending = tt
  paths_ascend (name ∷ names) ascending = (below_paths name names ascending.0, paths_ascend names ascending.1)

  -- a child is among the paths where its name is among the names
  child_among : (name : List ℕ) (names : List (List ℕ)) → list_any (eq_by_cmp path_cmp (at ++ name ∷ [])) (paths names) ≡ list_any (bytes_eq name) names
  child_among name [] = refl
  child_among name (other ∷ names) =
      λ i. (ap is_eq (by_names at name other) ∙ is_eq-slice_cmp name other) i || child_among name names i

  -- and what is no child is not
  other_among : (path : List (List ℕ)) (names : List (List ℕ)) → is_child at path ≡ false → list_any (eq_by_cmp path_cmp path) (paths names) ≡ false
  other_among path [] other = refl
  other_among path (name ∷ names) other =
      let apart = false_from_ne_true (eq_by_cmp path_cmp path (at ++ name ∷ []))
      (λ t. clash (is_child at path) (ap (is_child at) (tied_same path (at ++ name ∷ []) t) ∙ path_child at name) other) in
      λ i. apart i || other_among path names other i

  module _ (volume : VolumeState) (names : List (List ℕ)) (listed : IsListing volume at names) where
    among_children : (path : List (List ℕ)) → list_any (eq_by_cmp path_cmp path) (filter (is_child at) (map_of.keys volume.nodes)) ≡ (is_child at path && is_some (map_of.get volume.nodes path))
    among_children path =
        any-filter_same (eq_by_cmp path_cmp path) (is_child at) (is_child at path) (λ other t. ap (is_child at) (sym (tied_same path other t))) (map_of.keys volume.nodes)
        ∙ ap (λ b. is_child at path && b) (sym (map_of.contains_key-keys volume.nodes path))

    members : (path : List (List ℕ)) → list_any (eq_by_cmp path_cmp path) (paths names) ≡ list_any (eq_by_cmp path_cmp path) (filter (is_child at) (map_of.keys volume.nodes))
    members path =
        elim (cases_Bool (is_child at path)) [
          | inl child ↦
              let name = child_path at path child in
              ap (λ p. list_any (eq_by_cmp path_cmp p) (paths names)) name.1 ∙ child_among name.0 names ∙ listed.exact name.0
              ∙ ap (λ p. is_some (map_of.get volume.nodes p)) (sym name.1)
              ∙ sym (among_children path ∙ ap (λ b. b && is_some (map_of.get volume.nodes path)) child)
          | inr other ↦
              other_among path names other
              ∙ sym (among_children path ∙ ap (λ b. b && is_some (map_of.get volume.nodes path)) other)
        ]

    -- the names that are listed are those in the directory
    pub names_are : names ≡ names_in volume at
    names_are =
        sym (last_names names)
        ∙ ap (map (λ path. last_of [] path)) (same_lists path_cmp path_total path_ties (paths names) (filter (is_child at) (map_of.keys volume.nodes)) (paths_ascend names listed.ascending) (IsStrictlySortedBy-filter path_cmp (is_child at) (map_of.keys volume.nodes) (keys_ascend path_cmp volume.nodes)) members)
