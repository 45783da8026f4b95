-- What always holds of a tree, and the names in its directories.
use Rattle.std.proofs.Common.{◌≡◌, ◌||◌, ◌&&◌, ℕ, Bool, true, false, cond, is_some, List, [], ◌∷◌, ◌++◌, get_or, Option, None, Some, Result, Ok, Err, IfOk, refl, sym, ap, subst, ◌∙◌, arith}
use Rattle.std.specs.List.{list_any}
use Rattle.std.specs.List.Sorted.{IsStrictlySortedBy}
use Rattle.std.specs.Str.{bytes_eq}
use Rattle.std.specs.Ordering.{nat_cmp}
use Rattle.std.specs.Cmp.Lexicographic.{slice_cmp}
use Rattle.std.specs.FinMap as map
use Rattle.std.proofs.lemmas.Slice.Eq.{bytes_eq-Decides}
use Rattle.osal_tree.specs.declared.kind.Kind.{Kind}
use Rattle.osal_tree.specs.declared.kind.Kind.TheVariants as kind
use Rattle.osal_tree.specs.declared.node.Place.{Place}
use Rattle.osal_tree.specs.declared.node.Place.TheVariants as place
use Rattle.osal_tree.specs.declared.node.Node.{Node}
use Rattle.osal_tree.specs.Nodes.{Nodes, node_at, is_directory, IsTree}
use Rattle.osal_tree.specs.Listing.{listing_fault, IsListing}
use Rattle.osal_tree.specs.Slots.{same_place, is_at, kind_at, look, reach}
use Rattle.osal_tree.specs.Gathering.{put, added, gathered, names_at}
use Rattle.osal_tree.proofs.Paths.{not_empty}
use Rattle.osal_tree.proofs.Children.{holds_of, is_at_of}
use Rattle.osal_tree.proofs.Walks.{last_leads, one_path}
use Rattle.osal_tree.proofs.Counting.{few_taken}
use Rattle.osal_tree.proofs.Seen.{Seen, node_seen, below_look, number_slot}
use Rattle.osal_tree.proofs.Entries.{both_ways, any_slot, slot_any, some_place, name_leads, leads_name}
use Rattle.osal_tree.proofs.Putting.{any_put, ascending_put, ascending_none}

directory_is : (o : Option Kind) → is_directory o ≡ true → o ≡ Some kind.Directory
directory_is None e = absurd cc
directory_is (Some kind.Directory) e = refl
directory_is (Some (kind.File number)) e = absurd cc

bytes_turned : (a b : List ℕ) → bytes_eq a b ≡ bytes_eq b a
bytes_turned a b =
    both_ways (bytes_eq a b) (bytes_eq b a) (λ t. (bytes_eq-Decides b a).1 (sym ((bytes_eq-Decides a b).0 t))) (λ t. (bytes_eq-Decides a b).1 (sym ((bytes_eq-Decides b a).0 t)))

or_turned : (a b x : Bool) → ((a || b) || x) ≡ (b || (a || x))
or_turned true true x = refl
or_turned true false x = refl
or_turned false true x = refl
or_turned false false x = refl

-- a name is gathered where a slot has it in the directory
any_gathered : (home : Place) (q : List ℕ) (names : List (List ℕ)) (slots : List (Option Node)) → list_any (bytes_eq q) (gathered home names slots) ≡ (list_any (bytes_eq q) names || list_any (is_at home q) slots)
any_gathered home q names [] = or_none (list_any (bytes_eq q) names)
  where
    or_none : (a : Bool) → a ≡ (a || false)
    or_none true = refl
    or_none false = refl
any_gathered home q names (None ∷ slots) = any_gathered home q names slots
any_gathered home q names (Some node ∷ slots) =
    any_gathered home q (added home names (Some node)) slots ∙ by (same_place node.home home)
  where
    by : (b : Bool) → (list_any (bytes_eq q) (cond b (put node.name names) names) || list_any (is_at home q) slots) ≡ (list_any (bytes_eq q) names || ((b && bytes_eq node.name q) || list_any (is_at home q) slots))
    by true =
        ap (λ b. b || list_any (is_at home q) slots) (any_put q node.name names ∙ ap (λ b. b || list_any (bytes_eq q) names) (bytes_turned q node.name))
        ∙ or_turned (bytes_eq node.name q) (list_any (bytes_eq q) names) (list_any (is_at home q) slots)
    by false = refl

ascending_gathered : (home : Place) (names : List (List ℕ)) (slots : List (Option Node)) → IsStrictlySortedBy (slice_cmp nat_cmp) names → IsStrictlySortedBy (slice_cmp nat_cmp) (gathered home names slots)
ascending_gathered home names [] up = up
ascending_gathered home names (None ∷ slots) up = ascending_gathered home names slots up
ascending_gathered home names (Some node ∷ slots) up =
    ascending_gathered home (added home names (Some node)) slots (by (same_place node.home home))
  where
    by : (b : Bool) → IsStrictlySortedBy (slice_cmp nat_cmp) (cond b (put node.name names) names)
    by true = ascending_put node.name names up
    by false = up

module _ {slots : List (Option Node)} {nodes : Nodes} (seen : Seen slots nodes) where
  home_of : (at : List (List ℕ)) (name : List ℕ) (there : Kind) → map.get nodes (at ++ name ∷ []) ≡ Some there → node_at nodes at ≡ Some kind.Directory
  home_of at name there e =
      let told : is_some (kind_at slots (reach slots (at ++ name ∷ []))) ≡ true = ap is_some (sym (seen.exact (at ++ name ∷ []) ∙ below_look slots (at ++ name ∷ []) (not_empty at name)) ∙ e) in
      let end = some_place slots (reach slots (at ++ name ∷ [])) told in
      let leads = last_leads slots at name end.0 end.1 in
      let dir : is_directory (kind_at slots (Some leads.home)) ≡ true =
      ap (λ h. is_directory (kind_at slots (Some h))) (sym leads.holds.home_is) ∙ seen.sound.housed leads.slot leads.holds.node leads.holds.is in
      node_seen seen at ∙ ap (kind_at slots) leads.from_is ∙ directory_is (kind_at slots (Some leads.home)) dir

  -- what always holds of a tree
  pub is_tree : IsTree nodes
  is_tree = record {
    rootless = seen.exact [];
    homes = home_of;
    numbers = λ at other number e f.
        one_path slots at other (place.Slot number) (number_slot slots at number (sym (seen.exact at) ∙ e)) (number_slot slots other number (sym (seen.exact other) ∙ f));
    few = (let few = few_taken slots in let counted = seen.sound.counted in let wide = seen.sound.wide in omega arith);
  }

  module _ (at : List (List ℕ)) where
    there_or_not : (home : Place) → reach slots at ≡ Some home → (name : List ℕ) → list_any (is_at home name) slots ≡ is_some (map.get nodes (at ++ name ∷ []))
    there_or_not home here name =
        both_ways (list_any (is_at home name) slots) (is_some (map.get nodes (at ++ name ∷ [])))
        (λ t.
        let found = any_slot (is_at home name) slots t in
        let h = holds_of (get_or slots found.0 None) home name found.1.1 in
        ap (λ n. is_some (map.get nodes (at ++ n ∷ []))) (sym h.name_is) ∙ ap is_some (leads_name seen at home here found.0 h.node h.is h.home_is))
        (λ t.
        let leads = name_leads seen at home here name t in
        slot_any (is_at home name) slots leads.0 leads.1.0 (is_at_of (get_or slots leads.0 None) home name leads.1.1))

    -- the names that are gathered are those of the directory
    pub listing_seen : listing_fault (look slots at) ≡ None → IsListing nodes at (names_at slots (reach slots at))
    listing_seen allowed = by (reach slots at) refl
      where
        by : (o : Option Place) → reach slots at ≡ o → IsListing nodes at (names_at slots o)
        by None e = let none : listing_fault (kind_at slots None) ≡ None = ap (λ o. listing_fault (kind_at slots o)) (sym e) ∙ allowed in absurd cc
        by (Some home) e = record {
          allowed = ap listing_fault (node_seen seen at) ∙ allowed;
          ascending = ascending_gathered home [] slots ascending_none;
          exact = λ name. any_gathered home name [] slots ∙ there_or_not home e name;
        }

    pub listed_ok : {X E : Type 0} (items : X → List (List ℕ)) (result : Result X E) → IfOk result (λ x. (listing_fault (look slots at) ≡ None) × (items x ≡ names_at slots (reach slots at))) → IfOk result (λ x. IsListing nodes at (items x))
    listed_ok items (Ok x) told = subst (IsListing nodes at) (sym told.1) (listing_seen told.0)
    listed_ok items (Err why) told = tt
