-- Nodes of a volume at other paths: its entries change their paths, and what they count stays.
use Rattle.std.proofs.Common.{◌≡◌, ◌&&◌, T, ℕ, Bool, true, false, cond, map as list_map, List, [], ◌∷◌, ◌++◌, length, drop, None, Some, option_map, Ordering, Less, Equal, Greater, is_lt, refl, sym, ap, ◌∙◌, inl, inr, arith}
use Rattle.std.specs.List.{sum_by}
use Rattle.std.specs.FinMap as map
use Rattle.std.specs.FinMap.Entries.{by_order, put, below_all, is_sorted}
use Rattle.std.proofs.lemmas.Bool.{cases_Bool, false_from_ne_true}
use Rattle.std.proofs.lemmas.List.{nil_from_length}
use Rattle.std.proofs.lemmas.List.Sums.{sum_by-cons}
use Rattle.osal_tree.specs.declared.kind.Kind.{Kind}
use Rattle.osal_tree.specs.declared.kind.Kind.TheVariants as kind
use Rattle.osal_tree.specs.Paths.{path_cmp, is_within, moved}
use Rattle.osal_tree.specs.Nodes.{Nodes}
use Rattle.osal_tree.specs.Order.{path_total}
use Rattle.osal_tree.specs.Steps as tree_step
use Rattle.osal_tree.proofs.Paths.{within_from}
use Rattle.osal_tree.proofs.Renaming.{Entry, Clear, Distinct, clear_from, distinct_from, back_moved, find_there, find_away, renamed_there, renamed_away}
use Rattle.osal_blocks.specs.Blocks.{BlocksState}
use Rattle.osal_volume.specs.Volume.{Content, blocks_taken}
use Rattle.osal_volume.specs.Renames.{renamed}
use Rattle.osal_volume.specs.Whole.{content_of, volume_of, as_directory, IsWhole}
use Rattle.osal_volume.proofs.Sums.{Contents, total_of, total_more}
use Rattle.osal_volume.proofs.Held.{Held, find_each}

both : (a b : Bool) → T (a && b) → T a × T b
both true b t = (tt, t)
both false b t = absurd t

no_entries : map.entries (map.empty {X = Content} {R = path_cmp}) ≡ []
no_entries = nil_from_length _ (sym (map.len-entries (map.empty {X = Content} {R = path_cmp})) ∙ map.len-empty path_cmp Content)

module _ (f : Kind → Content) where
  abbrev filled : Entry → List (List ℕ) × Content
  filled e = (e.0, f e.1)

  abbrev made : List Entry → Contents
  made es = map.from_entries (list_map filled es)

  first : (at : List (List ℕ)) (there : Content) (es : List Entry) → T (below_all path_cmp at es) → put path_cmp at there (list_map filled es) ≡ (at, there) ∷ list_map filled es
  first at there [] low = refl
  first at there (e ∷ es) low = by (path_cmp at e.0) low
    where
      by : (r : Ordering) → T (is_lt r && below_all path_cmp at es) → by_order r ((at, there) ∷ filled e ∷ list_map filled es) ((e.0, there) ∷ list_map filled es) (filled e ∷ put path_cmp at there (list_map filled es)) ≡ (at, there) ∷ filled e ∷ list_map filled es
      by Less low = refl
      by Equal low = absurd low
      by Greater low = absurd low

  -- entries in order are those of their map
  entries_made : (es : List Entry) → T (is_sorted path_cmp es) → map.entries (made es) ≡ list_map filled es
  entries_made [] up = no_entries
  entries_made (e ∷ es) up =
      let parts = both (below_all path_cmp e.0 es) (is_sorted path_cmp es) up in
      map.entries-insert path_total (made es) e.0 (f e.1) ∙ ap (put path_cmp e.0 (f e.1)) (entries_made es parts.1) ∙ first e.0 (f e.1) es parts.0

  module _ (g : Content → ℕ) where
    abbrev cost : List (List ℕ) × Content → ℕ
    cost e = g e.1

    -- where no path stands twice, each entry counts
    total_made : (es : List Entry) → Distinct es → total_of g (made es) ≡ sum_by cost (list_map filled es)
    total_made [] d = ap (sum_by cost) no_entries
    total_made (e ∷ es) d =
        let more = total_more g (made es) e.0 (f e.1) (map.get-from_entries path_total (list_map filled es) e.0 ∙ find_each f e.0 es ∙ ap (option_map f) d.0) in
        let rest = total_made es d.1 in
        let all = sum_by-cons cost (filled e) (list_map filled es) in omega arith

    module _ (from to : List (List ℕ)) where
      same_sum : (es : List Entry) → sum_by cost (list_map filled (list_map (λ e. (moved from to e.0, e.1)) es)) ≡ sum_by cost (list_map filled es)
      same_sum [] = refl
      same_sum (e ∷ es) =
          let now = sum_by-cons cost (moved from to e.0, f e.1) (list_map filled (list_map (λ e. (moved from to e.0, e.1)) es)) in
          let before = sum_by-cons cost (filled e) (list_map filled es) in
          let rest = same_sum es in omega arith

  -- the values and the paths are changed in either order
  moved_filled : (from to : List (List ℕ)) (es : List Entry) → list_map (λ e. (moved from to e.0, e.1)) (list_map filled es) ≡ list_map filled (list_map (λ e. (moved from to e.0, e.1)) es)
  moved_filled from to [] = refl
  moved_filled from to (e ∷ es) = ap (λ l. (moved from to e.0, f e.1) ∷ l) (moved_filled from to es)

module _ (from to : List (List ℕ)) (outside : is_within from to ≡ false) where
  abbrev shift : Entry → Entry
  shift e = (moved from to e.0, e.1)

  moved_within : (k : List (List ℕ)) → is_within from k ≡ true → moved from to k ≡ to ++ drop (length from) k
  moved_within k t = ap (λ b. cond b (to ++ drop (length from) k) k) t

  moved_else : (k : List (List ℕ)) → is_within from k ≡ false → moved from to k ≡ k
  moved_else k f = ap (λ b. cond b (to ++ drop (length from) k) k) f

  still_none : (k : List (List ℕ)) (es : List Entry) → is_within to k ≡ false → Clear to es → map.find path_cmp k es ≡ None → map.find path_cmp (moved from to k) (list_map shift es) ≡ None
  still_none k es out clear none =
      elim (cases_Bool (is_within from k)) [
        | inl inside ↦
            ap (λ p. map.find path_cmp p (list_map shift es)) (moved_within k inside)
            ∙ find_there from to outside (to ++ drop (length from) k) es clear (within_from to (to ++ drop (length from) k) (drop (length from) k) refl)
            ∙ ap (λ p. map.find path_cmp p es) (back_moved from to outside k inside) ∙ none
        | inr away ↦ ap (λ p. map.find path_cmp p (list_map shift es)) (moved_else k away) ∙ find_away from to outside k es out away ∙ none
      ]

  -- no path stands twice after the move
  moved_distinct : (es : List Entry) → Clear to es → Distinct es → Distinct (list_map shift es)
  moved_distinct [] clear d = tt
  moved_distinct (e ∷ es) clear d = (still_none e.0 es clear.0 clear.1 d.0, moved_distinct es clear.1 d.1)

  module _ (nodes : Nodes) (none : (q : List (List ℕ)) → is_within to q ≡ true → map.get nodes q ≡ None) where
    -- a node is found again where it was moved to
    found_again : (at : List (List ℕ)) (there : Kind) → map.get nodes at ≡ Some there → map.get (tree_step.renamed nodes from to) (moved from to at) ≡ Some there
    found_again at there is =
        elim (cases_Bool (is_within from at)) [
          | inl inside ↦
              ap (map.get (tree_step.renamed nodes from to)) (moved_within at inside)
              ∙ renamed_there from to outside nodes none (to ++ drop (length from) at) (within_from to (to ++ drop (length from) at) (drop (length from) at) refl)
              ∙ ap (map.get nodes) (back_moved from to outside at inside) ∙ is
          | inr away ↦
              ap (map.get (tree_step.renamed nodes from to)) (moved_else at away)
              ∙ renamed_away from to outside nodes none at (false_from_ne_true (is_within to at) (λ t. let clear : None ≡ Some there = sym (none at t) ∙ is in absurd cc)) away ∙ is
        ]

    module _ (blocks : BlocksState) (whole : IsWhole nodes blocks) where
      abbrev before : List Entry
      before = map.entries nodes

      abbrev after : List Entry
      after = list_map shift (map.entries nodes)

      distinct_before : Distinct before
      distinct_before = distinct_from before (map.entries_sorted nodes)

      distinct_after : Distinct after
      distinct_after = moved_distinct before (clear_from to before (λ q t. sym (map.get-entries nodes q) ∙ none q t)) distinct_before

      nodes_after : (renamed (volume_of nodes blocks) from to).nodes ≡ made (content_of blocks) after
      nodes_after =
          ap (λ es. map.from_entries (list_map (λ e. (moved from to e.0, e.1)) es)) (entries_made (content_of blocks) before (map.entries_sorted nodes))
          ∙ ap map.from_entries (moved_filled (content_of blocks) from to before)

      same_total : (g : Content → ℕ) → total_of g (volume_of nodes blocks).nodes ≡ total_of g (renamed (volume_of nodes blocks) from to).nodes
      same_total g =
          total_made (content_of blocks) g before distinct_before ∙ sym (same_sum (content_of blocks) g from to before)
          ∙ sym (total_made (content_of blocks) g after distinct_after) ∙ sym (ap (total_of g) nodes_after)

      -- a tree in which a node was moved is the volume in which it was
      pub held_rename : Held (tree_step.renamed nodes from to) blocks (renamed (volume_of nodes blocks) from to)
      held_rename = record {
        total = refl;
        exact = λ q.
            ap (λ m. map.get m q) nodes_after ∙ map.get-from_entries path_total (list_map (λ e. (e.0, content_of blocks e.1)) after) q
            ∙ find_each (content_of blocks) q after ∙ ap (option_map (content_of blocks)) (sym (map.get-from_entries path_total after q));
        files = whole.files;
        unused = λ number fresh. whole.unused number (λ at is. fresh (moved from to at) (found_again at (kind.File number) is));
        reserved = whole.reserved ∙ same_total as_directory;
        counted = whole.counted ∙ same_total blocks_taken;
      }
