-- Sums over the nodes of a volume: what an insert and a remove make of them.
use Rattle.std.proofs.Common.{◌≡◌, ◌+◌, ℕ, cond, List, [], ◌∷◌, None, Some, Less, Equal, Greater, refl, sym, ap, ◌∙◌, inl, inr, arith}
use Rattle.std.specs.List.{sum_by}
use Rattle.std.specs.Ordering.{is_eq}
use Rattle.std.specs.FinMap as map
use Rattle.std.specs.FinMap.Entries.{by_order, put}
use Rattle.std.proofs.lemmas.List.Sums.{sum_by-cons}
use Rattle.osal_tree.specs.Paths.{path_cmp}
use Rattle.osal_tree.specs.Order.{path_total, path_ties}
use Rattle.osal_tree.proofs.Maps.{tied, untied}
use Rattle.osal_tree.proofs.Paths.{path_cases}
use Rattle.osal_volume.specs.Volume.{Content}

abbrev pub Contents : Type 0
Contents = map.FinMap path_cmp Content

-- the sum of what each node counts
abbrev pub total_of : (Content → ℕ) → Contents → ℕ
total_of f nodes = sum_by (λ e. f e.1) (map.entries nodes)

module _ (nodes : Contents) (at : List (List ℕ)) where
  pub put_here : (there : Content) → map.get (map.insert nodes at there) at ≡ Some there
  put_here there = map.get-insert path_total nodes at there at ∙ ap (λ b. cond b (Some there) (map.get nodes at)) (tied at)

  pub put_there : (there : Content) (q : List (List ℕ)) → (q ≡ at → ⊥) → map.get (map.insert nodes at there) q ≡ map.get nodes q
  put_there there q ne = map.get-insert path_total nodes at there q ∙ ap (λ b. cond b (Some there) (map.get nodes q)) (untied q at ne)

  pub gone_here : map.get (map.remove nodes at) at ≡ None
  gone_here = map.get-remove path_total nodes at at ∙ ap (λ b. cond b None (map.get nodes at)) (tied at)

  pub gone_there : (q : List (List ℕ)) → (q ≡ at → ⊥) → map.get (map.remove nodes at) q ≡ map.get nodes q
  gone_there q ne = map.get-remove path_total nodes at q ∙ ap (λ b. cond b None (map.get nodes q)) (untied q at ne)

module _ (f : Content → ℕ) where
  abbrev cost : List (List ℕ) × Content → ℕ
  cost e = f e.1

  sum_put : (at : List (List ℕ)) (there : Content) (es : List (List (List ℕ) × Content)) → map.find path_cmp at es ≡ None → sum_by cost (put path_cmp at there es) ≡ f there + sum_by cost es
  sum_put at there [] none = sum_by-cons cost (at, there) []
  sum_put at there (e ∷ es) none =
      elim (path_cmp at e.0) as (λ r. path_cmp at e.0 ≡ r → cond (is_eq r) (Some e.1) (map.find path_cmp at es) ≡ None → sum_by cost (by_order r ((at, there) ∷ e ∷ es) ((e.0, there) ∷ es) (e ∷ put path_cmp at there es)) ≡ f there + sum_by cost (e ∷ es)) [
        | Less ↦ λ r n. sum_by-cons cost (at, there) (e ∷ es)
        | Equal ↦ λ r n. absurd cc
        | Greater ↦ λ r n.
            let rest = sum_put at there es n in
            let more = sum_by-cons cost e (put path_cmp at there es) in
            let all = sum_by-cons cost e es in omega arith
      ] refl none

  -- a new node counts beside the others
  pub total_more : (nodes : Contents) (at : List (List ℕ)) (there : Content) → map.get nodes at ≡ None → total_of f (map.insert nodes at there) ≡ f there + total_of f nodes
  total_more nodes at there none =
      ap (sum_by cost) (map.entries-insert path_total nodes at there) ∙ sum_put at there (map.entries nodes) (sym (map.get-entries nodes at) ∙ none)

  again : (nodes : Contents) (at : List (List ℕ)) (there : Content) → map.insert (map.remove nodes at) at there ≡ map.insert nodes at there
  again nodes at there =
      map.same_map path_total path_ties _ _ (λ q. elim (path_cases q at) [
        | inl same ↦ ap (map.get (map.insert (map.remove nodes at) at there)) same ∙ put_here (map.remove nodes at) at there ∙ sym (ap (map.get (map.insert nodes at there)) same ∙ put_here nodes at there)
        | inr ne ↦ put_there (map.remove nodes at) at there q ne ∙ gone_there nodes at q ne ∙ sym (put_there nodes at there q ne)
      ])

  -- what stands there already changes nothing
  pub same_put : (nodes : Contents) (at : List (List ℕ)) (there : Content) → map.get nodes at ≡ Some there → map.insert nodes at there ≡ nodes
  same_put nodes at there is =
      map.same_map path_total path_ties _ _ (λ q. elim (path_cases q at) [
        | inl same ↦ ap (map.get (map.insert nodes at there)) same ∙ put_here nodes at there ∙ sym (ap (map.get nodes) same ∙ is)
        | inr ne ↦ put_there nodes at there q ne
      ])

  -- a node that is taken away counts no more
  pub total_less : (nodes : Contents) (at : List (List ℕ)) (there : Content) → map.get nodes at ≡ Some there → f there + total_of f (map.remove nodes at) ≡ total_of f nodes
  total_less nodes at there is =
      sym (total_more (map.remove nodes at) at there (gone_here nodes at)) ∙ ap (total_of f) (again nodes at there ∙ same_put nodes at there is)

  -- another content counts in the old one's place
  pub total_other : (nodes : Contents) (at : List (List ℕ)) (there other : Content) → map.get nodes at ≡ Some there → f there + total_of f (map.insert nodes at other) ≡ f other + total_of f nodes
  total_other nodes at there other is =
      let without = total_less nodes at there is in
      let with = total_more (map.remove nodes at) at other (gone_here nodes at) in
      let same = ap (total_of f) (again nodes at other) in omega arith
