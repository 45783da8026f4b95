-- Trees as finite maps: what an insert and a remove say of each path, and how many nodes they leave.
use Rattle.std.proofs.Common.{◌≡◌, ◌+◌, ◌-◌, ℕ, suc, true, false, cond, List, None, Some, is_some, Ordering, Less, Equal, Greater, is_eq, refl, ap, ◌∙◌, arith}
use Rattle.std.specs.Ordering.{eq_by_cmp}
use Rattle.std.specs.FinMap as map
use Rattle.std.proofs.lemmas.Bool.{false_from_ne_true}
use Rattle.std.proofs.lemmas.Cmp.{eq_by_cmp_equiv}
use Rattle.osal_tree.specs.declared.kind.Kind.{Kind}
use Rattle.osal_tree.specs.Paths.{path_cmp}
use Rattle.osal_tree.specs.Nodes.{Nodes}
use Rattle.osal_tree.specs.Order.{path_total, path_ties}

equal : (r : Ordering) → is_eq r ≡ true → r ≡ Equal
equal Less e = absurd cc
equal Equal e = refl
equal Greater e = absurd cc

pub tied : (at : List (List ℕ)) → eq_by_cmp path_cmp at at ≡ true
tied at = (eq_by_cmp_equiv path_total).refl at

pub untied : (at other : List (List ℕ)) → (at ≡ other → ⊥) → eq_by_cmp path_cmp at other ≡ false
untied at other ne =
    false_from_ne_true (eq_by_cmp path_cmp at other) (λ t. ne (path_ties at other (equal (path_cmp at other) t)))

pub tied_same : (at other : List (List ℕ)) → eq_by_cmp path_cmp at other ≡ true → at ≡ other
tied_same at other t = path_ties at other (equal (path_cmp at other) t)

module _ (nodes : Nodes) (at : List (List ℕ)) where
  pub put_here : (there : Kind) → map.get (map.insert nodes at there) at ≡ Some there
  put_here there = map.get-insert path_total nodes at there at ∙ ap (λ b. cond b (Some there) (map.get nodes at)) (tied at)

  pub put_there : (there : Kind) (q : List (List ℕ)) → (q ≡ at → ⊥) → map.get (map.insert nodes at there) q ≡ map.get nodes q
  put_there there q ne = map.get-insert path_total nodes at there q ∙ ap (λ b. cond b (Some there) (map.get nodes q)) (untied q at ne)

  pub gone_here : map.get (map.remove nodes at) at ≡ None
  gone_here = map.get-remove path_total nodes at at ∙ ap (λ b. cond b None (map.get nodes at)) (tied at)

  pub gone_there : (q : List (List ℕ)) → (q ≡ at → ⊥) → map.get (map.remove nodes at) q ≡ map.get nodes q
  gone_there q ne = map.get-remove path_total nodes at q ∙ ap (λ b. cond b None (map.get nodes q)) (untied q at ne)

  pub one_more : (there : Kind) → map.get nodes at ≡ None → map.len (map.insert nodes at there) ≡ suc (map.len nodes)
  one_more there none =
      map.len-insert path_total nodes at there ∙ ap (λ o. cond (is_some o) (map.len nodes) (map.len nodes + 1)) none
      ∙ (let plus : map.len nodes + 1 ≡ suc (map.len nodes) = omega arith in plus)

  pub one_less : (there : Kind) (n : ℕ) → map.get nodes at ≡ Some there → map.len nodes ≡ suc n → map.len (map.remove nodes at) ≡ n
  one_less there n some len =
      map.len-remove path_total nodes at ∙ ap (λ o. cond (is_some o) (map.len nodes - 1) (map.len nodes)) some
      ∙ (let less : map.len nodes - 1 ≡ n = omega arith in less)
