-- What the entries of a tree and the contents of its slots say of children.
use Rattle.std.proofs.Common.{◌≡◌, ◌<◌, ◌+◌, ◌==◌, ℕ, zero, suc, Bool, true, false, cond, is_some, List, [], ◌∷◌, ◌++◌, length, length-append, drop, get_or, Option, None, Some, refl, sym, ap, ◌∙◌, inl, inr, arith}
use Rattle.std.specs.List.{list_any}
use Rattle.std.specs.Ordering.{eq_by_cmp}
use Rattle.std.specs.FinMap as map
use Rattle.std.proofs.lemmas.Bool.{cases_Bool, and_parts, and_from, or_left, or_right}
use Rattle.std.proofs.lemmas.Bool.Decides.{nat_tests}
use Rattle.osal_tree.specs.declared.kind.Kind.{Kind}
use Rattle.osal_tree.specs.declared.node.Place.{Place}
use Rattle.osal_tree.specs.declared.node.Node.{Node}
use Rattle.osal_tree.specs.Paths.{path_cmp, is_within, is_child}
use Rattle.osal_tree.specs.Nodes.{Nodes, has_child}
use Rattle.osal_tree.specs.Slots.{slot_place, step, kind_of, kind_in, kind_at, is_in, same_place, reach}
use Rattle.osal_tree.proofs.Paths.{within_rest, within_from, not_empty}
use Rattle.osal_tree.proofs.Children.{Holds, child_is, place_same, place_itself}
use Rattle.osal_tree.proofs.Walks.{reach_last, last_leads}
use Rattle.osal_tree.proofs.Writing.{some_within}
use Rattle.osal_tree.proofs.Maps.{tied, tied_same}
use Rattle.osal_tree.proofs.Seen.{Seen, below_look}

-- two tests that follow from one another are the same
pub both_ways : (a b : Bool) → (a ≡ true → b ≡ true) → (b ≡ true → a ≡ true) → a ≡ b
both_ways true b to from = sym (to refl)
both_ways false true to from = from refl
both_ways false false to from = refl

one_name : (rest : List (List ℕ)) → length rest ≡ 1 → (name : List ℕ) × (rest ≡ name ∷ [])
one_name [] e = absurd (omega arith)
one_name (name ∷ []) e = (name, refl)
one_name (name ∷ (other ∷ rest)) e = absurd (omega arith)

-- a child's path is its directory's and a name
pub child_path : (upper at : List (List ℕ)) → is_child upper at ≡ true → (name : List ℕ) × (at ≡ upper ++ name ∷ [])
child_path upper at e =
    let parts = and_parts (is_within upper at) (length at == length upper + 1) e in
    let is = within_rest upper at parts.0 in
    let long : length at ≡ length upper + 1 = (let t = parts.1 in grind (arith, nat_tests)) in
    let single = one_name (drop (length upper) at) (let total = ap length is in omega (arith, length-append upper (drop (length upper) at))) in
    (single.0, is ∙ ap (λ l. upper ++ l) single.1)

pub path_child : (upper : List (List ℕ)) (name : List ℕ) → is_child upper (upper ++ name ∷ []) ≡ true
path_child upper name =
    let long : length (upper ++ name ∷ []) ≡ length upper + 1 = length-append upper (name ∷ []) in
    let same : (length (upper ++ name ∷ []) == length upper + 1) ≡ true = grind (arith, nat_tests) in
    and_from (is_within upper (upper ++ name ∷ [])) (length (upper ++ name ∷ []) == length upper + 1) (within_from upper (upper ++ name ∷ []) (name ∷ []) refl) same

-- an entry that passes has a path that is found
any_entry : (test : List (List ℕ) → Bool) (es : List (List (List ℕ) × Kind)) → list_any (λ e. test e.0) es ≡ true → (q : List (List ℕ)) × ((test q ≡ true) × (is_some (map.find path_cmp q es) ≡ true))
any_entry test [] t = absurd cc
any_entry test (e ∷ es) t =
    elim (cases_Bool (test e.0)) [
      | inl passed ↦ (e.0, (passed, ap (λ b. is_some (cond b (Some e.1) (map.find path_cmp e.0 es))) (tied e.0)))
      | inr failed ↦
          let found = any_entry test es (rw failed at t) in
          (found.0, (found.1.0, later found.0 (eq_by_cmp path_cmp found.0 e.0) e.1 es found.1.1))
    ]
  where
    later : (q : List (List ℕ)) (b : Bool) (there : Kind) (es : List (List (List ℕ) × Kind)) → is_some (map.find path_cmp q es) ≡ true → is_some (cond b (Some there) (map.find path_cmp q es)) ≡ true
    later q true there es some = refl
    later q false there es some = some

-- a path that is found and passes is an entry that does
entry_any : (test : List (List ℕ) → Bool) (q : List (List ℕ)) (es : List (List (List ℕ) × Kind)) → is_some (map.find path_cmp q es) ≡ true → test q ≡ true → list_any (λ e. test e.0) es ≡ true
entry_any test q [] some passed = absurd cc
entry_any test q (e ∷ es) some passed =
    elim (cases_Bool (eq_by_cmp path_cmp q e.0)) [
      | inl tie ↦ or_left (test e.0) (list_any (λ e. test e.0) es) (ap test (sym (tied_same q e.0 tie)) ∙ passed)
      | inr apart ↦ or_right (test e.0) (list_any (λ e. test e.0) es) (entry_any test q es (rw apart at some) passed)
    ]

-- a slot that passes is one of them
pub any_slot : (test : Option Node → Bool) (slots : List (Option Node)) → list_any test slots ≡ true → (slot : ℕ) × ((slot < length slots) × (test (get_or slots slot None) ≡ true))
any_slot test [] t = absurd cc
any_slot test (s ∷ slots) t =
    elim (cases_Bool (test s)) [
      | inl passed ↦ (0, (omega arith, passed))
      | inr failed ↦
          let found = any_slot test slots (rw failed at t) in
          (suc found.0, (let less = found.1.0 in omega arith, found.1.1))
    ]

pub slot_any : (test : Option Node → Bool) (slots : List (Option Node)) (slot : ℕ) → slot < length slots → test (get_or slots slot None) ≡ true → list_any test slots ≡ true
slot_any test [] slot less t = absurd (omega arith)
slot_any test (s ∷ slots) zero less t = or_left (test s) (list_any test slots) t
slot_any test (s ∷ slots) (suc slot) less t = or_right (test s) (list_any test slots) (slot_any test slots slot (omega arith) t)

-- a slot in a directory has a node there
pub in_node : (home : Place) (content : Option Node) → is_in home content ≡ true → (node : Node) × ((content ≡ Some node) × (node.home ≡ home))
in_node home None t = absurd cc
in_node home (Some node) t = (node, (refl, place_same node.home home t))

some_is : {A : Type 0} (o : Option A) → is_some o ≡ true → (x : A) × (o ≡ Some x)
some_is None e = absurd cc
some_is (Some x) e = (x, refl)

pub some_place : (slots : List (Option Node)) (o : Option Place) → is_some (kind_at slots o) ≡ true → (end : Place) × (o ≡ Some end)
some_place slots None e = absurd cc
some_place slots (Some end) e = (end, refl)

module _ {slots : List (Option Node)} {nodes : Nodes} (seen : Seen slots nodes) (at : List (List ℕ)) (home : Place) (here : reach slots at ≡ Some home) where
  -- a name is there where its node is
  pub name_leads : (name : List ℕ) → is_some (map.get nodes (at ++ name ∷ [])) ≡ true → (slot : ℕ) × ((slot < length slots) × Holds (get_or slots slot None) home name)
  name_leads name some =
      let told : is_some (kind_at slots (reach slots (at ++ name ∷ []))) ≡ true = sym (ap is_some (seen.exact (at ++ name ∷ []) ∙ below_look slots (at ++ name ∷ []) (not_empty at name))) ∙ some in
      let end = some_place slots (reach slots (at ++ name ∷ [])) told in
      let leads = last_leads slots at name end.0 end.1 in
      let homes : leads.home ≡ home = (let from = leads.from_is in cc) in
      (leads.slot, (leads.less, rw homes at leads.holds))

  pub leads_name : (slot : ℕ) (node : Node) → get_or slots slot None ≡ Some node → node.home ≡ home → map.get nodes (at ++ node.name ∷ []) ≡ Some (kind_of slot node.sort)
  leads_name slot node is homes =
      seen.exact (at ++ node.name ∷ []) ∙ below_look slots (at ++ node.name ∷ []) (not_empty at node.name)
      ∙ ap (kind_at slots) (reach_last slots at node.name ∙ ap (λ o. step slots o node.name) here
      ∙ ap slot_place (child_is slots seen.sound.lone slot home node.name (some_within slots slot node is) (record { node = node; is = is; home_is = homes; name_is = refl })))
      ∙ ap (kind_in slot) is

  -- something stands in the directory where a slot has a node there
  pub has_child_seen : has_child nodes at ≡ list_any (is_in home) slots
  has_child_seen =
      both_ways (has_child nodes at) (list_any (is_in home) slots)
      (λ t.
      let found = any_entry (is_child at) (map.entries nodes) t in
      let path = child_path at found.0 found.1.0 in
      let some : is_some (map.get nodes (at ++ path.0 ∷ [])) ≡ true = ap (λ q. is_some (map.get nodes q)) (sym path.1) ∙ ap is_some (map.get-entries nodes found.0) ∙ found.1.1 in
      let leads = name_leads path.0 some in
      slot_any (is_in home) slots leads.0 leads.1.0 (ap (is_in home) leads.1.1.is ∙ ap (λ h. same_place h home) leads.1.1.home_is ∙ place_itself home))
      (λ t.
      let found = any_slot (is_in home) slots t in
      let node = in_node home (get_or slots found.0 None) found.1.1 in
      let got = leads_name found.0 node.0 node.1.0 node.1.1 in
      entry_any (is_child at) (at ++ node.0.name ∷ []) (map.entries nodes) (ap is_some (sym (map.get-entries nodes (at ++ node.0.name ∷ [])) ∙ got)) (path_child at node.0.name))
