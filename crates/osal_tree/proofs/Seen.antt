-- Slots and the tree that they make up.
use Rattle.std.proofs.Common.{◌≡◌, ℕ, zero, suc, length, replicate, arith, List, [], ◌∷◌, Option, None, Some, Result, get_or, refl, sym, ap, subst, ◌∙◌, inl, inr}
use Rattle.std.specs.FinMap as map
use Rattle.osal_tree.specs.declared.kind.Kind.{Kind}
use Rattle.osal_tree.specs.declared.kind.Kind.TheVariants as kind
use Rattle.osal_tree.specs.declared.kind.TreeFault.{TreeFault}
use Rattle.osal_tree.specs.declared.node.Place.{Place}
use Rattle.osal_tree.specs.declared.node.Place.TheVariants as place
use Rattle.osal_tree.specs.declared.node.Sort.{Sort}
use Rattle.osal_tree.specs.declared.node.Sort.TheVariants as sort
use Rattle.osal_tree.specs.declared.node.Node.{Node}
use Rattle.osal_tree.specs.Paths.{path_cmp}
use Rattle.osal_tree.specs.Nodes.{Nodes, node_at}
use Rattle.osal_tree.specs.Slots.{kind_of, kind_in, kind_at, look, reach}
use Rattle.osal_tree.specs.Order.{same_nodes}
use Rattle.osal_tree.specs.Sound.{below, MapOf, Sound}
use Rattle.osal_tree.proofs.Paths.{last_cases}
use Rattle.osal_tree.proofs.Walks.{last_leads, one_path}
use Rattle.osal_tree.proofs.Counting.{none_taken}

-- the nodes are those of the slots, of which holds what always does
pub record Seen (slots : List (Option Node)) (nodes : Nodes) : Type 0 where
  pub exact : (at : List (List ℕ)) → map.get nodes at ≡ below slots at
  pub sound : Sound slots nodes

module _ {slots : List (Option Node)} where
  pub seen_of : (m : MapOf slots) → Sound slots m.0 → Seen slots m.0
  seen_of m sound = record { exact = m.1; sound = sound }

  module _ {nodes : Nodes} (seen : Seen slots nodes) where
    pub seen_map : MapOf slots × Unit {0}
    seen_map = ((nodes, seen.exact), tt)

    pub seen_is : (m : MapOf slots) → m.0 ≡ nodes
    seen_is m = same_nodes m.0 nodes (λ at. m.1 at ∙ sym (seen.exact at))

    pub seen_sound : (m : MapOf slots) → Sound slots m.0
    seen_sound m = subst (Sound slots) (sym (seen_is m)) seen.sound

    -- what stands at a path is what it leads to
    pub node_seen : (at : List (List ℕ)) → node_at nodes at ≡ look slots at
    node_seen [] = refl
    node_seen (name ∷ rest) = seen.exact (name ∷ rest)

-- a call on the slots answers and leaves, once its answer is read so, what the tree says
pub record Fits {R : Type 0} (read : Result ℕ TreeFault → R) (told : Result ℕ TreeFault × List (Option Node)) (want : R × Nodes) : Type 0 where
  pub answer : read told.0 ≡ want.0
  pub seen : Seen told.1 want.1

abbrev pub itself : Result ℕ TreeFault → Result ℕ TreeFault
itself answer = answer

module _ {R : Type 0} {read : Result ℕ TreeFault → R} {told : Result ℕ TreeFault × List (Option Node)} {want : R × Nodes} where
  pub fits_as : {step : Result ℕ TreeFault × List (Option Node)} → told ≡ step → Fits read step want → Fits read told want
  fits_as is fits = subst (λ t. Fits read t want) (sym is) fits

  -- the answer and the tree are those that are wanted
  pub fits_is : Fits read told want → (m : MapOf told.1) → (read told.0, m.0) ≡ want
  fits_is fits m = λ i. (fits.answer i, seen_is fits.seen m i)

module _ (slots : List (Option Node)) where
  pub below_look : (at : List (List ℕ)) → (at ≡ [] → ⊥) → below slots at ≡ look slots at
  below_look [] ne = absurd (ne refl)
  below_look (name ∷ rest) ne = refl

  -- a path that leads to a slot leads to its node
  pub reached : (at : List (List ℕ)) (slot : ℕ) → reach slots at ≡ Some (place.Slot slot) → (node : Node) × (get_or slots slot None ≡ Some node)
  reached at slot e =
      elim (last_cases at) [
        | inl empty ↦ let root : Some place.Root ≡ Some (place.Slot slot) = ap (reach slots) (sym empty) ∙ e in absurd cc
        | inr pushed ↦
            let leads = last_leads slots pushed.0 pushed.1.0 (place.Slot slot) (ap (reach slots) (sym pushed.1.1) ∙ e) in
            let same : leads.slot ≡ slot = (let end = leads.end_is in cc) in
            (leads.holds.node, ap (λ k. get_or slots k None) (sym same) ∙ leads.holds.is)
      ]

  file_slot : (o : Option Place) (number : ℕ) → kind_at slots o ≡ Some (kind.File number) → o ≡ Some (place.Slot number)
  file_slot None number e = absurd cc
  file_slot (Some place.Root) number e = absurd cc
  file_slot (Some (place.Slot slot)) number e = by (get_or slots slot None) e
    where
      sorted : (s : Sort) → kind_of slot s ≡ kind.File number → Some (place.Slot slot) ≡ Some (place.Slot number)
      sorted sort.Directory e = absurd cc
      sorted sort.File e = let same : slot ≡ number = cc in ap (λ n. Some (place.Slot n)) same

      by : (content : Option Node) → kind_in slot content ≡ Some (kind.File number) → Some (place.Slot slot) ≡ Some (place.Slot number)
      by None e = absurd cc
      by (Some node) e = sorted node.sort cc

  -- a file's number is the slot that its path leads to
  pub number_slot : (at : List (List ℕ)) (number : ℕ) → below slots at ≡ Some (kind.File number) → reach slots at ≡ Some (place.Slot number)
  number_slot [] number e = absurd cc
  number_slot (name ∷ rest) number e = file_slot (reach slots (name ∷ rest)) number e

-- free slots alone are a tree of the root alone
pub seen_empty : Seen (replicate 256 None) map.empty
seen_empty = record {
  exact = λ at. map.get-empty path_cmp at ∙ sym (nowhere at);
  sound = record {
    wide = refl;
    housed = λ slot node e. absurd (no_node 256 slot node e);
    lone = λ slot other node another e f homes names. absurd (no_node 256 slot node e);
    counted = map.len-empty path_cmp Kind ∙ sym (none_taken 256);
  };
}
  where
    no_node : (n slot : ℕ) (node : Node) → get_or (replicate n None) slot None ≡ Some node → ⊥
    no_node zero slot node e = cc
    no_node (suc n) zero node e = cc
    no_node (suc n) (suc slot) node e = no_node n slot node e

    nowhere : (at : List (List ℕ)) → below (replicate 256 None) at ≡ None
    nowhere [] = refl
    nowhere (name ∷ rest) =
        by (reach (replicate 256 None) (name ∷ rest)) refl
      where
        by : (o : Option Place) → reach (replicate 256 None) (name ∷ rest) ≡ o → kind_at (replicate 256 None) o ≡ None
        by None e = refl
        by (Some place.Root) e =
            let same = one_path (replicate 256 None) (name ∷ rest) [] place.Root e refl in (let long : length (name ∷ rest) ≡ 0 = ap length same in absurd (omega arith))
        by (Some (place.Slot slot)) e =
            let node = reached (replicate 256 None) (name ∷ rest) slot e in absurd (no_node 256 slot node.0 node.1)
