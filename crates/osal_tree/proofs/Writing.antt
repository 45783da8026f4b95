-- A write to a slot: what steps from place to place, and kinds, it leaves as they were.
use Rattle.std.proofs.Common.{◌≡◌, ◌<◌, List, [], ◌∷◌, ℕ, zero, suc, true, Option, None, Some, length, get_or, set, refl, sym, ap, ◌∙◌, arith, get_or-set_other}
use Rattle.osal_tree.specs.declared.node.Place.{Place}
use Rattle.osal_tree.specs.declared.node.Place.TheVariants as place
use Rattle.osal_tree.specs.declared.node.Node.{Node}
use Rattle.osal_tree.specs.Nodes.{is_directory}
use Rattle.osal_tree.specs.Slots.{child, slot_place, step, kind_in, kind_at}
use Rattle.osal_tree.specs.Sound.{IsHome, Lone}
use Rattle.osal_tree.proofs.Children.{Holds, child_holds, child_same}

-- a slot with a node is one of the slots
pub some_within : (slots : List (Option Node)) (slot : ℕ) (node : Node) → get_or slots slot None ≡ Some node → slot < length slots
some_within [] slot node e = absurd cc
some_within (s ∷ slots) zero node e = omega arith
some_within (s ∷ slots) (suc slot) node e = let less = some_within slots slot node e in omega arith

-- a slot that is free is no directory
pub no_home : (slots : List (Option Node)) (slot : ℕ) (home : Place) → get_or slots slot None ≡ None → home ≡ place.Slot slot → IsHome slots home → ⊥
no_home slots slot home free is dir =
    let told : is_directory (kind_at slots (Some (place.Slot slot))) ≡ true = ap (λ h. is_directory (kind_at slots (Some h))) (sym is) ∙ dir in
    let none : is_directory (kind_in slot None) ≡ true = ap (λ o. is_directory (kind_in slot o)) (sym free) ∙ told in absurd cc

-- a place in which no node lies has no children
pub no_child : (slots : List (Option Node)) (home : Place) → ((slot : ℕ) (node : Node) → get_or slots slot None ≡ Some node → node.home ≡ home → ⊥) → (name : List ℕ) → child slots home name ≡ None
no_child slots home none name = by (child slots home name) refl
  where
    by : (o : Option ℕ) → child slots home name ≡ o → o ≡ None
    by None e = refl
    by (Some slot) e =
        let h = (child_holds slots home name slot e).1 in absurd (none slot h.node h.is h.home_is)

-- in another slot stands what stood there
pub kind_kept : (slots : List (Option Node)) (slot other : ℕ) (content : Option Node) → (other ≡ slot → ⊥) → kind_at (set slots slot content) (Some (place.Slot other)) ≡ kind_at slots (Some (place.Slot other))
kind_kept slots slot other content ne = ap (kind_in other) (get_or-set_other slots slot other content None ne)

module _ (slots : List (Option Node)) (slot : ℕ) (content : Option Node) (less : slot < length slots) (lone : Lone slots) (still : Lone (set slots slot content)) where
  -- a name leads where it led, if neither the old content of the slot nor the new one has it there
  pub step_same : (from : Option Place) (name : List ℕ) → ((home : Place) → from ≡ Some home → Holds content home name → ⊥) → ((home : Place) → from ≡ Some home → Holds (get_or slots slot None) home name → ⊥) → step (set slots slot content) from name ≡ step slots from name
  step_same None name new old = refl
  step_same (Some home) name new old =
      ap slot_place (child_same slots slot content less lone still home name (new home refl) (old home refl))
