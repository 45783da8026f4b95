-- How slots make up a tree, and what always holds of them.
use Rattle.std.specs.Prelude.{◌≡◌, List, [], ◌∷◌, ℕ, suc, true, length, Option, Some, None, slice_index_or}
use mathlib.Core.Path.{sym, ◌∙◌}
use Rattle.std.specs.Coded.{Coded-set, coded_option, Π_prop}
use Rattle.std.specs.FinMap as map
use mathlib.Core.HLevel.{Σ_prop_path}
use Rattle.osal_tree.specs.declared.kind.Kind.{Kind}
use Rattle.osal_tree.specs.declared.node.Place.{Place}
use Rattle.osal_tree.specs.declared.node.Node.{Node}
use Rattle.osal_tree.specs.Nodes.{Nodes, is_directory}
use Rattle.osal_tree.specs.Slots.{kind_at, look}
use Rattle.osal_tree.specs.Code.{kind_code}
use Rattle.osal_tree.specs.Order.{same_nodes}

-- what stands at a path below the root
abbrev pub below : List (Option Node) → List (List ℕ) → Option Kind
below slots [] = None
below slots (name ∷ rest) = look slots (name ∷ rest)

-- the finite map that says where paths lead in the slots
abbrev pub MapOf : List (Option Node) → Type 0
MapOf slots = (nodes : Nodes) × ((at : List (List ℕ)) → map.get nodes at ≡ below slots at)

-- there is at most one
pub MapOf-prop : (slots : List (Option Node)) → IsProp (MapOf slots)
MapOf-prop slots a b =
    Σ_prop_path (λ nodes. Π_prop (λ at. Coded-set (coded_option kind_code) (map.get nodes at) (below slots at)))
    (same_nodes a.0 b.0 (λ at. a.1 at ∙ sym (b.1 at)))

-- how many slots have a node
abbrev pub taken : List (Option Node) → ℕ
taken [] = 0
taken (None ∷ slots) = taken slots
taken (Some node ∷ slots) = suc (taken slots)

-- a place is a directory
abbrev pub IsHome : List (Option Node) → Place → Type 0
IsHome slots home = is_directory (kind_at slots (Some home)) ≡ true

-- each node's place is a directory
abbrev pub Housed : List (Option Node) → Type 0
Housed slots = (slot : ℕ) (node : Node) → slice_index_or slots slot None ≡ Some node → IsHome slots node.home

-- no two nodes have the same name in one directory
abbrev pub Lone : List (Option Node) → Type 0
Lone slots =
    (slot other : ℕ) (node another : Node) → slice_index_or slots slot None ≡ Some node → slice_index_or slots other None ≡ Some another → node.home ≡ another.home → node.name ≡ another.name → slot ≡ other

-- there are 256 slots, each node's place is a directory, its name there is its own, and each is counted
pub record Sound (slots : List (Option Node)) (nodes : Nodes) : Type 0 where
  pub wide : length slots ≡ 256
  pub housed : Housed slots
  pub lone : Lone slots
  pub counted : map.len nodes ≡ taken slots
