-- A tree as contracts see it: the paths of its nodes, each with what stands there.
use Rattle.std.specs.Prelude.{◌≡◌, ◌≤◌, ◌++◌, List, [], ◌∷◌, ℕ, Bool, true, false, Option, Some, None}
use Rattle.std.specs.List.{list_any}
use Rattle.std.specs.FinMap as map
use Rattle.osal_tree.specs.declared.kind.Kind.{Kind}
use Rattle.osal_tree.specs.declared.kind.Kind.TheVariants as kind
use Rattle.osal_tree.specs.Paths.{path_cmp, is_child}

-- a finite map from paths; the root is implied
abbrev pub Nodes : Type 0
Nodes = map.FinMap path_cmp Kind

-- the most nodes below the root
abbrev pub node_limit : ℕ
node_limit = 256

-- what stands at a path: the root is always there, and a directory
abbrev pub node_at : Nodes → List (List ℕ) → Option Kind
node_at nodes [] = Some kind.Directory
node_at nodes (name ∷ rest) = map.get nodes (name ∷ rest)

-- whether a directory stands there
abbrev pub is_directory : Option Kind → Bool
is_directory None = false
is_directory (Some kind.Directory) = true
is_directory (Some (kind.File number)) = false

-- whether something stands in the directory
abbrev pub has_child : Nodes → List (List ℕ) → Bool
has_child nodes at = list_any (λ e. is_child at e.0) (map.entries nodes)

-- no file has the number
abbrev pub IsFresh : Nodes → ℕ → Type 0
IsFresh nodes number = (at : List (List ℕ)) → map.get nodes at ≡ Some (kind.File number) → ⊥

-- the root is implied, each node stands in a directory, no number stands twice, and there are at most 256 nodes
pub record IsTree (nodes : Nodes) : Type 0 where
  pub rootless : map.get nodes [] ≡ None
  pub homes : (at : List (List ℕ)) (name : List ℕ) (there : Kind) → map.get nodes (at ++ name ∷ []) ≡ Some there → node_at nodes at ≡ Some kind.Directory
  pub numbers : (at other : List (List ℕ)) (number : ℕ) → map.get nodes at ≡ Some (kind.File number) → map.get nodes other ≡ Some (kind.File number) → at ≡ other
  pub few : map.len nodes ≤ node_limit
