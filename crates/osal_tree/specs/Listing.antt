-- The names in a directory.
use Rattle.std.specs.Prelude.{◌≡◌, ◌++◌, List, [], ◌∷◌, ℕ, Option, Some, None, is_some}
use Rattle.std.specs.List.{list_any}
use Rattle.std.specs.List.Sorted.{IsStrictlySortedBy}
use Rattle.std.specs.Str.{bytes_eq}
use Rattle.std.specs.Ordering.{nat_cmp}
use Rattle.std.specs.Cmp.Lexicographic.{slice_cmp}
use Rattle.std.specs.FinMap as map
use Rattle.osal_tree.specs.declared.kind.Kind.{Kind}
use Rattle.osal_tree.specs.declared.kind.Kind.TheVariants as kind
use Rattle.osal_tree.specs.declared.kind.TreeFault.{TreeFault}
use Rattle.osal_tree.specs.declared.kind.TreeFault.TheVariants as fault
use Rattle.osal_tree.specs.Nodes.{Nodes, node_at}

-- why what stands at a path has no names in it
abbrev pub listing_fault : Option Kind → Option TreeFault
listing_fault None = Some fault.NotFound
listing_fault (Some (kind.File number)) = Some fault.WrongKind
listing_fault (Some kind.Directory) = None

-- the fault, or that there was no memory where nothing else is in the way
abbrev pub or_memory : Option TreeFault → TreeFault
or_memory None = fault.OutOfMemory
or_memory (Some why) = why

-- the names in a directory, in the order of their bytes, each once
pub record IsListing (nodes : Nodes) (at : List (List ℕ)) (names : List (List ℕ)) : Type 0 where
  pub allowed : listing_fault (node_at nodes at) ≡ None
  pub ascending : IsStrictlySortedBy (slice_cmp nat_cmp) names
  pub exact : (name : List ℕ) → list_any (bytes_eq name) names ≡ is_some (map.get nodes (at ++ name ∷ []))
