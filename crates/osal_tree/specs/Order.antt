-- The order of paths is total, and only equal paths tie in it.
use Rattle.std.specs.Prelude.{◌≡◌, List, ℕ}
use Rattle.std.specs.Cmp.{IsTotalOrder, nat_cmp_total}
use Rattle.std.specs.Cmp.Lexicographic.{lists_total}
use Rattle.std.specs.FinMap as map
use Rattle.osal_tree.specs.Paths.{path_cmp}
use Rattle.osal_tree.specs.Nodes.{Nodes}

-- paths are in one order
pub path_total : IsTotalOrder path_cmp
path_total = lists_total (lists_total nat_cmp_total)

-- paths that tie are the same
pub path_ties : map.IsAntisymmetric path_cmp
path_ties = map.slice_cmp-IsAntisymmetric (map.slice_cmp-IsAntisymmetric map.nat_cmp-IsAntisymmetric)

-- trees that say the same of each path are the same
pub same_nodes : (nodes others : Nodes) → ((at : List (List ℕ)) → map.get nodes at ≡ map.get others at) → nodes ≡ others
same_nodes nodes others is = map.same_map path_total path_ties nodes others is
