use Rattle.std.proofs.Common.{subst}
use Rattle.osal_tree.specs.Nodes.{IsTree}
use Rattle.osal_tree.proofs.Seen.{seen_of}
use Rattle.osal_tree.proofs.Directories.{is_tree}
use Rattle.osal_tree.proofs.tree.Tree.count.Goals as goal

pub returns-clause-tree : goal.returns-clause-tree
returns-clause-tree c = subst IsTree c.self.view_is (is_tree (seen_of c.self.inside.nodes c.self.invariant))
