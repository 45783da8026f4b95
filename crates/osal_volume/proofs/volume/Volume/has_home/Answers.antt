use Rattle.std.proofs.Common.{ap, ◌∙◌}
use Rattle.osal_tree.specs.Paths.{parent_of}
use Rattle.osal_tree.specs.Nodes as tree
use Rattle.osal_volume.specs.Volume.{content_at, is_directory}
use Rattle.osal_volume.proofs.Rooms.{directory_seen}
use Rattle.osal_volume.proofs.volume.Volume.has_home.Goals as goal

pub returns : goal.returns
returns c =
    c.is_directory.ensures ∙ ap (λ p. tree.is_directory (tree.node_at c.self.inside.tree p)) c.parent_of.ensures
    ∙ directory_seen c.self.inside.tree c.self.inside.blocks (parent_of c.args.at.now)
    ∙ ap (λ s. is_directory (content_at s (parent_of c.args.at.now))) c.self.view_is
