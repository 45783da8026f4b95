use Rattle.std.proofs.Common.{subst, IfOk}
use Rattle.osal_tree.specs.Listing.{IsListing}
use Rattle.osal_tree.proofs.Seen.{seen_of}
use Rattle.osal_tree.proofs.Directories.{listed_ok}
use Rattle.osal_tree.proofs.tree.Tree.list.Goals as goal

pub returns-clause-listed : goal.returns-clause-listed
returns-clause-listed c =
    subst (λ nodes. IfOk c.list.result (λ names. IsListing nodes c.args.at.now names.items)) c.self.view_is
    (listed_ok (seen_of c.self.inside.nodes c.self.invariant) c.args.at.now (λ names. names.items) c.list.result c.list.ensures.listed)
