use Rattle.osal_tree.proofs.Seen.{seen_of, seen_map, seen_sound, fits_as, fits_is}
use Rattle.osal_tree.proofs.Removing.{remove_fits}
use Rattle.osal_tree.proofs.tree.Tree.remove.Goals as goal

pub invariant_of-self-inside : goal.invariant_of-self-inside
invariant_of-self-inside c =
    let fits = fits_as c.remove_file.ensures (remove_fits (seen_of c.self.inside.nodes c.self.invariant) c.args.at.now) in seen_map fits.seen

pub invariant_of-self : goal.invariant_of-self
invariant_of-self c =
    let fits = fits_as c.remove_file.ensures (remove_fits (seen_of c.self.inside.nodes c.self.invariant) c.args.at.now) in seen_sound fits.seen c.self-1.given.0

pub returns : goal.returns
returns c =
    let fits = fits_as c.remove_file.ensures (remove_fits (seen_of c.self.inside.nodes c.self.invariant) c.args.at.now) in
    rw (← c.self.view_is) (fits_is fits c.self-1.given.0)
