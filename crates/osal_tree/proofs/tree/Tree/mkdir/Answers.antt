use Rattle.osal_tree.proofs.Seen.{seen_of, seen_map, seen_sound, fits_as, fits_is}
use Rattle.osal_tree.proofs.Making.{mkdir_fits}
use Rattle.osal_tree.proofs.tree.Tree.mkdir.Goals as goal

pub invariant_of-self-inside : goal.invariant_of-self-inside
invariant_of-self-inside c =
    let fits = fits_as c.make.ensures (mkdir_fits (seen_of c.self.inside.nodes c.self.invariant) c.in-Some.above.now c.in-Some.name.now) in
    seen_map fits.seen

pub invariant_of-self : goal.invariant_of-self
invariant_of-self c =
    let fits = fits_as c.make.ensures (mkdir_fits (seen_of c.self.inside.nodes c.self.invariant) c.in-Some.above.now c.in-Some.name.now) in
    seen_sound fits.seen c.self-1.given.0

pub returns : goal.returns
returns c =
    let fits = fits_as c.make.ensures (mkdir_fits (seen_of c.self.inside.nodes c.self.invariant) c.in-Some.above.now c.in-Some.name.now) in
    rw (c.done.ensures, ← c.self.view_is, c.in-Some.ensures.cases.0) (fits_is fits c.self-1.given.0)
