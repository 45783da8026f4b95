use Rattle.std.proofs.Common.{ap}
use Rattle.osal_tree.proofs.Seen.{seen_of, seen_map, seen_is, seen_sound, fits_as}
use Rattle.osal_tree.proofs.Making.{create_fits, create_answers, created_ok, created_err}
use Rattle.osal_tree.proofs.tree.Tree.create.Goals as goal

pub invariant_of-self-inside : goal.invariant_of-self-inside
invariant_of-self-inside c =
    let fits = fits_as c.make.ensures (create_fits (seen_of c.self.inside.nodes c.self.invariant) c.in-Some.above.now c.in-Some.name.now) in
    seen_map fits.seen

pub invariant_of-self : goal.invariant_of-self
invariant_of-self c =
    let fits = fits_as c.make.ensures (create_fits (seen_of c.self.inside.nodes c.self.invariant) c.in-Some.above.now c.in-Some.name.now) in
    seen_sound fits.seen c.self-1.given.0

pub returns : goal.returns
returns c =
    let seen = seen_of c.self.inside.nodes c.self.invariant in
    let fits = fits_as c.make.ensures (create_fits seen c.in-Some.above.now c.in-Some.name.now) in
    let told = create_answers seen c.in-Some.above.now c.in-Some.name.now in
    rw (← c.self.view_is, c.in-Some.ensures.cases.0, ap (λ p. p.0) c.make.ensures) (record {
      made = created_ok _ _ _ _ (seen_is fits.seen c.self-1.given.0) told;
      refused = created_err _ _ _ _ (seen_is fits.seen c.self-1.given.0) told;
    })
