use Rattle.std.proofs.Common.{◌≡◌, subst, ◌∙◌}
use Rattle.osal_volume.specs.Volume.{content_at}
use Rattle.osal_volume.specs.Listing.{listing_fault, or_memory, IsListing}
use Rattle.osal_volume.proofs.Names.{listing_is, list_refused}
use Rattle.osal_volume.proofs.volume.Volume.list.Goals as goal

pub returns-in-Ok-clause-listed : goal.returns-in-Ok-clause-listed
returns-in-Ok-clause-listed c =
    subst (λ s. IsListing s c.args.at.now c.in-Ok.names.items) c.self.view_is
    (listing_is c.self.inside.tree c.self.inside.blocks c.args.at.now c.in-Ok.names.items c.in-Ok.ensures.listed)

pub returns-in-Err-clause-refused : goal.returns-in-Err-clause-refused
returns-in-Err-clause-refused c =
    subst (λ s. c.vol_fault.result ≡ or_memory (listing_fault (content_at s c.args.at.now))) c.self.view_is
    (c.vol_fault.ensures ∙ list_refused c.self.inside.tree c.self.inside.blocks c.args.at.now c.in-Err.fault c.in-Err.ensures.refused)
