use Rattle.std.proofs.Common.{◌<◌, ℕ, length, slice_index, ap, sym, ◌∙◌}
use Rattle.std.proofs.lemmas.List.{get_or_read}
use Rattle.osal_blocks.proofs.Walks.{behind_at}
use Rattle.osal_blocks.proofs.chains.Chains.after.Goals as goal

pub returns : goal.returns
returns c =
    let next = c.self.inside.next.items in
    let within : c.args.block < length next = rw (← c.self.view_is) at c.requires in
    let read = get_or_read next c.args.block c.index.result.now within c.index.ensures 0 in
    rw (← c.self.view_is)
    (λ list k there here.
    c.from.ensures ∙ (read ∙ (ap (λ (b : ℕ). slice_index next b) (sym here) ∙ behind_at next c.self.inside.ends.items list k there)))
