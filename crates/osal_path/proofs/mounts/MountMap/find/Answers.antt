use Rattle.std.proofs.Common.{get_or, sym, ap, ◌∙◌}
use Rattle.std.specs.FinMap as map
use Rattle.osal_path.specs.Entries.{mounts_of}
use Rattle.osal_path.proofs.Mounted.{missed, met}
use Rattle.osal_path.proofs.mounts.MountMap.find.Goals as goal

pub returns-in_err-at : goal.returns-in_err-at
returns-in_err-at c =
    let nowhere = missed c.as_slice.result.now c.args.name.now (sym c.place_of.ensures.place ∙ c.in_err-at.was) in
    c.from_residual.ensures ∙ sym nowhere
    ∙ ap (λ es. map.get (mounts_of es) c.args.name.now) c.as_slice.ensures.value
    ∙ ap (λ m. map.get m c.args.name.now) c.self.view_is

pub returns : goal.returns
returns c =
    let entry = c.index.ensures ∙ ap (λ es. get_or es c.in_ok-at.at c.index.result.now) (sym c.as_slice.ensures.value) in
    let there = met c.as_slice.result.now c.args.name.now c.in_ok-at.at c.index.result.now (sym c.place_of.ensures.place ∙ c.in_ok-at.was) entry in
    sym there
    ∙ ap (λ es. map.get (mounts_of es) c.args.name.now) c.as_slice.ensures.value
    ∙ ap (λ m. map.get m c.args.name.now) c.self.view_is
