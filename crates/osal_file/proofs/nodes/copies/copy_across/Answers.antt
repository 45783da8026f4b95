use Rattle.std.proofs.Common.{◌≡◌, Some, None, slice_set, sym, ap, ◌∙◌}
use Rattle.std.proofs.lemmas.List.{get_or-set_other, get_or_default}
use Rattle.osal_volume.specs.Copies.{copy_from_step}
use Rattle.osal_file.proofs.Copies.{put_back}
use Rattle.osal_file.proofs.nodes.copies.copy_across.Goals as goal

pub returns : goal.returns
returns c = λ volume there at_home at_slot.
    let volumes = c.args.volumes.now in
    let out = get_or_default volumes c.args.home None c.index-volumes-home.result c.requires.home in
    let source : c.in-Some.source ≡ volume = cc in
    let seen = get_or-set_other volumes c.args.home c.args.slot c.take.new.self c.index-volumes-slot.result c.requires.apart in
    let default = get_or_default volumes c.args.slot None c.index-volumes-slot.result c.requires.slot in
    let target : c.in-Some-volumes.target ≡ there = cc in
    let copied : c.copy_from.new.self ≡ (copy_from_step there volume c.args.from.now c.args.to.now).1 =
    ap (λ p. p.1) c.copy_from.ensures ∙ (λ i. (copy_from_step (target i) (source i) c.args.from.now c.args.to.now).1) in
    put_back volumes c.args.home c.args.slot c.take.new.self (Some c.copy_from.new.self) c.in-Some.source c.requires.apart (at_home ∙ ap Some (sym source))
    ∙ ap (λ v. slice_set volumes c.args.slot (Some v)) copied
