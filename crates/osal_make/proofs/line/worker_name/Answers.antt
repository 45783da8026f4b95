use Rattle.std.proofs.Common.{◌≡◌, rules, ap, ◌∙◌}
use Rattle.osal_base.specs.Name.{name_fault}
use Rattle.osal_make.specs.MakeText.{worker_name}
use Rattle.osal_make.proofs.Names.{name_is_good}
use Rattle.osal_make.proofs.line.worker_name.Goals as goal

pub name_of-requires : goal.name_of-requires
name_of-requires c =
    let spelled : c.as_bytes.result.now ≡ worker_name c.args.worker = search rules in
    ap name_fault spelled ∙ name_is_good c.args.worker c.requires.some c.requires.few
