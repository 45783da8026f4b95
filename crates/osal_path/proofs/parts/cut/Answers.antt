use Rattle.std.proofs.Common.{sym, ◌∙◌}
use Rattle.osal_path.proofs.Cuts.{parts_at, parts_whole}
use Rattle.osal_path.proofs.parts.cut.Goals as goal

pub returns-in-Some-clause-parts : goal.returns-in-Some-clause-parts
returns-in-Some-clause-parts c = parts_at c.args.path.now c.in-Some.at (sym c.first_slash.ensures ∙ c.in-Some.is)

pub returns-in-None-clause-parts : goal.returns-in-None-clause-parts
returns-in-None-clause-parts c = parts_whole c.args.path.now (sym c.first_slash.ensures ∙ c.in-None.is)
