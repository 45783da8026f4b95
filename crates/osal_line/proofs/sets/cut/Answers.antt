use Rattle.std.proofs.Common.{sym, ◌∙◌}
use Rattle.osal_line.proofs.Commas.{parts_at, parts_whole}
use Rattle.osal_line.proofs.sets.cut.Goals as goal

pub returns-in-Some-clause-parts : goal.returns-in-Some-clause-parts
returns-in-Some-clause-parts c = parts_at c.args.word.now c.in-Some.at (sym c.first_comma.ensures ∙ c.in-Some.is)

pub returns-in-None-clause-parts : goal.returns-in-None-clause-parts
returns-in-None-clause-parts c = parts_whole c.args.word.now (sym c.first_comma.ensures ∙ c.in-None.is)
