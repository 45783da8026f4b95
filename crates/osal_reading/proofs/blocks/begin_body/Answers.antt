use Rattle.std.proofs.Common.{◌∙◌, sym}
use Rattle.osal_line.proofs.Naming.{body_without_fault}
use Rattle.osal_reading.proofs.blocks.begin_body.Goals as goal

pub returns : goal.returns
returns c = absurd (body_without_fault c.args.name.now c.in-Err.field-0 (sym c.is_body_name.ensures ∙ c.if-not-is_body_name.false) c.in-Err.ensures)
