use Rattle.std.proofs.Common.{◌≡◌, Some, sym}
use Rattle.osal_line.specs.Values as values
use Rattle.osal_line.proofs.Naming.{register_without_fault}
use Rattle.osal_line.proofs.registers.Registers.register_at.Goals as goal

pub returns-in-Err : goal.returns-in-Err
returns-in-Err c =
    let named : values.register_name c.args.word.now ≡ Some c.in-Some.name.now = sym c.in-Some.ensures in
    absurd (register_without_fault c.args.word.now c.in-Some.name.now c.in-Err.field-0 named c.in-Err.ensures)
