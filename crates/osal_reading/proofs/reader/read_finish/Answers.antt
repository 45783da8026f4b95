use Rattle.std.proofs.Common.{◌≡◌, ◌<◌, length, true, false, arith}
use Rattle.std.specs.Option.{is_some}
use Rattle.std.proofs.lemmas.Bool.Decides.{nat_tests}
use Rattle.osal_reading.proofs.Sound.{finish_allows}
use Rattle.osal_reading.proofs.reader.read_finish.Goals as goal

pub new-requires : goal.new-requires
new-requires c =
    let d = c.draft.inside in
    let header : d.header ≡ true = cc in
    let closed : is_some d.current ≡ false = cc in
    let some : 0 < length d.bodies.items = grind (arith, nat_tests) in
    let sound = finish_allows (record { header = d.header; bodies = d.bodies.items; open_body = d.current }) c.args.draft c.args.number c.draft.view_is c.requires header closed some in
    record { some = some; few = sound.0; later = sound.1; handlers = sound.2 }
