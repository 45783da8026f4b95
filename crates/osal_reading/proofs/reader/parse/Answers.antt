use Rattle.std.proofs.Common.{List, ℕ, Ok, refl, ap, sym, ◌∙◌, arith}
use Rattle.osal_line.specs.Words.{lines_of}
use Rattle.osal_line.specs.Declarations.{Declared, declared}
use Rattle.osal_line.specs.Places.{number_in}
use Rattle.osal_reading.specs.Draft.{begun}
use Rattle.osal_reading.specs.Reading as reading
use Rattle.osal_reading.proofs.Lookups.{bodies_behind, read_on, refused_at}
use Rattle.osal_reading.proofs.Sound.{reading_sound}
use Rattle.osal_reading.proofs.reader.parse.Goals as goal

pub returns-in-Err : goal.returns-in-Err
returns-in-Err c =
    let d = c.loop-line.draft in
    let read = reading.read_line (number_in c.in-Ok.declared (begun d)) d c.loop-line.number c.in-Some.line.now in
    let rest = read_on c.in-Ok.declared (declared (lines_of c.args.bytes.now)) (lines_of c.in-Some.after.now) (lines_of c.loop-line.rest.now) d c.loop-line.number c.in-Some.line.now read (reading.reading_of c.args.bytes.now) c.in-Ok.ensures c.in-Some.ensures.0 c.loop-line.invariant.2 c.loop-line.invariant.3 c.loop-line.invariant.1 refl in
    refused_at c.fault_at.result c.in-Err.stop (lines_of c.in-Some.after.now) c.loop-line.number read (reading.reading_of c.args.bytes.now) c.fault_at.ensures c.in-Err.ensures rest

pub loop-line-preserved : goal.loop-line-preserved
loop-line-preserved c =
    let d = c.loop-line.draft in
    let after = c.in-Ok-read_line.read in
    let bodies : List Declared = declared (lines_of c.args.bytes.now) in
    let lines : List (List ℕ) = lines_of c.in-Some.after.now in
    let left = c.loop-line.invariant.3 ∙ ap declared c.in-Some.ensures.0 in
    let rest = read_on c.in-Ok.declared bodies lines (lines_of c.loop-line.rest.now) d c.loop-line.number c.in-Some.line.now (Ok after) (reading.reading_of c.args.bytes.now) c.in-Ok.ensures c.in-Some.ensures.0 c.loop-line.invariant.2 c.loop-line.invariant.3 c.loop-line.invariant.1 c.in-Ok-read_line.ensures in
    let behind = bodies_behind (number_in c.in-Ok.declared (begun d)) bodies lines d after c.loop-line.number c.in-Some.line.now c.in-Ok-read_line.ensures c.loop-line.invariant.2 left in
    (omega (arith, c.in-Some.ensures.1), rest, behind.0, behind.1)

pub read_finish-requires : goal.read_finish-requires
read_finish-requires c = λ app e.
    let last = ap (λ (v : List ℕ). reading.read_lines (lines_of v) c.loop-line.number (Ok c.loop-line.draft)) c.in_default-next_line.ensures in
    reading_sound c.args.bytes.now app (sym c.loop-line.invariant.1 ∙ last ∙ e)
