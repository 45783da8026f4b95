-- Each entry is read; no other matters behind the script's end, or behind the next creation.
use Rattle.std.proofs.Common.{◌≡◌, ◌<◌, not, length, false, ap, sym, ◌∙◌, arith}
use Rattle.osal_script.specs.Script.{is_ended}
use Rattle.osal_runs.specs.Spans.{begins}
use Rattle.osal_report.proofs.Reading.{ends_more, ends_ended, ends_here}
use Rattle.osal_report.proofs.status.end_of_task.Goals as goal

pub returns-then-is_ended-clause-stalled : goal.returns-then-is_ended-clause-stalled
returns-then-is_ended-clause-stalled c =
    let within : c.loop-entry.entry-index < length c.args.entries.now = omega arith in
    let ends = ends_more c.args.app.now c.args.id c.args.entries.now c.loop-entry.entry-index c.entry-item.result c.loop-entry.reading.cursor c.read.new.self.cursor c.loop-entry.reading.fails c.read.new.self.fails within c.entry-item.is c.loop-entry.invariant c.read.ensures.cursor c.read.ensures.passes in
    let ended = ap is_ended (sym c.phase.ensures) ∙ sym c.is_ended.ensures ∙ c.if-is_ended.true in
    ap (λ end. end.stalled) c.end.ensures ∙ (ends_here (ends_ended ends ended)).0

pub returns-then-is_ended-clause-passes : goal.returns-then-is_ended-clause-passes
returns-then-is_ended-clause-passes c =
    let within : c.loop-entry.entry-index < length c.args.entries.now = omega arith in
    let ends = ends_more c.args.app.now c.args.id c.args.entries.now c.loop-entry.entry-index c.entry-item.result c.loop-entry.reading.cursor c.read.new.self.cursor c.loop-entry.reading.fails c.read.new.self.fails within c.entry-item.is c.loop-entry.invariant c.read.ensures.cursor c.read.ensures.passes in
    let ended = ap is_ended (sym c.phase.ensures) ∙ sym c.is_ended.ensures ∙ c.if-is_ended.true in
    ap (λ end. not end.fails) c.end.ensures ∙ (ends_here (ends_ended ends ended)).1

pub loop-entry-preserved : goal.loop-entry-preserved
loop-entry-preserved c =
    let within : c.loop-entry.entry-index < length c.args.entries.now = omega arith in
    let ends = ends_more c.args.app.now c.args.id c.args.entries.now c.loop-entry.entry-index c.entry-item.result c.loop-entry.reading.cursor c.read.new.self.cursor c.loop-entry.reading.fails c.read.new.self.fails within c.entry-item.is c.loop-entry.invariant c.read.ensures.cursor c.read.ensures.passes in
    let none : begins c.args.app.now c.entry-item.result c.args.id ≡ false = sym c.begins.ensures ∙ c.if-begins.false in
    rw none at ends
