-- The report stands before the journal's text.
use Rattle.std.proofs.Common.{subst, sym, option_copied}
use Rattle.osal_outside.specs.Causes.{WhereTold}
use Rattle.osal_outside.specs.Sink.{Appends, AppendsPrefix}
use Rattle.osal_outside.proofs.Appended.{both_appended, then_prefix, whole_prefix}
use Rattle.osal_run.specs.Outcome.{rest_text, text_if}
use Rattle.osal_run.proofs.runner.write_rest.Goals as goal

pub returns-in_err-write_shown-clause-prefix : goal.returns-in_err-write_shown-clause-prefix
returns-in_err-write_shown-clause-prefix g c =
    let before = g.K.Sink.written c.args.sink.now in
    let between = g.K.Sink.written c.send_all.new.sink in
    let front = subst (λ bytes. WhereTold before between (Appends bytes)) c.as_slice.ensures c.in_ok-send_all.ensures.all in
    then_prefix before between (g.K.Sink.written c.write_shown.new.sink) c.args.report.now.bytes (text_if (option_copied c.args.journal)) front c.in_err-write_shown.ensures.prefix

pub returns-in_err-flush-clause-prefix : goal.returns-in_err-flush-clause-prefix
returns-in_err-flush-clause-prefix g c =
    let before = g.K.Sink.written c.args.sink.now in
    let between = g.K.Sink.written c.send_all.new.sink in
    let after = g.K.Sink.written c.write_shown.new.sink in
    let front = subst (λ bytes. WhereTold before between (Appends bytes)) c.as_slice.ensures c.in_ok-send_all.ensures.all in
    let whole = both_appended before between after c.args.report.now.bytes (text_if (option_copied c.args.journal)) front c.in_ok-write_shown.ensures.all in
    subst (λ now. WhereTold before now (AppendsPrefix (rest_text c.args.report.now.bytes (option_copied c.args.journal)))) (sym c.in_err-flush.ensures.told) (whole_prefix before after _ whole)

pub returns-clause-prefix : goal.returns-clause-prefix
returns-clause-prefix g c =
    let before = g.K.Sink.written c.args.sink.now in
    let between = g.K.Sink.written c.send_all.new.sink in
    let after = g.K.Sink.written c.write_shown.new.sink in
    let front = subst (λ bytes. WhereTold before between (Appends bytes)) c.as_slice.ensures c.in_ok-send_all.ensures.all in
    let whole = both_appended before between after c.args.report.now.bytes (text_if (option_copied c.args.journal)) front c.in_ok-write_shown.ensures.all in
    subst (λ now. WhereTold before now (AppendsPrefix (rest_text c.args.report.now.bytes (option_copied c.args.journal)))) (sym c.in_ok-flush.ensures.told) (whole_prefix before after _ whole)
