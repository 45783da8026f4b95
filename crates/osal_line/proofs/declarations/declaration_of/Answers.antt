use Rattle.std.proofs.Common.{◌≡◌, None, sym, ◌∙◌}
use Rattle.osal_line.specs.Words.{words_of}
use Rattle.osal_line.specs.Declarations.{kind_of}
use Rattle.osal_line.proofs.Declaring.{none_found}
use Rattle.osal_line.proofs.declarations.declaration_of.Goals as goal

pub returns-in_err-kind : goal.returns-in_err-kind
returns-in_err-kind c =
    let none : kind_of c.in_ok-first.first.now ≡ None = sym c.kind_of.ensures ∙ c.in_err-kind.was in
    rw c.from_residual-in_err-kind.ensures (sym (none_found (words_of c.args.line.now) (words_of c.in_ok-first.rest.now) c.in_ok-first.first.now c.in_ok-first.ensures.0 none))
