-- The table's answer spells the code.
use Rattle.std.proofs.Common.{◌≡◌, ◌++◌, w32, of_z, to_z, ap, ◌∙◌, arith}
use Rattle.std.proofs.lemmas.Int.{to_z-of_z}
use Rattle.osal_spelling.specs.Spelling.{code_text}
use Rattle.osal_spelling.proofs.Spelled.{code_text_by}
use Rattle.osal_spelling.proofs.spelling.push_code.Goals as goal

pub returns : goal.returns
returns c =
    let read : to_z w32 (of_z w32 c.args.code) ≡ c.args.code = grind (arith, to_z-of_z) in
    c.in_ok-push_code_by.ensures
    ∙ ap (λ text. c.args.out.now.items ++ text) (code_text_by _ _ c.of.ensures.table ∙ ap code_text read)
