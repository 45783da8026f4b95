-- A code is spelled by what the table has for it.
use Rattle.std.proofs.Common.{◌≡◌, Option, ℤ, ap}
use Rattle.osal_base.specs.declared.status.Status.{Status}
use Rattle.osal_base.specs.Status.{status_of}
use Rattle.osal_spelling.specs.Spelling.{code_by, code_text}

-- the table's status, or its lack of one, spells the code
pub code_text_by : (code : ℤ) (found : Option Status) → found ≡ status_of code → code_by code found ≡ code_text code
unfolding code_text
code_text_by code found e = ap (code_by code) e
