-- The kinds of faults, as messages name them.
use Rattle.std.specs.Prelude.{List, ℕ, codes}
use Rattle.osal_reading.specs.declared.fault.FaultKind.{FaultKind}
use Rattle.osal_reading.specs.declared.fault.FaultKind.TheVariants as fault

-- the word for a kind
abbrev pub kind_text : FaultKind → List ℕ
kind_text fault.Long = codes "long"
kind_text fault.Byte = codes "byte"
kind_text fault.Header = codes "header"
kind_text fault.Word = codes "word"
kind_text fault.Place = codes "place"
kind_text fault.Argument = codes "argument"
kind_text fault.Many = codes "many"
kind_text fault.Body = codes "body"
kind_text fault.End = codes "end"
