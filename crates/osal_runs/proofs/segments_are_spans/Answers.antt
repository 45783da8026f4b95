use Rattle.osal_runs.proofs.Chain.{segments_are_spans}
use Rattle.osal_runs.proofs.segments_are_spans.Goals as goal

pub returns : goal.returns
returns c = segments_are_spans
