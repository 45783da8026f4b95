use Rattle.std.proofs.Common.{ap, ◌∙◌}
use Rattle.osal_path.specs.Entries.{mounts_of}
use Rattle.osal_path.proofs.Mounted.{none_mounted}
use Rattle.osal_path.proofs.mounts.MountMap.new.Goals as goal

pub returns : goal.returns
returns c = ap mounts_of c.in_ok-with_capacity.ensures.items ∙ none_mounted
