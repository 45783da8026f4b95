use Rattle.osal_blocks.proofs.Opened.{threaded-opened, files-opened, free-opened}
use Rattle.osal_blocks.proofs.chains.Chains.new.Goals as goal

pub invariant_of-result : goal.invariant_of-result
invariant_of-result c = threaded-opened c.in_ok-next.next.items c.in_ok-ends.ends.items c.args.total c.in_ok-next.ensures.count c.in_ok-next.ensures.each c.requires.few c.in_ok-ends.ensures

pub returns-clause-files : goal.returns-clause-files
returns-clause-files c = files-opened c.in_ok-next.next.items c.in_ok-ends.ends.items c.args.total c.in_ok-next.ensures.count c.in_ok-next.ensures.each c.requires.few c.in_ok-ends.ensures

pub returns-clause-free : goal.returns-clause-free
returns-clause-free c = free-opened c.in_ok-next.next.items c.in_ok-ends.ends.items c.args.total c.in_ok-next.ensures.count c.in_ok-next.ensures.each c.requires.few c.in_ok-ends.ensures
