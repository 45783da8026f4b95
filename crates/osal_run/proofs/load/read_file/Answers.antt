use Rattle.std.proofs.Common.{◌∙◌, arith}
use Rattle.osal_run.proofs.Pieces.{more_read, larger_read, untold_result}
use Rattle.osal_run.proofs.load.read_file.Goals as goal

pub loop-chunk-preserved : goal.loop-chunk-preserved
loop-chunk-preserved g c = record {
  told = more_read (g.S.Shelf.content c.args.shelf.now) (g.S.Shelf.content c.loop-chunk.shelf) (g.S.Shelf.content c.read_within.new.shelf) c.loop-chunk.bytes.items c.read_within.new.bytes.items c.in_ok-n.n c.loop-chunk.invariant.told c.in_ok-n.ensures.told;
  few = c.in_ok-n.ensures.within;
  still = c.in_ok-n.ensures.cause ∙ c.loop-chunk.invariant.still;
}

pub returns-clause-told : goal.returns-clause-told
returns-clause-told g c =
    larger_read (g.S.Shelf.content c.args.shelf.now) (g.S.Shelf.content c.loop-chunk.shelf) c.loop-chunk.bytes.items (omega (arith, c.loop-chunk-test.false, c.len.ensures)) c.loop-chunk.invariant.told

pub returns-in_err-n-clause-told : goal.returns-in_err-n-clause-told
returns-in_err-n-clause-told g c =
    untold_result (g.S.Shelf.content c.args.shelf.now) c.from_residual.result c.in_err-n.field-0.0 c.from_residual.ensures.1 c.in_err-n.ensures.larger
