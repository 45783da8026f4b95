use Rattle.std.proofs.Common.{arith}
use Rattle.osal_file.proofs.Written.{written_within}
use Rattle.osal_file.proofs.streams.places.write_to.Goals as goal

pub overflow_add-result : goal.overflow_add-result
overflow_add-result c =
    omega (arith, written_within c.args.volume.now c.args.at.now c.args.place c.args.payload.now c.in_ok-count.count c.write.new.self c.in_ok-count.ensures, c.length_of-length.ensures, c.length_of-length.type_inv)
