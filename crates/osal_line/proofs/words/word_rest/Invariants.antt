use Rattle.std.proofs.Common.{◌≡◌, take, drop}
use Rattle.osal_line.specs.Words.{words_from}
use Rattle.osal_line.specs.Inside.{IsInside}
use Rattle.osal_line.proofs.Splitting.{onto_front}
use Rattle.osal_line.proofs.words.word_rest.Given as goal

abbrev pub invariant-loop-i : goal.invariant-loop-i
invariant-loop-i l =
    IsInside l.at
    × (words_from l.fn.phase l.bytes ≡ onto_front (take l.i l.bytes) (words_from l.at (drop l.i l.bytes)))
