use Rattle.std.proofs.Common.{◌≡◌, drop}
use Rattle.osal_line.specs.Words.{words_of}
use Rattle.osal_line.proofs.words.word_start.Given as goal

abbrev pub invariant-loop-i : goal.invariant-loop-i
invariant-loop-i l = words_of l.line ≡ words_of (drop l.i l.line)
