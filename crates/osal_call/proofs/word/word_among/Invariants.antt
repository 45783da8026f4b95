use Rattle.std.proofs.Common.{◌≡◌, drop, find}
use Rattle.std.specs.Str.{bytes_eq}
use Rattle.osal_call.specs.Signature.{word_text}
use Rattle.osal_call.proofs.word.word_among.Given as goal

abbrev pub invariant-loop-word : goal.invariant-loop-word
invariant-loop-word l =
    find (λ word. bytes_eq l.text (word_text word)) l.among
    ≡ find (λ word. bytes_eq l.text (word_text word)) (drop l.word-index l.among)
