-- The lists that are left have the word if all of them do.
use Rattle.std.proofs.Common.{◌≡◌, drop, find}
use Rattle.std.specs.List.{flat_map}
use Rattle.std.specs.Str.{bytes_eq}
use Rattle.osal_call.specs.Signature.{word_text}
use Rattle.osal_call.proofs.word.word_in.Given as goal

abbrev pub invariant-loop-list : goal.invariant-loop-list
invariant-loop-list l =
    find (λ word. bytes_eq l.text (word_text word)) (flat_map (λ list. list.now) l.lists)
    ≡ find (λ word. bytes_eq l.text (word_text word)) (flat_map (λ list. list.now) (drop l.list-index l.lists))
