-- What is told of a sink over several calls.
use Rattle.std.proofs.Common.{◌≤◌, ℕ, ◌+◌, List, ◌++◌, length, ◌-◌, take, drop, Option, Some, None, Ok, Err, sym, ap, ◌∙◌, append_assoc}
use Rattle.std.proofs.Math.Seq.{take-add}
use Rattle.std.proofs.lemmas.List.{take_rest}
use Rattle.osal_outside.specs.Causes.{WhereTold}
use Rattle.osal_outside.specs.Sink.{WriteLeaves, Appends, AppendsPrefix}

-- a front of the bytes was appended, and then the front of the rest
pub append_more : (a b c : Option (List ℕ)) (bytes : List ℕ) (sent n : ℕ) → WhereTold a b (Appends (take sent bytes)) → WhereTold b c (WriteLeaves (Ok n) (take (length bytes - sent) (drop sent bytes))) → WhereTold a c (Appends (take (sent + n) bytes))
append_more None None None bytes sent n first second = tt
append_more (Some x) (Some y) (Some z) bytes sent n first second =
    second ∙ ap (λ v. y ++ take n v) (take_rest bytes sent) ∙ ap (λ v. v ++ take n (drop sent bytes)) first
    ∙ append_assoc x (take sent bytes) (take n (drop sent bytes))
    ∙ ap (λ v. x ++ v) (sym (take-add sent n bytes))
append_more None None (Some z) bytes sent n first second = absurd second
append_more None (Some y) c bytes sent n first second = absurd first
append_more (Some x) None c bytes sent n first second = absurd first
append_more (Some x) (Some y) None bytes sent n first second = absurd second

-- a front that was appended, before a write that failed, is a prefix
pub prefix_after_fault : (a b c : Option (List ℕ)) (bytes : List ℕ) (sent : ℕ) {failed : _} → sent ≤ length bytes → WhereTold a b (Appends (take sent bytes)) → WhereTold b c (WriteLeaves (Err failed) (take (length bytes - sent) (drop sent bytes))) → WhereTold a c (AppendsPrefix bytes)
prefix_after_fault None None None bytes sent within first second = tt
prefix_after_fault (Some x) (Some y) (Some z) bytes sent within first second =
    record { count = sent; within = within; appended = second ∙ first }
prefix_after_fault None None (Some z) bytes sent within first second = absurd second
prefix_after_fault None (Some y) c bytes sent within first second = absurd first
prefix_after_fault (Some x) None c bytes sent within first second = absurd first
prefix_after_fault (Some x) (Some y) None bytes sent within first second = absurd second
