-- The part after a call that found that it had to wait.
use Rattle.std.proofs.Common.{◌≡◌, ℕ, Bool, true, List, sym, ap, ◌∙◌}
use Rattle.std.proofs.lemmas.Bool.{cond-true}
use Rattle.osal_base.specs.declared.time.Moment.{Moment}
use Rattle.osal_base.specs.declared.time.Timeout.{Timeout}
use Rattle.osal_base.specs.Reply.{Replied, is_waits}
use Rattle.osal_object.proofs.Refusals.{Leaves}
use Rattle.osal_io.specs.declared.awaited.Awaited.{Awaited}
use Rattle.osal_io.specs.Io.{IoState, Stepped, begun, or_wait}
use Rattle.osal_io.specs.Ends.{ended_late, ended_as}

module _ (io : IoState) (stepped : Stepped) (reply : Replied) (left : IoState) (same : (reply, left) ≡ stepped) (waits : is_waits reply.answer ≡ true) (leaves : Leaves is_waits io stepped) where
  has_to : is_waits stepped.0.answer ≡ true
  has_to = ap (λ (s : Stepped). is_waits s.0.answer) (sym same) ∙ waits

  as_before : left ≡ io
  as_before = ap (λ (s : Stepped). s.1) same ∙ leaves.left has_to

  -- a wait that begins in the part that the call left begins in the part as it was
  pub waited_as : (task : ℕ) (now : Moment) (what : Awaited) (on : List ℕ) (wait : Timeout) (answered : Stepped) → answered ≡ begun left task now what on wait → answered ≡ or_wait io task now what on wait stepped
  waited_as task now what on wait answered began =
      began ∙ ap (λ i. begun i task now what on wait) as_before ∙ sym (cond-true (is_waits stepped.0.answer) _ _ has_to)

  -- and a wait whose call would have to wait again ends late there
  pub late_as : (task : ℕ) (due : Bool) (answered : Stepped) → answered ≡ ended_late left task due → answered ≡ ended_as io task due stepped
  late_as task due answered late =
      late ∙ ap (λ i. ended_late i task due) as_before ∙ sym (cond-true (is_waits stepped.0.answer) _ _ has_to)
