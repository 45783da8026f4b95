-- What is known of every call of the console: it makes a move of the table, and none waits.
use Rattle.std.proofs.Common.{◌≡◌, ◌==◌, ◌||◌, ◌+◌, ℕ, List, true, false, nat_lt, take, length, refl, subst, arith}
use Rattle.std.proofs.lemmas.Bool.{le-ltb}
use Rattle.osal_base.specs.declared.status.Status.TheVariants as status
use Rattle.osal_base.specs.declared.time.Moment.{Moment}
use Rattle.osal_base.specs.declared.time.Timeout.TheVariants as timeout
use Rattle.osal_base.specs.Reply.{refusal, is_waits}
use Rattle.osal_idtable.specs.Table.{active_at}
use Rattle.osal_object.specs.Outcomes.{Outcome, Hold, Release, carried_out}
use Rattle.osal_object.proofs.Carried.{outcome_moves, outcome_keeps, outcome_waits, gone_refused}
use Rattle.osal_object.proofs.Moves.{IsMove, either, stays}
use Rattle.osal_object.proofs.Refusals.{Leaves, fails, same, within}
use Rattle.osal_object.proofs.WaitSteps.{goes_on}
use Rattle.osal_console.specs.Console.{ConsoleState, Stepped, pending_limit, drain_limit, in_objects, is_active, console_step}
use Rattle.osal_call.specs.declared.call.Call.{Call}
use Rattle.osal_call.specs.declared.call.Call.TheVariants as call
use Rattle.osal_call.specs.Signature.{signature}
use Rattle.osal_call.specs.Signature as what
use Rattle.osal_laws.specs.Laws.{is_below_zero}
use Rattle.osal_laws.proofs.Below.{where_below}
use Rattle.osal_laws.proofs.Known.{none_of}
use Rattle.osal_laws.proofs.Suits.{Suits, suits_fit}

module _ (console : ConsoleState) (task : ℕ) (now : Moment) where
  -- what holds of each way that a write ends
  pub written_each : (P : Stepped → Type 0) → P (refusal status.QueueFull, console) → ((pending : List ℕ) → P ((console_step console task now call.ConsoleEnable).0, record console { pending = pending })) → P ((console_step console task now call.ConsoleEnable).0, console) → (text : _) → P (console_step console task now (call.ConsoleWrite text))
  written_each P full kept still text =
      either P console.enabled _ _
      (either P (nat_lt pending_limit (length console.pending + length text.bytes)) _ _ full (kept _))
      still

  -- each call makes one move of the table, and none answers that it waits
  abbrev Goes : Stepped → Type 0
  Goes stepped = IsMove console.objects stepped.1.objects × (is_waits stepped.0.answer ≡ false)

  held_goes : (outcome : Outcome (Unit {0}) (Unit {0})) → Suits true console.objects timeout.Check outcome → Goes (in_objects console (carried_out console.objects task now outcome))
  held_goes outcome suits =
      let fits = suits_fit true console.objects timeout.Check outcome suits in
      (outcome_moves console.objects task now timeout.Check outcome fits, (goes_on refl (outcome_waits console.objects task now timeout.Check outcome fits)).0)

  pub console_goes : (made : Call) → Goes (console_step console task now made)
  console_goes (call.ConsoleWrite text) =
      written_each Goes (stays console.objects, refl) (λ pending. (stays console.objects, refl)) (stays console.objects, refl) text
  console_goes (call.Drain n) =
      either Goes ((n == 0) || nat_lt drain_limit n) _ _ (stays console.objects, refl) (stays console.objects, refl)
  console_goes (call.Hold id) = held_goes (Hold id) refl
  console_goes (call.Release id) = held_goes (Release id) refl
  console_goes _ = (stays console.objects, refl)

  -- a call that answers a code below 0 leaves the console
  abbrev Keeps : Stepped → Type 0
  Keeps stepped = Leaves is_below_zero console stepped

  pub console_keeps : (made : Call) → Keeps (console_step console task now made)
  console_keeps (call.ConsoleWrite text) = written_each Keeps same (λ pending. fails refl) same text
  console_keeps call.ConsoleEnable = fails refl
  console_keeps call.ConsoleDisable = fails refl
  console_keeps (call.Drain n) =
      either Keeps ((n == 0) || nat_lt drain_limit n) _ _ same
      (fails (le-ltb (length (take n console.pending)) 0 (omega arith)))
  console_keeps (call.Hold id) =
      within (λ o. record console { objects = o }) (where_below (outcome_keeps console.objects task now (Hold id)))
  console_keeps (call.Release id) =
      within (λ o. record console { objects = o }) (where_below (outcome_keeps console.objects task now (Release id)))
  console_keeps _ = same

  -- a hold or a release of an identifier that is not the console's
  pub console_stale : (made : Call) (id : ℕ) → (signature made).subject ≡ what.Object what.OfType id → is_active console id ≡ false → (console_step console task now made).0 ≡ refusal status.ErrInvalidId
  console_stale (call.Hold other) id is gone =
      let same : id ≡ other = cc in
      subst (λ n. (console_step console task now (call.Hold n)).0 ≡ refusal status.ErrInvalidId) same
      (gone_refused console.objects task now (Hold id) id refl (none_of (active_at console.objects.table id) gone))
  console_stale (call.Release other) id is gone =
      let same : id ≡ other = cc in
      subst (λ n. (console_step console task now (call.Release n)).0 ≡ refusal status.ErrInvalidId) same
      (gone_refused console.objects task now (Release id) id refl (none_of (active_at console.objects.table id) gone))
  console_stale _ id is gone = absurd (cc)
