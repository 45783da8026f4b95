-- The console gives the bytes that it accepted, in order, each once.
use Rattle.std.proofs.Common.{◌≡◌, ◌==◌, ◌||◌, ◌&&◌, ◌+◌, ◌++◌, ℕ, List, [], ◌∷◌, Bool, true, false, cond, nat_lt, length, refl, sym, ap, subst, ◌∙◌, append_assoc}
use Rattle.std.proofs.lemmas.List.{append-nil, take-append-drop}
use Rattle.osal_base.specs.declared.time.Moment.{Moment}
use Rattle.osal_base.specs.Reply.{Replied, reply_of, is_success}
use Rattle.osal_object.specs.Objects.{ObjectsState}
use Rattle.osal_object.proofs.Moves.{either}
use Rattle.osal_console.specs.Console.{ConsoleState, Stepped, pending_limit, drain_limit, console_step}
use Rattle.osal_call.specs.declared.call.Call.{Call}
use Rattle.osal_call.specs.declared.call.Call.TheVariants as call
use Rattle.osal_call.specs.declared.call.Entry.{Entry}
use Rattle.osal_machine.specs.Step.{MachineState, opening, step}
use Rattle.osal_machine.specs.History.{IsLegalFrom, after_entry, replay_from}
use Rattle.osal_laws.specs.ConsoleText.{ConsoleKeepsItsBytes, enabled_by, written_by, shown, shown_by, is_drain, drained, drained_by}
use Rattle.osal_laws.proofs.Own.{after_console}

-- what is pending and what a call shows is what it drains and what is pending after it; it enables the console or not
pub record Shows (console : ConsoleState) (made : Call) (reply : Replied) (next : ConsoleState) : Type 0 where
  pub text : console.pending ++ cond (console.enabled && is_success reply.answer) (written_by made) [] ≡ cond (is_drain made) reply.bytes [] ++ next.pending
  pub enabled : next.enabled ≡ enabled_by console.enabled made

-- the same of a step
abbrev ShowsStep : ConsoleState → Call → Stepped → Type 0
ShowsStep console made stepped = Shows console made stepped.0 stepped.1

-- nothing is shown, whatever a test says
none_shown : (test : Bool) → cond {A = List ℕ} test [] [] ≡ []
none_shown true = refl
none_shown false = refl

-- where nothing is shown, what is pending is that alone
pending_alone : (pending : List ℕ) (test : Bool) → pending ++ cond test [] [] ≡ pending
pending_alone pending test = ap (λ bytes. pending ++ bytes) (none_shown test) ∙ append-nil pending

write_shows : (objects : ObjectsState (Unit {0}) (Unit {0})) (enabled : Bool) (pending : List ℕ) (task : ℕ) (now : Moment) (text : _) → let console : ConsoleState = record { objects = objects; enabled = enabled; pending = pending } in ShowsStep console (call.ConsoleWrite text) (console_step console task now (call.ConsoleWrite text))
write_shows objects true pending task now text =
    either (ShowsStep (record { objects = objects; enabled = true; pending = pending }) (call.ConsoleWrite text)) (nat_lt pending_limit (length pending + length text.bytes)) _ _
    (record { text = append-nil pending; enabled = refl })
    (record { text = refl; enabled = refl })
write_shows objects false pending task now text = record { text = append-nil pending; enabled = refl }

module _ (console : ConsoleState) (task : ℕ) (now : Moment) where
  -- each call of the console shows what it brings and drains what it gives
  console_shows : (made : Call) → ShowsStep console made (console_step console task now made)
  console_shows (call.ConsoleWrite text) = write_shows console.objects console.enabled console.pending task now text
  console_shows call.ConsoleEnable = record { text = pending_alone console.pending (console.enabled && true); enabled = refl }
  console_shows call.ConsoleDisable = record { text = pending_alone console.pending (console.enabled && true); enabled = refl }
  console_shows (call.Drain n) =
      either (ShowsStep console (call.Drain n)) ((n == 0) || nat_lt drain_limit n) _ _
      (record { text = pending_alone console.pending _; enabled = refl })
      (record { text = pending_alone console.pending _ ∙ sym (take-append-drop n console.pending); enabled = refl })
  console_shows (call.Hold id) = record { text = pending_alone console.pending _; enabled = refl }
  console_shows (call.Release id) = record { text = pending_alone console.pending _; enabled = refl }
  console_shows _ = record { text = pending_alone console.pending _; enabled = refl }

module _ (state : MachineState) (task : ℕ) (now : Moment) where
  -- a call of the machine shows what it brings to the console and drains what it gives
  step_shows : (made : Call) → Shows state.console made (step state task now made).0 (step state task now made).1.console
  step_shows (call.ConsoleWrite text) = console_shows state.console task now (call.ConsoleWrite text)
  step_shows call.ConsoleEnable = console_shows state.console task now call.ConsoleEnable
  step_shows call.ConsoleDisable = console_shows state.console task now call.ConsoleDisable
  step_shows (call.Drain n) = console_shows state.console task now (call.Drain n)
  step_shows made =
      after_console state task now made (λ next. Shows state.console made (step state task now made).0 next)
      (record { text = pending_alone state.console.pending _; enabled = refl })
      (record { text = pending_alone state.console.pending _; enabled = refl })

-- over any legal entries
shown_from : (state : MachineState) (entries : List Entry) → IsLegalFrom state entries → state.console.pending ++ shown state.console.enabled entries ≡ drained entries ++ (replay_from state entries).console.pending
shown_from state [] legal = append-nil state.console.pending
shown_from state (entry ∷ entries) legal =
    let next = after_entry state entry in
    let one : Shows state.console entry.call (reply_of entry.reply) next.console = subst (λ reply. Shows state.console entry.call reply next.console) (sym legal.0) (step_shows state entry.task entry.now entry.call) in
    sym (append_assoc state.console.pending (shown_by state.console.enabled entry) (shown (enabled_by state.console.enabled entry.call) entries))
    ∙ ap (λ bytes. bytes ++ shown (enabled_by state.console.enabled entry.call) entries) one.text
    ∙ append_assoc (drained_by entry) next.console.pending (shown (enabled_by state.console.enabled entry.call) entries)
    ∙ ap (λ enabled. drained_by entry ++ (next.console.pending ++ shown enabled entries)) (sym one.enabled)
    ∙ ap (λ bytes. drained_by entry ++ bytes) (shown_from next entries legal.1)
    ∙ sym (append_assoc (drained_by entry) (drained entries) (replay_from state (entry ∷ entries)).console.pending)

-- the console text is what was drained and then what is pending
pub console_kept : ConsoleKeepsItsBytes
console_kept limits entries legal = shown_from (opening limits) entries legal
