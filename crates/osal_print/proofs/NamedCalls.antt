-- The calls with a register and a name are read again.
use Rattle.std.proofs.Common.{◌≡◌, ◌≤◌, ◌^◌, ℕ, List, [], ◌∷◌, length, true, false, Option, Some, None, refl, sym, ap, subst}
use Rattle.std.specs.List.{list_all}
use Rattle.std.specs.Fmt.{decimal}
use Rattle.osal_call.specs.declared.word.CallWord.TheVariants as word
use Rattle.osal_call.specs.declared.word.text.NameWord.{NameWord}
use Rattle.osal_call.specs.declared.word.pair.ValueWord.{ValueWord}
use Rattle.osal_journal.specs.Spelled.{flags_text, access_text}
use Rattle.osal_line.specs.declared.kind.BodyKind.{BodyKind}
use Rattle.osal_line.specs.declared.kind.BodyKind.TheVariants as kind
use Rattle.osal_line.specs.declared.line.ScriptCall.{ScriptCall}
use Rattle.osal_line.specs.declared.line.ScriptCall.TheVariants as script
use Rattle.osal_line.specs.Values.{number_below, string_of}
use Rattle.osal_line.specs.Words.{is_line_byte}
use Rattle.osal_line.specs.Registers.{Registers, register_at, body_at}
use Rattle.osal_line.specs.Arguments.{as_call, named_at, only_name, name_and_number, numbers_of}
use Rattle.osal_line.specs.Queues.{queue_create_of}
use Rattle.osal_line.specs.Tasks.{task_create_of}
use Rattle.osal_line.specs.Timers.{timer_add_of}
use Rattle.osal_line.specs.Choices.{flags_of, access_of}
use Rattle.osal_line.specs.Files.{opening_of, open_of}
use Rattle.osal_print.specs.Shortest.{register_text, string_text}
use Rattle.osal_print.proofs.IsWord.{AreClean}
use Rattle.osal_print.proofs.Mirrored.{mirrored}
use Rattle.osal_print.proofs.StringsAgain.{string_again}
use Rattle.osal_print.proofs.Choices.{flags_again, access_again}
use Rattle.osal_print.proofs.Pairs.{pair_parts, named_parts}
use Rattle.osal_print.proofs.RegistersAgain.{register_again, still_few}
use Rattle.osal_print.proofs.CallAgain.{SameBodies, IsReadAgain, given, IsFor, is_for, call_for}
use Rattle.osal_print.proofs.NamedBodies.{body_again}
use Rattle.osal_print.proofs.RegisterCalls.{register_for, numbers}

-- a register and a name are read again
record NamedAgain (before : Registers) (register name : List ℕ) (made : (ℕ × List ℕ) × Registers) : Type 0 where
  again : named_at (mirrored before) (register_text made.0.0) (string_text made.0.1) ≡ Some (made.0, mirrored made.1)
  first : IsFor (register_text made.0.0) register
  second : IsFor (string_text made.0.1) name
  few : length made.1.names ≤ 32
  over : before.over ≡ false

named_few : (before : Registers) (register name : List ℕ) (made : (ℕ × List ℕ) × Registers) → length before.names ≤ 32 → named_at before register name ≡ Some made → length made.1.names ≤ 32
named_few before register name made few read =
    still_few before register (made.0.0, made.1) few (named_parts (register_at before register) (string_of name) made read).0

named_again : (before : Registers) (register name : List ℕ) (made : (ℕ × List ℕ) × Registers) → length before.names ≤ 32 → list_all is_line_byte name ≡ true → named_at before register name ≡ Some made → made.1.over ≡ false → NamedAgain before register name made
named_again before register name made few clean read told =
    let parts = named_parts (register_at before register) (string_of name) made read in
    let registers = register_again before register (made.0.0, made.1) few parts.0 told in
    let shown = string_again name made.0.1 clean parts.1 in
    record {
      again = rw (registers.again, shown.again) refl;
      first = register_for before register (made.0.0, made.1) registers;
      second = is_for (string_text made.0.1) name shown;
      few = registers.few;
      over = registers.over;
    }

module _ (printed : BodyKind → List ℕ → Option ℕ) (names : ℕ → List ℕ) (before : Registers) (few : length before.names ≤ 32) where
  -- a call with a name
  pub name_again : (called : NameWord) (words : List (List ℕ)) → AreClean words → IsReadAgain printed names (word.Name called) words before (as_call (λ found. script.Name called found.0 found.1) (only_name words before))
  name_again called [] clean = tt
  name_again called (a ∷ []) clean = tt
  name_again called (register ∷ name ∷ []) clean = by (named_at before register name) refl
    where
      by : (o : Option ((ℕ × List ℕ) × Registers)) → named_at before register name ≡ o → IsReadAgain printed names (word.Name called) (register ∷ name ∷ []) before (as_call (λ found. script.Name called found.0 found.1) o)
      by None is = tt
      by (Some named) is = λ told known.
          let read = named_again before register name named few clean.1.0 is told in
          call_for printed names (word.Name called) (register ∷ name ∷ []) before named.1 (script.Name called named.0.0 named.0.1) refl read.few
          (read.first, (read.second, tt))
          (ap (as_call (λ found. script.Name called found.0 found.1)) read.again)
  name_again called (a ∷ b ∷ c ∷ words) clean = tt

  -- a call with a name and a value
  pub value_call_again : (called : ValueWord) (words : List (List ℕ)) → AreClean words → IsReadAgain printed names (word.Value called) words before (as_call (λ found. script.Value called found.0 found.1 found.2) (name_and_number words before))
  value_call_again called [] clean = tt
  value_call_again called (a ∷ []) clean = tt
  value_call_again called (a ∷ b ∷ []) clean = tt
  value_call_again called (register ∷ name ∷ number ∷ []) clean =
      let Again : Option ((ℕ × List ℕ × ℕ) × Registers) → Type 0 = λ found. IsReadAgain printed names (word.Value called) (register ∷ name ∷ number ∷ []) before (as_call (λ found. script.Value called found.0 found.1 found.2) found) in
      given Again (named_at before register name) _ tt (λ named named-is.
      given Again (number_below (2 ^ 32) number) _ tt (λ value value-is told known.
      let read = named_again before register name named few clean.1.0 named-is told in
      let shown = numbers.shown number value value-is in
      call_for printed names (word.Value called) (register ∷ name ∷ number ∷ []) before named.1 (script.Value called named.0.0 named.0.1 value) refl read.few
      (read.first, (read.second, (is_for (decimal value) number shown, tt)))
      (rw (read.again, shown.again) refl)))
  value_call_again called (a ∷ b ∷ c ∷ d ∷ words) clean = tt

  -- a creation of a queue
  pub queue_create_again : (words : List (List ℕ)) → AreClean words → IsReadAgain printed names word.QueueCreate words before (queue_create_of words before)
  queue_create_again [] clean = tt
  queue_create_again (a ∷ []) clean = tt
  queue_create_again (a ∷ b ∷ []) clean = tt
  queue_create_again (a ∷ b ∷ c ∷ []) clean = tt
  queue_create_again (register ∷ name ∷ depth ∷ size ∷ []) clean =
      let Again : Option (ScriptCall × Registers) → Type 0 = IsReadAgain printed names word.QueueCreate (register ∷ name ∷ depth ∷ size ∷ []) before in
      given Again (named_at before register name) _ tt (λ named named-is.
      given Again (numbers_of depth size) _ tt (λ sizes sizes-are told known.
      let read = named_again before register name named few clean.1.0 named-is told in
      let parts = pair_parts (number_below (2 ^ 32) depth) (number_below (2 ^ 32) size) sizes sizes-are in
      let first = numbers.shown depth sizes.0 parts.0 in
      let second = numbers.shown size sizes.1 parts.1 in
      call_for printed names word.QueueCreate (register ∷ name ∷ depth ∷ size ∷ []) before named.1 (script.QueueCreate named.0.0 named.0.1 sizes.0 sizes.1) refl read.few
      (read.first, (read.second, (is_for (decimal sizes.0) depth first, (is_for (decimal sizes.1) size second, tt))))
      (rw (read.again, first.again, second.again) refl)))
  queue_create_again (a ∷ b ∷ c ∷ d ∷ e ∷ words) clean = tt

  -- an opening of a file
  pub open_again : (words : List (List ℕ)) → AreClean words → IsReadAgain printed names word.Open words before (open_of words before)
  open_again [] clean = tt
  open_again (a ∷ []) clean = tt
  open_again (a ∷ b ∷ []) clean = tt
  open_again (a ∷ b ∷ c ∷ []) clean = tt
  open_again (register ∷ path ∷ flags ∷ access ∷ []) clean =
      let Again : Option (ScriptCall × Registers) → Type 0 = IsReadAgain printed names word.Open (register ∷ path ∷ flags ∷ access ∷ []) before in
      given Again (named_at before register path) _ tt (λ named named-is.
      given Again (opening_of flags access) _ tt (λ opening opening-is told known.
      let read = named_again before register path named few clean.1.0 named-is told in
      let parts = pair_parts (flags_of flags) (access_of access) opening opening-is in
      let first = flags_again flags opening.0 parts.0 in
      let second = access_again access opening.1 parts.1 in
      call_for printed names word.Open (register ∷ path ∷ flags ∷ access ∷ []) before named.1 (script.Open named.0.0 named.0.1 opening.0 opening.1) refl read.few
      (read.first, (read.second, (is_for (flags_text opening.0) flags first, (is_for (access_text opening.1) access second, tt))))
      (rw (read.again, first.again, second.again) refl)))
  open_again (a ∷ b ∷ c ∷ d ∷ e ∷ words) clean = tt

module _ (later printed : BodyKind → List ℕ → Option ℕ) (names : ℕ → List ℕ) (bodies : SameBodies later printed names) (before : Registers) (few : length before.names ≤ 32) where
  -- a creation of a task
  pub task_create_again : (words : List (List ℕ)) → AreClean words → IsReadAgain printed names word.TaskCreate words before (task_create_of (later kind.Task) words before)
  task_create_again [] clean = tt
  task_create_again (a ∷ []) clean = tt
  task_create_again (a ∷ b ∷ []) clean = tt
  task_create_again (a ∷ b ∷ c ∷ []) clean = tt
  task_create_again (a ∷ b ∷ c ∷ d ∷ []) clean = tt
  task_create_again (register ∷ name ∷ body ∷ stack ∷ priority ∷ []) clean =
      let words : List (List ℕ) = register ∷ name ∷ body ∷ stack ∷ priority ∷ [] in
      let Again : Option (ScriptCall × Registers) → Type 0 = IsReadAgain printed names word.TaskCreate words before in
      given Again (named_at before register name) _ tt (λ named named-is.
      given Again (body_at (later kind.Task) named.1 body) _ tt (λ runs runs-is.
      given Again (numbers_of stack priority) _ tt (λ sizes sizes-are told known.
      let third = body_again later printed names bodies kind.Task named.1 body runs runs-is known in
      let read = named_again before register name named few clean.1.0 named-is (subst (λ (r : Registers). r.over ≡ false) third.same told) in
      let parts = pair_parts (number_below (2 ^ 32) stack) (number_below (2 ^ 32) priority) sizes sizes-are in
      let fourth = numbers.shown stack sizes.0 parts.0 in
      let fifth = numbers.shown priority sizes.1 parts.1 in
      call_for printed names word.TaskCreate words before runs.1 (script.TaskCreate named.0.0 named.0.1 runs.0 sizes.0 sizes.1) refl
      (subst (λ (r : Registers). length r.names ≤ 32) (sym third.same) read.few)
      (read.first, (read.second, (third.body, (is_for (decimal sizes.0) stack fourth, (is_for (decimal sizes.1) priority fifth, tt)))))
      (rw (read.again, third.again, fourth.again, fifth.again) refl))))
  task_create_again (a ∷ b ∷ c ∷ d ∷ e ∷ f ∷ words) clean = tt

  -- an addition of a timer
  pub timer_add_again : (words : List (List ℕ)) → AreClean words → IsReadAgain printed names word.TimerAdd words before (timer_add_of (later kind.Handler) words before)
  timer_add_again [] clean = tt
  timer_add_again (a ∷ []) clean = tt
  timer_add_again (a ∷ b ∷ []) clean = tt
  timer_add_again (a ∷ b ∷ c ∷ []) clean = tt
  timer_add_again (register ∷ name ∷ timebase ∷ handler ∷ []) clean =
      let words : List (List ℕ) = register ∷ name ∷ timebase ∷ handler ∷ [] in
      let Again : Option (ScriptCall × Registers) → Type 0 = IsReadAgain printed names word.TimerAdd words before in
      given Again (named_at before register name) _ tt (λ named named-is.
      given Again (register_at named.1 timebase) _ tt (λ on on-is.
      given Again (body_at (later kind.Handler) on.1 handler) _ tt (λ runs runs-is told known.
      let fourth = body_again later printed names bodies kind.Handler on.1 handler runs runs-is known in
      let third = register_again named.1 timebase on (named_few before register name named few named-is) on-is (subst (λ (r : Registers). r.over ≡ false) fourth.same told) in
      let read = named_again before register name named few clean.1.0 named-is third.over in
      call_for printed names word.TimerAdd words before runs.1 (script.TimerAdd named.0.0 named.0.1 on.0 runs.0) refl
      (subst (λ (r : Registers). length r.names ≤ 32) (sym fourth.same) third.few)
      (read.first, (read.second, (register_for named.1 timebase on third, (fourth.body, tt))))
      (rw (read.again, third.again, fourth.again) refl))))
  timer_add_again (a ∷ b ∷ c ∷ d ∷ e ∷ words) clean = tt
