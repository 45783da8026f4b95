-- The calls on a register with a few more words are read again.
use Rattle.std.proofs.Common.{◌≡◌, ◌≤◌, ◌^◌, ℕ, List, [], ◌∷◌, length, Option, Some, None, refl, ap, arith}
use Rattle.std.specs.Fmt.{decimal, signed_decimal}
use Rattle.osal_base.specs.declared.time.Timeout.{Timeout}
use Rattle.osal_call.specs.declared.word.CallWord.TheVariants as word
use Rattle.osal_call.specs.declared.word.object.ObjectWord.{ObjectWord}
use Rattle.osal_call.specs.declared.word.pair.WaitWord.{WaitWord}
use Rattle.osal_call.specs.declared.word.pair.NumberWord.{NumberWord}
use Rattle.osal_journal.specs.Spelled.{wait_text, whence_text}
use Rattle.osal_line.specs.declared.kind.BodyKind.{BodyKind}
use Rattle.osal_line.specs.declared.line.ScriptCall.{ScriptCall}
use Rattle.osal_line.specs.declared.line.ScriptCall.TheVariants as script
use Rattle.osal_line.specs.Values.{number_below, wait_of}
use Rattle.osal_line.specs.Registers.{Registers, register_at}
use Rattle.osal_line.specs.Arguments.{as_call, only_id, id_and_wait, id_and_number, numbers_of}
use Rattle.osal_line.specs.Tasks.{without_register}
use Rattle.osal_line.specs.Timers.{timer_set_of}
use Rattle.osal_line.specs.Choices.{offset_of, whence_of}
use Rattle.osal_line.specs.Files.{lseek_of}
use Rattle.osal_print.specs.Shortest.{register_text}
use Rattle.osal_print.proofs.Decimals.{ReadsDecimals, numbers_read}
use Rattle.osal_print.proofs.Waits.{wait_again}
use Rattle.osal_print.proofs.Signed.{offset_again}
use Rattle.osal_print.proofs.Choices.{whence_again}
use Rattle.osal_print.proofs.Pairs.{pair_parts}
use Rattle.osal_print.proofs.PrintedNames.{register_word}
use Rattle.osal_print.proofs.RegistersAgain.{RegisterAgain, register_again}
use Rattle.osal_print.proofs.CallAgain.{IsReadAgain, given, IsFor, is_for, call_for}

-- a register's printed name is for the word that it was read from
pub register_for : (before : Registers) (word : List ℕ) (made : ℕ × Registers) → RegisterAgain before word made → IsFor (register_text made.0) word
register_for before word made read = record { fit = register_word made.0 read.below; shorter = read.shorter }

-- the numbers of 32 bits
pub numbers : ReadsDecimals (number_below (2 ^ 32)) (2 ^ 32)
numbers = numbers_read (2 ^ 32) (omega arith) (omega arith)

module _ (printed : BodyKind → List ℕ → Option ℕ) (names : ℕ → List ℕ) (before : Registers) (few : length before.names ≤ 32) where
  -- a call on an object
  pub object_again : (called : ObjectWord) (words : List (List ℕ)) → IsReadAgain printed names (word.Object called) words before (as_call (λ id. script.Object called id) (only_id words before))
  object_again called [] = tt
  object_again called (id ∷ []) = by (register_at before id) refl
    where
      by : (o : Option (ℕ × Registers)) → register_at before id ≡ o → IsReadAgain printed names (word.Object called) (id ∷ []) before (as_call (λ id. script.Object called id) o)
      by None is = tt
      by (Some made) is = λ told known.
          let read = register_again before id made few is told in
          call_for printed names (word.Object called) (id ∷ []) before made.1 (script.Object called made.0) refl read.few
          (register_for before id made read, tt)
          (ap (as_call (λ id. script.Object called id)) read.again)
  object_again called (a ∷ b ∷ words) = tt

  -- a call on an object, with a wait
  pub wait_call_again : (called : WaitWord) (words : List (List ℕ)) → IsReadAgain printed names (word.Wait called) words before (as_call (λ found. script.Wait called found.0 found.1) (id_and_wait words before))
  wait_call_again called [] = tt
  wait_call_again called (a ∷ []) = tt
  wait_call_again called (id ∷ wait ∷ []) =
      let Again : Option ((ℕ × Timeout) × Registers) → Type 0 = λ found. IsReadAgain printed names (word.Wait called) (id ∷ wait ∷ []) before (as_call (λ found. script.Wait called found.0 found.1) found) in
      given Again (register_at before id) _ tt (λ named named-is.
      given Again (wait_of wait) _ tt (λ until until-is told known.
      let read = register_again before id named few named-is told in
      let waits = wait_again wait until until-is in
      call_for printed names (word.Wait called) (id ∷ wait ∷ []) before named.1 (script.Wait called named.0 until) refl read.few
      (register_for before id named read, (is_for (wait_text until) wait waits, tt))
      (rw (read.again, waits.again) refl)))
  wait_call_again called (a ∷ b ∷ c ∷ words) = tt

  -- a call on an object, with a number
  pub number_call_again : (called : NumberWord) (words : List (List ℕ)) → IsReadAgain printed names (word.Number called) words before (as_call (λ found. script.Number called found.0 found.1) (id_and_number words before))
  number_call_again called [] = tt
  number_call_again called (a ∷ []) = tt
  number_call_again called (id ∷ number ∷ []) =
      let Again : Option ((ℕ × ℕ) × Registers) → Type 0 = λ found. IsReadAgain printed names (word.Number called) (id ∷ number ∷ []) before (as_call (λ found. script.Number called found.0 found.1) found) in
      given Again (register_at before id) _ tt (λ named named-is.
      given Again (number_below (2 ^ 32) number) _ tt (λ value value-is told known.
      let read = register_again before id named few named-is told in
      let shown = numbers.shown number value value-is in
      call_for printed names (word.Number called) (id ∷ number ∷ []) before named.1 (script.Number called named.0 value) refl read.few
      (register_for before id named read, (is_for (decimal value) number shown, tt))
      (rw (read.again, shown.again) refl)))
  number_call_again called (a ∷ b ∷ c ∷ words) = tt

  -- a setting of a timer
  pub timer_set_again : (words : List (List ℕ)) → IsReadAgain printed names word.TimerSet words before (timer_set_of words before)
  timer_set_again [] = tt
  timer_set_again (a ∷ []) = tt
  timer_set_again (a ∷ b ∷ []) = tt
  timer_set_again (id ∷ start ∷ interval ∷ []) =
      let Again : Option (ScriptCall × Registers) → Type 0 = IsReadAgain printed names word.TimerSet (id ∷ start ∷ interval ∷ []) before in
      given Again (register_at before id) _ tt (λ named named-is.
      given Again (numbers_of start interval) _ tt (λ usecs usecs-are told known.
      let read = register_again before id named few named-is told in
      let parts = pair_parts (number_below (2 ^ 32) start) (number_below (2 ^ 32) interval) usecs usecs-are in
      let first = numbers.shown start usecs.0 parts.0 in
      let second = numbers.shown interval usecs.1 parts.1 in
      call_for printed names word.TimerSet (id ∷ start ∷ interval ∷ []) before named.1 (script.TimerSet named.0 usecs.0 usecs.1) refl read.few
      (register_for before id named read, (is_for (decimal usecs.0) start first, (is_for (decimal usecs.1) interval second, tt)))
      (rw (read.again, first.again, second.again) refl)))
  timer_set_again (a ∷ b ∷ c ∷ d ∷ words) = tt

  -- a seek
  pub lseek_again : (words : List (List ℕ)) → IsReadAgain printed names word.Lseek words before (lseek_of words before)
  lseek_again [] = tt
  lseek_again (a ∷ []) = tt
  lseek_again (a ∷ b ∷ []) = tt
  lseek_again (id ∷ offset ∷ whence ∷ []) =
      given (IsReadAgain printed names word.Lseek (id ∷ offset ∷ whence ∷ []) before) (register_at before id) _ tt (λ named named-is.
      let Again : Option ScriptCall → Type 0 = λ found. IsReadAgain printed names word.Lseek (id ∷ offset ∷ whence ∷ []) before (without_register named.1 found) in
      given Again (offset_of offset) _ tt (λ far far-is.
      given Again (whence_of whence) _ tt (λ from from-is told known.
      let read = register_again before id named few named-is told in
      let first = offset_again offset far far-is in
      let second = whence_again whence from from-is in
      call_for printed names word.Lseek (id ∷ offset ∷ whence ∷ []) before named.1 (script.Lseek named.0 far from) refl read.few
      (register_for before id named read, (is_for (signed_decimal far) offset first, (is_for (whence_text from) whence second, tt)))
      (rw (read.again, first.again, second.again) refl))))
  lseek_again (a ∷ b ∷ c ∷ d ∷ words) = tt
