-- The calls that carry a payload are read again.
use Rattle.std.proofs.Common.{◌≡◌, ◌≤◌, ◌^◌, ℕ, List, [], ◌∷◌, ◌++◌, length, false, Option, Some, None, option_map, refl, ap, ◌∙◌, arith}
use Rattle.std.specs.Fmt.{decimal}
use Rattle.std.proofs.lemmas.Option.{none-some}
use Rattle.osal_call.specs.declared.word.CallWord.TheVariants as word
use Rattle.osal_line.specs.declared.kind.BodyKind.{BodyKind}
use Rattle.osal_line.specs.declared.line.ScriptCall.{ScriptCall}
use Rattle.osal_line.specs.declared.line.ScriptCall.TheVariants as script
use Rattle.osal_line.specs.Values.{number_below}
use Rattle.osal_line.specs.Registers.{Registers, register_at}
use Rattle.osal_line.specs.Arguments.{as_call}
use Rattle.osal_line.specs.Payload.{payload_of}
use Rattle.osal_line.specs.Transfers.{id_and_payload}
use Rattle.osal_line.specs.Tasks.{without_register}
use Rattle.osal_line.specs.Consoles.{console_write_of}
use Rattle.osal_line.specs.Queues.{queue_put_of}
use Rattle.osal_line.specs.Files.{write_of}
use Rattle.osal_line.specs.Sockets.{sent_to, socket_send_of}
use Rattle.osal_print.specs.Shortest.{register_text, payload_words}
use Rattle.osal_print.specs.PrintText.{spaced}
use Rattle.osal_print.proofs.IsWord.{AreClean}
use Rattle.osal_print.proofs.Mirrored.{mirrored}
use Rattle.osal_print.proofs.Pairs.{named_parts}
use Rattle.osal_print.proofs.Spaces.{spaced_more, spaced_shorter, spaced_push, words_push}
use Rattle.osal_print.proofs.PayloadsAgain.{PayloadAgain, payload_again}
use Rattle.osal_print.proofs.PrintedNames.{register_word}
use Rattle.osal_print.proofs.RegistersAgain.{RegisterAgain, register_again}
use Rattle.osal_print.proofs.CallAgain.{IsReadAgain, given, mapped}
use Rattle.osal_print.proofs.RegisterCalls.{numbers}

both_read : (id : List ℕ) (words : List (List ℕ)) (registers after : Registers) (k : ℕ) (payload : List ℕ) → register_at registers id ≡ Some (k, after) → payload_of words ≡ Some payload → id_and_payload (id ∷ words) registers ≡ Some ((k, payload), after)
both_read id words registers after k payload id-is payload-is = rw (id-is, payload-is) refl

-- an identifier and a payload are read again
record BothAgain (before : Registers) (id : List ℕ) (words : List (List ℕ)) (made : (ℕ × List ℕ) × Registers) : Type 0 where
  again : id_and_payload (register_text made.0.0 ∷ payload_words made.0.1) (mirrored before) ≡ Some (made.0, mirrored made.1)
  registers : RegisterAgain before id (made.0.0, made.1)
  payload : PayloadAgain (length (spaced words)) made.0.1

both_again : (before : Registers) (id : List ℕ) (words : List (List ℕ)) (made : (ℕ × List ℕ) × Registers) → length before.names ≤ 32 → AreClean words → length (spaced words) ≤ 255 → id_and_payload (id ∷ words) before ≡ Some made → made.1.over ≡ false → BothAgain before id words made
both_again before id words made few clean short read told =
    let parts = named_parts (register_at before id) (payload_of words) made read in
    let registers = register_again before id (made.0.0, made.1) few parts.0 told in
    let payload = payload_again words made.0.1 clean short parts.1 in
    record {
      again = both_read (register_text made.0.0) (payload_words made.0.1) (mirrored before) (mirrored made.1) made.0.0 made.0.1 registers.again payload.again;
      registers = registers;
      payload = payload;
    }

-- a payload of one word or three stands between a socket and a port
sent_by : (words : List (List ℕ)) (payload id port : List ℕ) (registers : Registers) → payload_of words ≡ Some payload → socket_send_of (id ∷ words ++ port ∷ []) registers ≡ sent_to (id ∷ words) port registers
sent_by [] payload id port registers is = absurd (none-some payload is)
sent_by (a ∷ []) payload id port registers is = refl
sent_by (a ∷ b ∷ []) payload id port registers is = absurd (none-some payload is)
sent_by (a ∷ b ∷ c ∷ []) payload id port registers is = refl
sent_by (a ∷ b ∷ c ∷ d ∷ words) payload id port registers is = absurd (none-some payload is)

sent_read : (words : List (List ℕ)) (port : List ℕ) (registers after : Registers) (k to : ℕ) (payload : List ℕ) → id_and_payload words registers ≡ Some ((k, payload), after) → number_below (2 ^ 32) port ≡ Some to → sent_to words port registers ≡ Some (script.SocketSend k payload to, after)
sent_read words port registers after k to payload both-are port-is = rw (both-are, port-is) refl

module _ (printed : BodyKind → List ℕ → Option ℕ) (names : ℕ → List ℕ) (before : Registers) (few : length before.names ≤ 32) where
  -- a put into a queue
  pub queue_put_again : (words : List (List ℕ)) → AreClean words → length (spaced words) ≤ 255 → IsReadAgain printed names word.QueuePut words before (queue_put_of words before)
  queue_put_again [] clean short = tt
  queue_put_again (id ∷ words) clean short = by (id_and_payload (id ∷ words) before) refl
    where
      by : (o : Option ((ℕ × List ℕ) × Registers)) → id_and_payload (id ∷ words) before ≡ o → IsReadAgain printed names word.QueuePut (id ∷ words) before (as_call (λ found. script.QueuePut found.0 found.1) o)
      by None is = tt
      by (Some made) is = λ told known.
          let both = both_again before id words made few clean.1 (omega (arith, short, spaced_more id words)) is told in
          record {
            again = ap (as_call (λ found. script.QueuePut found.0 found.1)) both.again;
            word = refl;
            shorter = spaced_shorter (register_text made.0.0) id (payload_words made.0.1) words both.registers.shorter both.payload.shorter;
            fit = (register_word made.0.0 both.registers.below, both.payload.fit);
            few = both.registers.few;
          }

  -- a write to a file
  pub write_again : (words : List (List ℕ)) → AreClean words → length (spaced words) ≤ 255 → IsReadAgain printed names word.Write words before (write_of words before)
  write_again [] clean short = tt
  write_again (id ∷ words) clean short = by (id_and_payload (id ∷ words) before) refl
    where
      by : (o : Option ((ℕ × List ℕ) × Registers)) → id_and_payload (id ∷ words) before ≡ o → IsReadAgain printed names word.Write (id ∷ words) before (as_call (λ found. script.Write found.0 found.1) o)
      by None is = tt
      by (Some made) is = λ told known.
          let both = both_again before id words made few clean.1 (omega (arith, short, spaced_more id words)) is told in
          record {
            again = ap (as_call (λ found. script.Write found.0 found.1)) both.again;
            word = refl;
            shorter = spaced_shorter (register_text made.0.0) id (payload_words made.0.1) words both.registers.shorter both.payload.shorter;
            fit = (register_word made.0.0 both.registers.below, both.payload.fit);
            few = both.registers.few;
          }

  sent_again : (id : List ℕ) (words : List (List ℕ)) (port : List ℕ) → AreClean words → length (spaced words) ≤ 255 → IsReadAgain printed names word.SocketSend (id ∷ words ++ port ∷ []) before (sent_to (id ∷ words) port before)
  sent_again id words port clean short =
      let Again : Option (ScriptCall × Registers) → Type 0 = IsReadAgain printed names word.SocketSend (id ∷ words ++ port ∷ []) before in
      given Again (id_and_payload (id ∷ words) before) _ tt (λ made made-is.
      given Again (number_below (2 ^ 32) port) _ tt (λ to to-is told known.
      let both = both_again before id words made few clean short made-is told in
      let shown = numbers.shown port to to-is in
      record {
        again =
            sent_by (payload_words made.0.1) made.0.1 (register_text made.0.0) (decimal to) (mirrored before) both.payload.again
            ∙ sent_read (register_text made.0.0 ∷ payload_words made.0.1) (decimal to) (mirrored before) (mirrored made.1) made.0.0 to made.0.1 both.again shown.again;
        word = refl;
        shorter =
            spaced_shorter (register_text made.0.0) id (payload_words made.0.1 ++ decimal to ∷ []) (words ++ port ∷ []) both.registers.shorter
            (omega (arith, spaced_push (payload_words made.0.1) (decimal to), spaced_push words port, both.payload.shorter, shown.shorter));
        fit = (register_word made.0.0 both.registers.below, words_push (payload_words made.0.1) (decimal to) both.payload.fit shown.fit);
        few = both.registers.few;
      }))

  -- a send
  pub socket_send_again : (words : List (List ℕ)) → AreClean words → length (spaced words) ≤ 255 → IsReadAgain printed names word.SocketSend words before (socket_send_of words before)
  socket_send_again [] clean short = tt
  socket_send_again (a ∷ []) clean short = tt
  socket_send_again (a ∷ b ∷ []) clean short = tt
  socket_send_again (id ∷ text ∷ port ∷ []) clean short =
      sent_again id (text ∷ []) port (clean.1.0, tt) (omega (arith, short, spaced_more id (text ∷ port ∷ []), spaced_push (text ∷ []) port))
  socket_send_again (a ∷ b ∷ c ∷ d ∷ []) clean short = tt
  socket_send_again (id ∷ fill ∷ count ∷ byte ∷ port ∷ []) clean short =
      sent_again id (fill ∷ count ∷ byte ∷ []) port (clean.1.0, (clean.1.1.0, (clean.1.1.1.0, tt))) (omega (arith, short, spaced_more id (fill ∷ count ∷ byte ∷ port ∷ []), spaced_push (fill ∷ count ∷ byte ∷ []) port))
  socket_send_again (a ∷ b ∷ c ∷ d ∷ e ∷ f ∷ words) clean short = tt

  -- a write to the console
  pub console_write_again : (words : List (List ℕ)) → AreClean words → length (spaced words) ≤ 255 → IsReadAgain printed names word.ConsoleWrite words before (without_register before (console_write_of words))
  console_write_again words clean short =
      mapped (λ found. IsReadAgain printed names word.ConsoleWrite words before (without_register before found)) (payload_of words) (λ payload. script.ConsoleWrite payload) tt (λ payload payload-is told known.
      let shown = payload_again words payload clean short payload-is in
      record {
        again = ap (λ found. without_register (mirrored before) (option_map (λ p. script.ConsoleWrite p) found)) shown.again;
        word = refl;
        shorter = shown.shorter;
        fit = shown.fit;
        few = few;
      })
