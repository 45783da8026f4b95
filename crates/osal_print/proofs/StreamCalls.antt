-- The calls on sockets and streams that carry no payload are read again.
use Rattle.std.proofs.Common.{◌≡◌, ◌≤◌, ◌^◌, ◌∙◌, ℕ, List, [], ◌∷◌, length, Option, Some, refl}
use Rattle.std.specs.Fmt.{decimal}
use Rattle.osal_base.specs.declared.time.Timeout.{Timeout}
use Rattle.osal_call.specs.declared.word.CallWord.{CallWord}
use Rattle.osal_call.specs.declared.word.CallWord.TheVariants as word
use Rattle.osal_journal.specs.Spelled.{wait_text, kind_text, ways_text, ready_text}
use Rattle.osal_line.specs.declared.kind.BodyKind.{BodyKind}
use Rattle.osal_line.specs.declared.line.ScriptCall.{ScriptCall}
use Rattle.osal_line.specs.declared.line.ScriptCall.TheVariants as script
use Rattle.osal_line.specs.Values.{number_below, wait_of}
use Rattle.osal_line.specs.Registers.{Registers, register_at}
use Rattle.osal_line.specs.Arguments.{as_call}
use Rattle.osal_line.specs.Transfers.{id_and_room, room_of}
use Rattle.osal_line.specs.Sockets.{sock_kind_of, how_of, socket_open_of, socket_accept_of, socket_shutdown_of, socket_recv_of}
use Rattle.osal_line.specs.Sets.{set_at}
use Rattle.osal_line.specs.Selects.{mode_of, watch_of, select_one_of, select_multi_of}
use Rattle.osal_line.specs.Queues.{queue_get_of}
use Rattle.osal_line.specs.Files.{read_of}
use Rattle.osal_line.specs.Calls.{word_of}
use Rattle.osal_line.specs.Grammar.{call_of_words}
use Rattle.osal_print.specs.Shortest.{register_text, set_text}
use Rattle.osal_print.specs.Words.{argument_words}
use Rattle.osal_print.proofs.Mirrored.{mirrored}
use Rattle.osal_print.proofs.Waits.{wait_again}
use Rattle.osal_print.proofs.Choices.{kind_again, ways_again, ready_again}
use Rattle.osal_print.proofs.Pairs.{pair_parts}
use Rattle.osal_print.proofs.RegistersAgain.{register_again, still_few}
use Rattle.osal_print.proofs.SetsAgain.{SetAgain, set_again, set_still_few}
use Rattle.osal_print.proofs.CallAgain.{IsReadAgain, given, IsFor, is_for, AreFor, call_for}
use Rattle.osal_print.proofs.RegisterCalls.{register_for, numbers}

module _ (printed : BodyKind → List ℕ → Option ℕ) (names : ℕ → List ℕ) (before : Registers) (few : length before.names ≤ 32) where
  -- an opening of a socket
  pub socket_open_again : (words : List (List ℕ)) → IsReadAgain printed names word.SocketOpen words before (socket_open_of words before)
  socket_open_again [] = tt
  socket_open_again (a ∷ []) = tt
  socket_open_again (register ∷ kind ∷ []) =
      let Again : Option (ScriptCall × Registers) → Type 0 = IsReadAgain printed names word.SocketOpen (register ∷ kind ∷ []) before in
      given Again (register_at before register) _ tt (λ named named-is.
      given Again (sock_kind_of kind) _ tt (λ carries carries-is told known.
      let read = register_again before register named few named-is told in
      let shown = kind_again kind carries carries-is in
      call_for printed names word.SocketOpen (register ∷ kind ∷ []) before named.1 (script.SocketOpen named.0 carries) refl read.few
      (register_for before register named read, (is_for (kind_text carries) kind shown, tt))
      (rw (read.again, shown.again) refl)))
  socket_open_again (a ∷ b ∷ c ∷ words) = tt

  -- an acceptance
  pub socket_accept_again : (words : List (List ℕ)) → IsReadAgain printed names word.SocketAccept words before (socket_accept_of words before)
  socket_accept_again [] = tt
  socket_accept_again (a ∷ []) = tt
  socket_accept_again (a ∷ b ∷ []) = tt
  socket_accept_again (register ∷ id ∷ wait ∷ []) =
      let Again : Option (ScriptCall × Registers) → Type 0 = IsReadAgain printed names word.SocketAccept (register ∷ id ∷ wait ∷ []) before in
      given Again (register_at before register) _ tt (λ named named-is.
      given Again (register_at named.1 id) _ tt (λ on on-is.
      given Again (wait_of wait) _ tt (λ until until-is told known.
      let second = register_again named.1 id on (still_few before register named few named-is) on-is told in
      let first = register_again before register named few named-is second.over in
      let waits = wait_again wait until until-is in
      call_for printed names word.SocketAccept (register ∷ id ∷ wait ∷ []) before on.1 (script.SocketAccept named.0 on.0 until) refl second.few
      (register_for before register named first, (register_for named.1 id on second, (is_for (wait_text until) wait waits, tt)))
      (rw (first.again, second.again, waits.again) refl))))
  socket_accept_again (a ∷ b ∷ c ∷ d ∷ words) = tt

  -- a shutdown
  pub socket_shutdown_again : (words : List (List ℕ)) → IsReadAgain printed names word.SocketShutdown words before (socket_shutdown_of words before)
  socket_shutdown_again [] = tt
  socket_shutdown_again (a ∷ []) = tt
  socket_shutdown_again (id ∷ how ∷ []) =
      let Again : Option (ScriptCall × Registers) → Type 0 = IsReadAgain printed names word.SocketShutdown (id ∷ how ∷ []) before in
      given Again (register_at before id) _ tt (λ named named-is.
      given Again (how_of how) _ tt (λ ways ways-are told known.
      let read = register_again before id named few named-is told in
      let shown = ways_again how ways ways-are in
      call_for printed names word.SocketShutdown (id ∷ how ∷ []) before named.1 (script.SocketShutdown named.0 ways) refl read.few
      (register_for before id named read, (is_for (ways_text ways) how shown, tt))
      (rw (read.again, shown.again) refl)))
  socket_shutdown_again (a ∷ b ∷ c ∷ words) = tt

  -- a select of one stream
  pub select_one_again : (words : List (List ℕ)) → IsReadAgain printed names word.SelectOne words before (select_one_of words before)
  select_one_again [] = tt
  select_one_again (a ∷ []) = tt
  select_one_again (a ∷ b ∷ []) = tt
  select_one_again (id ∷ mode ∷ wait ∷ []) =
      let Again : Option (ScriptCall × Registers) → Type 0 = IsReadAgain printed names word.SelectOne (id ∷ mode ∷ wait ∷ []) before in
      given Again (register_at before id) _ tt (λ named named-is.
      given Again (watch_of mode wait) _ tt (λ watch watch-is told known.
      let read = register_again before id named few named-is told in
      let parts = pair_parts (mode_of mode) (wait_of wait) watch watch-is in
      let ready = ready_again mode watch.0 parts.0 in
      let waits = wait_again wait watch.1 parts.1 in
      call_for printed names word.SelectOne (id ∷ mode ∷ wait ∷ []) before named.1 (script.SelectOne named.0 watch.0 watch.1) refl read.few
      (register_for before id named read, (is_for (ready_text watch.0) mode ready, (is_for (wait_text watch.1) wait waits, tt)))
      (rw (read.again, ready.again, waits.again) refl)))
  select_one_again (a ∷ b ∷ c ∷ d ∷ words) = tt

  set_for : (registers : Registers) (word : List ℕ) (made : List ℕ × Registers) → SetAgain registers word made → IsFor (set_text made.0) word
  set_for registers word made read = record { fit = read.fit; shorter = read.shorter }

  -- a select of some
  pub select_multi_again : (words : List (List ℕ)) → IsReadAgain printed names word.SelectMulti words before (select_multi_of words before)
  select_multi_again [] = tt
  select_multi_again (a ∷ []) = tt
  select_multi_again (a ∷ b ∷ []) = tt
  select_multi_again (reads ∷ writes ∷ wait ∷ []) =
      let Again : Option (ScriptCall × Registers) → Type 0 = IsReadAgain printed names word.SelectMulti (reads ∷ writes ∷ wait ∷ []) before in
      given Again (set_at before reads) _ tt (λ one one-is.
      given Again (set_at one.1 writes) _ tt (λ two two-is.
      given Again (wait_of wait) _ tt (λ until until-is told known.
      let second = set_again one.1 writes two (set_still_few before reads one few one-is) two-is told in
      let first = set_again before reads one few one-is second.over in
      let waits = wait_again wait until until-is in
      call_for printed names word.SelectMulti (reads ∷ writes ∷ wait ∷ []) before two.1 (script.SelectMulti one.0 two.0 until) refl second.few
      (set_for before reads one first, (set_for one.1 writes two second, (is_for (wait_text until) wait waits, tt)))
      (sets_read (set_text one.0) (set_text two.0) (wait_text until) (mirrored before) (mirrored one.1) (mirrored two.1) one.0 two.0 until first.again second.again waits.again))))
    where
      sets_read : (reads writes wait : List ℕ) (registers then after : Registers) (one two : List ℕ) (until : Timeout) → set_at registers reads ≡ Some (one, then) → set_at then writes ≡ Some (two, after) → wait_of wait ≡ Some until → select_multi_of (reads ∷ writes ∷ wait ∷ []) registers ≡ Some (script.SelectMulti one two until, after)
      sets_read reads writes wait registers then after one two until reads-are writes-are until-is = rw (reads-are, writes-are, until-is) refl
  select_multi_again (a ∷ b ∷ c ∷ d ∷ words) = tt

  -- a call that names the room for what it reads, and a wait
  room_again : (called : CallWord) (make : ℕ × ℕ × Timeout → ScriptCall) (words : List (List ℕ)) → ((later : BodyKind → List ℕ → Option ℕ) (ws : List (List ℕ)) (registers : Registers) → call_of_words later called ws registers ≡ as_call make (id_and_room ws registers)) → ((k n : ℕ) (until : Timeout) → (word_of (make (k, n, until)) ≡ called) × (argument_words names (make (k, n, until)) ≡ register_text k ∷ decimal n ∷ wait_text until ∷ [])) → IsReadAgain printed names called words before (as_call make (id_and_room words before))
  room_again called make [] reads shows = tt
  room_again called make (a ∷ []) reads shows = tt
  room_again called make (a ∷ b ∷ []) reads shows = tt
  room_again called make (id ∷ room ∷ wait ∷ []) reads shows =
      let Again : Option ((ℕ × ℕ × Timeout) × Registers) → Type 0 = λ found. IsReadAgain printed names called (id ∷ room ∷ wait ∷ []) before (as_call make found) in
      given Again (register_at before id) _ tt (λ named named-is.
      given Again (room_of room wait) _ tt (λ how how-is told known.
      let read = register_again before id named few named-is told in
      let parts = pair_parts (number_below (2 ^ 32) room) (wait_of wait) how how-is in
      let shown = numbers.shown room how.0 parts.0 in
      let waits = wait_again wait how.1 parts.1 in
      let facts = shows named.0 how.0 how.1 in
      let is : AreFor (register_text named.0 ∷ decimal how.0 ∷ wait_text how.1 ∷ []) (id ∷ room ∷ wait ∷ []) = (register_for before id named read, (is_for (decimal how.0) room shown, (is_for (wait_text how.1) wait waits, tt))) in
      call_for printed names called (id ∷ room ∷ wait ∷ []) before named.1 (make (named.0, how.0, how.1)) facts.0 read.few
      (rw facts.1 is)
      (rw facts.1 (reads printed (register_text named.0 ∷ decimal how.0 ∷ wait_text how.1 ∷ []) (mirrored before) ∙ rw (read.again, shown.again, waits.again) refl))))
  room_again called make (a ∷ b ∷ c ∷ d ∷ words) reads shows = tt

  -- a get from a queue
  pub queue_get_again : (words : List (List ℕ)) → IsReadAgain printed names word.QueueGet words before (queue_get_of words before)
  queue_get_again words =
      room_again word.QueueGet (λ found. script.QueueGet found.0 found.1 found.2) words (λ later ws registers. refl) (λ k n until. (refl, refl))

  -- a read from a file
  pub read_again : (words : List (List ℕ)) → IsReadAgain printed names word.Read words before (read_of words before)
  read_again words =
      room_again word.Read (λ found. script.Read found.0 found.1 found.2) words (λ later ws registers. refl) (λ k n until. (refl, refl))

  -- a reception
  pub socket_recv_again : (words : List (List ℕ)) → IsReadAgain printed names word.SocketRecv words before (socket_recv_of words before)
  socket_recv_again words =
      room_again word.SocketRecv (λ found. script.SocketRecv found.0 found.1 found.2) words (λ later ws registers. refl) (λ k n until. (refl, refl))
