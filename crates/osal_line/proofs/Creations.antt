-- The call that a line makes names bodies that later lines declare.
use Rattle.std.proofs.Common.{◌≡◌, ◌≤◌, ◌<◌, ◌+◌, ◌^◌, ℕ, ℤ, List, [], ◌∷◌, false, Option, Some, None, option_map, option_and_then, refl, ap, arith}
use Rattle.std.proofs.lemmas.Bool.{cond_both}
use Rattle.osal_base.specs.declared.arguments.OpenFlags.{OpenFlags}
use Rattle.osal_base.specs.declared.arguments.Access.{Access}
use Rattle.osal_base.specs.declared.arguments.Whence.{Whence}
use Rattle.osal_base.specs.declared.arguments.SockKind.{SockKind}
use Rattle.osal_base.specs.declared.arguments.How.{How}
use Rattle.osal_base.specs.declared.arguments.Mode.{Mode}
use Rattle.osal_base.specs.declared.time.Timeout.{Timeout}
use Rattle.osal_call.specs.declared.word.CallWord.{CallWord}
use Rattle.osal_call.specs.declared.word.CallWord.TheVariants as word
use Rattle.osal_call.specs.declared.word.text.PathWord.{PathWord}
use Rattle.osal_call.specs.declared.word.pair.PathsWord.{PathsWord}
use Rattle.osal_call.specs.declared.word.bare.BareWord.{BareWord}
use Rattle.osal_line.specs.declared.kind.BodyKind.{BodyKind}
use Rattle.osal_line.specs.declared.kind.BodyKind.TheVariants as kind
use Rattle.osal_line.specs.declared.line.ScriptCall.{ScriptCall}
use Rattle.osal_line.specs.declared.line.ScriptCall.TheVariants as script
use Rattle.osal_line.specs.Bare.{is_task_creation}
use Rattle.osal_line.specs.Between.{NamesBetween}
use Rattle.osal_line.specs.Calls.{word_of}
use Rattle.osal_line.specs.Transfers.{id_and_payload, id_and_room}
use Rattle.osal_line.specs.Choices.{offset_of, whence_of}
use Rattle.osal_line.specs.Values.{is_body_name, number_below, string_of, wait_of}
use Rattle.osal_line.specs.Registers.{Registers, register_at, body_at, body_number}
use Rattle.osal_line.specs.Arguments.{as_call, only_id, named_at, only_name, id_and_wait, name_and_number, id_and_number, numbers_of, strings_of}
use Rattle.osal_line.specs.Tasks.{without_register, task_create_of, task_exit_of, task_delay_of}
use Rattle.osal_line.specs.Queues.{queue_create_of}
use Rattle.osal_line.specs.Timers.{timer_add_of, timer_set_of}
use Rattle.osal_line.specs.Files.{path_call_of, paths_call_of, mkfs_of, opening_of, open_of, lseek_of}
use Rattle.osal_line.specs.Sockets.{sock_kind_of, how_of, socket_open_of, socket_accept_of, sent_to, socket_send_of, socket_shutdown_of}
use Rattle.osal_line.specs.Sets.{set_at}
use Rattle.osal_line.specs.Selects.{watch_of, select_one_of, select_multi_of}
use Rattle.osal_line.specs.Payload.{payload_of}
use Rattle.osal_line.specs.Consoles.{bare_call_of}
use Rattle.osal_line.specs.Grammar.{call_of_words}

-- later lines declare bodies of the numbers from one on and below another
abbrev pub IsBetween : ℕ → ℕ → (List ℕ → Option ℕ) → Type 0
IsBetween low high later = (name : List ℕ) (number : ℕ) → later name ≡ Some number → (low ≤ number) × (number < high)

bound : {A B : Type 0} (P : Option B → Type 0) (o : Option A) (f : A → Option B) → P None → ((a : A) → P (f a)) → P (option_and_then f o)
bound P None f none some = none
bound P (Some a) f none some = some a

-- what holds of a call that is read, unless it is told that no later line declares the body that it names
abbrev pub MakesWell : {C : Type 0} → (C → Type 0) → Option (C × Registers) → Type 0
MakesWell Well None = Unit {0}
MakesWell Well (Some made) = made.1.undeclared ≡ false → Well made.0

-- a call whose arguments do not matter
pub plain_made : {A C : Type 0} (Well : C → Type 0) (make : A → C) → ((a : A) → Well (make a)) → (read : Option (A × Registers)) → MakesWell Well (as_call make read)
plain_made Well make plain None = tt
plain_made Well make plain (Some read) = λ told. plain read.0

module _ {A : Type 0} (Well : ScriptCall → Type 0) where
  -- what holds of a call that is read holds of each whose arguments are there
  given : (o : Option A) (f : A → Option (ScriptCall × Registers)) → ((a : A) → MakesWell Well (f a)) → MakesWell Well (option_and_then f o)
  given o f some = bound (MakesWell Well) o f tt some

module _ (Well : ScriptCall → Type 0) where
  exit_made : (words : List (List ℕ)) (registers : Registers) → Well script.TaskExit → MakesWell Well (without_register registers (task_exit_of words))
  exit_made [] registers well = λ told. well
  exit_made (another ∷ words) registers well = tt

  -- a call that names no register
  unnamed_made : {A : Type 0} (make : A → ScriptCall) → ((a : A) → Well (make a)) → (registers : Registers) (found : Option A) → MakesWell Well (without_register registers (option_map make found))
  unnamed_made make well registers None = tt
  unnamed_made make well registers (Some a) = λ told. well a

  delay_made : (words : List (List ℕ)) (registers : Registers) → ((n : ℕ) → Well (script.TaskDelay n)) → MakesWell Well (without_register registers (task_delay_of words))
  delay_made [] registers well = tt
  delay_made (ms ∷ []) registers well =
      unnamed_made (λ n. script.TaskDelay n) well registers (number_below (2 ^ 32) ms)
  delay_made (ms ∷ another ∷ words) registers well = tt

  queue_made : (words : List (List ℕ)) (registers : Registers) → ((register : ℕ) (name : List ℕ) (depth size : ℕ) → Well (script.QueueCreate register name depth size)) → MakesWell Well (queue_create_of words registers)
  queue_made [] registers well = tt
  queue_made (a ∷ []) registers well = tt
  queue_made (a ∷ b ∷ []) registers well = tt
  queue_made (a ∷ b ∷ c ∷ []) registers well = tt
  queue_made (register ∷ name ∷ depth ∷ size ∷ []) registers well =
      given Well (named_at registers register name) _ (λ named.
      given Well (numbers_of depth size) _ (λ sizes told. well named.0.0 named.0.1 sizes.0 sizes.1))
  queue_made (a ∷ b ∷ c ∷ d ∷ e ∷ words) registers well = tt

  add_made : (later : List ℕ → Option ℕ) (words : List (List ℕ)) (registers : Registers) → ((register : ℕ) (name : List ℕ) (timebase handler : ℕ) → Well (script.TimerAdd register name timebase handler)) → MakesWell Well (timer_add_of later words registers)
  add_made later [] registers well = tt
  add_made later (a ∷ []) registers well = tt
  add_made later (a ∷ b ∷ []) registers well = tt
  add_made later (a ∷ b ∷ c ∷ []) registers well = tt
  add_made later (register ∷ name ∷ timebase ∷ handler ∷ []) registers well =
      given Well (named_at registers register name) _ (λ named.
      given Well (register_at named.1 timebase) _ (λ on.
      given Well (body_at later on.1 handler) _ (λ runs told. well named.0.0 named.0.1 on.0 runs.0)))
  add_made later (a ∷ b ∷ c ∷ d ∷ e ∷ words) registers well = tt

  set_made : (words : List (List ℕ)) (registers : Registers) → ((id start interval : ℕ) → Well (script.TimerSet id start interval)) → MakesWell Well (timer_set_of words registers)
  set_made [] registers well = tt
  set_made (a ∷ []) registers well = tt
  set_made (a ∷ b ∷ []) registers well = tt
  set_made (id ∷ start ∷ interval ∷ []) registers well =
      given Well (register_at registers id) _ (λ named.
      given Well (numbers_of start interval) _ (λ usecs told. well named.0 usecs.0 usecs.1))
  set_made (a ∷ b ∷ c ∷ d ∷ words) registers well = tt

  path_made : (called : PathWord) (words : List (List ℕ)) (registers : Registers) → ((path : List ℕ) → Well (script.Path called path)) → MakesWell Well (without_register registers (path_call_of called words))
  path_made called [] registers well = tt
  path_made called (path ∷ []) registers well =
      unnamed_made (λ text. script.Path called text) well registers (string_of path)
  path_made called (a ∷ b ∷ words) registers well = tt

  paths_made : (called : PathsWord) (words : List (List ℕ)) (registers : Registers) → ((path to : List ℕ) → Well (script.Paths called path to)) → MakesWell Well (without_register registers (paths_call_of called words))
  paths_made called [] registers well = tt
  paths_made called (a ∷ []) registers well = tt
  paths_made called (path ∷ to ∷ []) registers well =
      unnamed_made (λ both. script.Paths called both.0 both.1) (λ both. well both.0 both.1) registers (strings_of path to)
  paths_made called (a ∷ b ∷ c ∷ words) registers well = tt

  mkfs_made : (words : List (List ℕ)) (registers : Registers) → ((device label : List ℕ) (blocks : ℕ) → Well (script.Mkfs device label blocks)) → MakesWell Well (without_register registers (mkfs_of words))
  mkfs_made [] registers well = tt
  mkfs_made (a ∷ []) registers well = tt
  mkfs_made (a ∷ b ∷ []) registers well = tt
  mkfs_made (device ∷ label ∷ blocks ∷ []) registers well =
      let made = λ (o : Option ScriptCall). MakesWell Well (without_register registers o) in
      bound made (strings_of device label) _ tt (λ both.
      bound made (number_below (2 ^ 32) blocks) _ tt (λ count told. well both.0 both.1 count))
  mkfs_made (a ∷ b ∷ c ∷ d ∷ words) registers well = tt

  open_made : (words : List (List ℕ)) (registers : Registers) → ((register : ℕ) (path : List ℕ) (flags : OpenFlags) (access : Access) → Well (script.Open register path flags access)) → MakesWell Well (open_of words registers)
  open_made [] registers well = tt
  open_made (a ∷ []) registers well = tt
  open_made (a ∷ b ∷ []) registers well = tt
  open_made (a ∷ b ∷ c ∷ []) registers well = tt
  open_made (register ∷ path ∷ flags ∷ access ∷ []) registers well =
      given Well (named_at registers register path) _ (λ named.
      given Well (opening_of flags access) _ (λ opening told. well named.0.0 named.0.1 opening.0 opening.1))
  open_made (a ∷ b ∷ c ∷ d ∷ e ∷ words) registers well = tt

  lseek_made : (words : List (List ℕ)) (registers : Registers) → ((id : ℕ) (offset : ℤ) (whence : Whence) → Well (script.Lseek id offset whence)) → MakesWell Well (lseek_of words registers)
  lseek_made [] registers well = tt
  lseek_made (a ∷ []) registers well = tt
  lseek_made (a ∷ b ∷ []) registers well = tt
  lseek_made (id ∷ offset ∷ whence ∷ []) registers well =
      given Well (register_at registers id) _ (λ named.
      let made = λ (o : Option ScriptCall). MakesWell Well (without_register named.1 o) in
      bound made (offset_of offset) _ tt (λ far.
      bound made (whence_of whence) _ tt (λ from told. well named.0 far from)))
  lseek_made (a ∷ b ∷ c ∷ d ∷ words) registers well = tt

  socket_made : (words : List (List ℕ)) (registers : Registers) → ((register : ℕ) (kind : SockKind) → Well (script.SocketOpen register kind)) → MakesWell Well (socket_open_of words registers)
  socket_made [] registers well = tt
  socket_made (a ∷ []) registers well = tt
  socket_made (register ∷ kind ∷ []) registers well =
      given Well (register_at registers register) _ (λ named.
      given Well (sock_kind_of kind) _ (λ carries told. well named.0 carries))
  socket_made (a ∷ b ∷ c ∷ words) registers well = tt

  accept_made : (words : List (List ℕ)) (registers : Registers) → ((register id : ℕ) (wait : Timeout) → Well (script.SocketAccept register id wait)) → MakesWell Well (socket_accept_of words registers)
  accept_made [] registers well = tt
  accept_made (a ∷ []) registers well = tt
  accept_made (a ∷ b ∷ []) registers well = tt
  accept_made (register ∷ id ∷ wait ∷ []) registers well =
      given Well (register_at registers register) _ (λ named.
      given Well (register_at named.1 id) _ (λ on.
      given Well (wait_of wait) _ (λ until told. well named.0 on.0 until)))
  accept_made (a ∷ b ∷ c ∷ d ∷ words) registers well = tt

  sent_made : (words : List (List ℕ)) (port : List ℕ) (registers : Registers) → ((id : ℕ) (payload : List ℕ) (port : ℕ) → Well (script.SocketSend id payload port)) → MakesWell Well (sent_to words port registers)
  sent_made words port registers well =
      given Well (id_and_payload words registers) _ (λ named.
      given Well (number_below (2 ^ 32) port) _ (λ to told. well named.0.0 named.0.1 to))

  send_made : (words : List (List ℕ)) (registers : Registers) → ((id : ℕ) (payload : List ℕ) (port : ℕ) → Well (script.SocketSend id payload port)) → MakesWell Well (socket_send_of words registers)
  send_made [] registers well = tt
  send_made (a ∷ []) registers well = tt
  send_made (a ∷ b ∷ []) registers well = tt
  send_made (id ∷ text ∷ port ∷ []) registers well = sent_made (id ∷ text ∷ []) port registers well
  send_made (a ∷ b ∷ c ∷ d ∷ []) registers well = tt
  send_made (id ∷ fill ∷ count ∷ byte ∷ port ∷ []) registers well =
      sent_made (id ∷ fill ∷ count ∷ byte ∷ []) port registers well
  send_made (a ∷ b ∷ c ∷ d ∷ e ∷ f ∷ words) registers well = tt

  shutdown_made : (words : List (List ℕ)) (registers : Registers) → ((id : ℕ) (how : How) → Well (script.SocketShutdown id how)) → MakesWell Well (socket_shutdown_of words registers)
  shutdown_made [] registers well = tt
  shutdown_made (a ∷ []) registers well = tt
  shutdown_made (id ∷ how ∷ []) registers well =
      given Well (register_at registers id) _ (λ named.
      given Well (how_of how) _ (λ ways told. well named.0 ways))
  shutdown_made (a ∷ b ∷ c ∷ words) registers well = tt

  one_made : (words : List (List ℕ)) (registers : Registers) → ((id : ℕ) (mode : Mode) (wait : Timeout) → Well (script.SelectOne id mode wait)) → MakesWell Well (select_one_of words registers)
  one_made [] registers well = tt
  one_made (a ∷ []) registers well = tt
  one_made (a ∷ b ∷ []) registers well = tt
  one_made (id ∷ mode ∷ wait ∷ []) registers well =
      given Well (register_at registers id) _ (λ named.
      given Well (watch_of mode wait) _ (λ watch told. well named.0 watch.0 watch.1))
  one_made (a ∷ b ∷ c ∷ d ∷ words) registers well = tt

  multi_made : (words : List (List ℕ)) (registers : Registers) → ((reads writes : List ℕ) (wait : Timeout) → Well (script.SelectMulti reads writes wait)) → MakesWell Well (select_multi_of words registers)
  multi_made [] registers well = tt
  multi_made (a ∷ []) registers well = tt
  multi_made (a ∷ b ∷ []) registers well = tt
  multi_made (reads ∷ writes ∷ wait ∷ []) registers well =
      given Well (set_at registers reads) _ (λ first.
      given Well (set_at first.1 writes) _ (λ second.
      given Well (wait_of wait) _ (λ until told. well first.0 second.0 until)))
  multi_made (a ∷ b ∷ c ∷ d ∷ words) registers well = tt

  bare_made : (called : BareWord) (words : List (List ℕ)) (registers : Registers) → Well (script.Bare called) → MakesWell Well (without_register registers (bare_call_of called words))
  bare_made called [] registers well = λ told. well
  bare_made called (another ∷ words) registers well = tt

  -- what holds of a creation of a task with the body that it names, wherever one was declared
  task_made : (later : List ℕ → Option ℕ) → ((register : ℕ) (name : List ℕ) (body stack priority : ℕ) → (named : List ℕ) → (registers : Registers) → body ≡ (body_number registers (later named)).0 → (body_number registers (later named)).1.undeclared ≡ false → Well (script.TaskCreate register name body stack priority)) → (words : List (List ℕ)) (registers : Registers) → MakesWell Well (task_create_of later words registers)
  task_made later well [] registers = tt
  task_made later well (a ∷ []) registers = tt
  task_made later well (a ∷ b ∷ []) registers = tt
  task_made later well (a ∷ b ∷ c ∷ []) registers = tt
  task_made later well (a ∷ b ∷ c ∷ d ∷ []) registers = tt
  task_made later well (a ∷ b ∷ c ∷ d ∷ e ∷ f ∷ words) registers = tt
  task_made later well (register ∷ name ∷ body ∷ stack ∷ priority ∷ []) registers =
      given Well (named_at registers register name) _ (λ named.
      cond_both (is_body_name body) (Some (body_number named.1 (later body))) None (λ o. MakesWell Well (option_and_then (λ runs. option_and_then (λ sizes. Some (script.TaskCreate named.0.0 named.0.1 runs.0 sizes.0 sizes.1, runs.1)) (numbers_of stack priority)) o)) (λ e.
      given Well (numbers_of stack priority) _ (λ sizes told. well named.0.0 named.0.1 (body_number named.1 (later body)).0 sizes.0 sizes.1 body named.1 refl told)) (λ e. tt))

  -- what holds of each call of a word that does not create a task holds of the call that is read
  pub others_made : (later : BodyKind → List ℕ → Option ℕ) (called : CallWord) → is_task_creation called ≡ false → ((made : ScriptCall) → word_of made ≡ called → Well made) → (words : List (List ℕ)) (registers : Registers) → MakesWell Well (call_of_words later called words registers)
  others_made later (word.Object called) other well words registers = plain_made Well (λ id. script.Object called id) (λ id. well (script.Object called id) refl) (only_id words registers)
  others_made later (word.Name called) other well words registers = plain_made Well (λ found. script.Name called found.0 found.1) (λ found. well (script.Name called found.0 found.1) refl) (only_name words registers)
  others_made later (word.Wait called) other well words registers = plain_made Well (λ found. script.Wait called found.0 found.1) (λ found. well (script.Wait called found.0 found.1) refl) (id_and_wait words registers)
  others_made later (word.Value called) other well words registers = plain_made Well (λ found. script.Value called found.0 found.1 found.2) (λ found. well (script.Value called found.0 found.1 found.2) refl) (name_and_number words registers)
  others_made later (word.Number called) other well words registers = plain_made Well (λ found. script.Number called found.0 found.1) (λ found. well (script.Number called found.0 found.1) refl) (id_and_number words registers)
  others_made later (word.Path called) other well words registers = path_made called words registers (λ path. well (script.Path called path) refl)
  others_made later (word.Paths called) other well words registers = paths_made called words registers (λ path to. well (script.Paths called path to) refl)
  others_made later (word.Bare called) other well words registers = bare_made called words registers (well (script.Bare called) refl)
  others_made later word.TaskCreate other well words registers = cc
  others_made later word.TaskExit other well words registers = exit_made words registers (well script.TaskExit refl)
  others_made later word.TaskDelay other well words registers = delay_made words registers (λ n. well (script.TaskDelay n) refl)
  others_made later word.QueueCreate other well words registers = queue_made words registers (λ register name depth size. well (script.QueueCreate register name depth size) refl)
  others_made later word.QueuePut other well words registers = plain_made Well (λ found. script.QueuePut found.0 found.1) (λ found. well (script.QueuePut found.0 found.1) refl) (id_and_payload words registers)
  others_made later word.QueueGet other well words registers = plain_made Well (λ found. script.QueueGet found.0 found.1 found.2) (λ found. well (script.QueueGet found.0 found.1 found.2) refl) (id_and_room words registers)
  others_made later word.TimerAdd other well words registers = add_made (later kind.Handler) words registers (λ register name timebase handler. well (script.TimerAdd register name timebase handler) refl)
  others_made later word.TimerSet other well words registers = set_made words registers (λ id start interval. well (script.TimerSet id start interval) refl)
  others_made later word.Mkfs other well words registers = mkfs_made words registers (λ device label blocks. well (script.Mkfs device label blocks) refl)
  others_made later word.Open other well words registers = open_made words registers (λ register path flags access. well (script.Open register path flags access) refl)
  others_made later word.Read other well words registers = plain_made Well (λ found. script.Read found.0 found.1 found.2) (λ found. well (script.Read found.0 found.1 found.2) refl) (id_and_room words registers)
  others_made later word.Write other well words registers = plain_made Well (λ found. script.Write found.0 found.1) (λ found. well (script.Write found.0 found.1) refl) (id_and_payload words registers)
  others_made later word.Lseek other well words registers = lseek_made words registers (λ id offset whence. well (script.Lseek id offset whence) refl)
  others_made later word.SocketOpen other well words registers = socket_made words registers (λ register kind. well (script.SocketOpen register kind) refl)
  others_made later word.SocketAccept other well words registers = accept_made words registers (λ register id wait. well (script.SocketAccept register id wait) refl)
  others_made later word.SocketSend other well words registers = send_made words registers (λ id payload port. well (script.SocketSend id payload port) refl)
  others_made later word.SocketRecv other well words registers = plain_made Well (λ found. script.SocketRecv found.0 found.1 found.2) (λ found. well (script.SocketRecv found.0 found.1 found.2) refl) (id_and_room words registers)
  others_made later word.SocketShutdown other well words registers = shutdown_made words registers (λ id how. well (script.SocketShutdown id how) refl)
  others_made later word.SelectOne other well words registers = one_made words registers (λ id mode wait. well (script.SelectOne id mode wait) refl)
  others_made later word.SelectMulti other well words registers = multi_made words registers (λ reads writes wait. well (script.SelectMulti reads writes wait) refl)
  others_made later word.ConsoleWrite other well words registers = unnamed_made (λ payload. script.ConsoleWrite payload) (λ payload. well (script.ConsoleWrite payload) refl) registers (payload_of words)

module _ (number total : ℕ) where
  -- the body that a creation names
  body_names : (later : List ℕ → Option ℕ) → IsBetween (number + 1) total later → (registers : Registers) (name : List ℕ) (found : Option ℕ) → later name ≡ found → (body_number registers found).1.undeclared ≡ false → (number < (body_number registers found).0) × ((body_number registers found).0 < total)
  body_names later between registers name (Some body) found-is told =
      let within = between name body found-is in
      (omega (arith, within.0), within.1)
  body_names later between registers name None found-is told = cc

  others_name : (made : ScriptCall) → is_task_creation (word_of made) ≡ false → NamesBetween number total made
  others_name (script.TaskCreate register name body stack priority) other = cc
  others_name _ other = tt

  -- the call of a line
  pub call_names : (later : BodyKind → List ℕ → Option ℕ) → IsBetween (number + 1) total (later kind.Task) → (called : CallWord) (words : List (List ℕ)) (registers : Registers) → MakesWell (NamesBetween number total) (call_of_words later called words registers)
  call_names later between word.TaskCreate words registers =
      task_made (NamesBetween number total) (later kind.Task)
      (λ register name body stack priority named from is told. rw is (body_names (later kind.Task) between from named (later kind.Task named) refl told)) words registers
  call_names later between called words registers =
      others_made (NamesBetween number total) later called refl (λ made is. others_name made (ap is_task_creation is)) words registers
