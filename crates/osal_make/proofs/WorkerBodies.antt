-- The bodies of the workers are read as they are made.
use Rattle.std.proofs.Common.{◌≡◌, ◌≤◌, ◌<◌, ◌+◌, ◌*◌, ℕ, zero, suc, List, [], ◌∷◌, ◌++◌, false, Option, Some, None, Ok, map, take, drop, length, codes, flat_map, bytes_eq, eqb, leb, refl, sym, ap, ◌∙◌, arith, append_assoc}
use Rattle.std.proofs.lemmas.Bool.{lt-leb, or_from, or_parts, ne_eqb}
use Rattle.std.proofs.lemmas.List.{append-nil, length_push}
use Rattle.osal_base.specs.declared.status.Status.TheVariants as status
use Rattle.osal_base.specs.Status.{number_of}
use Rattle.osal_call.specs.declared.word.CallWord.TheVariants as word
use Rattle.osal_line.specs.declared.kind.BodyKind.{BodyKind}
use Rattle.osal_line.specs.declared.line.ScriptCall.TheVariants as script
use Rattle.osal_script.specs.App.{ScriptBody}
use Rattle.osal_script.specs.declared.item.Item.{Item}
use Rattle.osal_reading.specs.Draft.{Reading}
use Rattle.osal_reading.specs.Blocks.{is_taken}
use Rattle.osal_reading.specs.Reading.{read_words, read_lines}
use Rattle.osal_make.specs.MakeText.{counted, worker_name, queue_name, worker_lines}
use Rattle.osal_make.specs.Items.{worker_items}
use Rattle.osal_make.specs.Made.{worker_body}
use Rattle.osal_make.proofs.Forms.{quoted, task_form, queue_line, queue_words, queue_form, put_line, put_words, put_form}
use Rattle.osal_make.proofs.Names.{name_is_body, message_is_name, queue_is_name, other_name}
use Rattle.osal_make.proofs.Steps.{plain_line_read, named, task_body, open_in, closed, call_read, queue_made, put_made}

-- the body of a worker is open, with these items, so many call lines and repeats, so many open repeats, and these registers
abbrev in_worker : List ScriptBody → ℕ → List Item → ℕ → ℕ → List (List ℕ) → Reading
in_worker bodies k items count repeats names = open_in bodies (task_body (worker_name k) items count repeats names)

-- the name of its register before it finds the semaphore
abbrev one_register : List (List ℕ)
one_register = codes "q" ∷ []

-- the names of its registers from then on
abbrev both_registers : List (List ℕ)
both_registers = codes "q" ∷ codes "d" ∷ []

task_read : (later : BodyKind → List ℕ → Option ℕ) (bodies : List ScriptBody) (k number : ℕ) → 1 ≤ k → k ≤ 60 → length bodies < 64 → is_taken bodies (worker_name k) ≡ false → read_words later (closed bodies) number (codes "task" ∷ worker_name k ∷ []) ≡ Ok (in_worker bodies k [] 0 0 [])
task_read later bodies k number some few room free =
    let fits : leb 64 (length bodies) ≡ false = lt-leb 64 (length bodies) room in
    rw (name_is_body k some few, fits, free) refl

queue_read : (later : BodyKind → List ℕ → Option ℕ) (bodies : List ScriptBody) (k first : ℕ) → 1 ≤ k → k ≤ 60 → read_words later (in_worker bodies k [] 0 0 []) first (queue_words k) ≡ Ok (in_worker bodies k (take 1 (worker_items first k)) 1 0 one_register)
queue_read later bodies k first some few =
    let made = queue_made (codes "$q") (quoted (queue_name k)) (codes "10") (codes "8") (queue_name k) (named []) (named one_register) 0 10 8 refl (queue_is_name k some few) refl refl in
    call_read later bodies (task_body (worker_name k) [] 0 0 []) first word.QueueCreate (codes "queue_create") (drop 1 (queue_words k)) (script.QueueCreate 0 (queue_name k) 10 8) (named one_register) (Some (record { code = number_of status.Success; value = None })) refl refl refl made refl refl refl refl

put_read : (later : BodyKind → List ℕ → Option ℕ) (bodies : List ScriptBody) (k first : ℕ) → 1 ≤ k → k ≤ 60 → read_words later (in_worker bodies k (take 2 (worker_items first k)) 2 1 one_register) (first + 2) (put_words k) ≡ Ok (in_worker bodies k (take 3 (worker_items first k)) 3 1 one_register)
put_read later bodies k first some few =
    let made = put_made (codes "$q") (quoted (worker_name k)) (worker_name k) (named one_register) (named one_register) 0 refl (message_is_name k some few) in
    call_read later bodies (task_body (worker_name k) (take 2 (worker_items first k)) 2 1 one_register) (first + 2) word.QueuePut (codes "queue_put") (drop 1 (put_words k)) (script.QueuePut 0 (worker_name k)) (named one_register) None refl refl refl made refl refl refl refl

-- one worker is read
worker_read : (n k number : ℕ) (bodies : List ScriptBody) (lines : List (List ℕ)) → 1 ≤ k → k ≤ 60 → number + 1 ≡ n + 10 * k → length bodies < 64 → is_taken bodies (worker_name k) ≡ false → read_lines (worker_lines k ++ lines) number (Ok (closed bodies)) ≡ read_lines lines (number + 10) (Ok (closed (bodies ++ worker_body n k ∷ [])))
worker_read n k number bodies lines some few first-is room free =
    let first : ℕ = n + 10 * k in
    let at = λ (i : ℕ). drop i (worker_lines k ++ lines) in
    let items = λ (i : ℕ). take i (worker_items first k) in
    plain_line_read (codes "task " ++ worker_name k) (codes "task" ∷ worker_name k ∷ []) (at 1) number first (closed bodies) (Ok (in_worker bodies k [] 0 0 [])) (task_form k some few) first-is (λ later. task_read later bodies k number some few room free)
    ∙ plain_line_read (queue_line k) (queue_words k) (at 2) first (first + 1) (in_worker bodies k [] 0 0 []) (Ok (in_worker bodies k (items 1) 1 0 one_register)) (queue_form k some few) refl (λ later. queue_read later bodies k first some few)
    ∙ plain_line_read (codes "repeat 1000") (codes "repeat" ∷ codes "1000" ∷ []) (at 3) (first + 1) (first + 2) (in_worker bodies k (items 1) 1 0 one_register) (Ok (in_worker bodies k (items 2) 2 1 one_register)) refl (omega arith) (λ later. refl)
    ∙ plain_line_read (put_line k) (put_words k) (at 4) (first + 2) (first + 3) (in_worker bodies k (items 2) 2 1 one_register) (Ok (in_worker bodies k (items 3) 3 1 one_register)) (put_form k some few) (omega arith) (λ later. put_read later bodies k first some few)
    ∙ plain_line_read (codes "queue_get $q 8 check") (codes "queue_get" ∷ codes "$q" ∷ codes "8" ∷ codes "check" ∷ []) (at 5) (first + 3) (first + 4) (in_worker bodies k (items 3) 3 1 one_register) (Ok (in_worker bodies k (items 4) 4 1 one_register)) refl (omega arith) (λ later. refl)
    ∙ plain_line_read (codes "end") (codes "end" ∷ []) (at 6) (first + 4) (first + 5) (in_worker bodies k (items 4) 4 1 one_register) (Ok (in_worker bodies k (items 5) 4 0 one_register)) refl (omega arith) (λ later. refl)
    ∙ plain_line_read (codes "queue_get $q 8 check -> OS_QUEUE_EMPTY") (codes "queue_get" ∷ codes "$q" ∷ codes "8" ∷ codes "check" ∷ codes "->" ∷ codes "OS_QUEUE_EMPTY" ∷ []) (at 7) (first + 5) (first + 6) (in_worker bodies k (items 5) 4 0 one_register) (Ok (in_worker bodies k (items 6) 5 0 one_register)) refl (omega arith) (λ later. refl)
    ∙ plain_line_read (codes "count_sem_find $d \"done\"") (codes "count_sem_find" ∷ codes "$d" ∷ quoted (codes "done") ∷ []) (at 8) (first + 6) (first + 7) (in_worker bodies k (items 6) 5 0 one_register) (Ok (in_worker bodies k (items 7) 6 0 both_registers)) refl (omega arith) (λ later. refl)
    ∙ plain_line_read (codes "count_sem_give $d -> OS_SUCCESS") (codes "count_sem_give" ∷ codes "$d" ∷ codes "->" ∷ codes "OS_SUCCESS" ∷ []) (at 9) (first + 7) (first + 8) (in_worker bodies k (items 7) 6 0 both_registers) (Ok (in_worker bodies k (items 8) 7 0 both_registers)) refl (omega arith) (λ later. refl)
    ∙ plain_line_read (codes "end") (codes "end" ∷ []) lines (first + 8) (number + 10) (in_worker bodies k (items 8) 7 0 both_registers) (Ok (closed (bodies ++ worker_body n k ∷ []))) refl (omega arith) (λ later. refl)

-- no body has the name of a worker from one on
abbrev pub AreFree : List ScriptBody → ℕ → Type 0
AreFree bodies from = (j : ℕ) → from ≤ j → j ≤ 60 → is_taken bodies (worker_name j) ≡ false

taken_push : (bodies : List ScriptBody) (last : ScriptBody) (name : List ℕ) → is_taken bodies name ≡ false → bytes_eq last.name name ≡ false → is_taken (bodies ++ last ∷ []) name ≡ false
taken_push [] last name free other = or_from (bytes_eq last.name name) false other refl
taken_push (body ∷ bodies) last name free other =
    let parts = or_parts (bytes_eq body.name name) (is_taken bodies name) free in
    or_from (bytes_eq body.name name) (is_taken (bodies ++ last ∷ []) name) parts.0 (taken_push bodies last name parts.1 other)

-- the workers from one on are read, and the text ends
pub workers_read : (m k n number : ℕ) (bodies : List ScriptBody) → 1 ≤ k → k + m ≤ 61 → number + 1 ≡ n + 10 * k → 0 < length bodies → length bodies + m ≤ 64 → AreFree bodies k → read_lines (flat_map worker_lines (counted m k)) number (Ok (closed bodies)) ≡ Ok (record { version = 1; bodies = bodies ++ map (worker_body n) (counted m k) })
workers_read zero k n number bodies some few first-is filled room free =
    let not_none : eqb (length bodies) 0 ≡ false = ne_eqb (length bodies) 0 (λ e. omega arith) in
    rw not_none (ap (λ (v : List ScriptBody). Ok (record { version = 1; bodies = v })) (sym (append-nil bodies)))
workers_read (suc m) k n number bodies some few first-is filled room free =
    let longer : List ScriptBody = bodies ++ worker_body n k ∷ [] in
    let long = length_push bodies (worker_body n k) in
    let still_free : AreFree longer (k + 1) = λ j behind within. taken_push bodies (worker_body n k) (worker_name j) (free j (omega arith) within) (other_name k j (omega arith) within (λ e. omega arith)) in
    worker_read n k number bodies (flat_map worker_lines (counted m (k + 1))) some (omega arith) first-is (omega arith) (free k (omega arith) (omega arith))
    ∙ workers_read m (k + 1) n (number + 10) longer (omega arith) (omega arith) (omega arith) (omega (arith, long)) (omega (arith, long)) still_free
    ∙ ap (λ (v : List ScriptBody). Ok (record { version = 1; bodies = v })) (append_assoc bodies (worker_body n k ∷ []) (map (worker_body n) (counted m (k + 1))))
