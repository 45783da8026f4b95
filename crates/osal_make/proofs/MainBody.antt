-- The first body is read as it is made.
use Rattle.std.proofs.Common.{◌≡◌, ◌≤◌, ◌+◌, ℕ, zero, suc, List, [], ◌∷◌, ◌++◌, false, Option, Some, None, Ok, map, drop, codes, leb, ltb, refl, sym, ap, ◌∙◌, arith, append_assoc}
use Rattle.std.specs.Fmt.{decimal}
use Rattle.std.proofs.lemmas.Bool.{lt-leb, le-ltb}
use Rattle.std.proofs.lemmas.List.{append-nil}
use Rattle.osal_base.specs.declared.status.Status.TheVariants as status
use Rattle.osal_base.specs.declared.time.Timeout.TheVariants as timeout
use Rattle.osal_call.specs.declared.word.CallWord.TheVariants as word
use Rattle.osal_call.specs.declared.word.object.ObjectWord.TheVariants as object
use Rattle.osal_call.specs.declared.word.pair.ValueWord.TheVariants as value_word
use Rattle.osal_call.specs.declared.word.pair.WaitWord.TheVariants as wait_word
use Rattle.osal_line.specs.declared.kind.BodyKind.{BodyKind}
use Rattle.osal_line.specs.declared.kind.BodyKind.TheVariants as kind
use Rattle.osal_line.specs.declared.line.ScriptCall.TheVariants as script
use Rattle.osal_line.specs.Registers.{register_at}
use Rattle.osal_line.specs.Declarations.{Declared, declared, later_number}
use Rattle.osal_script.specs.declared.item.Item.{Item}
use Rattle.osal_script.specs.declared.item.Item.TheVariants as item
use Rattle.osal_reading.specs.Draft.{Reading, unread}
use Rattle.osal_reading.specs.Reading.{read_words, read_lines}
use Rattle.osal_make.specs.MakeText.{counted, workers, worker_name, creation_line, creation_lines, waiting_lines, main_lines}
use Rattle.osal_make.specs.Items.{call_line, status_line, number_line, creation_item, waiting_items}
use Rattle.osal_make.specs.Made.{main_body}
use Rattle.osal_make.proofs.Forms.{quoted, creation_words, creation_form, repeat_form}
use Rattle.osal_make.proofs.Names.{name_is_body, message_is_name, digits_are_count}
use Rattle.osal_make.proofs.Later.{worker_declared, creations_declare, waits_declare, number_of_worker}
use Rattle.osal_make.proofs.Steps.{line_read, plain_line_read, named, task_body, open_in, closed, call_read, task_made}

-- the name of the register of the first body before it creates a worker
abbrev one_register : List (List ℕ)
one_register = codes "d" ∷ []

-- the names of its registers from the first creation of a worker on
abbrev both_registers : List (List ℕ)
both_registers = codes "d" ∷ codes "t" ∷ []

-- the first body is open, with these items, so many call lines and repeats, so many open repeats, and these registers
abbrev in_first : List Item → ℕ → ℕ → List (List ℕ) → Reading
in_first items count repeats names = open_in [] (task_body (codes "main") items count repeats names)

creation_read : (later : BodyKind → List ℕ → Option ℕ) (k : ℕ) (items : List Item) (names : List (List ℕ)) → 1 ≤ k → k ≤ 60 → register_at (named names) (codes "$t") ≡ Some (1, named both_registers) → later kind.Task (worker_name k) ≡ Some k → read_words later (in_first items k 0 names) (k + 3) (creation_words k) ≡ Ok (in_first (items ++ creation_item k ∷ []) (k + 1) 0 both_registers)
creation_read later k items names some few register-is later-is =
    let made = task_made (later kind.Task) (codes "$t") (quoted (worker_name k)) (worker_name k) (codes "1024") (codes "100") (worker_name k) (named names) (named both_registers) 1 k 1024 100 register-is (message_is_name k some few) (name_is_body k some few) later-is refl refl in
    call_read later [] (task_body (codes "main") items k 0 names) (k + 3) word.TaskCreate (codes "task_create") (drop 1 (creation_words k)) (script.TaskCreate 1 (worker_name k) k 1024 100) (named both_registers) None refl refl refl made refl refl refl (lt-leb 4096 k (omega arith))

-- one creation is read, where so many are behind it
one_creation : (m k n : ℕ) (items : List Item) (names lines : List (List ℕ)) → 1 ≤ k → k + m ≡ n → n ≤ 60 → declared lines ≡ map worker_declared (workers n) → register_at (named names) (codes "$t") ≡ Some (1, named both_registers) → read_lines (creation_lines (counted (suc m) k) ++ lines) (k + 3) (Ok (in_first items k 0 names)) ≡ read_lines (creation_lines (counted m (k + 1)) ++ lines) (k + 1 + 3) (Ok (in_first (items ++ creation_item k ∷ []) (k + 1) 0 both_registers))
one_creation m k n items names lines some all few declared-is register-is =
    let behind : List (List ℕ) = creation_lines (counted m (k + 1)) ++ lines in
    let named-is = creations_declare m (k + 1) lines (omega arith) (omega arith) ∙ declared-is in
    let later-is = ap (λ (v : List Declared). later_number 1 v kind.Task (worker_name k)) named-is ∙ number_of_worker n k some (omega arith) few in
    line_read (creation_line k) (creation_words k) behind (k + 3) (k + 1 + 3) (in_first items k 0 names) (Ok (in_first (items ++ creation_item k ∷ []) (k + 1) 0 both_registers)) (creation_form k some (omega arith)) (omega arith) (creation_read (later_number 1 (declared behind)) k items names some (omega arith) register-is later-is)

-- the creations from one on are read
creations_read : (m k n : ℕ) (items : List Item) (lines : List (List ℕ)) → 1 ≤ k → k + m ≡ n + 1 → n ≤ 60 → declared lines ≡ map worker_declared (workers n) → read_lines (creation_lines (counted m k) ++ lines) (k + 3) (Ok (in_first items k 0 both_registers)) ≡ read_lines lines (n + 4) (Ok (in_first (items ++ map creation_item (counted m k)) (n + 1) 0 both_registers))
creations_read zero k n items lines some all few declared-is =
    let last : k ≡ n + 1 = omega arith in
    let next : k + 3 ≡ n + 4 = omega arith in
    ap (λ (v : ℕ). read_lines lines v (Ok (in_first items k 0 both_registers))) next
    ∙ ap (λ (v : ℕ). read_lines lines (n + 4) (Ok (in_first items v 0 both_registers))) last
    ∙ ap (λ (v : List Item). read_lines lines (n + 4) (Ok (in_first v (n + 1) 0 both_registers))) (sym (append-nil items))
creations_read (suc m) k n items lines some all few declared-is =
    let joined = append_assoc items (creation_item k ∷ []) (map creation_item (counted m (k + 1))) in
    one_creation m k n items both_registers lines some (omega arith) few declared-is refl
    ∙ creations_read m (k + 1) n (items ++ creation_item k ∷ []) lines (omega arith) (omega arith) few declared-is
    ∙ ap (λ (v : List Item). read_lines lines (n + 4) (Ok (in_first v (n + 1) 0 both_registers))) joined

-- the words of the line that takes the semaphore
abbrev take_words : List (List ℕ)
take_words = codes "count_sem_take" ∷ codes "$d" ∷ codes "pend" ∷ codes "->" ∷ codes "OS_SUCCESS" ∷ []

-- its item, where it has that number
abbrev take_item : ℕ → Item
take_item number = status_line number (script.Wait wait_word.CountSemTake 0 timeout.Pend) status.Success

-- the words of the line that asks for the semaphore
abbrev info_words : List (List ℕ)
info_words = codes "count_sem_info" ∷ codes "$d" ∷ codes "->" ∷ codes "OS_SUCCESS" ∷ codes "0" ∷ []

-- its item, where it has that number
abbrev info_item : ℕ → Item
info_item number = number_line number (script.Object object.CountSemInfo 0) 0

repeat_read : (later : BodyKind → List ℕ → Option ℕ) (n number : ℕ) (items : List Item) → 1 ≤ n → n ≤ 60 → read_words later (in_first items (n + 1) 0 both_registers) number (codes "repeat" ∷ decimal n ∷ []) ≡ Ok (in_first (items ++ item.Repeat n ∷ []) (n + 1 + 1) 1 both_registers)
repeat_read later n number items some few =
    let some_turn : ltb n 1 ≡ false = le-ltb n 1 some in
    let few_turns : ltb 100000 n ≡ false = le-ltb 100000 n (omega arith) in
    let short : leb 4096 (n + 1) ≡ false = lt-leb 4096 (n + 1) (omega arith) in
    rw (digits_are_count n some few, some_turn, few_turns, short) refl

take_read : (later : BodyKind → List ℕ → Option ℕ) (number count : ℕ) (items : List Item) → leb 4096 count ≡ false → read_words later (in_first items count 1 both_registers) number take_words ≡ Ok (in_first (items ++ take_item number ∷ []) (count + 1) 1 both_registers)
take_read later number count items few = rw few refl

info_read : (later : BodyKind → List ℕ → Option ℕ) (number count : ℕ) (items : List Item) → leb 4096 count ≡ false → read_words later (in_first items count 0 both_registers) number info_words ≡ Ok (in_first (items ++ info_item number ∷ []) (count + 1) 0 both_registers)
info_read later number count items few = rw few refl

-- the waits are read, and the body ends
waits_read : (n : ℕ) (items : List Item) (lines : List (List ℕ)) → 1 ≤ n → n ≤ 60 → read_lines (waiting_lines n ++ lines) (n + 4) (Ok (in_first items (n + 1) 0 both_registers)) ≡ read_lines lines (n + 9) (Ok (closed (record { name = codes "main"; kind = kind.Task; items = items ++ waiting_items n } ∷ [])))
waits_read n items lines some few =
    let repeated = items ++ item.Repeat n ∷ [] in
    let taken = repeated ++ take_item (n + 5) ∷ [] in
    let ended = taken ++ item.End ∷ [] in
    let told = ended ++ info_item (n + 7) ∷ [] in
    let at = λ (i : ℕ). drop i (waiting_lines n ++ lines) in
    let last = λ (all : List Item). closed (record { name = codes "main"; kind = kind.Task; items = all } ∷ []) in
    let all : told ≡ items ++ waiting_items n = simp append_assoc in
    let count : ℕ = n + 1 + 1 in
    plain_line_read (codes "repeat " ++ decimal n) (codes "repeat" ∷ decimal n ∷ []) (at 1) (n + 4) (n + 5) (in_first items (n + 1) 0 both_registers) (Ok (in_first repeated count 1 both_registers)) (repeat_form n some few) (omega arith) (λ later. repeat_read later n (n + 4) items some few)
    ∙ plain_line_read (codes "count_sem_take $d pend -> OS_SUCCESS") take_words (at 2) (n + 5) (n + 6) (in_first repeated count 1 both_registers) (Ok (in_first taken (count + 1) 1 both_registers)) refl (omega arith) (λ later. take_read later (n + 5) count repeated (lt-leb 4096 count (omega arith)))
    ∙ plain_line_read (codes "end") (codes "end" ∷ []) (at 3) (n + 6) (n + 7) (in_first taken (count + 1) 1 both_registers) (Ok (in_first ended (count + 1) 0 both_registers)) refl (omega arith) (λ later. refl)
    ∙ plain_line_read (codes "count_sem_info $d -> OS_SUCCESS 0") info_words (at 4) (n + 7) (n + 8) (in_first ended (count + 1) 0 both_registers) (Ok (in_first told (count + 1 + 1) 0 both_registers)) refl (omega arith) (λ later. info_read later (n + 7) (count + 1) ended (lt-leb 4096 (count + 1) (omega arith)))
    ∙ plain_line_read (codes "end") (codes "end" ∷ []) lines (n + 8) (n + 9) (in_first told (count + 1 + 1) 0 both_registers) (Ok (last told)) refl (omega arith) (λ later. refl)
    ∙ ap (λ (v : List Item). read_lines lines (n + 9) (Ok (last v))) all

-- the header and the first body are read
pub first_read : (n : ℕ) (lines : List (List ℕ)) → 1 ≤ n → n ≤ 60 → declared lines ≡ map worker_declared (workers n) → read_lines (main_lines n ++ lines) 1 (Ok unread) ≡ read_lines lines (n + 9) (Ok (closed (main_body n ∷ [])))
first_read zero lines some few declared-is = absurd (omega arith)
first_read (suc m) lines some few declared-is =
    let n = suc m in
    let begins = call_line 3 (script.Value value_word.CountSemCreate 0 (codes "done") 0) in
    let behind : List (List ℕ) = waiting_lines n ++ lines in
    let behind-declare = waits_declare n lines some few ∙ declared-is in
    let split = append_assoc (creation_lines (workers n)) (waiting_lines n) lines in
    ap (λ (v : List (List ℕ)). read_lines v 4 (Ok (in_first (begins ∷ []) 1 0 one_register))) split
    ∙ one_creation m 1 n (begins ∷ []) one_register behind (omega arith) (omega arith) few behind-declare refl
    ∙ creations_read m 2 n (begins ∷ creation_item 1 ∷ []) behind (omega arith) (omega arith) few behind-declare
    ∙ waits_read n (begins ∷ map creation_item (workers n)) lines some few
