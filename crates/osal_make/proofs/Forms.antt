-- What the reading of a text needs to know of each of its lines: the lines that name a number have the same form at each.
use Rattle.std.proofs.Common.{◌≡◌, ◌≤◌, ℕ, List, [], ◌∷◌, ◌++◌, Bool, true, false, map, length, codes, ltb, refl, arith}
use Rattle.std.specs.List.{list_all}
use Rattle.std.specs.Fmt.{digits, decimal}
use Rattle.osal_line.specs.Words.{words_of, is_line_byte}
use Rattle.osal_make.specs.MakeText.{counted, worker_name, queue_name, creation_line}
use Rattle.osal_make.proofs.Counted.{at_counted}

-- whether a line is too long, whether its bytes may stand in a line, and its words
pub record Form : Type 0 where
  pub long : Bool
  pub clean : Bool
  pub words : List (List ℕ)

-- the form of a line
abbrev pub form_of : List ℕ → Form
form_of line = record { long = ltb 255 (length line); clean = list_all is_line_byte line; words = words_of line }

-- a line can be read, and has these words
abbrev pub HasWords : List ℕ → List (List ℕ) → Type 0
HasWords line words = form_of line ≡ record { long = false; clean = true; words = words }

-- at each number up to 60 the line can be read, and has these words
abbrev FormAt : (ℕ → List ℕ) → (ℕ → List (List ℕ)) → Type 0
FormAt line words =
    map (λ k. form_of (line k)) (counted 60 1)
    ≡ map (λ k. record { long = false; clean = true; words = words k }) (counted 60 1)

form_at : (line : ℕ → List ℕ) (words : ℕ → List (List ℕ)) → FormAt line words → (k : ℕ) → 1 ≤ k → k ≤ 60 → HasWords (line k) (words k)
form_at line words forms k some few =
    at_counted (λ k. form_of (line k)) (λ k. record { long = false; clean = true; words = words k }) 60 1 k forms some (omega arith)

-- a name between quotation marks
abbrev pub quoted : List ℕ → List ℕ
quoted name = 34 ∷ name ++ 34 ∷ []

-- the words of the line that creates a worker
abbrev pub creation_words : ℕ → List (List ℕ)
creation_words k =
    codes "task_create" ∷ codes "$t" ∷ quoted (worker_name k) ∷ worker_name k ∷ codes "1024" ∷ codes "100" ∷ []

creation_forms : FormAt creation_line creation_words
unfolding digits
creation_forms = refl

-- the line that creates a worker
pub creation_form : (k : ℕ) → 1 ≤ k → k ≤ 60 → HasWords (creation_line k) (creation_words k)
creation_form k some few = form_at creation_line creation_words creation_forms k some few

repeat_forms : FormAt (λ n. codes "repeat " ++ decimal n) (λ n. codes "repeat" ∷ decimal n ∷ [])
unfolding digits
repeat_forms = refl

-- the line that repeats the waits
pub repeat_form : (n : ℕ) → 1 ≤ n → n ≤ 60 → HasWords (codes "repeat " ++ decimal n) (codes "repeat" ∷ decimal n ∷ [])
repeat_form n some few =
    form_at (λ n. codes "repeat " ++ decimal n) (λ n. codes "repeat" ∷ decimal n ∷ []) repeat_forms n some few

task_forms : FormAt (λ k. codes "task " ++ worker_name k) (λ k. codes "task" ∷ worker_name k ∷ [])
unfolding digits
task_forms = refl

-- the line that begins a worker's body
pub task_form : (k : ℕ) → 1 ≤ k → k ≤ 60 → HasWords (codes "task " ++ worker_name k) (codes "task" ∷ worker_name k ∷ [])
task_form k some few =
    form_at (λ k. codes "task " ++ worker_name k) (λ k. codes "task" ∷ worker_name k ∷ []) task_forms k some few

-- the line that creates a worker's queue
abbrev pub queue_line : ℕ → List ℕ
queue_line k = codes "queue_create $q \"" ++ (queue_name k ++ codes "\" 10 8 -> OS_SUCCESS")

-- its words
abbrev pub queue_words : ℕ → List (List ℕ)
queue_words k =
    codes "queue_create" ∷ codes "$q" ∷ quoted (queue_name k) ∷ codes "10" ∷ codes "8" ∷ codes "->" ∷ codes "OS_SUCCESS" ∷ []

queue_forms : FormAt queue_line queue_words
unfolding digits
queue_forms = refl

-- the line that creates a worker's queue
pub queue_form : (k : ℕ) → 1 ≤ k → k ≤ 60 → HasWords (queue_line k) (queue_words k)
queue_form k some few = form_at queue_line queue_words queue_forms k some few

-- the line that puts a worker's message
abbrev pub put_line : ℕ → List ℕ
put_line k = codes "queue_put $q \"" ++ (worker_name k ++ codes "\"")

-- its words
abbrev pub put_words : ℕ → List (List ℕ)
put_words k = codes "queue_put" ∷ codes "$q" ∷ quoted (worker_name k) ∷ []

put_forms : FormAt put_line put_words
unfolding digits
put_forms = refl

-- the line that puts a worker's message
pub put_form : (k : ℕ) → 1 ≤ k → k ≤ 60 → HasWords (put_line k) (put_words k)
put_form k some few = form_at put_line put_words put_forms k some few
