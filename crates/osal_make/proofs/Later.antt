-- The body that a creation names is declared behind it, at the worker's number.
use Rattle.std.proofs.Common.{◌≡◌, ◌≤◌, ◌<◌, ◌+◌, ℕ, zero, suc, List, [], ◌∷◌, ◌++◌, Some, None, map, drop, flat_map, codes, refl, ap, ◌∙◌, arith}
use Rattle.std.specs.Option.{option_to_list}
use Rattle.std.specs.Fmt.{decimal}
use Rattle.osal_line.specs.declared.kind.BodyKind.TheVariants as kind
use Rattle.osal_line.specs.Declarations.{Declared, declared_by, declared, last_place, later_number}
use Rattle.osal_make.specs.MakeText.{counted, workers, worker_name, creation_line, creation_lines, waiting_lines, worker_lines}
use Rattle.osal_make.proofs.Forms.{Form, HasWords, creation_words, creation_form, repeat_form, task_form, queue_line, queue_words, queue_form, put_line, put_words, put_form}
use Rattle.osal_make.proofs.Names.{same_name, other_name}

-- what the line that begins a worker's body declares
abbrev pub worker_declared : ℕ → Declared
worker_declared k = record { kind = kind.Task; name = worker_name k }

-- what a line declares, by its words
declared_line : (line : List ℕ) (words lines : List (List ℕ)) → HasWords line words → declared (line ∷ lines) ≡ option_to_list (declared_by words) ++ declared lines
declared_line line words lines form =
    ap (λ (f : Form). option_to_list (declared_by f.words) ++ declared lines) form

-- creations declare nothing
pub creations_declare : (m k : ℕ) (lines : List (List ℕ)) → 1 ≤ k → k + m ≤ 61 → declared (creation_lines (counted m k) ++ lines) ≡ declared lines
creations_declare zero k lines some few = refl
creations_declare (suc m) k lines some few =
    declared_line (creation_line k) (creation_words k) (creation_lines (counted m (k + 1)) ++ lines) (creation_form k some (omega arith))
    ∙ creations_declare m (k + 1) lines (omega arith) (omega arith)

-- nor do the waits
pub waits_declare : (n : ℕ) (lines : List (List ℕ)) → 1 ≤ n → n ≤ 60 → declared (waiting_lines n ++ lines) ≡ declared lines
waits_declare n lines some few =
    declared_line (codes "repeat " ++ decimal n) (codes "repeat" ∷ decimal n ∷ []) (drop 1 (waiting_lines n ++ lines)) (repeat_form n some few)

worker_declares : (k : ℕ) (lines : List (List ℕ)) → 1 ≤ k → k ≤ 60 → declared (worker_lines k ++ lines) ≡ worker_declared k ∷ declared lines
worker_declares k lines some few =
    declared_line (codes "task " ++ worker_name k) (codes "task" ∷ worker_name k ∷ []) (drop 1 (worker_lines k ++ lines)) (task_form k some few)
    ∙ ap (λ (v : List Declared). worker_declared k ∷ v)
    (declared_line (queue_line k) (queue_words k) (drop 2 (worker_lines k ++ lines)) (queue_form k some few)
    ∙ declared_line (put_line k) (put_words k) (drop 4 (worker_lines k ++ lines)) (put_form k some few))

-- the lines of the workers declare each of them
pub workers_declare : (m k : ℕ) → 1 ≤ k → k + m ≤ 61 → declared (flat_map worker_lines (counted m k)) ≡ map worker_declared (counted m k)
workers_declare zero k some few = refl
workers_declare (suc m) k some few =
    worker_declares k (flat_map worker_lines (counted m (k + 1))) some (omega arith)
    ∙ ap (λ (v : List Declared). worker_declared k ∷ v) (workers_declare m (k + 1) (omega arith) (omega arith))

-- a worker is not among those behind it
not_behind : (m from k : ℕ) → k < from → from + m ≤ 61 → last_place (map worker_declared (counted m from)) kind.Task (worker_name k) ≡ None
not_behind zero from k before few = refl
not_behind (suc m) from k before few =
    let rest = not_behind m (from + 1) k (omega arith) (omega arith) in
    let other = other_name from k (omega arith) (omega arith) (λ e. omega arith) in
    rw (rest, other) refl

-- where a worker stands among the workers from a number on
place_of_worker : (m from at : ℕ) → at < m → from + m ≤ 61 → last_place (map worker_declared (counted m from)) kind.Task (worker_name (from + at)) ≡ Some at
place_of_worker zero from at within few = absurd (omega arith)
place_of_worker (suc m) from zero within few =
    let here : from + 0 ≡ from = omega arith in
    let rest = not_behind m (from + 1) from (omega arith) (omega arith) in
    rw (here, rest, same_name (worker_name from)) refl
place_of_worker (suc m) from (suc at) within few =
    let there : from + 1 + at ≡ from + suc at = omega arith in
    let rest = place_of_worker m (from + 1) at (omega arith) (omega arith) in
    rw (← there, rest) (ap Some (omega arith))

-- the number of a worker's body, behind the first body
pub number_of_worker : (n k : ℕ) → 1 ≤ k → k ≤ n → n ≤ 60 → later_number 1 (map worker_declared (workers n)) kind.Task (worker_name k) ≡ Some k
number_of_worker n zero some within few = absurd (omega arith)
number_of_worker n (suc at) some within few =
    let here : 1 + at ≡ suc at = omega arith in
    let place = place_of_worker n 1 at (omega arith) (omega arith) in
    rw (← here, place) refl
