-- The text of the application that is made for a number of workers.
use Rattle.std.specs.Prelude.{◌+◌, ◌++◌, List, [], ◌∷◌, ℕ, zero, suc, codes, flat_map}
use Rattle.std.specs.Fmt.{decimal}

-- the numbers from one on, so many
abbrev pub counted : ℕ → ℕ → List ℕ
counted zero from = []
counted (suc n) from = from ∷ counted n (from + 1)

-- the numbers of the workers: 1 to n
abbrev pub workers : ℕ → List ℕ
workers n = counted n 1

-- the name of a worker, and that of its body
abbrev pub worker_name : ℕ → List ℕ
worker_name k = codes "w" ++ decimal k

-- the name of a worker's queue
abbrev pub queue_name : ℕ → List ℕ
queue_name k = codes "q" ++ decimal k

-- the line that creates a worker
abbrev pub creation_line : ℕ → List ℕ
creation_line k = codes "task_create $t \"" ++ (worker_name k ++ (codes "\" " ++ (worker_name k ++ codes " 1024 100")))

-- the lines that create the workers from a number on
abbrev pub creation_lines : List ℕ → List (List ℕ)
creation_lines [] = []
creation_lines (k ∷ ks) = creation_line k ∷ creation_lines ks

-- the lines of the first body behind the creations: it waits for each worker, and sees that no more is given
abbrev pub waiting_lines : ℕ → List (List ℕ)
waiting_lines n =
    (codes "repeat " ++ decimal n)
    ∷ codes "count_sem_take $d pend -> OS_SUCCESS"
    ∷ codes "end"
    ∷ codes "count_sem_info $d -> OS_SUCCESS 0"
    ∷ codes "end"
    ∷ []

-- the lines of the header and of the first body
abbrev pub main_lines : ℕ → List (List ℕ)
main_lines n =
    codes "osal-app 1"
    ∷ codes "task main"
    ∷ codes "count_sem_create $d \"done\" 0"
    ∷ creation_lines (workers n) ++ waiting_lines n

-- the lines of a worker: a thousand messages through a queue of its own, and it tells that it is done
abbrev pub worker_lines : ℕ → List (List ℕ)
worker_lines k =
    (codes "task " ++ worker_name k)
    ∷ (codes "queue_create $q \"" ++ (queue_name k ++ codes "\" 10 8 -> OS_SUCCESS"))
    ∷ codes "repeat 1000"
    ∷ (codes "queue_put $q \"" ++ (worker_name k ++ codes "\""))
    ∷ codes "queue_get $q 8 check"
    ∷ codes "end"
    ∷ codes "queue_get $q 8 check -> OS_QUEUE_EMPTY"
    ∷ codes "count_sem_find $d \"done\""
    ∷ codes "count_sem_give $d -> OS_SUCCESS"
    ∷ codes "end"
    ∷ []

-- all lines
abbrev pub make_lines : ℕ → List (List ℕ)
make_lines n = main_lines n ++ flat_map worker_lines (workers n)

-- a line with its end
abbrev pub ended_line : List ℕ → List ℕ
ended_line line = line ++ 10 ∷ []

-- the text
unfoldable pub make_text : ℕ → List ℕ
make_text n = flat_map ended_line (make_lines n)
