-- The text that spells the made application is read as it.
use Rattle.std.proofs.Common.{◌≡◌, ◌≤◌, ◌+◌, ℕ, zero, suc, List, [], ◌∷◌, ◌++◌, Ok, flat_map, codes, refl, ap, ◌∙◌, arith}
use Rattle.std.specs.Fmt.{decimal}
use Rattle.osal_line.specs.Words.{lines_of}
use Rattle.osal_reading.specs.Draft.{unread}
use Rattle.osal_reading.specs.Outcome.{IsSound}
use Rattle.osal_reading.specs.Reading.{read_lines, reading_of}
use Rattle.osal_reading.proofs.Sound.{reading_sound}
use Rattle.osal_make.specs.MakeText.{counted, workers, worker_name, creation_line, creation_lines, waiting_lines, main_lines, worker_lines, make_lines, make_text}
use Rattle.osal_make.specs.Made.{main_body, made_app}
use Rattle.osal_make.proofs.Forms.{creation_words, creation_form, repeat_form, task_form, queue_line, queue_words, queue_form, put_line, put_words, put_form}
use Rattle.osal_make.proofs.Text.{AreClean, clean_line, clean_append, lines_again}
use Rattle.osal_make.proofs.Later.{workers_declare}
use Rattle.osal_make.proofs.MainBody.{first_read}
use Rattle.osal_make.proofs.WorkerBodies.{workers_read}

creations_clean : (m k : ℕ) → 1 ≤ k → k + m ≤ 61 → AreClean (creation_lines (counted m k))
creations_clean zero k some few = tt
creations_clean (suc m) k some few =
    (clean_line (creation_line k) (creation_words k) (creation_form k some (omega arith)), creations_clean m (k + 1) (omega arith) (omega arith))

waits_clean : (n : ℕ) → 1 ≤ n → n ≤ 60 → AreClean (waiting_lines n)
waits_clean n some few =
    (clean_line (codes "repeat " ++ decimal n) (codes "repeat" ∷ decimal n ∷ []) (repeat_form n some few), (refl, (refl, (refl, (refl, tt)))))

main_clean : (n : ℕ) → 1 ≤ n → n ≤ 60 → AreClean (main_lines n)
main_clean n some few =
    (refl, (refl, (refl, clean_append (creation_lines (workers n)) (waiting_lines n) (creations_clean n 1 (omega arith) (omega arith)) (waits_clean n some few))))

worker_clean : (k : ℕ) → 1 ≤ k → k ≤ 60 → AreClean (worker_lines k)
worker_clean k some few =
    let task = clean_line (codes "task " ++ worker_name k) (codes "task" ∷ worker_name k ∷ []) (task_form k some few) in
    let queue = clean_line (queue_line k) (queue_words k) (queue_form k some few) in
    let put = clean_line (put_line k) (put_words k) (put_form k some few) in
    (task, (queue, (refl, (put, (refl, (refl, (refl, (refl, (refl, (refl, tt))))))))))

workers_clean : (m k : ℕ) → 1 ≤ k → k + m ≤ 61 → AreClean (flat_map worker_lines (counted m k))
workers_clean zero k some few = tt
workers_clean (suc m) k some few =
    clean_append (worker_lines k) (flat_map worker_lines (counted m (k + 1))) (worker_clean k some (omega arith)) (workers_clean m (k + 1) (omega arith) (omega arith))

lines_are : (n : ℕ) → 1 ≤ n → n ≤ 60 → lines_of (make_text n) ≡ make_lines n
unfolding make_text
lines_are n some few =
    lines_again (make_lines n) (clean_append (main_lines n) (flat_map worker_lines (workers n)) (main_clean n some few) (workers_clean n 1 (omega arith) (omega arith)))

-- the reading of the text
pub text_read : (n : ℕ) → 1 ≤ n → n ≤ 60 → reading_of (make_text n) ≡ Ok (made_app n)
text_read n some few =
    let rest : List (List ℕ) = flat_map worker_lines (workers n) in
    ap (λ (v : List (List ℕ)). read_lines v 1 (Ok unread)) (lines_are n some few)
    ∙ first_read n rest some few (workers_declare n 1 (omega arith) (omega arith))
    ∙ workers_read n 1 n (n + 9) (main_body n ∷ []) (omega arith) (omega arith) (omega arith) (omega arith) (omega arith) (λ j behind within. refl)

-- so each of its bodies names later ones alone, and it has no handler that creates tasks or ticks
pub made_sound : (n : ℕ) → 1 ≤ n → n ≤ 60 → IsSound (made_app n)
made_sound n some few = reading_sound (make_text n) (made_app n) (text_read n some few)
