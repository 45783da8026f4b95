-- A task has at most one wait, so the wait in its turn is the one that is found, and the only one that goes.
use Rattle.std.proofs.Common.{◌≡◌, ◌<◌, ◌+◌, ◌==◌, ◌++◌, ℕ, zero, suc, Bool, true, false, not, List, [], ◌∷◌, length, Option, Some, None, MatchOption, find, filter, get_or, is_some, refl, sym, ap, ◌∙◌, arith, length-append}
use Rattle.std.specs.List.{slice_get, list_any, remove}
use Rattle.std.proofs.lemmas.Bool.{both_ways, or_right, or_parts, or_from, false_from_ne_true, eq-eqb, eqb-true}
use Rattle.std.proofs.lemmas.Option.{slice_get_within}
use Rattle.std.proofs.Math.ListN.{set}
use Rattle.std.proofs.lemmas.List.{map-append, length-map}
use Rattle.std.proofs.lemmas.List.Edits.{length-remove}
use Rattle.osal_object.specs.declared.waits.WaitRecord.{WaitRecord}
use Rattle.osal_idtable.specs.Sound.{AtMostOne}
use Rattle.osal_object.specs.Waits.{is_of}
use Rattle.osal_object.specs.Order.{AreOrdered, tasks_of}
use Rattle.osal_object.specs.Turns.{IsTurn}
use Rattle.osal_object.proofs.Records.{all_others, once_more, none_found}

module _ {E : Type 0} (p : E → Bool) where
  none_less : (xs : List E) (turn : ℕ) → list_any p xs ≡ false → list_any p (remove xs turn) ≡ false
  none_less [] zero none = refl
  none_less [] (suc turn) none = refl
  none_less (x ∷ xs) zero none = (or_parts (p x) (list_any p xs) none).1
  none_less (x ∷ xs) (suc turn) none =
      let parts = or_parts (p x) (list_any p xs) none in
      or_from (p x) (list_any p (remove xs turn)) parts.0 (none_less xs turn parts.1)

  -- at most one element passes, also without one
  once_less : (xs : List E) (turn : ℕ) → AtMostOne p xs → AtMostOne p (remove xs turn)
  once_less [] zero once = tt
  once_less [] (suc turn) once = tt
  once_less (x ∷ xs) zero once = once.1
  once_less (x ∷ xs) (suc turn) once = ((λ t. none_less xs turn (once.0 t)), once_less xs turn once.1)

module _ {W : Type 0} (task : ℕ) where
  any_of : (waits : List (WaitRecord W)) → list_any (λ other. other == task) (tasks_of waits) ≡ list_any (is_of task) waits
  any_of [] = refl
  any_of (one ∷ waits) = rw (any_of waits) refl

  once_of : (waits : List (WaitRecord W)) → AtMostOne (λ other. other == task) (tasks_of waits) → AtMostOne (is_of task) waits
  once_of [] once = tt
  once_of (one ∷ waits) once = ((λ t. sym (any_of waits) ∙ once.0 t), once_of waits once.1)

  -- a task with a turn has a wait
  waits_there : (waits : List (WaitRecord W)) (turn : ℕ) → slice_get (tasks_of waits) turn ≡ Some task → list_any (is_of task) waits ≡ true
  waits_there [] turn own = cc
  waits_there (one ∷ waits) zero own =
      let same : one.task ≡ task = cc in rw (eq-eqb one.task task same) refl
  waits_there (one ∷ waits) (suc turn) own = or_right _ _ (waits_there waits turn own)

  earlier : (one : WaitRecord W) (waits : List (WaitRecord W)) (turn : ℕ) → AtMostOne (is_of task) (one ∷ waits) → slice_get (tasks_of waits) turn ≡ Some task → is_of task one ≡ false
  earlier one waits turn once own =
      false_from_ne_true (is_of task one) (λ t. both_ways (list_any (is_of task) waits) (once.0 t) (waits_there waits turn own))

  turn_found : (waits : List (WaitRecord W)) (turn : ℕ) → AtMostOne (is_of task) waits → slice_get (tasks_of waits) turn ≡ Some task → slice_get waits turn ≡ find (is_of task) waits
  turn_found [] turn once own = cc
  turn_found (one ∷ waits) zero once own =
      let same : one.task ≡ task = cc in rw (eq-eqb one.task task same) refl
  turn_found (one ∷ waits) (suc turn) once own =
      rw (earlier one waits turn once own) (turn_found waits turn once.1 own)

  turn_gone : (waits : List (WaitRecord W)) (turn : ℕ) → AtMostOne (is_of task) waits → slice_get (tasks_of waits) turn ≡ Some task → remove waits turn ≡ filter (λ wait. not (is_of task wait)) waits
  turn_gone [] turn once own = cc
  turn_gone (one ∷ waits) zero once own =
      let same : one.task ≡ task = cc in
      let is : is_of task one ≡ true = eq-eqb one.task task same in
      rw (is, all_others (is_of task) waits (once.0 is)) refl
  turn_gone (one ∷ waits) (suc turn) once own =
      rw (earlier one waits turn once own) (ap (λ rest. one ∷ rest) (turn_gone waits turn once.1 own))

  none_waits : (waits : List (WaitRecord W)) → list_any (is_of task) waits ≡ false → find (is_of task) waits ≡ None
  none_waits [] none = refl
  none_waits (one ∷ waits) none =
      let parts = or_parts (is_of task one) (list_any (is_of task) waits) none in
      rw parts.0 (none_waits waits parts.1)

-- another wait of the same task
pub tasks_written : {W : Type 0} (waits : List (WaitRecord W)) (turn : ℕ) (wait default : WaitRecord W) → wait.task ≡ (get_or waits turn default).task → tasks_of (set waits turn wait) ≡ tasks_of waits
tasks_written [] zero wait default same = refl
tasks_written [] (suc turn) wait default same = refl
tasks_written (one ∷ waits) zero wait default same = ap (λ task. task ∷ tasks_of waits) same
tasks_written (one ∷ waits) (suc turn) wait default same = ap (λ rest. one.task ∷ rest) (tasks_written waits turn wait default same)

tasks_without : {W : Type 0} (waits : List (WaitRecord W)) (turn : ℕ) → tasks_of (remove waits turn) ≡ remove (tasks_of waits) turn
tasks_without [] zero = refl
tasks_without [] (suc turn) = refl
tasks_without (one ∷ waits) zero = refl
tasks_without (one ∷ waits) (suc turn) = ap (λ rest. one.task ∷ rest) (tasks_without waits turn)

module _ {W : Type 0} {tasks : List ℕ} {waits : List (WaitRecord W)} {free capacity : ℕ} (ordered : AreOrdered tasks waits free capacity) where
  -- there are as many waits as tasks
  pub as_many : length waits ≡ length tasks
  as_many = sym (ap length ordered.turns ∙ length-map waits (λ wait. wait.task))

  only : (task : ℕ) → AtMostOne (is_of task) waits
  only task = once_of task waits (rw (← ordered.turns) (ordered.once task))

  -- where a task stands among the tasks, its wait is the one that is found
  pub turn_told : (task : ℕ) (o : Option ℕ) → MatchOption o (list_any (λ other. other == task) tasks ≡ false) (λ turn. slice_get tasks turn ≡ Some task) → MatchOption o (find (is_of task) waits ≡ None) (IsTurn (record { records = waits; capacity = capacity }) task)
  turn_told task None none =
      none_waits task waits (sym (any_of task waits) ∙ sym (ap (list_any (λ other. other == task)) ordered.turns) ∙ none)
  turn_told task (Some turn) at =
      let own = sym (ap (λ list. slice_get list turn) ordered.turns) ∙ at in
      record {
        within = rw as_many (slice_get_within tasks turn task at);
        own = own;
        found = turn_found task waits turn (only task) own;
      }

  -- without a wait
  pub ordered_less : (turn : ℕ) → turn < length waits → AreOrdered (remove tasks turn) (remove waits turn) (free + 1) capacity
  ordered_less turn within = record {
    turns = ap (λ list. remove list turn) ordered.turns ∙ sym (tasks_without waits turn);
    once = λ task. once_less (λ other. other == task) tasks turn (ordered.once task);
    places = let places = ordered.places in omega (arith, as_many, length-remove tasks turn (omega (arith, as_many)));
  }

  -- the waits without the one of a task
  pub gone : (task turn : ℕ) → slice_get (tasks_of waits) turn ≡ Some task → remove waits turn ≡ filter (λ wait. not (is_of task wait)) waits
  gone task turn own = turn_gone task waits turn (only task) own

  -- with one more wait, of a task that had none
  pub ordered_more : (wait : WaitRecord W) (left : ℕ) → find (is_of wait.task) waits ≡ None → free ≡ left + 1 → AreOrdered (tasks ++ wait.task ∷ []) (waits ++ wait ∷ []) left capacity
  ordered_more wait left fresh less =
      let none : list_any (λ other. other == wait.task) tasks ≡ false = ap (list_any (λ other. other == wait.task)) ordered.turns ∙ any_of wait.task waits ∙ none_found (is_of wait.task) waits (ap is_some fresh) in
      record {
        turns = ap (λ list. list ++ wait.task ∷ []) ordered.turns ∙ sym (map-append (λ (one : WaitRecord W). one.task) waits (wait ∷ []));
        once = λ task. once_more (λ other. other == task) tasks wait.task (ordered.once task) (λ t. ap (λ k. list_any (λ other. other == k) tasks) (sym (eqb-true wait.task task t)) ∙ none);
        places = let places = ordered.places in omega (arith, length-append tasks (wait.task ∷ []));
      }

  -- with other waits of the same tasks
  pub ordered_same : (others : List (WaitRecord W)) → tasks_of others ≡ tasks_of waits → AreOrdered tasks others free capacity
  ordered_same others same = record {
    turns = ordered.turns ∙ sym same;
    once = ordered.once;
    places = ordered.places;
  }
