-- Which tasks have open waits, and their deadlines, after a change of the waits.
use Rattle.std.proofs.Common.{◌≡◌, ◌≤◌, ◌+◌, ◌||◌, ◌++◌, ℕ, Bool, true, false, not, List, [], ◌∷◌, length, map, filter, find, Option, is_some, refl, sym, ap, subst, ◌∙◌, arith}
use Rattle.std.specs.List.{list_any}
use Rattle.std.proofs.lemmas.Bool.{cond_both, false≢true, or_right, or_from, false_from_ne_true, eqb-true, eq-eqb, ne_eqb}
use Rattle.std.proofs.lemmas.List.Folds.{list_any-append}
use Rattle.osal_base.specs.declared.time.Moment.{Moment}
use Rattle.osal_base.specs.declared.time.Timeout.{Timeout}
use Rattle.osal_base.specs.Time.{deadline_of}
use Rattle.osal_object.specs.declared.waits.WaitRecord.{WaitRecord}
use Rattle.osal_object.specs.Waits.{WaitsState, is_of, wait_of, with_wait, without_wait, released_if, released_where}
use Rattle.osal_object.specs.Deadlines.{deadline_above, deadlines_in}
use Rattle.osal_object.proofs.DueCounts.{count_released, count_without, count_with, most_deadlines, few_deadlines}

-- what is seen of the open waits of a part: whether a task has one, and the deadlines behind a moment
pub record WaitsSeen : Type 0 where
  pub waits : ℕ → Bool
  pub due : Moment → List ℕ

-- the same of some waits
abbrev pub seen_of : {W : Type 0} → WaitsState W → WaitsSeen
seen_of state = record {
  waits = λ task. is_some (wait_of state task);
  due = λ now. deadlines_in now state.records;
}

-- the same tasks have open waits, and no more deadlines lie behind a moment
pub record SameWaits (old new : WaitsSeen) : Type 0 where
  pub all : (task : ℕ) → new.waits task ≡ old.waits task
  pub fewer : (now : Moment) → length (new.due now) ≤ length (old.due now)

-- a task has an open wait of a call that may wait so long; the others wait as before
pub record IsOpened (old new : WaitsSeen) (task : ℕ) (wait : Timeout) : Type 0 where
  pub own : new.waits task ≡ true
  pub others : (other : ℕ) → (other ≡ task → ⊥) → new.waits other ≡ old.waits other
  pub more : (now : Moment) → length (new.due now) ≤ length (old.due now) + most_deadlines wait

-- a task has no open wait any more; the others wait as before, and no more deadlines lie behind a moment
pub record IsClosed (old new : WaitsSeen) (task : ℕ) : Type 0 where
  pub own : new.waits task ≡ false
  pub others : (other : ℕ) → (other ≡ task → ⊥) → new.waits other ≡ old.waits other
  pub fewer : (now : Moment) → length (new.due now) ≤ length (old.due now)

-- no change
pub same_waits : (seen : WaitsSeen) → SameWaits seen seen
same_waits seen = record { all = λ task. refl; fewer = λ now. omega arith }

-- an element is found exactly where one passes
pub found_any : {X : Type 0} (test : X → Bool) (xs : List X) → is_some (find test xs) ≡ list_any test xs
found_any test [] = refl
found_any test (x ∷ xs) =
    cond_both (test x) _ _ (λ (o : Option _). is_some o ≡ list_any test (x ∷ xs)) (λ t. rw t refl) (λ f. rw f (found_any test xs))

module _ {X : Type 0} (test : X → Bool) where
  -- elements that pass as before
  any_map : (f : X → X) → ((x : X) → test (f x) ≡ test x) → (xs : List X) → list_any test (map f xs) ≡ list_any test xs
  any_map f same [] = refl
  any_map f same (x ∷ xs) = rw (same x, any_map f same xs) refl

  -- no element is left that does not pass the other test
  none_left : (keep : X → Bool) → ((x : X) → test x ≡ true → keep x ≡ false) → (xs : List X) → list_any test (filter keep xs) ≡ false
  none_left keep drops [] = refl
  none_left keep drops (x ∷ xs) =
      cond_both (keep x) _ _ (λ (list : List X). list_any test list ≡ false)
      (λ t. or_from _ _ (false_from_ne_true (test x) (λ u. false≢true (sym (drops x u) ∙ t))) (none_left keep drops xs))
      (λ f. none_left keep drops xs)

  -- each element is left that passes both tests
  all_left : (keep : X → Bool) → ((x : X) → test x ≡ true → keep x ≡ true) → (xs : List X) → list_any test (filter keep xs) ≡ list_any test xs
  all_left keep keeps [] = refl
  all_left keep keeps (x ∷ xs) =
      cond_both (keep x) _ _ (λ (list : List X). list_any test list ≡ list_any test (x ∷ xs))
      (λ t. ap (λ b. test x || b) (all_left keep keeps xs))
      (λ f. rw (false_from_ne_true (test x) (λ u. false≢true (sym f ∙ keeps x u))) (all_left keep keeps xs))

or_none : (a b : Bool) → (a || (b || false)) ≡ (a || b)
or_none true b = refl
or_none false true = refl
or_none false false = refl

or_off : (b : Bool) → (b || false) ≡ b
or_off true = refl
or_off false = refl

not_of : {W : Type 0} (task other : ℕ) (wait : WaitRecord W) → is_of other wait ≡ true → (other ≡ task → ⊥) → not (is_of task wait) ≡ true
not_of task other wait own ne =
    let same = eqb-true wait.task other own in
    ap not (ne_eqb wait.task task (λ e. ne (sym same ∙ e)))

module _ {W : Type 0} (waits : WaitsState W) where
  released_own : (test : WaitRecord W → Bool) (task : ℕ) (wait : WaitRecord W) → is_of task (released_if test wait) ≡ is_of task wait
  released_own test task wait = cond_both (test wait) _ _ (λ (w : WaitRecord W). is_of task w ≡ is_of task wait) (λ t. refl) (λ f. refl)

  -- a wait that is released is open as before
  pub released_same : (test : WaitRecord W → Bool) → SameWaits (seen_of waits) (seen_of (released_where waits test))
  released_same test = record {
    all = λ task. found_any (is_of task) (map (released_if test) waits.records) ∙ any_map (is_of task) (released_if test) (released_own test task) waits.records ∙ sym (found_any (is_of task) waits.records);
    fewer = λ now. count_released now waits test;
  }

  -- one more wait is open
  open_with : (wait : WaitRecord W) (task : ℕ) → is_some (wait_of (with_wait waits wait) task) ≡ (is_some (wait_of waits task) || is_of task wait)
  open_with wait task =
      found_any (is_of task) (waits.records ++ wait ∷ [])
      ∙ list_any-append (is_of task) waits.records (wait ∷ [])
      ∙ or_none (list_any (is_of task) waits.records) (is_of task wait)
      ∙ ap (λ b. b || is_of task wait) (sym (found_any (is_of task) waits.records))

  -- one more wait, of a call that may wait so long
  pub with_opened : (wait : WaitRecord W) (timeout : Timeout) (now : Moment) → wait.deadline ≡ deadline_of timeout now → IsOpened (seen_of waits) (seen_of (with_wait waits wait)) wait.task timeout
  with_opened wait timeout now is = record {
    own = open_with wait wait.task ∙ or_right _ _ (eq-eqb wait.task wait.task refl);
    others = λ other ne. open_with wait other ∙ ap (λ b. is_some (wait_of waits other) || b) (ne_eqb wait.task other (λ e. ne (sym e))) ∙ or_off (is_some (wait_of waits other));
    more = λ later. omega (arith, count_with later waits wait, subst (λ o. length (deadline_above later o) ≤ most_deadlines timeout) (sym is) (few_deadlines timeout now later));
  }

  -- one wait fewer
  pub without_closed : (task : ℕ) → IsClosed (seen_of waits) (seen_of (without_wait waits task)) task
  without_closed task = record {
    own =
        found_any (is_of task) (filter (λ wait. not (is_of task wait)) waits.records)
        ∙ none_left (is_of task) (λ wait. not (is_of task wait)) (λ wait own. ap not own) waits.records;
    others = λ other ne.
        found_any (is_of other) (filter (λ wait. not (is_of task wait)) waits.records)
        ∙ all_left (is_of other) (λ wait. not (is_of task wait)) (λ wait own. not_of task other wait own ne) waits.records
        ∙ sym (found_any (is_of other) waits.records);
    fewer = λ now. count_without now waits task;
  }
