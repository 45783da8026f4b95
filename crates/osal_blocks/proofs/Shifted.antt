-- What the first block of a list, put behind the last of another, leaves of the tables and of the lists.
use Rattle.std.proofs.Common.{◌≡◌, ◌≢◌, ◌<◌, ◌+◌, ◌-◌, ◌==◌, if◌then◌else◌, Bool, cond, ℕ, zero, suc, List, [], ◌∷◌, ◌++◌, inl, inr, length, get_or, set, drop, refl, ap, sym, ◌∙◌, subst, arith, add-one, length-set, get_or-set_same, get_or-set_other}
use Rattle.std.proofs.lemmas.Bool.{cases_eq, eq-eqb, ne_eqb}
use Rattle.std.proofs.lemmas.List.{get_or-drop, get_or_at}
use Rattle.osal_blocks.specs.declared.ends.Ends.{Ends}
use Rattle.osal_blocks.specs.Chains.{walk, walk_of, ends_at, no_ends, chains_in, IsThreaded, Moved, without_first, with_last, linked}
use Rattle.osal_blocks.proofs.Walks.{length-walk, walk-set, walk_more, take-walk, drop-walk, walk_first, blocks_at-chains_in, length-blocks_at}
use Rattle.osal_blocks.proofs.Apart.{apart-shifted}

none_of : {A : Type 0} (n : ℕ) (x y : A) → n ≡ 0 → (if n == 0 then x else y) ≡ x
none_of n x y none = ap (λ (b : Bool). cond b x y) (eq-eqb n 0 none)

some_of : {A : Type 0} (n : ℕ) (x y : A) → 0 < n → (if n == 0 then x else y) ≡ y
some_of n x y some = ap (λ (b : Bool). cond b x y) (ne_eqb n 0 (λ e. omega arith))

-- the table after a block went behind the last of a list keeps its length
length-linked : (next : List ℕ) (target : Ends) (block : ℕ) → length (linked next target block) ≡ length next
length-linked next target block =
    elim (cases_eq target.count 0) [
      | inl e ↦ ap (λ (t : List ℕ). length t) (none_of target.count next (set next target.last block) e)
      | inr ne ↦ ap (λ (t : List ℕ). length t) (some_of target.count next (set next target.last block) (omega arith)) ∙ length-set next target.last block
    ]

-- a walk that meets the last block of the target at its end at most is as it was
walk-linked : (next : List ℕ) (target : Ends) (block first n : ℕ)
    → (0 < target.count → (k : ℕ) → k + 1 < n → get_or (walk next first n) k 0 ≢ target.last)
    → walk (linked next target block) first n ≡ walk next first n
walk-linked next target block first n other =
    elim (cases_eq target.count 0) [
      | inl e ↦ ap (λ (t : List ℕ). walk t first n) (none_of target.count next (set next target.last block) e)
      | inr ne ↦
          let some : 0 < target.count = omega arith in
          ap (λ (t : List ℕ). walk t first n) (some_of target.count next (set next target.last block) some)
          ∙ walk-set next target.last block first n (other some)
    ]

-- the walk of a list with one more block behind the others
walk-with_last : (next : List ℕ) (first last count block : ℕ)
    → (0 < count → last ≡ get_or (walk next first count) (count - 1) 0)
    → (0 < count → last < length next)
    → (0 < count → (k : ℕ) → k + 1 < count → get_or (walk next first count) k 0 ≢ last)
    → walk (linked next (record { first = first; last = last; count = count }) block) (if count == 0 then block else first) (count + 1)
    ≡ walk next first count ++ block ∷ []
walk-with_last next first last zero block is within other = refl
walk-with_last next first last (suc n) block is within other =
    let less : suc n - 1 ≡ n = omega arith in
    let some : 0 < suc n = omega arith in
    let end : last ≡ get_or (walk next first (suc n)) n 0 = rw less at (is some) in
    let there : last < length next = within some in
    let kept : walk (set next last block) first (suc n) ≡ walk next first (suc n) = walk-set next last block first (suc n) (other some) in
    let value : get_or (set next last block) (get_or (walk next first (suc n)) n 0) 0 ≡ block =
    ap (λ (p : ℕ). get_or (set next last block) p 0) (sym end) ∙ get_or-set_same next last block 0 there in
    let behind : walk (set next last block) first (suc (suc n)) ≡ walk next first (suc n) ++ block ∷ [] =
    walk_more (set next last block) first n
    ∙ (ap (λ (l : List ℕ). l ++ get_or (set next last block) (get_or l n 0) 0 ∷ []) kept
    ∙ ap (λ (b : ℕ). walk next first (suc n) ++ b ∷ []) value) in
    ap (λ (b : Bool). walk (cond b next (set next last block)) (cond b block first) (suc n + 1)) (ne_eqb (suc n) 0 (λ e. omega arith))
    ∙ (ap (λ (m : ℕ). walk (set next last block) first m) (add-one (suc n)) ∙ behind)

module _ (next : List ℕ) (ends : List Ends) (from to : ℕ) (from_is : from < 257) (to_is : to < 257) (two : from ≢ to)
    (some : 0 < (ends_at ends from).count) (room : (ends_at ends to).count < 4096) (threaded : IsThreaded next ends) where
  once : (list k other j : ℕ) → k < (ends_at ends list).count → j < (ends_at ends other).count
      → get_or (walk_of next (ends_at ends list)) k 0 ≡ get_or (walk_of next (ends_at ends other)) j 0 → (list ≡ other) × (k ≡ j)
  once list k other j here there same =
      threaded.apart.once list k other j
      (rw (length-blocks_at next ends list) here)
      (rw (length-blocks_at next ends other) there)
      (rw (blocks_at-chains_in next ends list, blocks_at-chains_in next ends other) same)

  below : (list k : ℕ) → k < (ends_at ends list).count → get_or (walk_of next (ends_at ends list)) k 0 < length next
  below list k within =
      rw (blocks_at-chains_in next ends list) at (threaded.apart.below list k (rw (length-blocks_at next ends list) within))

  -- no walk but the target's meets the target's last block
  away : (list : ℕ) → list ≢ to → 0 < (ends_at ends to).count → (k : ℕ) → k < (ends_at ends list).count
      → get_or (walk_of next (ends_at ends list)) k 0 ≢ (ends_at ends to).last
  away list not_to there k within same =
      not_to (once list k to ((ends_at ends to).count - 1) within (omega arith) (same ∙ threaded.last to there)).0

  -- the target's walk meets its last block at its end
  at_end : 0 < (ends_at ends to).count → (k : ℕ) → k + 1 < (ends_at ends to).count
      → get_or (walk_of next (ends_at ends to)) k 0 ≢ (ends_at ends to).last
  at_end there k within same =
      let one = once to k to ((ends_at ends to).count - 1) (omega arith) (omega arith) (same ∙ threaded.last to there) in
      absurd (omega (arith, one.1))

  pub last_within : 0 < (ends_at ends to).count → (ends_at ends to).last < length next
  last_within there = rw (threaded.last to there) (below to ((ends_at ends to).count - 1) (omega arith))

  pub first_within : (ends_at ends from).first < length next
  first_within =
      let first : get_or (walk_of next (ends_at ends from)) 0 0 ≡ (ends_at ends from).first =
      walk_first next (ends_at ends from).first (ends_at ends from).count some in
      rw first at (below from 0 some)

  new_next : List ℕ
  new_next = linked next (ends_at ends to) (ends_at ends from).first

  new_ends : List Ends
  new_ends = set (set ends from (without_first next (ends_at ends from))) to (with_last (ends_at ends to) (ends_at ends from).first)

  ends_to : ends_at new_ends to ≡ with_last (ends_at ends to) (ends_at ends from).first
  unfolding new_ends
  ends_to = get_or-set_same (set ends from (without_first next (ends_at ends from))) to (with_last (ends_at ends to) (ends_at ends from).first) no_ends
      (rw length-set (rw threaded.lists to_is))

  ends_other : (list : ℕ) → list ≢ to → ends_at new_ends list ≡ ends_at (set ends from (without_first next (ends_at ends from))) list
  unfolding new_ends
  ends_other list not_to = get_or-set_other (set ends from (without_first next (ends_at ends from))) to list (with_last (ends_at ends to) (ends_at ends from).first) no_ends not_to

  ends_from : ends_at new_ends from ≡ without_first next (ends_at ends from)
  ends_from = ends_other from two ∙ get_or-set_same ends from (without_first next (ends_at ends from)) no_ends (rw threaded.lists from_is)

  walk_to : walk_of new_next (ends_at new_ends to) ≡ walk_of next (ends_at ends to) ++ (ends_at ends from).first ∷ []
  unfolding new_next
  walk_to =
      rw ends_to
      (walk-with_last next (ends_at ends to).first (ends_at ends to).last (ends_at ends to).count (ends_at ends from).first
      (threaded.last to) last_within at_end)

  walk_from : walk_of new_next (ends_at new_ends from) ≡ drop 1 (walk_of next (ends_at ends from))
  unfolding new_next
  walk_from =
      let tail = drop-walk next (ends_at ends from).first (ends_at ends from).count some in
      rw ends_from
      (walk-linked next (ends_at ends to) (ends_at ends from).first (get_or next (ends_at ends from).first 0) ((ends_at ends from).count - 1)
      (λ there k within. rw (← tail, get_or-drop 1 (walk_of next (ends_at ends from)) k 0) (away from two there (1 + k) (omega arith)))
      ∙ sym tail)

  walk_other : (list : ℕ) → list ≢ from → list ≢ to → walk_of new_next (ends_at new_ends list) ≡ walk_of next (ends_at ends list)
  unfolding new_next
  walk_other list not_from not_to =
      rw (ends_other list not_to, get_or-set_other ends from list (without_first next (ends_at ends from)) no_ends not_from)
      (walk-linked next (ends_at ends to) (ends_at ends from).first (ends_at ends list).first (ends_at ends list).count
      (λ there k within. away list not_to there k (omega arith)))

  moved_in : Moved (chains_in next ends) (chains_in new_next new_ends) from to 1
  unfolding new_next
  moved_in = record {
    total = length-linked next (ends_at ends to) (ends_at ends from).first;
    given = blocks_at-chains_in new_next new_ends from ∙ (walk_from ∙ ap (λ (l : List ℕ). drop 1 l) (sym (blocks_at-chains_in next ends from)));
    taken = rw (blocks_at-chains_in new_next new_ends to, blocks_at-chains_in next ends to, blocks_at-chains_in next ends from, walk_to, take-walk next (ends_at ends from).first (ends_at ends from).count some) refl;
    others = λ list not_from not_to. blocks_at-chains_in new_next new_ends list ∙ (walk_other list not_from not_to ∙ sym (blocks_at-chains_in next ends list));
  }

  last_to : 0 < (ends_at new_ends to).count
      → (ends_at new_ends to).last ≡ get_or (walk_of new_next (ends_at new_ends to)) ((ends_at new_ends to).count - 1) 0
  last_to there =
      let less : (ends_at ends to).count + 1 - 1 ≡ (ends_at ends to).count = omega arith in
      rw (walk_to, ends_to, less)
      (sym (get_or_at (walk_of next (ends_at ends to)) (ends_at ends from).first [] 0 (ends_at ends to).count
      (length-walk next (ends_at ends to).first (ends_at ends to).count)))

  last_from : 0 < (ends_at new_ends from).count
      → (ends_at new_ends from).last ≡ get_or (walk_of new_next (ends_at new_ends from)) ((ends_at new_ends from).count - 1) 0
  last_from there =
      let count : (ends_at new_ends from).count ≡ (ends_at ends from).count - 1 = ap (λ (e : Ends). e.count) ends_from in
      let last : (ends_at new_ends from).last ≡ (ends_at ends from).last = ap (λ (e : Ends). e.last) ends_from in
      let place : 1 + ((ends_at new_ends from).count - 1) ≡ (ends_at ends from).count - 1 = omega arith in
      rw (walk_from, get_or-drop 1 (walk_of next (ends_at ends from)) ((ends_at new_ends from).count - 1) 0, place, last)
      (threaded.last from some)

  last_other : (list : ℕ) → list ≢ from → list ≢ to → 0 < (ends_at new_ends list).count
      → (ends_at new_ends list).last ≡ get_or (walk_of new_next (ends_at new_ends list)) ((ends_at new_ends list).count - 1) 0
  last_other list not_from not_to there =
      let same : ends_at new_ends list ≡ ends_at ends list =
      ends_other list not_to ∙ get_or-set_other ends from list (without_first next (ends_at ends from)) no_ends not_from in
      rw (walk_other list not_from not_to, same) (threaded.last list (rw same at there))

  new_last : (list : ℕ) → 0 < (ends_at new_ends list).count
      → (ends_at new_ends list).last ≡ get_or (walk_of new_next (ends_at new_ends list)) ((ends_at new_ends list).count - 1) 0
  new_last list there =
      let At : ℕ → Type 0 = λ l. 0 < (ends_at new_ends l).count → (ends_at new_ends l).last ≡ get_or (walk_of new_next (ends_at new_ends l)) ((ends_at new_ends l).count - 1) 0 in
      elim (cases_eq list to) [
        | inl e ↦ subst At (sym e) last_to there
        | inr not_to ↦ elim (cases_eq list from) [
          | inl e ↦ subst At (sym e) last_from there
          | inr not_from ↦ last_other list not_from not_to there
        ]
      ]

  threaded_in : IsThreaded new_next new_ends
  unfolding new_ends
  threaded_in = record {
    lists = rw (length-set, length-set) threaded.lists;
    apart = apart-shifted (chains_in next ends) (chains_in new_next new_ends) from to two (rw (length-blocks_at next ends from) some) moved_in (rw (length-blocks_at next ends to) room) threaded.apart;
    last = new_last;
  }

  -- the lists after it
  pub moved-shifted : Moved (chains_in next ends)
      (chains_in (linked next (ends_at ends to) (ends_at ends from).first)
      (set (set ends from (without_first next (ends_at ends from))) to (with_last (ends_at ends to) (ends_at ends from).first))) from to 1
  unfolding new_next new_ends
  moved-shifted = moved_in

  -- the tables after it
  pub threaded-shifted : IsThreaded (linked next (ends_at ends to) (ends_at ends from).first)
      (set (set ends from (without_first next (ends_at ends from))) to (with_last (ends_at ends to) (ends_at ends from).first))
  unfolding new_next new_ends
  threaded-shifted = threaded_in
