-- No block stands twice in the lists, also after blocks went from one list to another.
use Rattle.std.proofs.Common.{◌≡◌, ◌≢◌, ◌<◌, ◌≤◌, ◌+◌, ◌-◌, ℕ, inl, inr, length, get_or, take, drop, refl, sym, ◌∙◌, subst, arith, length-append, length-take, length-drop}
use Rattle.std.proofs.lemmas.Bool.{cases_lt, cases_eq}
use Rattle.std.proofs.lemmas.List.{get_or-drop, get_or-take, get_or_append_left, get_or-append_right}
use Rattle.osal_blocks.specs.Chains.{ChainsState, blocks_at, IsApart, Moved}

-- where a block of a list stood before the first block of one list went behind another's last
data Came (from to kept list k source j : ℕ) : Type 0 where
  stayed : list ≡ to → k < kept → source ≡ to → j ≡ k → Came from to kept list k source j
  came : list ≡ to → k ≡ kept → source ≡ from → j ≡ 0 → Came from to kept list k source j
  moved_up : list ≡ from → source ≡ from → j ≡ k + 1 → Came from to kept list k source j
  other : list ≢ from → list ≢ to → source ≡ list → j ≡ k → Came from to kept list k source j

-- two blocks that stood at one place stand at one place
from_one_place : (from to kept list k source j list2 k2 source2 j2 : ℕ) → from ≢ to
    → Came from to kept list k source j → Came from to kept list2 k2 source2 j2 → source ≡ source2 → j ≡ j2
    → (list ≡ list2) × (k ≡ k2)
from_one_place from to kept list k source j list2 k2 source2 j2 two (stayed a b c d) (stayed e f g h) s t = (omega arith, omega arith)
from_one_place from to kept list k source j list2 k2 source2 j2 two (stayed a b c d) (came e f g h) s t = absurd (omega arith)
from_one_place from to kept list k source j list2 k2 source2 j2 two (stayed a b c d) (moved_up e f g) s t = absurd (omega arith)
from_one_place from to kept list k source j list2 k2 source2 j2 two (stayed a b c d) (other e f g h) s t = absurd (f (omega arith))
from_one_place from to kept list k source j list2 k2 source2 j2 two (came a b c d) (stayed e f g h) s t = absurd (omega arith)
from_one_place from to kept list k source j list2 k2 source2 j2 two (came a b c d) (came e f g h) s t = (omega arith, omega arith)
from_one_place from to kept list k source j list2 k2 source2 j2 two (came a b c d) (moved_up e f g) s t = absurd (omega arith)
from_one_place from to kept list k source j list2 k2 source2 j2 two (came a b c d) (other e f g h) s t = absurd (e (omega arith))
from_one_place from to kept list k source j list2 k2 source2 j2 two (moved_up a b c) (stayed e f g h) s t = absurd (omega arith)
from_one_place from to kept list k source j list2 k2 source2 j2 two (moved_up a b c) (came e f g h) s t = absurd (omega arith)
from_one_place from to kept list k source j list2 k2 source2 j2 two (moved_up a b c) (moved_up e f g) s t = (omega arith, omega arith)
from_one_place from to kept list k source j list2 k2 source2 j2 two (moved_up a b c) (other e f g h) s t = absurd (e (omega arith))
from_one_place from to kept list k source j list2 k2 source2 j2 two (other a b c d) (stayed e f g h) s t = absurd (b (omega arith))
from_one_place from to kept list k source j list2 k2 source2 j2 two (other a b c d) (came e f g h) s t = absurd (a (omega arith))
from_one_place from to kept list k source j list2 k2 source2 j2 two (other a b c d) (moved_up e f g) s t = absurd (a (omega arith))
from_one_place from to kept list k source j list2 k2 source2 j2 two (other a b c d) (other e f g h) s t = (omega arith, omega arith)

-- where a block stood, and that it is the same block
record Origin (old : ChainsState) (from to list k block : ℕ) : Type 0 where
  source : ℕ
  place : ℕ
  within : place < length (blocks_at old source)
  same : get_or (blocks_at old source) place 0 ≡ block
  how : Came from to (length (blocks_at old to)) list k source place

module _ (old new : ChainsState) (from to : ℕ) (two : from ≢ to) (some : 0 < length (blocks_at old from)) (moved : Moved old new from to 1) where
  -- a block behind the others of the target
  origin_to : (k : ℕ) → k < length (blocks_at new to) → Origin old from to to k (get_or (blocks_at new to) k 0)
  origin_to k within =
      let mine = blocks_at old to in
      let came_along = take 1 (blocks_at old from) in
      let one : length came_along ≡ 1 = omega (arith, length-take 1 (blocks_at old from)) in
      let size : length (blocks_at new to) ≡ length mine + 1 = rw moved.taken (omega (arith, length-append mine came_along)) in
      elim (cases_lt k (length mine)) [
        | inl h ↦ record {
          source = to;
          place = k;
          within = h;
          same = rw moved.taken (sym (get_or_append_left mine came_along 0 k h));
          how = stayed refl h refl refl;
        }
        | inr h ↦
            let e : k ≡ length mine = omega arith in
            let zero_th : k - length mine ≡ 0 = omega arith in
            record {
              source = from;
              place = 0;
              within = some;
              same = rw (moved.taken, get_or-append_right mine came_along (length mine) k 0 refl h, zero_th, get_or-take 1 (blocks_at old from) 0 0 (omega arith)) refl;
              how = came refl e refl refl;
            }
      ]

  -- a block of the source, whose first block is gone
  origin_from : (k : ℕ) → k < length (blocks_at new from) → Origin old from to from k (get_or (blocks_at new from) k 0)
  origin_from k within =
      let rest : k < length (drop 1 (blocks_at old from)) = rw (moved.given) at within in
      let next : 1 + k ≡ k + 1 = omega arith in
      record {
        source = from;
        place = k + 1;
        within = omega (arith, length-drop 1 (blocks_at old from));
        same = rw (moved.given, get_or-drop 1 (blocks_at old from) k 0, next) refl;
        how = moved_up refl refl refl;
      }

  -- each block of the lists stood somewhere
  origin : (list k : ℕ) → k < length (blocks_at new list) → Origin old from to list k (get_or (blocks_at new list) k 0)
  origin list k within =
      let At : ℕ → Type 0 = λ l. k < length (blocks_at new l) → Origin old from to l k (get_or (blocks_at new l) k 0) in
      elim (cases_eq list to) [
        | inl e ↦ subst At (sym e) (origin_to k) within
        | inr not_to ↦ elim (cases_eq list from) [
          | inl e ↦ subst At (sym e) (origin_from k) within
          | inr not_from ↦ record {
            source = list;
            place = k;
            within = rw (moved.others list not_from not_to) at within;
            same = rw (moved.others list not_from not_to) refl;
            how = other not_from not_to refl refl;
          }
        ]
      ]

  -- the lists still name no block twice
  pub apart-shifted : length (blocks_at old to) < 4096 → IsApart old → IsApart new
  apart-shifted room apart = record {
    few = rw moved.total apart.few;
    short = λ list.
        let Short : ℕ → Type 0 = λ l. length (blocks_at new l) ≤ 4096 in
        elim (cases_eq list to) [
          | inl e ↦ subst Short (sym e) (rw moved.taken (omega (arith, length-append (blocks_at old to) (take 1 (blocks_at old from)), length-take 1 (blocks_at old from))))
          | inr not_to ↦ elim (cases_eq list from) [
            | inl e ↦ subst Short (sym e) (rw moved.given (omega (arith, length-drop 1 (blocks_at old from), apart.short from)))
            | inr not_from ↦ rw (moved.others list not_from not_to) (apart.short list)
          ]
        ];
    below = λ list k within.
        let o = origin list k within in
        rw (moved.total, ← o.same) (apart.below o.source o.place o.within);
    once = λ list k list2 j here there same.
        let o = origin list k here in
        let p = origin list2 j there in
        let one = apart.once o.source o.place p.source p.place o.within p.within (o.same ∙ (same ∙ sym p.same)) in
        from_one_place from to (length (blocks_at old to)) list k o.source o.place list2 j p.source p.place two o.how p.how one.0 one.1;
  }
