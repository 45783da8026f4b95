-- Blocks that go from list to list one after another.
use Rattle.std.proofs.Common.{◌≡◌, ◌≢◌, ◌+◌, ℕ, List, ◌++◌, take, drop, ap, ◌∙◌, arith}
use Rattle.std.proofs.lemmas.List.{drop-drop, take-take, drop-take, take-append-drop, append_assoc}
use Rattle.osal_blocks.specs.Chains.{ChainsState, blocks_at, Moved}

-- the first elements of a list and those behind them
pub take-take-drop : (n m : ℕ) (l : List ℕ) → take n l ++ take m (drop n l) ≡ take (n + m) l
take-take-drop n m l =
    let front = take-take n (n + m) l (omega arith) in
    let rest = drop-take n m l in
    rw (← front, ← rest) (take-append-drop n (take (n + m) l))

-- one block more
pub moved_more : (first second third : ChainsState) (from to n : ℕ) → from ≢ to → Moved first second from to n
    → Moved second third from to 1 → Moved first third from to (n + 1)
moved_more first second third from to n two before after = record {
  total = after.total ∙ before.total;
  given = after.given ∙ (ap (λ (l : List ℕ). drop 1 l) before.given ∙ drop-drop 1 n (blocks_at first from));
  taken = after.taken
      ∙ (ap (λ (l : List ℕ). l ++ take 1 (blocks_at second from)) before.taken
      ∙ (ap (λ (l : List ℕ). (blocks_at first to ++ take n (blocks_at first from)) ++ take 1 l) before.given
      ∙ (append_assoc (blocks_at first to) (take n (blocks_at first from)) (take 1 (drop n (blocks_at first from)))
      ∙ ap (λ (l : List ℕ). blocks_at first to ++ l) (take-take-drop n 1 (blocks_at first from)))));
  others = λ list not_from not_to. after.others list not_from not_to ∙ before.others list not_from not_to;
}
