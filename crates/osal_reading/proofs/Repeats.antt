-- The repeats that are open behind the items of a body that is being read.
use Rattle.std.proofs.Common.{◌≡◌, ◌<◌, ◌+◌, ◌-◌, ◌&&◌, ◌++◌, ◌∙◌, ℕ, List, [], ◌∷◌, true, ltb, Some, ap, arith}
use Rattle.std.specs.Option.{option_and_then}
use Rattle.std.proofs.lemmas.Bool.{cond-true}
use Rattle.std.proofs.lemmas.Bool.Decides.{nat_tests}
use Rattle.osal_script.specs.declared.item.Item.{Item}
use Rattle.osal_script.specs.declared.item.Item.TheVariants as item
use Rattle.osal_script.specs.Nesting.{depth_behind, depth_after}
use Rattle.osal_script.proofs.Nesting.{depth_after-push}

-- one more item stands behind the others
pub open_behind : (items : List Item) (next : Item) (repeats : ℕ) → depth_after 0 items ≡ Some repeats → depth_after 0 (items ++ next ∷ []) ≡ depth_behind repeats next
open_behind items next repeats nested =
    depth_after-push 0 items next ∙ ap (option_and_then (λ (now : ℕ). depth_behind now next)) nested

-- a repeat that begins is one more
pub begun_nested : (items : List Item) (count repeats : ℕ) → depth_after 0 items ≡ Some repeats → 0 < count → repeats < 4 → depth_after 0 (items ++ item.Repeat count ∷ []) ≡ Some (repeats + 1)
begun_nested items count repeats nested turn room =
    let tests : (ltb 0 count && ltb repeats 4) ≡ true = grind (arith, nat_tests) in
    open_behind items (item.Repeat count) repeats nested ∙ cond-true (ltb 0 count && ltb repeats 4) _ _ tests

-- the end of a repeat leaves one less
pub ended_nested : (items : List Item) (repeats : ℕ) → depth_after 0 items ≡ Some repeats → 0 < repeats → depth_after 0 (items ++ item.End ∷ []) ≡ Some (repeats - 1)
ended_nested items repeats nested some =
    let test : ltb 0 repeats ≡ true = grind (arith, nat_tests) in
    open_behind items item.End repeats nested ∙ cond-true (ltb 0 repeats) _ _ test
