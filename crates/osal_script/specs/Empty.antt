-- The repeats of a body in which no call line stands.
use Rattle.std.specs.Prelude.{◌+◌, List, [], ◌∷◌, ℕ, zero, suc, Option, Some, None}
use Rattle.osal_script.specs.declared.item.Item.{Item}
use Rattle.osal_script.specs.declared.item.Item.TheVariants as item

-- the place behind the end of the repeat that is open before some items, where the first of them stands at a place
-- and so many repeats are open within it; none where a call line comes before its end, or no end comes
abbrev pub empty_end_from : ℕ → ℕ → List Item → Option ℕ
empty_end_from at depth [] = None
empty_end_from at depth (item.Call line ∷ items) = None
empty_end_from at depth (item.Repeat count ∷ items) = empty_end_from (at + 1) (depth + 1) items
empty_end_from at zero (item.End ∷ items) = Some (at + 1)
empty_end_from at (suc depth) (item.End ∷ items) = empty_end_from (at + 1) depth items
