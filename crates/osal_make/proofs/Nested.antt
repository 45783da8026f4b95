-- The repeats of the first body nest.
use Rattle.std.proofs.Common.{◌≡◌, ◌≤◌, ℕ, List, [], ◌∷◌, ◌++◌, true, map, ltb, refl, ◌∙◌, arith}
use Rattle.std.proofs.lemmas.Bool.{lt-ltb}
use Rattle.osal_script.specs.declared.item.Item.{Item}
use Rattle.osal_script.specs.Nesting.{depth_after, IsNested}
use Rattle.osal_make.specs.MakeText.{workers}
use Rattle.osal_make.specs.Items.{creation_item, waiting_items, main_items}

-- creations open no repeat
creations_nest : (ks : List ℕ) (items : List Item) → depth_after 0 (map creation_item ks ++ items) ≡ depth_after 0 items
creations_nest [] items = refl
creations_nest (k ∷ ks) items = creations_nest ks items

waits_nest : (n : ℕ) → 1 ≤ n → IsNested (waiting_items n)
waits_nest n some =
    let turns : ltb 0 n ≡ true = lt-ltb 0 n (omega arith) in
    rw turns refl

-- the items of the first body
pub main_nests : (n : ℕ) → 1 ≤ n → IsNested (main_items n)
main_nests n some = creations_nest (workers n) (waiting_items n) ∙ waits_nest n some
