-- Where repeats nest, each item tells how many are open behind it.
use Rattle.std.proofs.Common.{◌≡◌, ◌<◌, ◌+◌, ◌-◌, ◌&&◌, ◌++◌, ℕ, List, [], ◌∷◌, Bool, true, false, cond, ltb, Option, Some, None, refl, arith}
use Rattle.std.specs.Option.{option_and_then}
use Rattle.std.proofs.lemmas.Bool.Decides.{nat_tests}
use Rattle.osal_script.specs.declared.item.Item.{Item}
use Rattle.osal_script.specs.declared.item.Item.TheVariants as item
use Rattle.osal_script.specs.Nesting.{depth_behind, depth_after}

-- what goes on behind a test goes on only where the test passes
goes_on : (passes : Bool) (depth last : ℕ) (on : ℕ → Option ℕ) → option_and_then on (cond passes (Some depth) None) ≡ Some last → (passes ≡ true) × (on depth ≡ Some last)
goes_on true depth last on e = (refl, e)
goes_on false depth last on e = cc

-- a repeat has a turn, and is one of at most four
pub repeat_nested : (depth count last : ℕ) (items : List Item) → depth_after depth (item.Repeat count ∷ items) ≡ Some last → (0 < count) × (depth < 4) × (depth_after (depth + 1) items ≡ Some last)
repeat_nested depth count last items e =
    let both = goes_on (ltb 0 count && ltb depth 4) (depth + 1) last (λ (behind : ℕ). depth_after behind items) e in
    let tests : (ltb 0 count && ltb depth 4) ≡ true = both.0 in
    (grind (arith, nat_tests), grind (arith, nat_tests), both.1)

-- an end has a repeat
pub end_nested : (depth last : ℕ) (items : List Item) → depth_after depth (item.End ∷ items) ≡ Some last → (0 < depth) × (depth_after (depth - 1) items ≡ Some last)
end_nested depth last items e =
    let both = goes_on (ltb 0 depth) (depth - 1) last (λ (behind : ℕ). depth_after behind items) e in
    let test : ltb 0 depth ≡ true = both.0 in
    (grind (arith, nat_tests), both.1)

last_behind : (depth : Option ℕ) → option_and_then (λ behind. depth_after behind []) depth ≡ depth
last_behind None = refl
last_behind (Some depth) = refl

after_both : (items : List Item) (next : Item) (depth : Option ℕ) → ((behind : ℕ) → depth_after behind (items ++ next ∷ []) ≡ option_and_then (λ now. depth_behind now next) (depth_after behind items)) → option_and_then (λ behind. depth_after behind (items ++ next ∷ [])) depth ≡ option_and_then (λ now. depth_behind now next) (option_and_then (λ behind. depth_after behind items) depth)
after_both items next None same = refl
after_both items next (Some depth) same = same depth

-- one more item opens or ends a repeat behind the others
pub depth_after-push : (depth : ℕ) (items : List Item) (next : Item) → depth_after depth (items ++ next ∷ []) ≡ option_and_then (λ now. depth_behind now next) (depth_after depth items)
depth_after-push depth [] next = last_behind (depth_behind depth next)
depth_after-push depth (first ∷ items) next =
    after_both items next (depth_behind depth first) (λ behind. depth_after-push behind items next)
