-- Items nest in one way only: a flat list tells its nesting.
use Rattle.std.proofs.Common.{◌≡◌, ◌++◌, ◌∙◌, ℕ, List, [], ◌∷◌, refl, sym, ap, append-nil}
use Rattle.osal_line.specs.declared.line.Line.{Line}
use Rattle.osal_script.specs.declared.item.Item.{Item}
use Rattle.osal_script.specs.declared.item.Item.TheVariants as item
use Rattle.osal_nested.specs.Nested.{Nested, Done, Then, Repeated, items_of}
use Rattle.osal_nested.proofs.Flat.{repeat_before}

-- a line before the nesting of its level
abbrev onto_nesting : Line → List Nested → List Nested
onto_nesting line [] = []
onto_nesting line (level ∷ levels) = Then line level ∷ levels

-- a repeat of the first level, before the nesting of what follows its end
abbrev repeated_nesting : ℕ → List Nested → List Nested
repeated_nesting count [] = []
repeated_nesting count (level ∷ []) = []
repeated_nesting count (level ∷ around ∷ levels) = Repeated count level around ∷ levels

-- the nestings of some items, level by level
abbrev nestings_of : List Item → List Nested
nestings_of [] = Done ∷ []
nestings_of (item.Call line ∷ items) = onto_nesting line (nestings_of items)
nestings_of (item.Repeat count ∷ items) = repeated_nesting count (nestings_of items)
nestings_of (item.End ∷ items) = Done ∷ nestings_of items

-- a nesting, and another behind it in the same level
abbrev joined : Nested → Nested → Nested
joined Done next = next
joined (Then line after) next = Then line (joined after next)
joined (Repeated count inside after) next = Repeated count inside (joined after next)

joined_done : (nested : Nested) → joined nested Done ≡ nested
joined_done Done = refl
joined_done (Then line after) = ap (Then line) (joined_done after)
joined_done (Repeated count inside after) = ap (Repeated count inside) (joined_done after)

-- the nesting of a flat list comes before that of the level that follows it
nesting_before : (nested : Nested) (rest : List Item) (level : Nested) (levels : List Nested) → nestings_of rest ≡ level ∷ levels → nestings_of (items_of nested ++ rest) ≡ joined nested level ∷ levels
nesting_before Done rest level levels same = same
nesting_before (Then line after) rest level levels same =
    ap (onto_nesting line) (nesting_before after rest level levels same)
nesting_before (Repeated count inside after) rest level levels same =
    let behind = ap (λ (all : List Nested). Done ∷ all) (nesting_before after rest level levels same) in
    let all = nesting_before inside (item.End ∷ (items_of after ++ rest)) Done (joined after level ∷ levels) behind in
    ap nestings_of (repeat_before count inside after rest)
    ∙ ap (repeated_nesting count) all
    ∙ ap (λ (nested : Nested). Repeated count nested (joined after level) ∷ levels) (joined_done inside)

-- a flat list tells its nesting
told : (nested : Nested) → nestings_of (items_of nested) ≡ nested ∷ []
told nested =
    ap nestings_of (sym (append-nil (items_of nested)))
    ∙ nesting_before nested [] Done [] refl
    ∙ ap (λ (first : Nested). first ∷ []) (joined_done nested)

-- so one flat list has one nesting
pub nesting_unique : (one other : Nested) → items_of one ≡ items_of other → one ≡ other
nesting_unique one other same =
    let both : one ∷ [] ≡ other ∷ [] = sym (told one) ∙ ap nestings_of same ∙ told other in
    cc
