-- Lists one behind the other: what is found in them is found in the first, or else in those behind it.
use Rattle.std.proofs.Common.{◌≡◌, ◌∙◌, ◌+◌, ◌<◌, ℕ, List, Bool, Some, None, Bor, ap, find, get_or, drop, length}
use Rattle.std.specs.List.{flat_map}
use Rattle.std.specs.Option.{option_or}
use Rattle.std.proofs.lemmas.List.{at_drop_more}
use Rattle.std.proofs.lemmas.List.Folds.{find-append}

-- what is found from one of the lists on
found_from : {A : Type 0} (wanted : A → Bool) (lists : List (Bor (List A))) (at : ℕ) (list : Bor (List A)) → at < length lists → find wanted (flat_map (λ list. list.now) (drop at lists)) ≡ option_or (find wanted (get_or lists at list).now) (find wanted (flat_map (λ list. list.now) (drop (at + 1) lists)))
found_from wanted lists at list inside =
    at_drop_more (λ left. find wanted (flat_map (λ list. list.now) left)) lists at list inside
    ∙ find-append wanted (get_or lists at list).now (flat_map (λ list. list.now) (drop (at + 1) lists))

-- what is found in the first of them is found
pub found_here : {A : Type 0} {one : A} (wanted : A → Bool) (lists : List (Bor (List A))) (at : ℕ) (list : Bor (List A)) → at < length lists → find wanted (get_or lists at list).now ≡ Some one → find wanted (flat_map (λ list. list.now) (drop at lists)) ≡ Some one
found_here wanted lists at list inside here =
    found_from wanted lists at list inside
    ∙ ap (λ found. option_or found (find wanted (flat_map (λ list. list.now) (drop (at + 1) lists)))) here

-- where nothing is found in the first of them, those behind it are looked through
pub found_behind : {A : Type 0} (wanted : A → Bool) (lists : List (Bor (List A))) (at : ℕ) (list : Bor (List A)) → at < length lists → find wanted (get_or lists at list).now ≡ None → find wanted (flat_map (λ list. list.now) (drop at lists)) ≡ find wanted (flat_map (λ list. list.now) (drop (at + 1) lists))
found_behind wanted lists at list inside none =
    found_from wanted lists at list inside
    ∙ ap (λ found. option_or found (find wanted (flat_map (λ list. list.now) (drop (at + 1) lists)))) none
