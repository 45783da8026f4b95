-- Where the newest draft of a task stands.
use Rattle.std.proofs.Common.{◌≡◌, ◌==◌, ◌<◌, ◌++◌, List, [], ◌∷◌, ℕ, zero, suc, Bool, true, false, cond, Option, Some, None, length, get_or, set, refl, sym, ap, ◌∙◌, arith}
use Rattle.std.specs.List.{AllByRecursion}
use Rattle.std.specs.Ordering.{nat_cmp}
use Rattle.std.specs.BTreeMap.{is_at}
use Rattle.std.proofs.lemmas.Bool.Decides.{nat_tests}
use Rattle.osal_call.specs.declared.call.Entry.{Entry}
use Rattle.osal_report.specs.Draft.{DraftState, noted, IsCounted, place_before, newest_place, noted_at, noted_if, joined_drafts, IsIndex}

within_step : (own : Bool) (rest : Option ℕ) (n place : ℕ) → ((other : ℕ) → rest ≡ Some other → other < n) → place_before own rest ≡ Some place → place < suc n
within_step true None n place before e = let first : 0 ≡ place = cc in omega arith
within_step false None n place before e = cc
within_step own (Some other) n place before e =
    let next : suc other ≡ place = cc in let below : other < n = before other refl in omega arith

-- a place that is found is one of the drafts'
pub place_within : (drafts : List DraftState) (id place : ℕ) → newest_place drafts id ≡ Some place → place < length drafts
place_within [] id place e = cc
place_within (draft ∷ drafts) id place e =
    within_step (draft.id == id) (newest_place drafts id) (length drafts) place (λ other. place_within drafts id other) e

push_step : (own new : Bool) (n : ℕ) (rest : Option ℕ) → place_before own (cond new (Some n) rest) ≡ cond new (Some (suc n)) (place_before own rest)
push_step own true n rest = refl
push_step own false n rest = refl

-- a draft behind the others is the newest of its task
pub newest_push : (drafts : List DraftState) (draft : DraftState) (id : ℕ) → newest_place (drafts ++ draft ∷ []) id ≡ cond (draft.id == id) (Some (length drafts)) (newest_place drafts id)
newest_push [] draft id = refl
newest_push (first ∷ drafts) draft id =
    ap (place_before (first.id == id)) (newest_push drafts draft id)
    ∙ push_step (first.id == id) (draft.id == id) (length drafts) (newest_place drafts id)

-- one more entry moves no draft
newest_noted : (drafts : List DraftState) (place : ℕ) (entry : Entry) (id : ℕ) → newest_place (noted_at drafts place entry) id ≡ newest_place drafts id
newest_noted [] place entry id = refl
newest_noted (draft ∷ drafts) zero entry id = refl
newest_noted (draft ∷ drafts) (suc place) entry id =
    ap (place_before (draft.id == id)) (newest_noted drafts place entry id)

newest_noted_if : (drafts : List DraftState) (place : Option ℕ) (entry : Entry) (id : ℕ) → newest_place (noted_if drafts place entry) id ≡ newest_place drafts id
newest_noted_if drafts None entry id = refl
newest_noted_if drafts (Some place) entry id = newest_noted drafts place entry id

-- an index stays one where a draft has one more entry
pub index_joined : (index : ℕ → Option ℕ) (drafts : List DraftState) (entry : Entry) → IsIndex index drafts → IsIndex index (joined_drafts drafts entry)
index_joined index drafts entry is = λ id. is id ∙ sym (newest_noted_if drafts (newest_place drafts entry.task) entry id)

-- a number ties with itself alone
ties : (k q : ℕ) → is_at (nat_cmp k) q ≡ (k == q)
ties k q = grind (arith, nat_tests)

-- an index that finds the new draft's place for its task is one of the drafts with it
pub index_push : (index after : ℕ → Option ℕ) (drafts : List DraftState) (draft : DraftState) (own n : ℕ) → draft.id ≡ own → n ≡ length drafts → IsIndex index drafts → ((id : ℕ) → after id ≡ cond (is_at (nat_cmp own) id) (Some n) (index id)) → IsIndex after (drafts ++ draft ∷ [])
index_push index after drafts draft own n by_id by_n is put = λ id.
    put id
    ∙ ap (λ found. cond found (Some n) (index id)) (ties own id ∙ ap (λ k. k == id) (sym by_id))
    ∙ ap (λ k. cond (draft.id == id) (Some k) (index id)) by_n
    ∙ ap (λ rest. cond (draft.id == id) (Some (length drafts)) rest) (is id)
    ∙ sym (newest_push drafts draft id)

-- the draft at a place is written over
set_noted : (drafts : List DraftState) (place : ℕ) (entry : Entry) (draft : DraftState) → draft ≡ get_or drafts place draft → set drafts place (noted draft entry) ≡ noted_at drafts place entry
set_noted [] place entry draft is = refl
set_noted (first ∷ drafts) zero entry draft is = ap (λ d. noted d entry ∷ drafts) is
set_noted (first ∷ drafts) (suc place) entry draft is = ap (λ ds. first ∷ ds) (set_noted drafts place entry draft is)

-- the newest draft of the task is written over
pub joined_at : (drafts : List DraftState) (place : ℕ) (entry : Entry) (draft after : DraftState) → newest_place drafts entry.task ≡ Some place → draft ≡ get_or drafts place draft → after ≡ noted draft entry → set drafts place after ≡ joined_drafts drafts entry
joined_at drafts place entry draft after found is e =
    ap (set drafts place) e ∙ set_noted drafts place entry draft is ∙ ap (λ p. noted_if drafts p entry) (sym found)

-- what is so of each draft is so of the one at a place
pub counted_at : (drafts : List DraftState) (place : ℕ) (draft : DraftState) → AllByRecursion IsCounted drafts → place < length drafts → draft ≡ get_or drafts place draft → IsCounted draft
counted_at [] place draft counted within is = absurd (omega arith)
counted_at (first ∷ drafts) zero draft counted within is = rw is counted.0
counted_at (first ∷ drafts) (suc place) draft counted within is =
    let below : place < length drafts = omega arith in counted_at drafts place draft counted.1 below is
