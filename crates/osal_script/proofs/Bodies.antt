-- The costs of the bodies, from the last to the first, as 64 bits tell them.
use Rattle.std.proofs.Common.{◌≡◌, ◌<◌, ◌≤◌, ◌+◌, ◌-◌, ◌∙◌, ℕ, zero, suc, List, [], ◌∷◌, Some, length, take, drop, get_or, set, map, slice_index, slice_get, refl, sym, ap, subst, zero-add, arith}
use Rattle.std.proofs.lemmas.List.{get_or-take, get_or-drop, drop-set}
use Rattle.std.specs.List.{AllByRecursion}
use Rattle.osal_call.specs.declared.word.pair.NumberWord.TheVariants as number_word
use Rattle.osal_line.specs.declared.line.ScriptCall.{ScriptCall}
use Rattle.osal_line.specs.declared.line.ScriptCall.TheVariants as script
use Rattle.osal_line.specs.Between.{NamesBetween}
use Rattle.osal_price.specs.declared.price.Prices as kept
use Rattle.osal_price.specs.Price.{Prices, line_cost}
use Rattle.osal_price.specs.Saturated.{saturated, prices_of}
use Rattle.osal_script.specs.declared.item.Item.{Item}
use Rattle.osal_script.specs.declared.item.Item.TheVariants as item
use Rattle.osal_script.specs.App.{ScriptBody, ItemNames, NamesLaterFrom}
use Rattle.osal_script.specs.Cost.{level_costs, first_cost, costs_from}
use Rattle.osal_script.specs.Saturated.{onto_saturated, repeated_saturated}
use Rattle.osal_script.proofs.Lists.{begins_with}
use Rattle.osal_script.proofs.Costs.{saturated-onto, saturated-repeated}

-- two ways to tell the prices agree, by what 64 bits tell, on a tick and on the bodies that a body may name
pub record Agree (number count : ℕ) (prices others : Prices) : Type 0 where
  pub body : (other : ℕ) → number < other → other < count → saturated (prices.body other) ≡ saturated (others.body other)
  pub tick : saturated prices.tick ≡ saturated others.tick

same_line : (number count : ℕ) (prices others : Prices) (made : ScriptCall) → Agree number count prices others → NamesBetween number count made → saturated (line_cost prices made) ≡ saturated (line_cost others made)
same_line number count prices others (script.TaskCreate register name body stack priority) agree names =
    let same = agree.body body names.0 names.1 in
    omega arith
same_line number count prices others (script.Number number_word.TimebaseTick id amount) agree names =
    let same = agree.tick in
    omega arith
same_line number count prices others (script.Number number_word.TaskSetPriority id amount) agree names = refl
same_line number count prices others other agree names = refl

-- then the levels cost the same
same_levels : (number count : ℕ) (prices others : Prices) (items : List Item) → Agree number count prices others → AllByRecursion (ItemNames number count) items → map saturated (level_costs prices items) ≡ map saturated (level_costs others items)
same_levels number count prices others [] agree names = refl
same_levels number count prices others (item.Call line ∷ items) agree names =
    saturated-onto (line_cost prices line.call) (level_costs prices items)
    ∙ ap (λ (x : ℕ). onto_saturated x (map saturated (level_costs prices items))) (same_line number count prices others line.call agree names.0)
    ∙ ap (onto_saturated (saturated (line_cost others line.call))) (same_levels number count prices others items agree names.1)
    ∙ sym (saturated-onto (line_cost others line.call) (level_costs others items))
same_levels number count prices others (item.Repeat times ∷ items) agree names =
    sym (saturated-repeated times (level_costs prices items))
    ∙ ap (repeated_saturated times) (same_levels number count prices others items agree names.1)
    ∙ saturated-repeated times (level_costs others items)
same_levels number count prices others (item.End ∷ items) agree names =
    ap (λ (levels : List ℕ). saturated 0 ∷ levels) (same_levels number count prices others items agree names.1)

first-saturated : (costs : List ℕ) → first_cost (map saturated costs) ≡ saturated (first_cost costs)
first-saturated [] = refl
first-saturated (cost ∷ costs) = refl

get_or-saturated : (costs : List ℕ) (i : ℕ) → get_or (map saturated costs) i 0 ≡ saturated (get_or costs i 0)
get_or-saturated [] i = refl
get_or-saturated (cost ∷ costs) zero = refl
get_or-saturated (cost ∷ costs) (suc i) = get_or-saturated costs i

names_from : (from count k : ℕ) (bodies : List ScriptBody) (body : ScriptBody) → NamesLaterFrom from count bodies → slice_get bodies k ≡ Some body → AllByRecursion (ItemNames (from + k) count) body.items
names_from from count k [] body later is = cc
names_from from count zero (first ∷ bodies) body later is =
    let same : first ≡ body = cc in
    let here : from ≡ from + 0 = omega arith in
    subst (λ (n : ℕ). AllByRecursion (ItemNames n count) body.items) here (subst (λ (one : ScriptBody). AllByRecursion (ItemNames from count) one.items) same later.0)
names_from from count (suc k) (first ∷ bodies) body later is =
    let here : from + 1 + k ≡ from + suc k = omega arith in
    subst (λ (n : ℕ). AllByRecursion (ItemNames n count) body.items) here (names_from (from + 1) count k bodies body later.1 is)

-- what the code keeps: the costs of the bodies from a number on, where a tick costs so much
abbrev pub HaveCosts : ℕ → List ℕ → ℕ → List ScriptBody → Type 0
HaveCosts tick costs number bodies =
    take (length bodies - number) (drop number costs) ≡ map saturated (costs_from tick number (drop number bodies))

reads : (costs exact : List ℕ) (number more other : ℕ) → take more (drop number costs) ≡ map saturated exact → number ≤ other → other - number < more → get_or costs other 0 ≡ saturated (get_or exact (other - number) 0)
reads costs exact number more other have from within =
    let there : number + (other - number) ≡ other = omega arith in
    sym (ap (λ (n : ℕ). get_or costs n 0) there)
    ∙ sym (get_or-drop number costs (other - number) 0)
    ∙ sym (get_or-take more (drop number costs) (other - number) 0 within)
    ∙ ap (λ (told : List ℕ). get_or told (other - number) 0) have
    ∙ get_or-saturated exact (other - number)

saturated_twice : (cost other : ℕ) → cost ≡ saturated other → saturated cost ≡ saturated other
saturated_twice cost other same = omega arith

two_more : (told cost : ℕ) → told ≡ saturated cost → saturated (told + 2) ≡ saturated (cost + 2)
two_more told cost same = omega arith

-- one body more
pub one_cost : (tick : ℕ) (prices : kept.Prices) (number : ℕ) (bodies : List ScriptBody) (body : ScriptBody) → prices.tick ≡ saturated tick → length bodies ≤ length prices.bodies → NamesLaterFrom 0 (length bodies) bodies → slice_get bodies number ≡ Some body → HaveCosts tick prices.bodies (number + 1) bodies → HaveCosts tick (set prices.bodies number (saturated (saturated (first_cost (level_costs (prices_of prices) body.items)) + 2))) number bodies
one_cost tick prices number bodies body told_tick room later is have =
    let count = length bodies in
    let costs = prices.bodies in
    let here = begins_with bodies number body is in
    let rest = costs_from tick (number + 1) (drop (number + 1) bodies) in
    let exact : Prices = record { body = λ (other : ℕ). slice_index rest (other - (number + 1)); tick = tick } in
    let names = subst (λ (n : ℕ). AllByRecursion (ItemNames n count) body.items) (zero-add number) (names_from 0 count number bodies body later is) in
    let agree : Agree number count (prices_of prices) exact = record {
      body =
          λ (other : ℕ) behind below. saturated_twice _ _ (reads costs rest (number + 1) (count - (number + 1)) other have (omega arith) (omega arith));
      tick = saturated_twice prices.tick tick told_tick;
    } in
    let levels = same_levels number count (prices_of prices) exact body.items agree names in
    let told : saturated (first_cost (level_costs (prices_of prices) body.items)) ≡ saturated (first_cost (level_costs exact body.items)) =
    sym (first-saturated (level_costs (prices_of prices) body.items))
    ∙ ap first_cost levels
    ∙ first-saturated (level_costs exact body.items) in
    let one = two_more _ (first_cost (level_costs exact body.items)) told in
    let more : count - number ≡ suc (count - (number + 1)) = omega (arith, here.0) in
    let cost = saturated (saturated (first_cost (level_costs (prices_of prices) body.items)) + 2) in
    ap (take (count - number)) (drop-set costs number cost (omega (arith, here.0)))
    ∙ ap (λ (n : ℕ). take n (cost ∷ drop (number + 1) costs)) more
    ∙ ap (λ (costs_behind : List ℕ). cost ∷ costs_behind) have
    ∙ ap (λ (first : ℕ). first ∷ map saturated rest) one
    ∙ sym (ap (λ (from : List ScriptBody). map saturated (costs_from tick number from)) here.1)
