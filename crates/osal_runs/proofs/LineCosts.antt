-- The cost of a body is that of its lines with the repeats written out, and of the bodies that they name.
use Rattle.std.proofs.Common.{◌≡◌, ◌<◌, ◌+◌, ◌-◌, ◌*◌, ◌++◌, ℕ, zero, suc, List, [], ◌∷◌, length, map, Some, slice_get, slice_index, refl, sym, ap, ◌∙◌, arith}
use Rattle.std.specs.List.{AllByRecursion}
use Rattle.osal_call.specs.declared.word.pair.NumberWord.TheVariants as number_word
use Rattle.osal_line.specs.declared.line.ScriptCall.{ScriptCall}
use Rattle.osal_line.specs.declared.line.ScriptCall.TheVariants as script_call
use Rattle.osal_line.specs.declared.line.Line.{Line}
use Rattle.osal_line.specs.Between.{NamesBetween}
use Rattle.osal_price.specs.Price.{Prices, line_cost}
use Rattle.osal_script.specs.declared.item.Item.{Item}
use Rattle.osal_script.specs.declared.item.Item.TheVariants as item
use Rattle.osal_script.specs.App.{ScriptBody, Application, times, first_of_levels, onto_level, repeated, levels_of, lines_of, ItemNames, NamesLaterFrom, NamesLater}
use Rattle.osal_script.specs.Cost.{onto_cost, repeated_cost, level_costs, first_cost, body_cost, tick_cost, costs_from}
use Rattle.osal_script.specs.Script.{Frame, OfBody, Pending, in_body}
use Rattle.osal_runs.specs.Potential.{prices_of, lines_cost}
use Rattle.osal_runs.proofs.Names.{later_at}

-- a line that is still to come, with the registers that it uses
abbrev in_frame : Frame → Line → Pending
in_frame frame line = record { line = line; frame = frame }

module _ (prices : Prices) where
  -- the cost of some lines
  abbrev pub sum_cost : List Line → ℕ
  sum_cost [] = 0
  sum_cost (line ∷ lines) = line_cost prices line.call + sum_cost lines

  sum_more : (lines more : List Line) → sum_cost (lines ++ more) ≡ sum_cost lines + sum_cost more
  sum_more [] more = omega arith
  sum_more (line ∷ lines) more = let rest = sum_more lines more in omega arith

  sum_times : (n : ℕ) (lines : List Line) → sum_cost (times n lines) ≡ n * sum_cost lines
  sum_times zero lines = omega arith
  sum_times (suc n) lines =
      let rest = sum_times n lines in
      let more = sum_more lines (times n lines) in omega arith

  onto_sums : (line : Line) (levels : List (List Line)) → onto_cost (line_cost prices line.call) (map sum_cost levels) ≡ map sum_cost (onto_level line levels)
  onto_sums line [] = ap (λ n. n ∷ []) (omega arith)
  onto_sums line (level ∷ levels) = refl

  repeated_sums : (n : ℕ) (levels : List (List Line)) → repeated_cost n (map sum_cost levels) ≡ map sum_cost (repeated n levels)
  repeated_sums n [] = refl
  repeated_sums n (level ∷ []) = ap (λ c. c ∷ []) (sym (sum_times n level))
  repeated_sums n (level ∷ around ∷ levels) =
      ap (λ c. c ∷ map sum_cost levels) (let all = sum_times n level in let more = sum_more (times n level) around in omega arith)

  level_sums : (items : List Item) → level_costs prices items ≡ map sum_cost (levels_of items)
  level_sums [] = refl
  level_sums (item.Call line ∷ items) = ap (onto_cost (line_cost prices line.call)) (level_sums items) ∙ onto_sums line (levels_of items)
  level_sums (item.Repeat count ∷ items) = ap (repeated_cost count) (level_sums items) ∙ repeated_sums count (levels_of items)
  level_sums (item.End ∷ items) = ap (λ costs. 0 ∷ costs) (level_sums items)

  first_sum : (levels : List (List Line)) → first_cost (map sum_cost levels) ≡ sum_cost (first_of_levels levels)
  first_sum [] = refl
  first_sum (level ∷ levels) = refl

  -- the cost of the items is that of the lines with the repeats written out
  pub items_sum : (body : ScriptBody) → first_cost (level_costs prices body.items) ≡ sum_cost (lines_of body)
  items_sum body = ap first_cost (level_sums body.items) ∙ first_sum (levels_of body.items)

  -- lines that are still to come cost the same whosever registers they use
  pub pending_sum : (frame : Frame) (lines : List Line) → lines_cost prices (map (in_frame frame) lines) ≡ sum_cost lines
  pending_sum frame [] = refl
  pending_sum frame (line ∷ lines) = ap (λ n. line_cost prices line.call + n) (pending_sum frame lines)

  -- the cost of a body is that of its lines, and two
  pub body_sum : (body : ScriptBody) → body_cost prices body ≡ lines_cost prices (map in_body (lines_of body)) + 2
  body_sum body = ap (λ n. n + 2) (items_sum body ∙ sym (pending_sum OfBody (lines_of body)))

module _ (prices other : Prices) (number : ℕ) (bodies : (body : ℕ) → number < body → prices.body body ≡ other.body body) (tick : prices.tick ≡ other.tick) where
  line_same : (count : ℕ) (made : ScriptCall) → NamesBetween number count made → line_cost prices made ≡ line_cost other made
  line_same count (script_call.TaskCreate register name body stack priority) names = ap (λ n. 2 + (8 + n)) (bodies body names.0)
  line_same count (script_call.Number number_word.TimebaseTick id amount) names = ap (λ n. 2 + n) tick
  line_same count (script_call.Number number_word.TaskSetPriority id amount) names = refl
  line_same count _ names = refl

  levels_same : (count : ℕ) (items : List Item) → AllByRecursion (ItemNames number count) items → level_costs prices items ≡ level_costs other items
  levels_same count [] names = refl
  levels_same count (item.Call line ∷ items) names =
      λ i. onto_cost (line_same count line.call names.0 i) (levels_same count items names.1 i)
  levels_same count (item.Repeat times ∷ items) names = ap (repeated_cost times) (levels_same count items names.1)
  levels_same count (item.End ∷ items) names = ap (λ costs. 0 ∷ costs) (levels_same count items names.1)

  -- bodies cost the same where those that they name and a tick do
  body_same : (count : ℕ) (body : ScriptBody) → AllByRecursion (ItemNames number count) body.items → body_cost prices body ≡ body_cost other body
  body_same count body names = ap (λ costs. first_cost costs + 2) (levels_same count body.items names)

-- a cost behind the first
behind_first : (first : ℕ) (costs : List ℕ) (number other : ℕ) → number < other → slice_index (first ∷ costs) (other - number) ≡ slice_index costs (other - (number + 1))
behind_first first costs number other behind =
    let n : other - number ≡ suc (other - (number + 1)) = omega arith in ap (slice_index (first ∷ costs)) n

-- the prices of the bodies from a number on
abbrev prices_from : ℕ → ℕ → List ScriptBody → Prices
prices_from tick number bodies = record { body = λ other. slice_index (costs_from tick number bodies) (other - number); tick = tick }

-- the cost of each body is that of its lines, where the bodies that they name cost as much as their numbers say
costs_right : (tick number count : ℕ) (bodies : List ScriptBody) (i : ℕ) (body : ScriptBody) → NamesLaterFrom number count bodies → slice_get bodies i ≡ Some body → slice_index (costs_from tick number bodies) i ≡ body_cost (prices_from tick number bodies) body
costs_right tick number count [] i body later is = cc
costs_right tick number count (first ∷ bodies) zero body later is =
    let same : first ≡ body = cc in
    body_same (prices_from tick (number + 1) bodies) (prices_from tick number (first ∷ bodies)) number (λ other behind. sym (behind_first _ (costs_from tick (number + 1) bodies) number other behind)) refl count first later.0
    ∙ ap (body_cost (prices_from tick number (first ∷ bodies))) same
costs_right tick number count (first ∷ bodies) (suc i) body later is =
    costs_right tick (number + 1) count bodies i body later.1 is
    ∙ body_same (prices_from tick (number + 1) bodies) (prices_from tick number (first ∷ bodies)) (number + 1 + i) (λ other behind. sym (behind_first _ (costs_from tick (number + 1) bodies) number other (omega arith))) refl count body (later_at (number + 1) count bodies i body later.1 is)

-- the cost of a body of an application is that of its lines, and two
pub cost_right : (app : Application) (number : ℕ) (body : ScriptBody) → NamesLater app → slice_get app.bodies number ≡ Some body → (prices_of app).body number ≡ lines_cost (prices_of app) (map in_body (lines_of body)) + 2
cost_right app number body later is =
    let tick : ℕ = tick_cost app.bodies in
    costs_right tick 0 (length app.bodies) app.bodies number body later is
    ∙ body_same (prices_from tick 0 app.bodies) (prices_of app) (0 + number) (λ other behind. ap (slice_index (costs_from tick 0 app.bodies)) (omega arith)) refl (length app.bodies) body (later_at 0 (length app.bodies) app.bodies number body later is)
    ∙ body_sum (prices_of app) body
