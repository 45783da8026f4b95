-- The handlers of a tick cost no more than the tick.
use Rattle.std.proofs.Common.{◌≡◌, ◌≤◌, ◌+◌, ◌*◌, ◌++◌, ◌&&◌, ℕ, zero, suc, Bool, true, false, List, [], ◌∷◌, length, drop, min, nat_lt, slice_get, length-drop, inl, inr, refl, sym, ap, ◌∙◌, arith}
use Rattle.std.proofs.Math.Nat.{mul-le-mul_right}
use Rattle.std.specs.List.{AllByRecursion}
use Rattle.std.proofs.lemmas.Bool.{cond_both, cond-false, cases_Bool, false≢true, ltb-false}
use Rattle.osal_base.specs.Limits.{version1}
use Rattle.osal_base.specs.Reply.{Replied}
use Rattle.osal_call.specs.Firing.{timer_limit}
use Rattle.osal_call.specs.declared.word.pair.NumberWord.TheVariants as number_word
use Rattle.osal_line.specs.declared.kind.BodyKind.{BodyKind}
use Rattle.osal_line.specs.declared.kind.BodyKind.TheVariants as kind
use Rattle.osal_line.specs.declared.line.ScriptCall.{ScriptCall}
use Rattle.osal_line.specs.declared.line.ScriptCall.TheVariants as script_call
use Rattle.osal_line.specs.declared.line.Line.{Line}
use Rattle.osal_line.specs.Bare.{is_tick_line, IsBare}
use Rattle.osal_price.specs.Price.{Prices, line_cost}
use Rattle.osal_script.specs.declared.item.Item.{Item}
use Rattle.osal_script.specs.declared.item.Item.TheVariants as item
use Rattle.osal_script.specs.App.{ScriptBody, lines_of, ItemIsBare, HandlerIsBare}
use Rattle.osal_script.specs.Cost.{no_prices, handler_cost, greatest_handler, tick_cost}
use Rattle.osal_script.specs.Script.{Pending, OfHandler, of_handler, handler_numbers, lines_if_handler, handler_lines, put_in, is_of_body, is_success, fired}
use Rattle.osal_runs.specs.Potential.{lines_cost}
use Rattle.osal_runs.proofs.Names.{all_weaker}
use Rattle.osal_runs.proofs.Pending.{OfItem, lines_all}
use Rattle.osal_runs.proofs.LineCosts.{sum_cost, items_sum, pending_sum}

-- the bytes of an answer hold the numbers of no more handlers than timers may fire in a tick
abbrev pub IsFew : List ℕ → Type 0
IsFew bytes = length bytes ≤ 12 * min timer_limit version1.timers

-- each handler among some bodies neither creates tasks nor ticks
abbrev pub AreBare : List ScriptBody → Type 0
AreBare bodies = AllByRecursion (λ (body : ScriptBody). HandlerIsBare body.kind body.items) bodies

-- the numbers in some bytes are no more than their groups of twelve
numbers_few : (n most : ℕ) (bytes : List ℕ) → length bytes ≤ 12 * most → length (handler_numbers n bytes) ≤ most
unfolding handler_numbers
numbers_few zero most bytes few = omega arith
numbers_few (suc n) zero bytes few =
    cond_both (nat_lt (length bytes) 12) _ _ (λ (numbers : List ℕ). length numbers ≤ 0) (λ t. omega arith) (λ f. let long = ltb-false (length bytes) 12 f in absurd (omega arith))
numbers_few (suc n) (suc most) bytes few =
    cond_both (nat_lt (length bytes) 12) _ _ (λ (numbers : List ℕ). length numbers ≤ suc most) (λ t. omega arith)
    (λ f. let rest : length (handler_numbers n (drop 12 bytes)) ≤ most = numbers_few n most (drop 12 bytes) (let left = length-drop 12 bytes in omega arith) in omega arith)

-- the lines of a handler are bare where its items are
item_bare : (i : Item) → ItemIsBare i → OfItem (λ line. IsBare line.call) i
item_bare (item.Call line) bare = bare
item_bare (item.Repeat count) bare = tt
item_bare item.End bare = tt

module _ (prices : Prices) where
  -- a bare line costs the same whatever the prices
  line_bare : (line : ScriptCall) → IsBare line → line_cost prices line ≡ line_cost no_prices line
  line_bare (script_call.TaskCreate register name body stack priority) bare = absurd bare
  line_bare (script_call.Number number_word.TimebaseTick id amount) bare = absurd (false≢true (sym bare))
  line_bare (script_call.Number number_word.TaskSetPriority id amount) bare = refl
  line_bare _ bare = refl

  sum_bare : (lines : List Line) → AllByRecursion (λ (line : Line). IsBare line.call) lines → sum_cost prices lines ≡ sum_cost no_prices lines
  sum_bare [] bare = refl
  sum_bare (line ∷ lines) bare = λ i. line_bare line.call bare.0 i + sum_bare lines bare.1 i

  of_handler_sum : (lines : List Line) → lines_cost prices (of_handler lines) ≡ sum_cost prices lines
  of_handler_sum [] = refl
  of_handler_sum (line ∷ lines) = ap (λ n. line_cost prices line.call + n) (pending_sum prices OfHandler lines)

  -- the lines of a handler cost what the handler does
  handler_pays : (kind : BodyKind) (body : ScriptBody) → HandlerIsBare kind body.items → lines_cost prices (lines_if_handler kind body) ≤ handler_cost kind body.items
  handler_pays kind.Handler body bare =
      let lines = lines_all (λ (line : Line). IsBare line.call) body (all_weaker ItemIsBare (OfItem (λ line. IsBare line.call)) body.items item_bare bare) in
      omega (arith, of_handler_sum (lines_of body), sum_bare (lines_of body) lines, items_sum no_prices body)
  handler_pays kind.Task body bare = omega arith

  each_pays : (bodies : List ScriptBody) (number : ℕ) → AreBare bodies → lines_cost prices (handler_lines (slice_get bodies number)) ≤ greatest_handler bodies
  each_pays [] number bare = omega arith
  each_pays (body ∷ bodies) zero bare = omega (arith, handler_pays body.kind body bare.0)
  each_pays (body ∷ bodies) (suc number) bare = omega (arith, each_pays bodies number bare.1)

  -- the cost of lines one behind the other
  pub lines_more : (pending more : List Pending) → lines_cost prices (pending ++ more) ≡ lines_cost prices pending + lines_cost prices more
  lines_more [] more = omega arith
  lines_more (next ∷ pending) more = let rest = lines_more pending more in omega arith

  module _ (bodies : List ScriptBody) (bare : AreBare bodies) where
    put_in_pays : (numbers : List ℕ) → lines_cost prices (put_in bodies numbers) ≤ length numbers * greatest_handler bodies
    put_in_pays [] = omega arith
    put_in_pays (number ∷ numbers) =
        omega (arith, lines_more (handler_lines (slice_get bodies number)) (put_in bodies numbers), each_pays bodies number bare, put_in_pays numbers)

    numbers_pay : (numbers : List ℕ) → length numbers ≤ min timer_limit version1.timers → lines_cost prices (put_in bodies numbers) ≤ tick_cost bodies
    numbers_pay numbers few = omega (arith, put_in_pays numbers, mul-le-mul_right (greatest_handler bodies) few)

    -- what a tick puts in costs no more than the tick
    pub fired_pays : (next : Pending) (reply : Replied) → IsFew reply.bytes → lines_cost prices (fired bodies next reply) ≤ tick_cost bodies
    fired_pays next reply few =
        cond_both (is_of_body next.frame && is_tick_line next.line.call && is_success reply.answer) _ _ (λ (lines : List Pending). lines_cost prices lines ≤ tick_cost bodies)
        (λ t. numbers_pay (handler_numbers timer_limit reply.bytes) (numbers_few timer_limit (min timer_limit version1.timers) reply.bytes few)) (λ f. omega arith)

both_never : (a b : Bool) → (a && false && b) ≡ false
both_never true b = refl
both_never false b = refl

-- a line that is no tick puts nothing in
pub fired_none : (bodies : List ScriptBody) (next : Pending) (reply : Replied) → is_tick_line next.line.call ≡ false → fired bodies next reply ≡ []
fired_none bodies next reply none =
    cond-false (is_of_body next.frame && is_tick_line next.line.call && is_success reply.answer) _ _
    (ap (λ b. is_of_body next.frame && b && is_success reply.answer) none ∙ both_never (is_of_body next.frame) (is_success reply.answer))

tick_line_cost : (prices : Prices) (line : ScriptCall) → is_tick_line line ≡ true → line_cost prices line ≡ 2 + prices.tick
tick_line_cost prices (script_call.Number number_word.TimebaseTick id amount) tick = refl
tick_line_cost prices (script_call.Number number_word.TaskSetPriority id amount) tick = absurd (false≢true tick)
tick_line_cost prices _ tick = absurd (false≢true tick)

-- a line costs its checkpoint, its call, and what it puts in
pub fired_left : (prices : Prices) (bodies : List ScriptBody) (next : Pending) (reply : Replied) → AreBare bodies → tick_cost bodies ≤ prices.tick → (is_tick_line next.line.call ≡ true → IsFew reply.bytes) → lines_cost prices (fired bodies next reply) + 2 ≤ line_cost prices next.line.call
fired_left prices bodies next reply bare paid few =
    elim (cases_Bool (is_tick_line next.line.call)) [
      | inl tick ↦ omega (arith, fired_pays prices bodies bare next reply (few tick), tick_line_cost prices next.line.call tick)
      | inr none ↦ omega (arith, ap (lines_cost prices) (fired_none bodies next reply none))
    ]
