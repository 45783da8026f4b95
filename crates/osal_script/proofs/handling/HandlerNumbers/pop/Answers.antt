use Rattle.std.proofs.Common.{◌≡◌, ◌<◌, ◌≤◌, ◌+◌, ◌-◌, ◌∙◌, ℕ, List, length, take, drop, reverse, sym, ap, arith}
use Rattle.osal_script.proofs.Lists.{innermost}
use Rattle.osal_script.proofs.handling.HandlerNumbers.pop.Goals as goal

below_top : (numbers view : List ℕ) (count : ℕ) → 0 < count → count ≤ length numbers → reverse (take count numbers) ≡ view → reverse (take (count - 1) numbers) ≡ drop 1 view
below_top numbers view count some within is =
    let all : count - 1 + 1 ≡ count = omega arith in
    let top = innermost numbers (count - 1) 0 (omega arith) in
    ap (drop 1) (sym top ∙ ap (λ (n : ℕ). reverse (take n numbers)) all ∙ is)

pub returns-clause-rest : goal.returns-clause-rest
returns-clause-rest c =
    below_top c.self.inside.numbers c.args.self.now c.self.inside.count (omega arith) (omega arith) c.self.view_is
