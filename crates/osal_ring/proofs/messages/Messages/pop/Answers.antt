use Rattle.std.proofs.Common.{◌≡◌, ◌+◌, ◌≤◌, drop, length, slice_get, Some, arith, sym, ◌∙◌, length-drop}
use Rattle.std.specs.List.{sum}
use Rattle.std.proofs.lemmas.List.Elements.{All-drop}
use Rattle.osal_ring.proofs.Cut.{sum-pop, drop-rest, short}
use Rattle.osal_ring.proofs.messages.Messages.pop.Goals as goal
use Rattle.osal_ring.proofs.messages.Messages.pop.Goals.{After-skip}

-- what was popped is the first length
first : (c : After-skip) → slice_get c.self.inside.lengths.items 0 ≡ Some c.from-length.result
first c = cc

-- it is the first of those that make up the bytes
split : (c : After-skip)
    → length c.self.inside.bytes.bytes ≡ c.from-length.result + sum (drop 1 c.self.inside.lengths.items)
split c = sym c.self.invariant.whole ∙ sum-pop c.self.inside.lengths.items c.from-length.result (first c)

-- all of its bytes went
left : (c : After-skip) → c.skip.new.self.bytes ≡ drop c.from-length.result c.self.inside.bytes.bytes
left c =
    let some : c.min-count.result ≤ c.from-length.result = omega arith in
    rw (c.skip.ensures, c.take.ensures.left) (drop-rest c.min-count.result c.from-length.result c.self.inside.bytes.bytes some)

pub invariant_of-self : goal.invariant_of-self
invariant_of-self c = record {
  whole = rw (left c, c.pop_front.ensures.items) (omega (arith, split c, length-drop c.from-length.result c.self.inside.bytes.bytes));
  each =
      rw c.pop_front.ensures.items
      (All-drop (λ n. n ≤ c.self.inside.size) 1 c.self.inside.lengths.items c.self.invariant.each);
  room = rw (c.skip.ensures, c.take.ensures.left) c.self.invariant.room;
  places = rw c.pop_front.ensures.items c.self.invariant.places;
  small = c.self.invariant.small;
}

pub returns-clause-short : goal.returns-clause-short
returns-clause-short c =
    rw (← c.self.view_is)
    (short c.self.inside.lengths.items c.self.inside.bytes.bytes c.self.inside.size c.self.invariant.each)
