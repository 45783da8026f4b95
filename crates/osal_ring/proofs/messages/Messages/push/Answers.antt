use Rattle.std.proofs.Common.{◌≡◌, ◌<◌, ◌≤◌, ℕ, ◌∷◌, ◌++◌, [], length, refl, arith, length-append}
use Rattle.std.proofs.lemmas.List.Elements.{All-push}
use Rattle.std.proofs.lemmas.List.Sums.{sum_by_push}
use Rattle.osal_ring.specs.declared.messages.Messages.TheInside.{Inside}
use Rattle.osal_ring.specs.Messages.{Messages}
use Rattle.osal_ring.specs.Stored.{cut, messages_of}
use Rattle.osal_ring.proofs.Cut.{length-cut, cut-push, room_for_one}
use Rattle.osal_ring.proofs.Runs.{keep_all}
use Rattle.osal_ring.proofs.messages.Messages.push.Goals as goal

-- where there may be one more, there is a place for one more length
place : (inside : Inside) (waiting : Messages) → messages_of inside ≡ waiting → length waiting.messages < waiting.depth
    → length inside.lengths.items < inside.depth
place inside waiting stored room =
    let few : length (cut inside.lengths.items inside.bytes.bytes) < inside.depth = rw (← stored) at room in
    omega (arith, length-cut inside.lengths.items inside.bytes.bytes)

-- the message is none too long for what is stored
within : (inside : Inside) (waiting : Messages) (message : ℕ) → messages_of inside ≡ waiting → message ≤ waiting.size
    → message ≤ inside.size
within inside waiting message stored fits = rw (← stored) at fits

pub put-requires : goal.put-requires
put-requires c =
    let few = place c.self.inside _ c.self.view_is c.requires.room in
    let fits = within c.self.inside _ _ c.self.view_is c.requires.fits in
    rw c.self.invariant.room
    (room_for_one c.self.inside.lengths.items _ _ _ _ c.self.invariant.whole c.self.invariant.each few fits)

-- the length of the message was appended
lengths_of : (c : goal.After-push_back) → c.push_back.new.self.items ≡ c.self.inside.lengths.items ++ length c.args.message.now ∷ []
lengths_of c =
    let items = c.self.inside.lengths.items ++ length c.args.message.now ∷ [] in
    let few = place c.self.inside _ c.self.view_is c.requires.room in
    let room : length items ≤ c.self.inside.lengths.capacity = omega (arith, few, length-append c.self.inside.lengths.items (length c.args.message.now ∷ [])) in
    rw (c.push_back.ensures.items, keep_all _ items room) refl

pub invariant_of-self : goal.invariant_of-self
invariant_of-self c =
    let fits = within c.self.inside _ _ c.self.view_is c.requires.fits in
    record {
      whole = rw (lengths_of c, c.put.ensures, length-append, ← c.self.invariant.whole) (sum_by_push (λ x. x) c.self.inside.lengths.items (length c.args.message.now));
      each = rw (lengths_of c) (All-push (λ n. n ≤ c.self.inside.size) _ _ c.self.invariant.each fits);
      room = rw c.put.ensures c.self.invariant.room;
      places = rw c.push_back.ensures.items c.self.invariant.places;
      small = c.self.invariant.small;
    }

pub returns : goal.returns
returns c =
    rw (← c.self.view_is, lengths_of c, c.put.ensures, cut-push _ _ c.args.message.now _ refl c.self.invariant.whole) refl
