use Rattle.std.proofs.Common.{◌≡◌, ◌<◌, ◌≤◌, ◌∷◌, ◌++◌, List, [], length, refl, arith, length-append}
use Rattle.osal_ring.proofs.Runs.{keep_all}
use Rattle.osal_socket.specs.Datagram.{Datagram, waiting_limit}
use Rattle.osal_socket.specs.Waiting.{datagrams_of, IsWaiting}
use Rattle.osal_socket.specs.declared.datagrams.Waiting.TheInside.{Inside}
use Rattle.osal_socket.proofs.Stored.{length-datagrams, datagrams-push}
use Rattle.osal_socket.proofs.datagrams.Waiting.push.Goals as goal

-- where one more datagram may wait, there is a place for its port
place : (inside : Inside) (waiting : List Datagram) → datagrams_of inside.ports.items inside.messages.messages ≡ waiting
    → IsWaiting inside → length waiting < waiting_limit → length inside.ports.items < waiting_limit
place inside waiting stored invariant space =
    let few : length (datagrams_of inside.ports.items inside.messages.messages) < waiting_limit = rw (← stored) at space in
    omega (arith, length-datagrams inside.ports.items inside.messages.messages invariant.each)

pub push-requires-clause-room : goal.push-requires-clause-room
push-requires-clause-room c =
    let few = place c.self.inside _ c.self.view_is c.self.invariant c.requires.space in
    omega (arith, few, c.self.invariant.each, c.self.invariant.depth)

-- the port was appended
ports_of : (c : goal.After-push_back) → c.push_back.new.self.items ≡ c.self.inside.ports.items ++ c.args.from ∷ []
ports_of c =
    let items = c.self.inside.ports.items ++ c.args.from ∷ [] in
    let few = place c.self.inside _ c.self.view_is c.self.invariant c.requires.space in
    let room : length items ≤ c.self.inside.ports.capacity = omega (arith, few, c.self.invariant.places, length-append c.self.inside.ports.items (c.args.from ∷ [])) in
    rw (c.push_back.ensures.items, keep_all _ items room) refl

pub invariant_of-self : goal.invariant_of-self
invariant_of-self c = record {
  each = rw (ports_of c, c.push.ensures) (omega (arith, c.self.invariant.each, length-append c.self.inside.ports.items (c.args.from ∷ []), length-append c.self.inside.messages.messages (c.args.bytes.now ∷ [])));
  depth = rw c.push.ensures c.self.invariant.depth;
  size = rw c.push.ensures c.self.invariant.size;
  places = rw c.push_back.ensures.items c.self.invariant.places;
}

pub returns : goal.returns
returns c =
    rw (← c.self.view_is, ports_of c, c.push.ensures)
    (datagrams-push c.self.inside.ports.items c.self.inside.messages.messages c.args.from c.args.bytes.now c.self.invariant.each)
