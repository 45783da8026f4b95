use Rattle.std.proofs.Common.{◌≡◌, ◌≤◌, ◌+◌, ◌-◌, ℕ, List, [], length, get_or, set, sym, ap, ◌∙◌, refl, arith}
use Rattle.std.proofs.lemmas.List.{get_or_read, with_items_is}
use Rattle.osal_blocks.specs.Blocks.{blocks_for, blocks_of, bytes_of, free, with_file, overwritten}
use Rattle.osal_blocks.specs.Bytes.{bytes_in}
use Rattle.osal_blocks.specs.Chains.{blocks_at, free_list}
use Rattle.osal_blocks.specs.Sound.{blocks_in}
use Rattle.osal_blocks.proofs.Copied.{length-bytes_in}
use Rattle.osal_blocks.proofs.Whole.{Rewritten, rewritten, can_grow, fits_is, file_length, file_bytes}
use Rattle.osal_blocks.proofs.Written.{overwritten-first}
use Rattle.osal_blocks.proofs.blocks.Blocks.fill.Goals as goal

-- how many bytes are copied
length_is : (c : goal.After-grow-arg-1) → c.index-length.result.now ≡ get_or c.self.inside.lengths.items c.args.from 0
length_is c =
    get_or_read c.self.inside.lengths.items c.args.from c.index-length.result.now (omega (arith, c.self.invariant.files, c.requires.from)) c.index-length.ensures 0

-- the file that gets them had none
none : (c : goal.After-grow-arg-1) → get_or c.self.inside.lengths.items c.args.to 0 ≡ 0
none c =
    let nothing : bytes_of (blocks_in c.self.inside.store.items c.self.inside.chains c.self.inside.lengths.items c.self.inside.reserved) c.args.to ≡ [] = rw (← c.self.view_is) at c.requires.empty in
    sym (file_length c.self.inside.store.items c.self.inside.chains c.self.inside.lengths.items c.self.inside.reserved c.self.invariant c.args.to c.requires.to) ∙ ap (λ (l : List ℕ). length l) nothing

-- there are blocks for them
fits : (c : goal.After-grow-arg-1) → blocks_for c.index-length.result.now + c.self.inside.reserved
    ≤ length (blocks_at c.self.inside.chains free_list) + blocks_for (get_or c.self.inside.lengths.items c.args.to 0)
fits c =
    let own : blocks_of (bytes_of (blocks_in c.self.inside.store.items c.self.inside.chains c.self.inside.lengths.items c.self.inside.reserved) c.args.from) ≡ blocks_for c.index-length.result.now =
    ap blocks_for (file_length c.self.inside.store.items c.self.inside.chains c.self.inside.lengths.items c.self.inside.reserved c.self.invariant c.args.from c.requires.from ∙ sym (length_is c)) in
    let room : blocks_of (bytes_of (blocks_in c.self.inside.store.items c.self.inside.chains c.self.inside.lengths.items c.self.inside.reserved) c.args.from) ≤ free (blocks_in c.self.inside.store.items c.self.inside.chains c.self.inside.lengths.items c.self.inside.reserved) = (rw (← c.self.view_is) at c.requires.room) in
    fits_is c.self.inside.store.items c.self.inside.chains c.self.inside.lengths.items c.self.inside.reserved c.self.invariant c.args.to c.requires.to (blocks_for c.index-length.result.now) (omega (arith, own, room))

pub grow-requires-clause-can : goal.grow-requires-clause-can
grow-requires-clause-can c =
    rw (← none c)
    (can_grow c.self.inside.store.items c.self.inside.chains c.self.inside.lengths.items c.self.inside.reserved c.self.invariant c.args.to c.requires.to c.index-length.result.now (omega (arith, none c)) (fits c))

pub copy-requires-clause-there : goal.copy-requires-clause-there
copy-requires-clause-there c =
    let length_is = get_or_read c.self.inside.lengths.items c.args.from c.index-length.result.now (omega (arith, c.self.invariant.files, c.requires.from)) c.index-length.ensures 0 in
    let blocks : blocks_at c.grow.new.chains c.args.from ≡ blocks_at c.self.inside.chains c.args.from =
    c.grow.ensures.moved.others c.args.from (λ e. omega arith) c.requires.two in
    let counted : length (blocks_at c.grow.new.chains c.args.from) ≡ blocks_for (get_or c.self.inside.lengths.items c.args.from 0) =
    ap (λ (l : List ℕ). length l) blocks ∙ c.self.invariant.counts c.args.from c.requires.from in
    omega (arith, length_is, counted)

-- how many bytes are copied
length_is_then : (c : goal.After-self-2-1) → c.index-length.result.now ≡ get_or c.self.inside.lengths.items c.args.from 0
length_is_then c =
    get_or_read c.self.inside.lengths.items c.args.from c.index-length.result.now (omega (arith, c.self.invariant.files, c.requires.from)) c.index-length.ensures 0

-- the file that gets them had none
none_then : (c : goal.After-self-2-1) → get_or c.self.inside.lengths.items c.args.to 0 ≡ 0
none_then c =
    let nothing : bytes_of (blocks_in c.self.inside.store.items c.self.inside.chains c.self.inside.lengths.items c.self.inside.reserved) c.args.to ≡ [] = rw (← c.self.view_is) at c.requires.empty in
    sym (file_length c.self.inside.store.items c.self.inside.chains c.self.inside.lengths.items c.self.inside.reserved c.self.invariant c.args.to c.requires.to) ∙ ap (λ (l : List ℕ). length l) nothing

-- there are blocks for them
fits_then : (c : goal.After-self-2-1) → blocks_for c.index-length.result.now + c.self.inside.reserved
    ≤ length (blocks_at c.self.inside.chains free_list) + blocks_for (get_or c.self.inside.lengths.items c.args.to 0)
fits_then c =
    let own : blocks_of (bytes_of (blocks_in c.self.inside.store.items c.self.inside.chains c.self.inside.lengths.items c.self.inside.reserved) c.args.from) ≡ blocks_for c.index-length.result.now =
    ap blocks_for (file_length c.self.inside.store.items c.self.inside.chains c.self.inside.lengths.items c.self.inside.reserved c.self.invariant c.args.from c.requires.from ∙ sym (length_is_then c)) in
    let room : blocks_of (bytes_of (blocks_in c.self.inside.store.items c.self.inside.chains c.self.inside.lengths.items c.self.inside.reserved) c.args.from) ≤ free (blocks_in c.self.inside.store.items c.self.inside.chains c.self.inside.lengths.items c.self.inside.reserved) = (rw (← c.self.view_is) at c.requires.room) in
    fits_is c.self.inside.store.items c.self.inside.chains c.self.inside.lengths.items c.self.inside.reserved c.self.invariant c.args.to c.requires.to (blocks_for c.index-length.result.now) (omega (arith, own, room))

-- what is copied
piece : (c : goal.After-self-2-1) → List ℕ
piece c = bytes_in c.self.inside.store.items (blocks_at c.grow.new.chains c.args.from) c.index-length.result.now

count : (c : goal.After-self-2-1) → length (piece c) ≡ c.index-length.result.now
unfolding piece
count c = length-bytes_in c.self.inside.store.items (blocks_at c.grow.new.chains c.args.from) c.index-length.result.now

-- it is the bytes of the other file
piece_is : (c : goal.After-self-2-1) → piece c ≡ bytes_of (blocks_in c.self.inside.store.items c.self.inside.chains c.self.inside.lengths.items c.self.inside.reserved) c.args.from
unfolding piece
piece_is c =
    let blocks : blocks_at c.grow.new.chains c.args.from ≡ blocks_at c.self.inside.chains c.args.from =
    c.grow.ensures.moved.others c.args.from (λ e. omega arith) c.requires.two in
    ap (λ (l : List ℕ). bytes_in c.self.inside.store.items l c.index-length.result.now) blocks
    ∙ (ap (λ (n : ℕ). bytes_in c.self.inside.store.items (blocks_at c.self.inside.chains c.args.from) n) (length_is_then c) ∙ sym (file_bytes c.self.inside.store.items c.self.inside.chains c.self.inside.lengths.items c.self.inside.reserved c.self.invariant c.args.from c.requires.from))

-- the bytes of the file then
new_bytes : (c : goal.After-self-2-1) → Rewritten (blocks_in c.self.inside.store.items c.self.inside.chains c.self.inside.lengths.items c.self.inside.reserved) c.args.to
    (overwritten (bytes_of (blocks_in c.self.inside.store.items c.self.inside.chains c.self.inside.lengths.items c.self.inside.reserved) c.args.to) 0 (piece c))
    c.copy.new.store c.grow.new.chains (set c.self.inside.lengths.items c.args.to c.index-length.result.now)
unfolding piece
new_bytes c =
    rewritten c.self.inside.store.items c.self.inside.chains c.self.inside.lengths.items c.self.inside.reserved c.self.invariant c.args.to c.requires.to
    c.copy.new.store c.grow.new.chains 0 c.index-length.result.now (blocks_for c.index-length.result.now - blocks_for 0) (piece c) c.grow.ensures.apart
    (c.copy.auto.store ∙ ap (λ (l : List ℕ). length l) c.as_mut_slice.ensures.value) (rw (none_then c) refl)
    c.grow.ensures.moved (fits_then c) (omega arith) (omega (arith, count c, none_then c))
    (rw (count c) (rw c.as_mut_slice.ensures.value at c.copy.ensures.laid))

pub invariant_of-self : goal.invariant_of-self
invariant_of-self c =
    rw (with_items_is c.self.inside.store c.copy.new.store (c.copy.auto.store ∙ c.as_mut_slice.ensures.len)) (new_bytes c).whole

pub returns : goal.returns
returns c =
    let nothing : bytes_of (blocks_in c.self.inside.store.items c.self.inside.chains c.self.inside.lengths.items c.self.inside.reserved) c.args.to ≡ [] = rw (← c.self.view_is) at c.requires.empty in
    let over : overwritten (bytes_of (blocks_in c.self.inside.store.items c.self.inside.chains c.self.inside.lengths.items c.self.inside.reserved) c.args.to) 0 (piece c) ≡ bytes_of (blocks_in c.self.inside.store.items c.self.inside.chains c.self.inside.lengths.items c.self.inside.reserved) c.args.from =
    ap (λ (l : List ℕ). overwritten l 0 (piece c)) nothing ∙ (overwritten-first (piece c) ∙ piece_is c) in
    rw (← c.self.view_is, with_items_is c.self.inside.store c.copy.new.store (c.copy.auto.store ∙ c.as_mut_slice.ensures.len))
    ((new_bytes c).state ∙ ap (λ (l : List ℕ). with_file (blocks_in c.self.inside.store.items c.self.inside.chains c.self.inside.lengths.items c.self.inside.reserved) c.args.to l) over)
