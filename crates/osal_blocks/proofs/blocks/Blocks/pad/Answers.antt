use Rattle.std.proofs.Common.{◌≡◌, ◌≤◌, ◌+◌, ◌-◌, ℕ, List, length, get_or, set, replicate, sym, ap, ◌∙◌, refl, arith}
use Rattle.std.proofs.lemmas.List.{get_or_read, with_items_is, length-replicate}
use Rattle.osal_blocks.specs.Blocks.{blocks_for, bytes_of, with_file, overwritten}
use Rattle.osal_blocks.specs.Bytes.{Laid}
use Rattle.osal_blocks.specs.Chains.{blocks_at, free_list}
use Rattle.osal_blocks.specs.Sound.{blocks_in}
use Rattle.osal_blocks.proofs.Whole.{Rewritten, rewritten, can_grow, fits_is, file_length}
use Rattle.osal_blocks.proofs.Written.{overwritten-zeros, overwritten-nothing, with_file-same}
use Rattle.osal_blocks.proofs.blocks.Blocks.pad.Goals as goal

-- how many bytes the file had
length_is : (c : goal.After-grow-arg-1) → c.index-length.result.now ≡ get_or c.self.inside.lengths.items c.args.file 0
length_is c =
    get_or_read c.self.inside.lengths.items c.args.file c.index-length.result.now (omega (arith, c.self.invariant.files, c.requires.file)) c.index-length.ensures 0

-- there are blocks up to the place
fits : (c : goal.After-grow-arg-1) → blocks_for c.args.place + c.self.inside.reserved
    ≤ length (blocks_at c.self.inside.chains free_list) + blocks_for (get_or c.self.inside.lengths.items c.args.file 0)
fits c =
    fits_is c.self.inside.store.items c.self.inside.chains c.self.inside.lengths.items c.self.inside.reserved c.self.invariant c.args.file c.requires.file (blocks_for c.args.place) (rw (← c.self.view_is) at c.requires.room)

-- the place is past the end
past : (c : goal.After-grow-arg-1) → get_or c.self.inside.lengths.items c.args.file 0 ≤ c.args.place
past c = omega (arith, length_is c)

pub grow-requires-clause-can : goal.grow-requires-clause-can
grow-requires-clause-can c =
    rw (length_is c)
    (can_grow c.self.inside.store.items c.self.inside.chains c.self.inside.lengths.items c.self.inside.reserved c.self.invariant c.args.file c.requires.file c.args.place (past c) (fits c))

-- how many bytes the file had
length_is_then : (c : goal.After-self-then-length-place-1) → c.index-length.result.now ≡ get_or c.self.inside.lengths.items c.args.file 0
length_is_then c =
    get_or_read c.self.inside.lengths.items c.args.file c.index-length.result.now (omega (arith, c.self.invariant.files, c.requires.file)) c.index-length.ensures 0

-- there are blocks up to the place
fits_then : (c : goal.After-self-then-length-place-1) → blocks_for c.args.place + c.self.inside.reserved
    ≤ length (blocks_at c.self.inside.chains free_list) + blocks_for (get_or c.self.inside.lengths.items c.args.file 0)
fits_then c =
    fits_is c.self.inside.store.items c.self.inside.chains c.self.inside.lengths.items c.self.inside.reserved c.self.invariant c.args.file c.requires.file (blocks_for c.args.place) (rw (← c.self.view_is) at c.requires.room)

-- the place is past the end
past_then : (c : goal.After-self-then-length-place-1) → get_or c.self.inside.lengths.items c.args.file 0 ≤ c.args.place
past_then c = omega (arith, length_is_then c)

zeros : (c : goal.After-self-then-length-place-1) → List ℕ
zeros c = replicate (c.args.place - get_or c.self.inside.lengths.items c.args.file 0) 0

count : (c : goal.After-self-then-length-place-1) → length (zeros c) ≡ c.args.place - get_or c.self.inside.lengths.items c.args.file 0
unfolding zeros
count c = length-replicate {A = ℕ} (c.args.place - get_or c.self.inside.lengths.items c.args.file 0) 0

-- the zero bytes lie behind those of the file
laid : (c : goal.After-self-then-length-place-1) → Laid c.self.inside.store.items c.wipe.new.store (blocks_at c.grow.new.chains c.args.file)
    (get_or c.self.inside.lengths.items c.args.file 0) (zeros c) (length (zeros c))
unfolding zeros
laid c = rw (count c) (rw (c.as_mut_slice.ensures.value, length_is_then c) at c.wipe.ensures.laid)

-- the bytes of the file then
new_bytes : (c : goal.After-self-then-length-place-1) → Rewritten (blocks_in c.self.inside.store.items c.self.inside.chains c.self.inside.lengths.items c.self.inside.reserved) c.args.file
    (overwritten (bytes_of (blocks_in c.self.inside.store.items c.self.inside.chains c.self.inside.lengths.items c.self.inside.reserved) c.args.file) (get_or c.self.inside.lengths.items c.args.file 0) (zeros c))
    c.wipe.new.store c.grow.new.chains (set c.self.inside.lengths.items c.args.file c.args.place)
new_bytes c =
    rewritten c.self.inside.store.items c.self.inside.chains c.self.inside.lengths.items c.self.inside.reserved c.self.invariant c.args.file c.requires.file
    c.wipe.new.store c.grow.new.chains (get_or c.self.inside.lengths.items c.args.file 0) c.args.place
    (blocks_for c.args.place - blocks_for (get_or c.self.inside.lengths.items c.args.file 0)) (zeros c) c.grow.ensures.apart
    (c.wipe.auto.store ∙ ap (λ (l : List ℕ). length l) c.as_mut_slice.ensures.value) refl
    (rw (length_is_then c) at c.grow.ensures.moved) (fits_then c) (omega arith) (omega (arith, count c, past_then c)) (laid c)

pub invariant_of-self : goal.invariant_of-self
invariant_of-self c =
    rw (with_items_is c.self.inside.store c.wipe.new.store (c.wipe.auto.store ∙ c.as_mut_slice.ensures.len)) (new_bytes c).whole

pub returns-then-length-place : goal.returns-then-length-place
unfolding zeros
returns-then-length-place c =
    rw (← c.self.view_is, with_items_is c.self.inside.store c.wipe.new.store (c.wipe.auto.store ∙ c.as_mut_slice.ensures.len))
    ((new_bytes c).state ∙ ap (λ (l : List ℕ). with_file (blocks_in c.self.inside.store.items c.self.inside.chains c.self.inside.lengths.items c.self.inside.reserved) c.args.file l)
    (overwritten-zeros (bytes_of (blocks_in c.self.inside.store.items c.self.inside.chains c.self.inside.lengths.items c.self.inside.reserved) c.args.file) (get_or c.self.inside.lengths.items c.args.file 0) c.args.place
    (sym (file_length c.self.inside.store.items c.self.inside.chains c.self.inside.lengths.items c.self.inside.reserved c.self.invariant c.args.file c.requires.file)) (past_then c)))

pub returns-else-length-place : goal.returns-else-length-place
returns-else-length-place c =
    let length_is = get_or_read c.self.inside.lengths.items c.args.file c.index-length.result.now (omega (arith, c.self.invariant.files, c.requires.file)) c.index-length.ensures 0 in
    let count = file_length c.self.inside.store.items c.self.inside.chains c.self.inside.lengths.items c.self.inside.reserved c.self.invariant c.args.file c.requires.file in
    let within : c.args.place ≤ length (bytes_of c.args.self.now c.args.file) = rw (← c.self.view_is) (omega (arith, length_is, count)) in
    sym (ap (λ (l : List ℕ). with_file c.args.self.now c.args.file l) (overwritten-nothing (bytes_of c.args.self.now c.args.file) c.args.place within)
    ∙ with_file-same c.args.self.now c.args.file)
