use Rattle.std.proofs.Common.{◌≡◌, ◌≤◌, ◌+◌, ◌-◌, ℕ, List, max, length, get_or, set, ap, ◌∙◌, refl, arith}
use Rattle.std.proofs.lemmas.List.{get_or_read, with_items_is}
use Rattle.osal_blocks.specs.Blocks.{blocks_for, bytes_of, overwritten}
use Rattle.osal_blocks.specs.Chains.{blocks_at, free_list}
use Rattle.osal_blocks.specs.Sound.{blocks_in}
use Rattle.osal_blocks.proofs.Whole.{Rewritten, rewritten, can_grow, fits_is, longer_fits, file_length}
use Rattle.osal_blocks.proofs.blocks.Blocks.put.Goals as goal

-- how many bytes the file had
length_is : (c : goal.After-grow-arg-1) → c.index-length.result.now ≡ get_or c.self.inside.lengths.items c.args.file 0
length_is c =
    get_or_read c.self.inside.lengths.items c.args.file c.index-length.result.now (omega (arith, c.self.invariant.files, c.requires.file)) c.index-length.ensures 0

-- it grows to the end of the piece, or not at all
long : (c : goal.After-grow-arg-1) → c.max-longer.result ≡ max (get_or c.self.inside.lengths.items c.args.file 0) (c.args.place + length c.args.piece.now)
long c = rw (← length_is c) c.max-longer.ensures

-- there are blocks for it
fits : (c : goal.After-grow-arg-1) → blocks_for c.max-longer.result + c.self.inside.reserved
    ≤ length (blocks_at c.self.inside.chains free_list) + blocks_for (get_or c.self.inside.lengths.items c.args.file 0)
fits c =
    longer_fits (get_or c.self.inside.lengths.items c.args.file 0) c.max-longer.result (c.args.place + length c.args.piece.now)
    (length (blocks_at c.self.inside.chains free_list)) c.self.inside.reserved c.self.invariant.spare (long c)
    (fits_is c.self.inside.store.items c.self.inside.chains c.self.inside.lengths.items c.self.inside.reserved c.self.invariant c.args.file c.requires.file (blocks_for (c.args.place + length c.args.piece.now)) (rw (← c.self.view_is) at c.requires.room))

pub grow-requires : goal.grow-requires
grow-requires c = record {
  file = c.requires.file;
  can = rw (length_is c)
      (can_grow c.self.inside.store.items c.self.inside.chains c.self.inside.lengths.items c.self.inside.reserved c.self.invariant c.args.file c.requires.file c.max-longer.result (omega (arith, long c)) (fits c));
}

-- how many bytes the file had
length_is_then : (c : goal.After-self-2-1) → c.index-length.result.now ≡ get_or c.self.inside.lengths.items c.args.file 0
length_is_then c =
    get_or_read c.self.inside.lengths.items c.args.file c.index-length.result.now (omega (arith, c.self.invariant.files, c.requires.file)) c.index-length.ensures 0

-- it grows to the end of the piece, or not at all
long_then : (c : goal.After-self-2-1) → c.max-longer.result ≡ max (get_or c.self.inside.lengths.items c.args.file 0) (c.args.place + length c.args.piece.now)
long_then c = rw (← length_is_then c) c.max-longer.ensures

-- there are blocks for it
fits_then : (c : goal.After-self-2-1) → blocks_for c.max-longer.result + c.self.inside.reserved
    ≤ length (blocks_at c.self.inside.chains free_list) + blocks_for (get_or c.self.inside.lengths.items c.args.file 0)
fits_then c =
    longer_fits (get_or c.self.inside.lengths.items c.args.file 0) c.max-longer.result (c.args.place + length c.args.piece.now)
    (length (blocks_at c.self.inside.chains free_list)) c.self.inside.reserved c.self.invariant.spare (long_then c)
    (fits_is c.self.inside.store.items c.self.inside.chains c.self.inside.lengths.items c.self.inside.reserved c.self.invariant c.args.file c.requires.file (blocks_for (c.args.place + length c.args.piece.now)) (rw (← c.self.view_is) at c.requires.room))

-- the place is none past the end
within : (c : goal.After-self-2-1) → c.args.place ≤ get_or c.self.inside.lengths.items c.args.file 0
within c =
    rw (← file_length c.self.inside.store.items c.self.inside.chains c.self.inside.lengths.items c.self.inside.reserved c.self.invariant c.args.file c.requires.file) (rw (← c.self.view_is) at c.requires.place)

-- the bytes of the file then
new_bytes : (c : goal.After-self-2-1) → Rewritten (blocks_in c.self.inside.store.items c.self.inside.chains c.self.inside.lengths.items c.self.inside.reserved) c.args.file
    (overwritten (bytes_of (blocks_in c.self.inside.store.items c.self.inside.chains c.self.inside.lengths.items c.self.inside.reserved) c.args.file) c.args.place c.args.piece.now)
    c.lay.new.store c.grow.new.chains (set c.self.inside.lengths.items c.args.file c.max-longer.result)
new_bytes c =
    rewritten c.self.inside.store.items c.self.inside.chains c.self.inside.lengths.items c.self.inside.reserved c.self.invariant c.args.file c.requires.file
    c.lay.new.store c.grow.new.chains c.args.place c.max-longer.result
    (blocks_for c.max-longer.result - blocks_for (get_or c.self.inside.lengths.items c.args.file 0)) c.args.piece.now c.grow.ensures.apart
    (c.lay.auto.store ∙ ap (λ (l : List ℕ). length l) c.as_mut_slice.ensures.value) refl
    (rw (length_is_then c) at c.grow.ensures.moved) (fits_then c) (within c) (long_then c)
    (rw c.as_mut_slice.ensures.value at c.lay.ensures.laid)

pub invariant_of-self : goal.invariant_of-self
invariant_of-self c =
    rw (with_items_is c.self.inside.store c.lay.new.store (c.lay.auto.store ∙ c.as_mut_slice.ensures.len)) (new_bytes c).whole

pub returns : goal.returns
returns c =
    rw (← c.self.view_is, with_items_is c.self.inside.store c.lay.new.store (c.lay.auto.store ∙ c.as_mut_slice.ensures.len)) (new_bytes c).state
