use Rattle.std.proofs.Common.{◌≡◌, ◌+◌, ◌-◌, ◌*◌, ◌%◌, replicate, ℕ, List, length, get_or, take, drop, ap, sym, ◌∙◌, arith, rules}
use Rattle.std.proofs.lemmas.List.{get_or-replicate}
use Rattle.std.proofs.lemmas.List.Edits.{length-between}
use Rattle.osal_blocks.proofs.Laid.{part_laid, part_after, part_within}
use Rattle.osal_blocks.proofs.bytes.wipe.Goals as goal

pub overflow_add-start : goal.overflow_add-start
overflow_add-start c = let short = c.at-block.ensures.apart.short c.args.list in omega arith

pub overflow_add-place : goal.overflow_add-place
overflow_add-place c = let short = c.at-block.ensures.apart.short c.args.list in omega arith

pub loop-done-preserved : goal.loop-done-preserved
loop-done-preserved c =
    let here = c.loop-done.invariant.block c.loop-done-test.true in
    let start = c.loop-done.block * 512 + (c.args.place + c.loop-done.done) % 512 in
    let part = take (start + c.on_one_block-part.result - start) (drop start c.loop-done.store) in
    let within = part_within c.args.chains.now c.args.list c.args.place c.loop-done.done c.args.count c.loop-done.block
    c.on_one_block-part.result c.at-block.ensures.apart c.requires.room c.loop-done-test.true here c.on_one_block-part.ensures
    c.loop-done.store (omega arith) in
    let size : length part ≡ c.on_one_block-part.result =
    length-between c.loop-done.store start (start + c.on_one_block-part.result) within ∙ omega arith in
    let all : length c.fill.new.self ≡ c.on_one_block-part.result = c.fill.ensures.len ∙ size in
    let wiped : c.fill.new.self ≡ replicate (length part) 0 = c.fill.ensures.after (λ y same. search rules) in
    record {
      most = omega arith;
      block = part_after c.args.chains.now c.args.list c.args.place c.loop-done.done c.args.count c.loop-done.block
          c.on_one_block-part.result c.at-block.ensures.apart c.requires.room c.loop-done-test.true here c.on_one_block-part.ensures
          c.after-block.result c.after-block.ensures;
      laid = part_laid c.args.chains.now c.args.list c.args.place c.loop-done.done c.args.count c.loop-done.block
          c.on_one_block-part.result c.at-block.ensures.apart c.requires.room c.loop-done-test.true here c.on_one_block-part.ensures
          c.args.store.now c.loop-done.store c.fill.new.self (replicate c.args.count 0) (omega arith)
          all
          (λ j below. ap (λ (l : List ℕ). get_or l j 0) wiped ∙ (get_or-replicate (length part) j 0 0 (omega arith) ∙ sym (get_or-replicate c.args.count (c.loop-done.done + j) 0 0 (omega arith))))
          c.loop-done.invariant.laid;
    }
