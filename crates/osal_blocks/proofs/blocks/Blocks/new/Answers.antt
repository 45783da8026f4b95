use Rattle.std.proofs.Common.{◌≡◌, ◌*◌, ℕ, List, length, replicate, ap, ◌∙◌, rules}
use Rattle.std.proofs.lemmas.List.{length-replicate}
use Rattle.osal_blocks.proofs.Whole.{whole-opened, empty-opened, zeros_are}
use Rattle.osal_blocks.proofs.blocks.Blocks.new.Goals as goal

store_is : (c : goal.In_ok-lengths) → c.in_ok-store.store.items ≡ replicate (c.args.total * 512) 0
store_is c = c.in_ok-store.ensures.items_if_clones_equal (λ y same. search rules)

lengths_are : (c : goal.In_ok-lengths) → c.in_ok-lengths.lengths.items ≡ replicate 256 0
lengths_are c = c.in_ok-lengths.ensures.items_if_clones_equal (λ y same. search rules)

pub invariant_of-result : goal.invariant_of-result
invariant_of-result c =
    whole-opened c.in_ok-store.store.items c.in_ok-chains.chains c.in_ok-lengths.lengths.items c.args.total c.requires.some c.requires.few
    (ap (λ (l : List ℕ). length l) (store_is c) ∙ length-replicate {A = ℕ} (c.args.total * 512) 0)
    c.in_ok-chains.ensures.total c.in_ok-chains.ensures.files c.in_ok-chains.ensures.free
    (ap (λ (l : List ℕ). length l) (lengths_are c) ∙ length-replicate {A = ℕ} 256 0)
    (zeros_are c.in_ok-lengths.lengths.items 256 (lengths_are c))

pub returns : goal.returns
returns c =
    empty-opened c.in_ok-store.store.items c.in_ok-chains.chains c.in_ok-lengths.lengths.items c.args.total c.requires.some c.requires.few
    (ap (λ (l : List ℕ). length l) (store_is c) ∙ length-replicate {A = ℕ} (c.args.total * 512) 0)
    c.in_ok-chains.ensures.total c.in_ok-chains.ensures.files c.in_ok-chains.ensures.free
    (ap (λ (l : List ℕ). length l) (lengths_are c) ∙ length-replicate {A = ℕ} 256 0)
    (zeros_are c.in_ok-lengths.lengths.items 256 (lengths_are c))
