use Rattle.std.proofs.Common.{◌≡◌, ◌+◌, true, nat_le, nat_lt, length, Some, sym, ap, subst, ◌∙◌, arith}
use Rattle.std.proofs.lemmas.Bool.Decides.{nat_tests}
use Rattle.osal_tree.specs.Nodes as tree
use Rattle.osal_blocks.specs.Blocks.{blocks_for, blocks_of, bytes_of}
use Rattle.osal_volume.specs.Volume.{Bytes, content_at, is_directory, with_node}
use Rattle.osal_volume.specs.Copies.{is_overfull}
use Rattle.osal_volume.proofs.Rooms.{directory_seen, none_at, overfull_file, overfull_nodes, overfull_new}
use Rattle.osal_volume.proofs.volume.Volume.is_overfull_with.Goals as goal

pub returns-in-Some-File : goal.returns-in-Some-File
returns-in-Some-File c = λ bytes size wide.
    let own : c.blocks_for-in-Some-File.result ≡ blocks_of (bytes_of c.self.inside.blocks c.in-Some-File.number) =
    c.blocks_for-in-Some-File.ensures ∙ ap blocks_for (c.length-own.ensures ∙ ap (λ n. length (bytes_of c.self.inside.blocks n)) c.from.ensures) in
    let more : c.blocks_for.result ≡ blocks_of bytes = c.blocks_for.ensures ∙ ap blocks_for size in
    subst (λ s. nat_lt (c.free.result + c.blocks_for-in-Some-File.result) c.blocks_for.result ≡ is_overfull (with_node s c.args.at.now (Bytes bytes))) c.self.view_is
    ((λ i. nat_lt (c.free.ensures.value i + own i) (more i))
    ∙ overfull_file c.self.inside.tree c.self.inside.blocks c.args.at.now c.self.invariant c.kind.ensures.tree bytes c.free.ensures.sound c.in-Some-File.number (sym c.in-Some-File.ensures.value ∙ ap Some c.in-Some-File.field-0-is))

pub returns-in-Some-Directory : goal.returns-in-Some-Directory
returns-in-Some-Directory c = λ bytes size wide.
    let stands = ap tree.is_directory (sym c.in-Some-Directory.ensures.value ∙ ap Some c.in-Some-Directory.field-0-is) in
    let seen = directory_seen c.self.inside.tree c.self.inside.blocks c.args.at.now ∙ ap (λ s. is_directory (content_at s c.args.at.now)) c.self.view_is in
    let clash = sym stands ∙ seen ∙ wide in absurd cc

pub returns-then-count-ge256 : goal.returns-then-count-ge256
returns-then-count-ge256 c = λ bytes size wide.
    let most = c.if-count-ge256.true in
    let same = c.count.ensures.value in
    let full : nat_le 256 c.count.result ≡ true = grind (arith, nat_tests) in
    subst (λ s. nat_le 256 c.count.result ≡ is_overfull (with_node s c.args.at.now (Bytes bytes))) c.self.view_is
    (full ∙ overfull_nodes c.self.inside.tree c.self.inside.blocks c.args.at.now c.self.invariant c.kind.ensures.tree bytes (none_at c.self.inside.tree c.args.at.now (sym c.in-None.ensures.value)) (omega arith))

pub returns-else-count-ge256 : goal.returns-else-count-ge256
returns-else-count-ge256 c = λ bytes size wide.
    let most = c.if-count-ge256.false in
    let same = c.count.ensures.value in
    let more : c.blocks_for-else-count-ge256.result ≡ blocks_of bytes = c.blocks_for-else-count-ge256.ensures ∙ ap blocks_for size in
    subst (λ s. nat_lt c.free-else-count-ge256.result c.blocks_for-else-count-ge256.result ≡ is_overfull (with_node s c.args.at.now (Bytes bytes))) c.self.view_is
    ((λ i. nat_lt (c.free-else-count-ge256.ensures.value i) (more i))
    ∙ overfull_new c.self.inside.tree c.self.inside.blocks c.args.at.now c.self.invariant c.kind.ensures.tree bytes (none_at c.self.inside.tree c.args.at.now (sym c.in-None.ensures.value)) c.free-else-count-ge256.ensures.sound (omega arith))
