-- The index finds the new draft behind the others.
use Rattle.std.proofs.Common.{◌≡◌, List, length, ap, refl, sym, ◌∙◌, arith}
use Rattle.std.specs.Ordering.{nat_cmp}
use Rattle.std.specs.BTreeMap.{get}
use Rattle.osal_report.specs.Draft.{DraftState, newest_place}
use Rattle.osal_report.proofs.Places.{index_push}
use Rattle.osal_report.proofs.drafts.Drafts.begin.Goals as goal

pub returns-clause-index : goal.returns-clause-index
returns-clause-index c =
    let behind : c.len.result ≡ length c.args.self.now.list.items = omega arith in
    let index = index_push (get nat_cmp c.args.self.now.newest) (get nat_cmp c.insert.new.self) c.args.self.now.list.items _ c.args.entry.now.reply.number c.len.result refl behind c.requires.index c.in_ok-insert.ensures.updates.0 in
    λ id. index id ∙ ap (λ drafts. newest_place drafts id) (sym {A = List DraftState} c.in_ok-add.ensures)
