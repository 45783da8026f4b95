-- The place that the index finds is that of the newest draft.
use Rattle.std.proofs.Common.{ap, sym, ◌∙◌, arith}
use Rattle.osal_report.specs.Draft.{newest_place}
use Rattle.osal_report.proofs.Places.{place_within, counted_at, joined_at, index_joined}
use Rattle.osal_report.proofs.drafts.Drafts.join.Goals as goal

pub index_mut-draft-requires : goal.index_mut-draft-requires
index_mut-draft-requires c =
    let within = place_within c.args.self.now.list.items c.args.entry.now.task c.in-Some.place (sym c.place_of.ensures ∙ c.in-Some.is) in
    omega arith

pub note-requires : goal.note-requires
note-requires c =
    let within = place_within c.args.self.now.list.items c.args.entry.now.task c.in-Some.place (sym c.place_of.ensures ∙ c.in-Some.is) in
    counted_at c.args.self.now.list.items c.in-Some.place c.index_mut-draft.result.now c.requires.counted within c.index_mut-draft.ensures.value

pub returns-clause-joined : goal.returns-clause-joined
returns-clause-joined c =
    joined_at c.args.self.now.list.items c.in-Some.place c.args.entry.now c.index_mut-draft.result.now c.note.new.self (sym c.place_of.ensures ∙ c.in-Some.is) c.index_mut-draft.ensures.value c.in_ok-note.ensures

pub returns-clause-index : goal.returns-clause-index
returns-clause-index c =
    let joined = joined_at c.args.self.now.list.items c.in-Some.place c.args.entry.now c.index_mut-draft.result.now c.note.new.self (sym c.place_of.ensures ∙ c.in-Some.is) c.index_mut-draft.ensures.value c.in_ok-note.ensures in
    λ id. index_joined _ c.args.self.now.list.items c.args.entry.now c.requires.index id ∙ ap (λ drafts. newest_place drafts id) (sym joined)
