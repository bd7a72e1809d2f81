use Rattle.std.proofs.Common.{ap, subst}
use Rattle.page_redo.specs.Changes.{LoggedChange, logged}
use Rattle.page_map.specs.PageFacts.{IsMadeFrom}
use Rattle.page_map.proofs.FactsKept.{mark_facts, put-kind, put-maps, put-room, put_into}
use Rattle.page_map.proofs.facts.facts_after.Goals as goal

pub lowest_after_put-requires-clause-put : goal.lowest_after_put-requires-clause-put
lowest_after_put-requires-clause-put c =
    let made = subst (λ (change : LoggedChange). IsMadeFrom c.args.form.now c.args.old.now change c.args.page.now) (ap logged c.in-RowPut.is) c.requires.made in
    put_into c.slots_are_read.ensures.one c.args.form.now c.in-RowPut.place c.in-RowPut.slot c.in-RowPut.bytes.now c.args.page.now c.args.old.now made

pub returns-in-RowPut : goal.returns-in-RowPut
returns-in-RowPut c =
    let made = subst (λ (change : LoggedChange). IsMadeFrom c.args.form.now c.args.old.now change c.args.page.now) (ap logged c.in-RowPut.is) c.requires.made in
    let kind = put-kind c.args.form.now c.in-RowPut.place c.in-RowPut.slot c.in-RowPut.bytes.now c.args.page.now c.args.old.now made in
    let room = put-room c.args.form.now c.in-RowPut.place c.in-RowPut.slot c.in-RowPut.bytes.now c.args.page.now c.args.old.now made in
    let maps = put-maps c.args.form.now c.in-RowPut.place c.in-RowPut.slot c.in-RowPut.bytes.now c.args.page.now c.args.old.now made in
    λ i. record { kind = kind i; lowest = c.lowest_after_put.ensures i; room = room i; maps = maps i }

pub returns-in-RowMark : goal.returns-in-RowMark
returns-in-RowMark c =
    let made = subst (λ (change : LoggedChange). IsMadeFrom c.args.form.now c.args.old.now change c.args.page.now) (ap logged c.in-RowMark.is) c.requires.made in
    mark_facts c.slots_are_read.ensures.one c.args.form.now c.in-RowMark.place c.in-RowMark.slot c.in-RowMark.deleter c.args.page.now c.args.old.now made
