use Rattle.std.proofs.Common.{length, ap, sym, ◌∙◌}
use Rattle.page_map.specs.PageMap.{PageMap, page_at}
use Rattle.page_store.specs.SurvivesLaws.{survives_on}
use Rattle.range_store.proofs.Onward.{closed_takes_none, new_page_is, puts_after}
use Rattle.range_store.proofs.PageWrites.{starts_on}
use Rattle.range_store.proofs.putting.put_on.Goals as goal

pub returns-in-Ok-clause-put : goal.returns-in-Ok-clause-put
returns-in-Ok-clause-put g c = λ tells.
    let kept = c.opening_at.ensures.kept in
    let place = c.args.place in
    puts_after (page_at c.args.pages.now.pages place) (page_at c.opening_at.new.pages.pages place) (page_at c.put_tuple.new.pages.pages place) c.in-Ok-Slot.slot c.args.bytes.now c.an_index_page_has_one_list.ensures.slots
    c.the_lowest_free_slot_has_room.ensures.free c.the_lowest_free_slot_has_room.ensures.lowest c.the_lowest_free_slot_has_room.ensures.within c.a_put_changes_one_slot.ensures.put c.a_put_changes_one_slot.ensures.others
    (ap (λ (pages : PageMap). page_at pages place) (kept.pages tells)) (sym c.in-Ok-Slot.field-0-is ∙ c.in-Ok-Slot.ensures.opening tells) (c.in-Ok.ensures.put (kept.leaves.tells ∙ tells))

pub returns-in-Ok-start_with-clause-put : goal.returns-in-Ok-start_with-clause-put
returns-in-Ok-start_with-clause-put g c = λ tells.
    let kept = c.opening_at.ensures.kept in
    let place = c.args.place in
    let old = page_at c.args.pages.now.pages place in
    starts_on old (page_at c.start_with.new.pages.pages place) c.args.bytes.now c.an_index_page_has_one_list.ensures.slots (new_page_is old (sym c.in-Ok-NewPage.field-0-is ∙ c.in-Ok-NewPage.ensures.opening tells)) (c.in-Ok-start_with.ensures.put (kept.leaves.tells ∙ tells))

pub returns-in-Ok-Closed-clause-outcome : goal.returns-in-Ok-Closed-clause-outcome
returns-in-Ok-Closed-clause-outcome g c =
    let store = c.args.pages.now in
    let was = c.in-Ok-Closed.ensures.outcome in
    (was.0, was.1, was.2, λ tells. closed_takes_none (page_at store.pages c.args.place) (length c.args.bytes.now) (sym c.in-Ok-Closed.field-0-is ∙ c.in-Ok-Closed.ensures.opening tells) (c.requires.room tells))

pub returns-in-Ok-clause-survives : goal.returns-in-Ok-clause-survives
returns-in-Ok-clause-survives g c = survives_on g.D.Disk.told c.args.pages.now c.opening_at.new.pages c.put_tuple.new.pages c.opening_at.ensures.kept c.opening_at.ensures.survives c.put_tuple.ensures.survives

pub returns-in-Err-put_tuple-clause-survives : goal.returns-in-Err-put_tuple-clause-survives
returns-in-Err-put_tuple-clause-survives g c = survives_on g.D.Disk.told c.args.pages.now c.opening_at.new.pages c.put_tuple.new.pages c.opening_at.ensures.kept c.opening_at.ensures.survives c.put_tuple.ensures.survives

pub returns-in-Ok-start_with-clause-survives : goal.returns-in-Ok-start_with-clause-survives
returns-in-Ok-start_with-clause-survives g c = survives_on g.D.Disk.told c.args.pages.now c.opening_at.new.pages c.start_with.new.pages c.opening_at.ensures.kept c.opening_at.ensures.survives c.start_with.ensures.survives

pub returns-in-Err-start_with-clause-survives : goal.returns-in-Err-start_with-clause-survives
returns-in-Err-start_with-clause-survives g c = survives_on g.D.Disk.told c.args.pages.now c.opening_at.new.pages c.start_with.new.pages c.opening_at.ensures.kept c.opening_at.ensures.survives c.start_with.ensures.survives
