use Rattle.std.proofs.Common.{List, ℕ, ◌<◌, length, set, ap, sym, subst, ◌∙◌}
use Rattle.std.specs.Prelude.{None, slice_index}
use Rattle.page_map.specs.PageMap.{PageMap, page_at}
use Rattle.index_contents.specs.IndexPages.{IsRegular}
use Rattle.index_contents.specs.IndexReading.{is_regular, slots_of}
use Rattle.index_contents.specs.IndexWrites.{trimmed}
use Rattle.page_store.specs.SurvivesLaws.{survives_on}
use Rattle.range_store.proofs.Found.{has_tuples, slot_below}
use Rattle.range_store.proofs.PageWrites.{drops_on}
use Rattle.range_store.proofs.dropping.drop_on.Goals as goal

pub drop_tuple-requires-clause-regular : goal.drop_tuple-requires-clause-regular
drop_tuple-requires-clause-regular g c = λ tells_now.
    let kept = c.has_tuple.ensures.kept in
    let tells = sym kept.leaves.tells ∙ tells_now in
    let same = ap (λ (pages : PageMap). page_at pages c.args.place) (kept.pages tells) in
    ap (λ (p : List ℕ). is_regular (slice_index p 0)) same ∙ has_tuples (page_at c.args.pages.now.pages c.args.place) c.args.slot (slot_below (page_at c.args.pages.now.pages c.args.place) c.args.slot (c.in-Ok-true.ensures.there tells c.in-Ok-true.field-0-test))

pub returns-in-Ok-clause-dropped : goal.returns-in-Ok-clause-dropped
returns-in-Ok-clause-dropped g c = λ tells.
    let kept = c.has_tuple.ensures.kept in
    let place = c.args.place in
    let old = page_at c.args.pages.now.pages place in
    let new = page_at c.drop_tuple.new.pages.pages place in
    let same = ap (λ (pages : PageMap). page_at pages place) (kept.pages tells) in
    let used = c.in-Ok-true.ensures.there tells c.in-Ok-true.field-0-test in
    let below = slot_below old c.args.slot used in
    drops_on old new c.args.slot c.an_index_page_has_one_list.ensures.slots c.a_put_changes_one_slot.ensures.trimmed (has_tuples old c.args.slot below) below used
    (subst (λ (p : List ℕ). IsRegular (slice_index p 0) (trimmed (set (slots_of p) c.args.slot None)) new) same (c.in-Ok.ensures.dropped (kept.leaves.tells ∙ tells)))

pub drop_tuple-requires-clause-slot : goal.drop_tuple-requires-clause-slot
drop_tuple-requires-clause-slot g c = λ tells_now.
    let kept = c.has_tuple.ensures.kept in
    let tells = sym kept.leaves.tells ∙ tells_now in
    let old = page_at c.args.pages.now.pages c.args.place in
    subst (λ (p : List ℕ). c.args.slot < length (slots_of p)) (sym (ap (λ (pages : PageMap). page_at pages c.args.place) (kept.pages tells))) (slot_below old c.args.slot (c.in-Ok-true.ensures.there tells c.in-Ok-true.field-0-test))

pub returns-in-Ok-clause-survives : goal.returns-in-Ok-clause-survives
returns-in-Ok-clause-survives g c = survives_on g.D.Disk.told c.args.pages.now c.has_tuple.new.pages c.drop_tuple.new.pages c.has_tuple.ensures.kept c.has_tuple.ensures.survives c.drop_tuple.ensures.survives

pub returns-in-Err-drop_tuple-clause-survives : goal.returns-in-Err-drop_tuple-clause-survives
returns-in-Err-drop_tuple-clause-survives g c = survives_on g.D.Disk.told c.args.pages.now c.has_tuple.new.pages c.drop_tuple.new.pages c.has_tuple.ensures.kept c.has_tuple.ensures.survives c.drop_tuple.ensures.survives
