use Rattle.std.proofs.Common.{ℕ, [], ◌∷◌, sym, subst}
use Rattle.std.specs.Prelude.{Some}
use Rattle.std.proofs.lemmas.Result.{on_ok_weaker}
use Rattle.block_model.specs.declared.place.Place.{Place}
use Rattle.page_layout.specs.declared.page.Form.{Form}
use Rattle.page_layout.specs.PageWrites.{marked}
use Rattle.page_map.specs.Redo.{IsUsedSlot}
use Rattle.page_map.specs.Forms.{form_of}
use Rattle.page_map.specs.PageMap.{block_at}
use Rattle.wal_record.specs.Changes.{RowMark}
use Rattle.heap_rows.specs.Heaps.{relation_of}
use Rattle.heap_rows.proofs.Heaps.{form_found}
use Rattle.heap_rows.proofs.TableBlocks.{is_used}
use Rattle.heap_rows.proofs.Leaves.{change_leaves, mark_blocks, table_leaves}
use Rattle.heap_rows.proofs.Spots.{mark_slot}
use Rattle.heap_rows.proofs.marking.mark.Goals as goal

pub change-requires-clause-fits : goal.change-requires-clause-fits
change-requires-clause-fits g c = λ tells.
    let store = c.args.pages.now in
    let table = c.args.table in
    let spot = c.args.spot in
    let used = is_used {layout = store.layout} {table = table} {pages = store.pages} spot (c.requires.used tells) in
    subst (λ (r : ℕ). IsUsedSlot (form_of store.layout r) (block_at store.pages r spot.block) spot.slot) (sym c.relation_of-relation.ensures.number)
    (subst (λ (form : Form). IsUsedSlot form (block_at store.pages (relation_of table) spot.block) spot.slot) (sym (form_found store.layout table c.requires.table)) used)

pub returns-clause-marked : goal.returns-clause-marked
returns-clause-marked g c =
    let store = c.args.pages.now in
    on_ok_weaker c.change.result (λ changed tells blocks has row at.
    mark_blocks c.change.new.self.pages has c.relation_of-relation.result c.args.deleter c.args.spot row c.relation_of-relation.ensures.number (form_found store.layout c.args.table c.requires.table) at (changed tells)) c.change.ensures.changed

pub returns-clause-slots : goal.returns-clause-slots
returns-clause-slots g c =
    on_ok_weaker c.change.result (λ changed tells blocks has row at. mark_slot blocks c.args.spot row (Some (marked row c.args.deleter)) at) c.change.ensures.changed

pub returns-clause-others : goal.returns-clause-others
returns-clause-others g c =
    let place : Place = record { relation = c.relation_of-relation.result; block = c.args.spot.block } in
    table_leaves g.D.Disk.told c.args.table place c.args.pages.now c.change.new.self c.relation_of-relation.ensures.number
    (change_leaves g.D.Disk.told c.args.pages.now.layout place (RowMark place c.args.spot.slot c.args.deleter ∷ []) c.args.pages.now c.change.new.self c.change.result c.change.ensures.changed c.change.ensures.kept c.change.ensures.leaves)
