use Rattle.std.proofs.Common.{◌≤◌, [], ◌∷◌, subst, arith}
use Rattle.std.proofs.lemmas.Result.{on_ok_weaker}
use Rattle.block_model.specs.declared.place.Place.{Place}
use Rattle.store_layout.specs.DiskLayout.{DiskLayout}
use Rattle.wal_record.specs.Changes.{RowsDrop}
use Rattle.heap_rows.specs.Heaps.{slots_a_page}
use Rattle.heap_rows.proofs.Drops.{drop_blocks, drop_fits, few_ascend, fewer_found, frees_slots, no_slots, none_free, on_any, some_slots}
use Rattle.heap_rows.proofs.Heaps.{form_found}
use Rattle.heap_rows.proofs.Leaves.{change_leaves, table_leaves}
use Rattle.heap_rows.proofs.dropping.drop_dead.Goals as goal

pub returns-then-is_empty-clause-dropped : goal.returns-then-is_empty-clause-dropped
returns-then-is_empty-clause-dropped g c =
    let none = no_slots c.args.slots.now c.is_empty.result c.is_empty.ensures c.if-is_empty.true in
    on_any c.ready.result (λ tells blocks has. none_free has c.args.block c.args.slots.now none)

pub returns-then-is_empty-clause-slots : goal.returns-then-is_empty-clause-slots
returns-then-is_empty-clause-slots g c = on_any c.ready.result (λ tells blocks has. frees_slots blocks c.args.block c.args.slots.now)

pub returns-then-is_empty-clause-rows : goal.returns-then-is_empty-clause-rows
returns-then-is_empty-clause-rows g c =
    let store = c.args.pages.now in
    on_any c.ready.result (λ tells blocks has. fewer_found c.slots_are_read.ensures.one has c.args.block (slots_a_page store.layout c.args.table) c.args.slots.now c.requires.ascending (c.requires.used tells))

pub write_slots-size-requires-clause-few : goal.write_slots-size-requires-clause-few
write_slots-size-requires-clause-few g c =
    let most : slots_a_page c.args.pages.now.layout c.args.table ≤ 370 = subst (λ (l : DiskLayout). slots_a_page l c.args.table ≤ 370) c.layout-2.ensures c.known.ensures.few in
    let few = few_ascend 0 (slots_a_page c.args.pages.now.layout c.args.table) c.args.slots.now (omega arith) c.requires.ascending in
    omega arith

pub change-requires-clause-fits : goal.change-requires-clause-fits
change-requires-clause-fits g c = λ tells.
    let store = c.args.pages.now in
    let table = c.args.table in
    let some = some_slots c.args.slots.now c.is_empty.result c.is_empty.ensures c.if-is_empty.false in
    let most : slots_a_page store.layout table ≤ 370 = subst (λ (l : DiskLayout). slots_a_page l c.args.table ≤ 370) c.layout-2.ensures c.known.ensures.few in
    drop_fits store.layout store.pages table c.relation_of-relation.result c.args.block c.args.slots.now _ c.relation_of-relation.ensures.number (form_found store.layout table c.requires.table) c.write_slots-size.ensures.bytes (omega arith)
    c.requires.ascending some (c.requires.used tells)

pub returns-clause-dropped : goal.returns-clause-dropped
returns-clause-dropped g c =
    let store = c.args.pages.now in
    let table = c.args.table in
    let some = some_slots c.args.slots.now c.is_empty.result c.is_empty.ensures c.if-is_empty.false in
    let most : slots_a_page store.layout table ≤ 370 = subst (λ (l : DiskLayout). slots_a_page l c.args.table ≤ 370) c.layout-2.ensures c.known.ensures.few in
    let few : slots_a_page store.layout table ≤ 65536 = omega arith in
    on_ok_weaker c.change.result (λ changed tells blocks has.
    drop_blocks c.change.new.self.pages c.slots_are_read.ensures.one has c.relation_of-relation.result c.args.block (slots_a_page store.layout table) c.args.slots.now _ c.relation_of-relation.ensures.number (form_found store.layout table c.requires.table)
    c.write_slots-size.ensures.bytes few c.requires.ascending some (c.requires.used tells) (changed tells)) c.change.ensures.changed

pub returns-clause-slots : goal.returns-clause-slots
returns-clause-slots g c = on_any c.change.result (λ tells blocks has. frees_slots blocks c.args.block c.args.slots.now)

pub returns-clause-rows : goal.returns-clause-rows
returns-clause-rows g c =
    let store = c.args.pages.now in
    on_any c.change.result (λ tells blocks has. fewer_found c.slots_are_read.ensures.one has c.args.block (slots_a_page store.layout c.args.table) c.args.slots.now c.requires.ascending (c.requires.used tells))

pub returns-clause-others : goal.returns-clause-others
returns-clause-others g c =
    let place : Place = record { relation = c.relation_of-relation.result; block = c.args.block } in
    table_leaves g.D.Disk.told c.args.table place c.args.pages.now c.change.new.self c.relation_of-relation.ensures.number
    (change_leaves g.D.Disk.told c.args.pages.now.layout place (RowsDrop place _ ∷ []) c.args.pages.now c.change.new.self c.change.result c.change.ensures.changed c.change.ensures.kept c.change.ensures.leaves)
