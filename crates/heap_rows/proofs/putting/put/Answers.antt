use Rattle.block_model.specs.declared.place.Place.{Place}
use Rattle.page_map.specs.Forms.{form_of}
use Rattle.heap_rows.specs.RowPlaces.{new_row}
use Rattle.heap_rows.proofs.Leaves.{table_leaves}
use Rattle.heap_rows.proofs.Puts.{blocks_found, bytes_of, found_of, full_found, not_full_found, place_found, slots-found}
use Rattle.heap_rows.proofs.putting.put.Goals as goal

pub returns-in_default-clause-full : goal.returns-in_default-clause-full
returns-in_default-clause-full g c = λ says tells blocks has.
    let store = c.args.pages.now in
    let found = found_of store.layout c.layout-2.result.now c.args.table c.relation_of-relation.result c.layout-2.ensures c.requires.table c.relation_of-relation.ensures.number c.known.ensures.some c.slots_are_read.ensures.one in
    full_found found has (c.in_default.ensures.room tells)

pub returns-in-Ok-put_bytes-clause-place : goal.returns-in-Ok-put_bytes-clause-place
returns-in-Ok-put_bytes-clause-place g c = λ tells blocks has.
    let store = c.args.pages.now in
    let found = found_of store.layout c.layout-2.result.now c.args.table c.relation_of-relation.result c.layout-2.ensures c.requires.table c.relation_of-relation.ensures.number c.known.ensures.some c.slots_are_read.ensures.one in
    let row = new_row c.args.id c.args.values.now in
    let bytes = bytes_of c.form.result (form_of store.layout c.relation_of-relation.result) _ row c.form.ensures.form c.write_new-size.ensures.row in
    place_found found has c.put_bytes.new.pages.pages c.in-Some.block c.in-Ok-put_bytes.slot row (c.in-Some.ensures.room tells) (c.in-Ok-put_bytes.ensures.put tells row bytes)

pub returns-in-Ok-put_bytes-clause-put : goal.returns-in-Ok-put_bytes-clause-put
returns-in-Ok-put_bytes-clause-put g c = λ tells blocks has.
    let store = c.args.pages.now in
    let found = found_of store.layout c.layout-2.result.now c.args.table c.relation_of-relation.result c.layout-2.ensures c.requires.table c.relation_of-relation.ensures.number c.known.ensures.some c.slots_are_read.ensures.one in
    let row = new_row c.args.id c.args.values.now in
    let bytes = bytes_of c.form.result (form_of store.layout c.relation_of-relation.result) _ row c.form.ensures.form c.write_new-size.ensures.row in
    blocks_found g.D.Disk.told store c.put_bytes.new.pages found has c.in-Some.block c.in-Ok-put_bytes.slot row tells (c.in-Some.ensures.room tells) c.put_bytes.ensures.others (c.in-Ok-put_bytes.ensures.put tells row bytes)

pub returns-in-Ok-put_bytes-clause-slots : goal.returns-in-Ok-put_bytes-clause-slots
returns-in-Ok-put_bytes-clause-slots g c = λ tells blocks has.
    let store = c.args.pages.now in
    let found = found_of store.layout c.layout-2.result.now c.args.table c.relation_of-relation.result c.layout-2.ensures c.requires.table c.relation_of-relation.ensures.number c.known.ensures.some c.slots_are_read.ensures.one in
    let row = new_row c.args.id c.args.values.now in
    let bytes = bytes_of c.form.result (form_of store.layout c.relation_of-relation.result) _ row c.form.ensures.form c.write_new-size.ensures.row in
    slots-found found has c.put_bytes.new.pages.pages c.in-Some.block c.in-Ok-put_bytes.slot row (c.in-Some.ensures.room tells) (c.in-Ok-put_bytes.ensures.put tells row bytes)

pub returns-in-Ok-put_bytes-clause-room : goal.returns-in-Ok-put_bytes-clause-room
returns-in-Ok-put_bytes-clause-room g c = λ tells blocks has.
    let store = c.args.pages.now in
    let found = found_of store.layout c.layout-2.result.now c.args.table c.relation_of-relation.result c.layout-2.ensures c.requires.table c.relation_of-relation.ensures.number c.known.ensures.some c.slots_are_read.ensures.one in
    not_full_found found has c.in-Some.block (c.in-Some.ensures.room tells)

pub returns-in-Ok-put_bytes-clause-others : goal.returns-in-Ok-put_bytes-clause-others
returns-in-Ok-put_bytes-clause-others g c =
    let place : Place = record { relation = c.relation_of-relation.result; block = c.in-Some.block } in
    table_leaves g.D.Disk.told c.args.table place c.args.pages.now c.put_bytes.new.pages c.relation_of-relation.ensures.number c.put_bytes.ensures.others
