use Rattle.std.proofs.Common.{arith}
use Rattle.page_map.specs.Forms.{form_of}
use Rattle.page_map.specs.PageMap.{page_at}
use Rattle.heap_rows.proofs.Rooms.{no_row, puts_bytes, start_fits, starts_bytes}
use Rattle.heap_rows.proofs.putting.put_bytes.Goals as goal

pub start_with-requires-clause-fits : goal.start_with-requires-clause-fits
start_with-requires-clause-fits g c = λ tells.
    let store = c.args.pages.now in
    start_fits (form_of store.layout c.args.place.relation) (page_at store.pages c.args.place) c.args.place c.args.bytes.now c.requires.heap c.requires.some c.requires.row

pub returns-in_ok-change-in-Free-clause-put : goal.returns-in_ok-change-in-Free-clause-put
returns-in_ok-change-in-Free-clause-put g c = λ tells.
    let store = c.args.pages.now in
    let room = c.in-Free.ensures.room tells in
    puts_bytes (form_of store.layout c.args.place.relation) (page_at store.pages c.args.place) c.args.place c.args.bytes.now c.in-Free.slot (page_at c.change.new.self.pages c.args.place) room.0 room.1 (c.in_ok-change-in-Free.ensures.changed tells).redone

pub returns-in_ok-start_with-in-NotStarted-clause-put : goal.returns-in_ok-start_with-in-NotStarted-clause-put
returns-in_ok-start_with-in-NotStarted-clause-put g c = λ tells.
    let store = c.args.pages.now in
    starts_bytes (form_of store.layout c.args.place.relation) (page_at store.pages c.args.place) c.args.place c.args.bytes.now (page_at c.start_with.new.self.pages c.args.place) (c.in-NotStarted.ensures.room tells) c.requires.some
    (c.in_ok-start_with-in-NotStarted.ensures.changed tells).redone

pub returns-in-Full-clause-outcome : goal.returns-in-Full-clause-outcome
returns-in-Full-clause-outcome g c =
    let store = c.args.pages.now in (
      c.requires.ready,
      c.requires.ready,
      omega arith,
      λ tells. let room = c.in-Full.ensures.room tells in no_row (form_of store.layout c.args.place.relation) (page_at store.pages c.args.place) (c.requires.room tells) room.0 room.1,
    )
