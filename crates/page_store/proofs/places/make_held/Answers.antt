use Rattle.std.proofs.Common.{◌≡◌, ◌||◌, Bool, true, false, List, length, set, get_or, sym, ap, subst, ◌∙◌, arith, length-append}
use Rattle.std.proofs.lemmas.List.{get_or_read}
use Rattle.wal_record.specs.Changes.{logged}
use Rattle.wal_record.specs.ChangeBytes.{bytes_of}
use Rattle.wal_record.specs.Waiting.{Waiting}
use Rattle.page_store.proofs.HeldSteps.{begun_bytes, makes_held, marked_twice}
use Rattle.page_store.specs.Begun.{MakesHeld}
use Rattle.page_store.specs.Room.{bytes_for, is_anew}
use Rattle.page_store.proofs.places.make_held.Goals as goal

pub returns-in_err-redo_held-clause-few : goal.returns-in_err-redo_held-clause-few
returns-in_err-redo_held-clause-few c =
    let change = logged c.args.change.now in
    let begun : c.index-begun.result.now ≡ get_or c.args.marks.now.items c.args.at.number false = get_or_read c.args.marks.now.items _ _ c.requires.marks c.index-begun.ensures false in
    let size = begun_bytes c.index-begun.result.now change c.args.waiting.now c.begin.new.waiting c.args.at.place c.requires.held.page.content (c.begin.ensures.begun c.requires.held.page c.requires.held.held) (c.begin.ensures.bytes c.requires.held.page c.requires.held.held) in
    omega (arith, size, ap (λ (b : Bool). bytes_for b change) begun)

pub add-requires-clause-room : goal.add-requires-clause-room
add-requires-clause-room c =
    let change = logged c.args.change.now in
    let begun : c.index-begun.result.now ≡ get_or c.args.marks.now.items c.args.at.number false = get_or_read c.args.marks.now.items _ _ c.requires.marks c.index-begun.ensures false in
    let size = begun_bytes c.index-begun.result.now change c.args.waiting.now c.begin.new.waiting c.args.at.place c.requires.held.page.content (c.begin.ensures.begun c.requires.held.page c.requires.held.held) (c.begin.ensures.bytes c.requires.held.page c.requires.held.held) in
    omega (arith, size, ap (λ (b : Bool). bytes_for b change) begun, c.requires.room)

pub returns-clause-made : goal.returns-clause-made
returns-clause-made c =
    let change = logged c.args.change.now in
    let begun : c.index-begun.result.now ≡ get_or c.args.marks.now.items c.args.at.number false = get_or_read c.args.marks.now.items _ _ c.requires.marks c.index-begun.ensures false in
    let marks : set c.begin.new.marks.items c.args.at.number true ≡ set c.args.marks.now.items c.args.at.number true =
    ap (λ (l : List Bool). set l c.args.at.number true) c.begin.ensures.marks ∙ marked_twice (c.index-begun.result.now || is_anew change) c.args.marks.now.items c.args.at.number in
    subst
    (λ (m : List Bool). MakesHeld c.args.form.now c.args.at.place c.args.at.number c.args.at.waits change (record { waiting = c.args.waiting.now; marks = c.args.marks.now.items; pool = c.args.pool.now }) (record { waiting = c.add.new.self; marks = m; pool = c.redo_held.new.pool }))
    (sym marks)
    (makes_held c.args.form.now c.args.at.place c.args.at.number c.args.at.waits change c.args.waiting.now c.begin.new.waiting c.add.new.self c.args.marks.now.items c.args.pool.now c.begin.new.pool c.redo_held.new.pool c.index-begun.result.now begun c.begin.ensures.same c.requires.held
    c.begin.ensures.begun c.begin.ensures.bytes c.begin.ensures.changes c.add.ensures.added c.add.ensures.change c.in_ok-redo_held.ensures.redone)

pub returns-clause-few : goal.returns-clause-few
returns-clause-few c =
    let change = logged c.args.change.now in
    let begun : c.index-begun.result.now ≡ get_or c.args.marks.now.items c.args.at.number false = get_or_read c.args.marks.now.items _ _ c.requires.marks c.index-begun.ensures false in
    let size = begun_bytes c.index-begun.result.now change c.args.waiting.now c.begin.new.waiting c.args.at.place c.requires.held.page.content (c.begin.ensures.begun c.requires.held.page c.requires.held.held) (c.begin.ensures.bytes c.requires.held.page c.requires.held.held) in
    let long = ap (λ (w : Waiting). length w.bytes) c.add.ensures.added in
    omega (arith, size, ap (λ (b : Bool). bytes_for b change) begun, long, length-append c.begin.new.waiting.bytes (bytes_of change))
