use Rattle.std.proofs.Common.{◌≡◌, ◌||◌, Bool, false, sym, ap, ◌∙◌, length, arith}
use Rattle.wal_record.specs.Changes.{logged}
use Rattle.wal_record.specs.ChangeBytes.{bytes_of}
use Rattle.page_store.proofs.MakeSteps.{full_length}
use Rattle.page_store.specs.Room.{bytes_for, bytes_with, is_anew}
use Rattle.page_store.proofs.places.begin.Goals as goal

pub add-requires-clause-room : goal.add-requires-clause-room
add-requires-clause-room c =
    let change = logged c.args.change.now in
    let begun : c.args.begun ≡ false = c.if-begun.false in
    let anew : is_anew change ≡ false = sym c.is_anew.ensures ∙ c.if-is_anew.false in
    let need = ap (λ (b : Bool). bytes_for b change) begun ∙ ap (λ (b : Bool). bytes_with (false || b) (length (bytes_of change))) anew in
    omega (arith, c.requires.room, need, full_length c.args.at.place c.as_bytes-bytes.result.now c.as_bytes-bytes.ensures.whole)
