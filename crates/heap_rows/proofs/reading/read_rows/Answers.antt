use Rattle.std.proofs.Common.{◌≡◌, ◌<◌, ◌∙◌, List, [], ◌∷◌, ◌++◌, length, ap, sym, arith, length-append}
use Rattle.page_layout.specs.PageContents.{Slot, HasSlots}
use Rattle.page_layout.specs.SlotLaws.{free_read, free_slot, length-has}
use Rattle.heap_rows.specs.StoredRows.{RowsInRoom, stored_from}
use Rattle.heap_rows.proofs.SlotRows.{read_row, stored-add, stored-skip}
use Rattle.heap_rows.proofs.reading.read_rows.Goals as goal
use Rattle.heap_rows.proofs.reading.read_rows.Goals.{in-Some, in_default}

pub loop-slot-init : goal.loop-slot-init
unfolding stored_from
loop-slot-init c =
    let rows : c.clear.new.self.rows ≡ [] = ap (λ (r : RowsInRoom). r.rows) c.clear.ensures in
    record {
      few = omega (arith, ap length rows);
      room = ap (λ (r : RowsInRoom). r.room) c.clear.ensures;
      contents = λ slots has. rows;
      unstarted = λ zeros. rows;
    }

pub loop-slot-preserved : goal.loop-slot-preserved
loop-slot-preserved c =
    let form = c.args.form in
    let page = c.args.page.now in
    let n = c.loop-slot.slot in
    let so_far = c.loop-slot.invariant in
    let below : (slots : List Slot) → HasSlots form page slots → n < length slots = λ slots has. omega (arith, length-has form page slots has, c.slot_count-slot-end.ensures) in
    elim c.match-row_at.branch [
      | in-Some w ↦
          let all : c.match-row_at.out.rows ≡ c.loop-slot.out.rows ++ w.stored.result ∷ [] = ap (λ (r : RowsInRoom). r.rows) (w.out-is ∙ w.push.ensures) in
          record {
            few = omega (arith, so_far.few, ap length all, length-append c.loop-slot.out.rows (w.stored.result ∷ []));
            room = ap (λ (r : RowsInRoom). r.room) (w.out-is ∙ w.push.ensures) ∙ so_far.room;
            contents = λ slots has.
                let row = read_row form page slots n _ has (w.in-Some.ensures.contents slots has) in
                all ∙ (λ i. so_far.contents slots has i ++ w.stored.ensures row.0 row.2 i ∷ []) ∙ sym (stored-add slots n row.0 (below slots has) row.1);
            unstarted = λ zeros. let none = w.in-Some.ensures.unstarted zeros in absurd cc;
          }
      | in_default w ↦ record {
        few = omega (arith, so_far.few, ap (λ (r : RowsInRoom). length r.rows) w.out-is);
        room = ap (λ (r : RowsInRoom). r.room) w.out-is ∙ so_far.room;
        contents = λ slots has.
            let free = free_slot _ (free_read form page slots n has (w.in_default.ensures.contents slots has)) in
            ap (λ (r : RowsInRoom). r.rows) w.out-is ∙ so_far.contents slots has ∙ sym (stored-skip slots n (below slots has) free);
        unstarted = λ zeros. ap (λ (r : RowsInRoom). r.rows) w.out-is ∙ so_far.unstarted zeros;
      }
    ]
