use Rattle.std.proofs.Common.{◌≡◌, ◌≤◌, ℕ, ◌+◌, ◌*◌, ◌++◌, length, take, drop, sym, ap, ◌∙◌, arith}
use Rattle.std.proofs.lemmas.List.{length-append, length-drop, take_rest}
use Rattle.std.proofs.lemmas.List.Sums.{sum_by-take-drop}
use Rattle.std.specs.Int.{bytes_high_first}
use Rattle.range_tuple.specs.TupleBytes.{length_bytes, summaries_bytes, summary_bytes}
use Rattle.range_tuple.specs.Tuples.{column_room}
use Rattle.range_tuple.proofs.ByPlace.{heads_fit}
use Rattle.range_tuple.proofs.ColumnBytes.{put_more}
use Rattle.range_tuple.proofs.EachColumn.{flat_push, more_room, written_more}
use Rattle.range_tuple.proofs.columns.write_summaries.Goals as goal

pub write_summary-size-requires : goal.write_summary-size-requires
write_summary-size-requires c =
    let columns = c.args.columns.now in
    let i = c.columns.i in
    let x = c.index-columns-i.result in
    let more = more_room columns i x c.columns-test.true c.index-columns-i.is in
    let parts = sum_by-take-drop column_room columns (i + 1) in
    let rest = heads_fit (drop (i + 1) columns) in
    omega (arith, more, parts, rest, length-drop (i + 1) columns, c.columns.invariant.within, c.requires.room, c.columns.auto.summaries, ap length (take_rest c.columns.summaries c.columns.at), length-drop c.columns.at c.columns.summaries)

pub columns-preserved : goal.columns-preserved
unfolding length_bytes
columns-preserved c =
    let columns = c.args.columns.now in
    let i = c.columns.i in
    let x = c.index-columns-i.result in
    let r = c.write_summary-size.result in
    let before = c.columns.invariant in
    let front = summaries_bytes (take i columns) in
    let more = flat_push summary_bytes columns i x c.columns-test.true c.index-columns-i.is in
    let lengths = flat_push length_bytes columns i x c.columns-test.true c.index-columns-i.is in
    let twice : 2 * (i + 1) ≡ 2 * i + 2 = omega arith in
    let room : 2 * i ≤ length c.columns.lengths = omega (arith, c.requires.lengths, c.columns.auto.lengths, c.columns-test.true) in
    record {
      place = omega (arith, before.place, c.write_summary-size.ensures.size, c.from-at.ensures, ap length more, length-append front (summary_bytes x));
      within = omega (arith, before.within, c.write_summary-size.ensures.within, c.from-at.ensures, more_room columns i x c.columns-test.true c.index-columns-i.is);
      lengths =
          ap (λ (n : ℕ). take n c.put_u16.new.bytes) twice ∙ ap (take (2 * i + 2)) c.put_u16.ensures.put ∙ put_more c.columns.lengths (2 * i) 2 r room ∙ (λ j. before.lengths j ++ bytes_high_first 2 (c.write_summary-size.ensures.size j)) ∙ sym lengths;
      so_far =
          written_more c.args.summaries.now c.columns.summaries c.write_summary-size.new.out front (summary_bytes x) c.columns.at r (sym before.place) before.so_far c.write_summary-size.ensures.written
          ∙ (λ j. sym more j ++ drop (c.columns.at + sym c.from-at.ensures j) c.args.summaries.now);
    }
