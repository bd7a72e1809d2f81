-- what is made of the tuples of an index within the limits is one of it
use Rattle.std.proofs.Common.{◌≡◌, ℕ, ◌<◌, ◌^◌, true, List, length, sym, ap, subst, ◌∙◌, arith}
use Rattle.std.specs.Prelude.{◌↔◌}
use Rattle.std.proofs.lemmas.Bool.{false_from_ne_true}
use Rattle.block_model.specs.declared.row.Row.{Row}
use Rattle.block_model.specs.declared.value.Value.{Value}
use Rattle.block_model.specs.TupleSize.{tuple_size}
use Rattle.byte_fields.specs.Fields.{field_at, number_of}
use Rattle.range_tuple.specs.IncludedRows.{tuple_includes}
use Rattle.range_tuple.specs.TupleBytes.{tuple_bytes}
use Rattle.range_tuple.specs.TupleIncludes.{TupleIncludes}
use Rattle.range_tuple.specs.Tuples.{IndexedColumn, IsTuple, Tuple, empty_placeholder, parts_of, tuple_room, united_tuple, with_row}
use Rattle.coverage.specs.IndexView.{IndexTuple, IsFormed}
use Rattle.coverage.specs.Statements.{AreLawful, IsAdded, IsEmptyPlaceholder, IsUnited}
use Rattle.range_tuple.specs.SoundTuples.{AreSoundTuples}
use Rattle.index_steps.specs.IndexTuples.{IndexShape, TakesValues, classes_of, contents_of, final_union, have_kinds, kinds_of, row_values}
use Rattle.index_steps.specs.LawfulShapes.{IsLawfulShape}
use Rattle.index_steps.proofs.SeenTuples.{added_seen, as_seen, bytes_pass, classes_are, empty_is, final_of, greatest_is, is_seen, OfIndex, ranges_are, said_is, said_range, seen_bytes, seen_includes, seen_placeholder, seen_range, united_seen, widened}

module _ (shape : IndexShape) (lawful : IsLawfulShape shape) (sound : AreSoundTuples (classes_of shape)) (room_is : (columns : List IndexedColumn) → parts_of columns ≡ classes_of shape → tuple_room columns ≡ tuple_size shape.columns shape.parts)
    (tested : (t : Tuple) (row : List Value) → (tuple_includes t row ≡ true) ↔ TupleIncludes t row) (begins : (t : Tuple) → IsTuple t → number_of (field_at (tuple_bytes t) 0 4) ≡ t.range)
    (takes : (values : List Value) → have_kinds (kinds_of shape) values ≡ true → TakesValues shape values) where
  of_range : (u : Tuple) → OfIndex shape u → (as_seen shape u).range ≡ u.range
  of_range u of = seen_range shape (tuple_bytes u) ∙ said_range u ∙ begins u of.is

  of_sort : (u : Tuple) → OfIndex shape u → (as_seen shape u).placeholder ≡ u.placeholder
  of_sort u of = seen_placeholder shape (tuple_bytes u) u (sound.written u of).again

  as_included : (u : Tuple) (r : Row) → OfIndex shape u → (as_seen shape u).includes r ≡ tuple_includes u (row_values shape r)
  as_included u r of = seen_includes shape (tuple_bytes u) u r (sound.written u of).again

  included : (u : Tuple) (r : Row) → OfIndex shape u → (as_seen shape u).includes r ≡ true → TupleIncludes u (row_values shape r)
  included u r of is = (tested u (row_values shape r)).0 (sym (as_included u r of) ∙ is)

  includes : (u : Tuple) (r : Row) → OfIndex shape u → TupleIncludes u (row_values shape r) → (as_seen shape u).includes r ≡ true
  includes u r of is = as_included u r of ∙ (tested u (row_values shape r)).1 is

  formed : (u : Tuple) → OfIndex shape u → IsFormed (contents_of shape) (as_seen shape u)
  formed u of =
      let bytes = tuple_bytes u in
      let written = sound.written u of in
      let own : (as_seen shape u).bytes ≡ bytes = seen_bytes shape bytes in
      let room : tuple_room u.columns ≡ tuple_size shape.columns shape.parts = room_is u.columns of.of_index in
      let fits : u.range < 2 ^ 32 = of.is.range_fits in
      record {
        says = ap (λ (b : List ℕ). (contents_of shape).read b) own ∙ said_is shape bytes u (bytes_pass bytes written.bytes) written.again;
        size = omega (arith, ap length own, written.bound, room, greatest_is shape);
        number = omega (arith, of_range u of, fits, ranges_are shape);
      }

  -- ---- the empty placeholder

  empty_lawful : (range : ℕ) → range < (contents_of shape).ranges → IsFormed (contents_of shape) ((contents_of shape).empty range) × IsEmptyPlaceholder range ((contents_of shape).empty range)
  empty_lawful range below =
      let u = empty_placeholder range shape.columns shape.parts in
      let small : range < 2 ^ 32 = omega (arith, below, ranges_are shape) in
      let empty = sound.empty range true shape.columns shape.parts small (classes_are shape) in
      let own : as_seen shape u ≡ (contents_of shape).empty range = sym (empty_is shape range) in
      subst (λ (t : IndexTuple). IsFormed (contents_of shape) t × IsEmptyPlaceholder range t) own (
        formed u empty.of,
        record {
          of = of_range u empty.of;
          placeholder = of_sort u empty.of;
          includes = λ r. false_from_ne_true ((as_seen shape u).includes r) (λ is. empty.nothing (row_values shape r) (included u r empty.of is));
        },
      )

  -- ---- a row added

  added_lawful : (r : Row) (t : IndexTuple) → IsFormed (contents_of shape) t → IsFormed (contents_of shape) ((contents_of shape).added r t) × IsAdded r t ((contents_of shape).added r t)
  added_lawful r t of =
      let one = is_seen shape sound t of in
      let u = one.tuple in
      let v = with_row (row_values shape r) u in
      let widens = widened shape sound takes r u one.of in
      subst (λ (s : IndexTuple). IsFormed (contents_of shape) ((contents_of shape).added r s) × IsAdded r s ((contents_of shape).added r s)) (sym one.is)
      (subst (λ (s : IndexTuple). IsFormed (contents_of shape) s × IsAdded r (as_seen shape u) s) (sym (added_seen shape sound r u one.of)) (
        formed v widens.of,
        record {
          range = of_range v widens.of ∙ sym (of_range u one.of);
          placeholder = of_sort v widens.of ∙ sym (of_sort u one.of);
          wider = λ row is. includes v row widens.of (widens.kept (row_values shape row) (included u row one.of is));
          row = includes v r widens.of widens.row;
        },
      ))

  -- ---- two united

  united_lawful : (t result : IndexTuple) → IsFormed (contents_of shape) t → IsFormed (contents_of shape) result
      → IsFormed (contents_of shape) ((contents_of shape).united t result) × IsUnited result t ((contents_of shape).united t result)
  united_lawful t result of also =
      let one = is_seen shape sound t of in
      let two = is_seen shape sound result also in
      let u = one.tuple in
      let other = two.tuple in
      let unites = sound.unites u other one.of two.of in
      let v = final_union other u in
      let final : OfIndex shape v = final_of shape (united_tuple u other) unites.of in
      subst (λ (s : IndexTuple). IsFormed (contents_of shape) ((contents_of shape).united s result) × IsUnited result s ((contents_of shape).united s result)) (sym one.is)
      (subst (λ (s : IndexTuple). IsFormed (contents_of shape) ((contents_of shape).united (as_seen shape u) s) × IsUnited s (as_seen shape u) ((contents_of shape).united (as_seen shape u) s)) (sym two.is)
      (subst (λ (s : IndexTuple). IsFormed (contents_of shape) s × IsUnited (as_seen shape other) (as_seen shape u) s) (sym (united_seen shape sound u other one.of two.of)) (
        formed v final,
        record {
          range = of_range v final ∙ sym (of_range u one.of);
          placeholder = of_sort v final;
          wider = λ row is. includes v row final (unites.first (row_values shape row) (included u row one.of is));
          united = λ row is. includes v row final (unites.second (row_values shape row) (included other row two.of is));
        },
      )))

  pub lawful_contents : AreLawful (contents_of shape)
  lawful_contents = record {
    greatest = omega (arith, greatest_is shape, lawful.size);
    empty = empty_lawful;
    added = added_lawful;
    united = united_lawful;
  }
