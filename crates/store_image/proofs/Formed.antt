-- Bytes of a tuple of an index, and what the protocol of coverage sees in them.
use Rattle.std.proofs.Common.{◌≡◌, ℕ, ◌<◌, ◌^◌, List, length, sym, ap, subst, ◌∙◌, arith}
use Rattle.block_model.specs.TupleSize.{tuple_size}
use Rattle.page_layout.specs.Fields.{field_at, number_of}
use Rattle.range_tuple.specs.SoundTuples.{AreSoundTuples, IsTupleSpelt}
use Rattle.range_tuple.specs.TupleBytes.{tuple_bytes}
use Rattle.range_tuple.specs.Tuples.{IndexedColumn, IsTuple, Tuple, parts_of, tuple_room}
use Rattle.coverage.specs.IndexView.{IndexTuple, IsFormed}
use Rattle.index_steps.specs.IndexTuples.{IndexShape, classes_of, contents_of, seen}
use Rattle.index_steps.proofs.SeenTuples.{OfIndex, as_seen, bytes_pass, greatest_is, is_seen, ranges_are, said_is, said_range, seen_bytes, seen_range}

module _ (shape : IndexShape) (sound : AreSoundTuples (classes_of shape)) (room_is : (columns : List IndexedColumn) → parts_of columns ≡ classes_of shape → tuple_room columns ≡ tuple_size shape.columns shape.parts)
    (begins : (t : Tuple) → IsTuple t → number_of (field_at (tuple_bytes t) 0 4) ≡ t.range) where
  formed : (u : Tuple) → OfIndex shape u → IsFormed (contents_of shape) (as_seen shape u)
  formed u of =
      let bytes = tuple_bytes u in
      let written = sound.written u of in
      let own : (as_seen shape u).bytes ≡ bytes = seen_bytes shape bytes in
      let room : tuple_room u.columns ≡ tuple_size shape.columns shape.parts = room_is u.columns of.of_index in
      let fits : u.range < 2 ^ 32 = of.is.range_fits in
      let range : (as_seen shape u).range ≡ u.range = seen_range shape bytes ∙ said_range u ∙ begins u of.is in
      record {
        says = ap (λ (b : List ℕ). (contents_of shape).read b) own ∙ said_is shape bytes u (bytes_pass bytes written.bytes) written.again;
        size = omega (arith, ap length own, written.bound, room, greatest_is shape);
        number = omega (arith, range, fits, ranges_are shape);
      }

  -- bytes of a tuple are seen as one of the index, and the other way round
  pub spelt_formed : (bytes : List ℕ) (u : Tuple) → IsTupleSpelt (classes_of shape) bytes u → IsFormed (contents_of shape) (seen shape bytes)
  spelt_formed bytes u spelt = subst (λ (b : List ℕ). IsFormed (contents_of shape) (seen shape b)) (sym spelt.spelt) (formed u spelt.of)

  pub formed_spelt : (bytes : List ℕ) → IsFormed (contents_of shape) (seen shape bytes) → (t : Tuple) × IsTupleSpelt (classes_of shape) bytes t
  formed_spelt bytes formed =
      let one = is_seen shape sound (seen shape bytes) formed in
      (one.tuple, record { of = one.of; spelt = sym (seen_bytes shape bytes) ∙ ap (λ (t : IndexTuple). t.bytes) one.is ∙ seen_bytes shape (tuple_bytes one.tuple) })
