-- what rows leave in the tuples of an index
use Rattle.std.proofs.Common.{◌≡◌, ◌⊎◌, inl, inr, ℕ, zero, suc, ◌+◌, ◌*◌, ◌<◌, ◌^◌, min, true, List, [], ◌∷◌, ◌++◌, map, Option, None, Some, refl, sym, ap, subst, ◌∙◌, arith}
use Rattle.std.specs.Prelude.{IsTrue}
use Rattle.std.proofs.lemmas.List.{map-append}
use Rattle.std.proofs.lemmas.List.Sums.{fold-append}
use Rattle.std.proofs.lemmas.Option.{same_Some}
use Rattle.block_model.specs.declared.place.Spot.{Spot}
use Rattle.block_model.specs.declared.row.Row.{Row}
use Rattle.block_model.specs.declared.value.Value.{Value}
use Rattle.range_tuple.specs.ExactTuples.{IsExactTuple, with_rows}
use Rattle.range_tuple.specs.TupleBytes.{tuple_bytes}
use Rattle.range_tuple.specs.TupleReading.{tuple_in}
use Rattle.range_tuple.specs.Tuples.{Tuple, empty_placeholder, empty_tuple, parts_of, united_tuple, with_row}
use Rattle.coverage.specs.ExactResults.{IsPassed, NonePassed, OneMorePassed, NamesExactFinal}
use Rattle.coverage.specs.IndexView.{Contents, IndexTuple, IndexView, IsFormed, IsTupleOf, NamesTuple}
use Rattle.coverage.specs.IsSound.{IsSound}
use Rattle.coverage.specs.Statements.{row_added, rows_added}
use Rattle.range_tuple.specs.RowsUnited.{UnitesRows}
use Rattle.range_tuple.specs.SoundTuples.{AreSoundTuples}
use Rattle.index_steps.specs.IndexTuples.{IndexShape, TakesValues, classes_of, contents_of, final_union, have_kinds, kinds_of, row_values, seen}
use Rattle.index_steps.specs.ExactTuples.{AreRowsOf, HasExactly, HasUnited, LeavesExactly, NoBlock, OneMoreBlock, SaysTuple, row_list, rows_of_slots}
use Rattle.index_steps.proofs.SeenTuples.{OfIndex, added_seen, as_seen, classes_are, empty_is, final_of, is_seen, ranges_are, seen_bytes, united_seen, widened}

-- ---- rows added to a tuple

keeps_range : (rows : List (List Value)) (t : Tuple) → (with_rows rows t).range ≡ t.range
keeps_range [] t = refl
keeps_range (row ∷ rows) t = keeps_range rows (with_row row t)

keeps_sort : (rows : List (List Value)) (t : Tuple) → (with_rows rows t).placeholder ≡ t.placeholder
keeps_sort [] t = refl
keeps_sort (row ∷ rows) t = keeps_sort rows (with_row row t)

more_rows : (f : Row → List Value) (rows more : List Row) (t : Tuple) → with_rows (map f (rows ++ more)) t ≡ with_rows (map f more) (with_rows (map f rows) t)
more_rows f rows more t =
    ap (λ (xs : List (List Value)). with_rows xs t) (map-append f rows more)
    ∙ fold-append (λ (widened : Tuple) (row : List Value). with_row row widened) t (map f rows) (map f more)

-- the tuple that its bytes say
pub says_seen : (shape : IndexShape) (sound : AreSoundTuples (classes_of shape)) (u : IndexTuple) (t : Tuple) → OfIndex shape t → u ≡ as_seen shape t → SaysTuple shape u t
says_seen shape sound u t of is =
    let bytes : u.bytes ≡ tuple_bytes t = ap (λ (v : IndexTuple). v.bytes) is ∙ seen_bytes shape (tuple_bytes t) in
    record {
      of = of;
      read = record { spelt = bytes; read = ap (tuple_in (classes_of shape)) bytes ∙ (sound.written t of).again };
      sees = is ∙ sym (ap (seen shape) bytes);
    }

seen_of : (shape : IndexShape) (u : IndexTuple) (t : Tuple) → SaysTuple shape u t → u ≡ as_seen shape t
seen_of shape u t says = says.sees ∙ ap (seen shape) says.read.spelt

module _ (shape : IndexShape) (sound : AreSoundTuples (classes_of shape)) (takes : (values : List Value) → have_kinds (kinds_of shape) values ≡ true → TakesValues shape values) where
  abbrev after : List Row → Tuple → Tuple
  after rows t = with_rows (map (row_values shape) rows) t

  abbrev widens : IndexTuple → Option Row → IndexTuple
  widens u o = row_added (contents_of shape) o u

  after_of : (rows : List Row) (t : Tuple) → OfIndex shape t → OfIndex shape (after rows t)
  after_of [] t of = of
  after_of (r ∷ rows) t of = after_of rows (with_row (row_values shape r) t) (widened shape sound takes r t of).of

  one_seen : (o : Option Row) (t : Tuple) → OfIndex shape t → widens (as_seen shape t) o ≡ as_seen shape (after (row_list o) t)
  one_seen None t of = refl
  one_seen (Some r) t of = added_seen shape sound r t of

  slots_seen : (row : ℕ → Option Row) (n : ℕ) (t : Tuple) → OfIndex shape t → rows_added (contents_of shape) row n (as_seen shape t) ≡ as_seen shape (after (rows_of_slots row n) t)
  slots_seen row zero t of = refl
  slots_seen row (suc n) t of =
      let before : Tuple = after (rows_of_slots row n) t in
      ap (λ (u : IndexTuple). widens u (row n)) (slots_seen row n t of)
      ∙ one_seen (row n) before (after_of (rows_of_slots row n) t of)
      ∙ ap (as_seen shape) (sym (more_rows (row_values shape) (rows_of_slots row n) (row_list (row n)) t))

  -- ---- the rows of blocks

  module _ (range first : ℕ) (fits : range < 2 ^ 32) (row : ℕ → ℕ → Option Row) where
    abbrev none : Tuple
    none = empty_placeholder range shape.columns shape.parts

    none_of : OfIndex shape none
    none_of = (sound.empty range true shape.columns shape.parts fits (classes_are shape)).of

    record IsMade (next : ℕ) (result : IndexTuple) : Type 0 where
      rows : List Row
      are : AreRowsOf row first next rows
      is : result ≡ as_seen shape (after rows none)

    made : (next : ℕ) (result : IndexTuple) → IsPassed (contents_of shape) row range first next result → IsMade next result
    made next result NonePassed = record { rows = []; are = NoBlock; is = empty_is shape range }
    made next result (OneMorePassed block slots so_far before more) =
        let old : IsMade block so_far = made block so_far before in
        let added : List Row = rows_of_slots (row block) slots in
        record {
          rows = old.rows ++ added;
          are = OneMoreBlock block slots old.rows old.are more;
          is =
              ap (rows_added (contents_of shape) (row block) slots) old.is
              ∙ slots_seen (row block) slots (after old.rows none) (after_of old.rows none none_of)
              ∙ ap (as_seen shape) (sym (more_rows (row_values shape) old.rows added none));
        }

    pub passed_exactly : ((rows : List (List Value)) → IsExactTuple rows (with_rows rows (empty_tuple range true shape.columns shape.parts))) → (next : ℕ) (result : IndexTuple) → IsPassed (contents_of shape) row range first next result
        → (rows : List Row) × AreRowsOf row first next rows × HasExactly shape range (map (row_values shape) rows) result
    passed_exactly exact next result passed =
        let so_far : IsMade next result = made next result passed in
        let values : List (List Value) = map (row_values shape) so_far.rows in (
          so_far.rows,
          so_far.are,
          record {
            tuple = with_rows values none;
            says = says_seen shape sound result (with_rows values none) (after_of so_far.rows none none_of) so_far.is;
            of = keeps_range values none;
            placeholder = keeps_sort values none;
            exact = exact values;
          },
        )

  pub inserts_exactly : (r : Row) (u : IndexTuple) (t : Tuple) → SaysTuple shape u t → SaysTuple shape ((contents_of shape).added r u) (with_row (row_values shape r) t)
  inserts_exactly r u t says =
      says_seen shape sound ((contents_of shape).added r u) (with_row (row_values shape r) t) (widened shape sound takes r t says.of).of
      (ap ((contents_of shape).added r) (seen_of shape u t says) ∙ added_seen shape sound r t says.of)

-- ---- two united

abbrev AddsRows : Type 0
AddsRows = (rows : List (List Value)) (t other : Tuple) → parts_of other.columns ≡ parts_of t.columns → IsExactTuple rows other → UnitesRows rows t.columns (united_tuple t other).columns

module _ (shape : IndexShape) (sound : AreSoundTuples (classes_of shape)) (adds : AddsRows) where
  pub unites_exactly : (rows : List (List Value)) (range : ℕ) (old result : IndexTuple) (held : Tuple) → SaysTuple shape old held → HasExactly shape range rows result → HasUnited shape rows held ((contents_of shape).united old result)
  unites_exactly rows range old result held says has =
      let other : Tuple = has.tuple in
      let both : (contents_of shape).united old result ≡ as_seen shape (final_union other held) =
      ap (λ (u : IndexTuple). (contents_of shape).united u result) (seen_of shape old held says)
      ∙ ap ((contents_of shape).united (as_seen shape held)) (seen_of shape result other has.says)
      ∙ united_seen shape sound held other says.of has.says.of in
      record {
        tuple = final_union other held;
        says = says_seen shape sound ((contents_of shape).united old result) (final_union other held) (final_of shape (united_tuple held other) (sound.unites held other says.of has.says.of).of) both;
        of = refl;
        final = refl;
        unites = adds rows held other (has.says.of.of_index ∙ sym says.of.of_index) has.exact;
      }

-- ---- what a summarise leaves

-- a tuple that the map names wasn't left unnamed
of_two : (w : IndexView) → IsSound w → (range : ℕ) (t : IndexTuple) (x : Spot) → w.entry range ≡ Some x → IsTupleOf w t ⊎ IsTrue (w.unnamed x) → IsFormed w.contents t
of_two w kept range t x entry (inl formed) = formed.0
of_two w kept range t x entry (inr left) = absurd ((kept.unnamed_tuples x left).unnamed range entry)

-- the map names a tuple of the index, of the range
named_formed : (w : IndexView) → IsSound w → (range : ℕ) (t : IndexTuple) → NamesTuple w range t → IsFormed w.contents t × (t.range ≡ range)
named_formed w kept range t named =
    let x = named.0 in
    let own = kept.entries_name_tuples range x named.1 in
    (of_two w kept range t x named.1 (kept.formed x t named.2), ap (λ (u : IndexTuple). u.range) (same_Some t own.0 (sym named.2 ∙ own.1)) ∙ own.2)

module _ (shape : IndexShape) (sound : AreSoundTuples (classes_of shape)) (takes : (values : List Value) → have_kinds (kinds_of shape) values ≡ true → TakesValues shape values)
    (adds : AddsRows) (exact : (range : ℕ) (rows : List (List Value)) → IsExactTuple rows (with_rows rows (empty_tuple range true shape.columns shape.parts))) where
  pub leaves_exactly : (w v : IndexView) (range : ℕ) → IsSound w → w.contents ≡ contents_of shape → NamesExactFinal w v range → LeavesExactly shape w v range
  leaves_exactly w v range kept own left =
      let old : IndexTuple = left.0 in
      let result : IndexTuple = left.1 in
      let named = left.2 in
      let both = named_formed w kept range old named in
      let formed : IsFormed (contents_of shape) old = subst (λ (c : Contents). IsFormed c old) own both.0 in
      let one = is_seen shape sound old formed in
      let says : SaysTuple shape old one.tuple = says_seen shape sound old one.tuple one.of one.is in
      let fits : range < 2 ^ 32 = omega (arith, formed.number, both.1, ranges_are shape) in
      let first : ℕ = range * w.pages_per_range in
      let end : ℕ = min w.blocks ((range + 1) * w.pages_per_range) in
      let all = passed_exactly shape sound takes range first fits w.row (exact range) end result (subst (λ (c : Contents). IsPassed c w.row range first end result) own left.3) in
      record {
        old = old;
        named = named;
        held = one.tuple;
        says = says;
        rows = all.0;
        all = all.1;
        new = (contents_of shape).united old result;
        names = subst (λ (c : Contents). NamesTuple v range (c.united old result)) own left.4;
        unites = unites_exactly shape sound adds (map (row_values shape) all.0) range old result one.tuple says all.2;
      }
