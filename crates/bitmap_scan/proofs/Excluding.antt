-- a tuple that doesn't keep the conditions, as the protocol sees it
use Rattle.std.proofs.Common.{◌≡◌, ℕ, zero, suc, ◌==◌, Bool, true, false, ◌||◌, List, [], ◌∷◌, map, Some, refl, sym, ap, ◌∙◌}
use Rattle.std.specs.Prelude.{IsTrue, if◌then◌else◌, slice_get, slice_index_or}
use Rattle.std.proofs.lemmas.Bool.{and_parts, false≢true}
use Rattle.block_model.specs.declared.row.Cond.{Cond}
use Rattle.block_model.specs.declared.row.Query.{Query}
use Rattle.block_model.specs.declared.row.Row.{Row}
use Rattle.block_model.specs.declared.schema.Column.{Column}
use Rattle.block_model.specs.declared.schema.Table.{Table}
use Rattle.block_model.specs.declared.value.Kind.{Kind}
use Rattle.block_model.specs.declared.value.Value.TheVariants.{Null}
use Rattle.block_model.specs.IndexedColumns.{columns_in}
use Rattle.store_layout.specs.DiskLayout.{DiskLayout}
use Rattle.coverage.specs.IndexView.{IndexTuple}
use Rattle.coverage.specs.Steps.{Excludes}
use Rattle.heap_rows.specs.Heaps.{kinds_at, no_table}
use Rattle.range_tuple.specs.IncludedRows.{tuple_includes}
use Rattle.range_tuple.specs.Keeps.{keeps}
use Rattle.range_tuple.specs.Tuples.{Tuple}
use Rattle.index_steps.specs.IndexTuples.{IndexShape, are_values, index_at, kinds_of, row_values, seen, seen_as, shape_of}
use Rattle.index_steps.specs.Readings.{IsReadAs}
use Rattle.bitmap_scan.specs.Judgings.{ExcludesMatches}
use Rattle.bitmap_scan.specs.TableScans.{is_match}

columns_same : (tables : List Table) (table : ℕ) → columns_in (slice_get tables table) ≡ (slice_index_or tables table no_table).columns
columns_same [] table = refl
columns_same (t ∷ ts) zero = refl
columns_same (t ∷ ts) (suc table) = columns_same ts table

-- an index of the table has the kinds of the table's columns
pub kinds_same : (layout : DiskLayout) (table n : ℕ) → (index_at layout n).table ≡ table → kinds_of (shape_of layout n) ≡ kinds_at layout table
unfolding shape_of
kinds_same layout table n is =
    ap (λ (t : ℕ). map (λ (c : Column). c.kind) (columns_in (slice_get layout.schema.tables t))) is ∙ ap (map (λ (c : Column). c.kind)) (columns_same layout.schema.tables table)

-- a row of values of these kinds has its own
pub own_values : (shape : IndexShape) (r : Row) → are_values (kinds_of shape) r.values ≡ true → row_values shape r ≡ r.values
unfolding row_values
own_values shape r is = ap (λ (b : Bool). if b then r.values else map (λ (kind : Kind). Null) (kinds_of shape)) is

-- what is seen of bytes that are read
pub seen_read : (shape : IndexShape) (bytes : List ℕ) (t : Tuple) → IsReadAs shape bytes t → seen shape bytes ≡ seen_as shape bytes (Some t)
unfolding seen
seen_read shape bytes t read = ap (seen_as shape bytes) read.read

pub seen_keeps : (shape : IndexShape) (bytes : List ℕ) (t : Tuple) (conds : List Cond) → IsReadAs shape bytes t → (seen shape bytes).keeps conds ≡ keeps t conds
seen_keeps shape bytes t conds read = ap (λ (v : IndexTuple). v.keeps conds) (seen_read shape bytes t read)

either : (a b : Bool) → (a || b) ≡ false → a ≡ false
either false b is = refl
either true b is = absurd (false≢true (sym is))

module _ (layout : DiskLayout) (query : Query) (n : ℕ) (of : (index_at layout n).table ≡ query.table) (bytes : List ℕ) (t : Tuple) (read : IsReadAs (shape_of layout n) bytes t)
    (drops : keeps t query.conds ≡ false) (misses : ExcludesMatches t query.conds) where
  abbrev shape : IndexShape
  shape = shape_of layout n

  none_included : (r : Row) → IsTrue ((seen shape bytes).includes r) → IsTrue (is_match layout query r) → ⊥
  none_included r included matches =
      let parts = and_parts (are_values (kinds_at layout query.table) r.values) _ matches in
      let kinds : are_values (kinds_of shape) r.values ≡ true = ap (λ (ks : List Kind). are_values ks r.values) (kinds_same layout query.table n of) ∙ parts.0 in
      let own : tuple_includes t r.values ≡ true =
      sym (ap (tuple_includes t) (own_values shape r kinds)) ∙ sym (ap (λ (v : IndexTuple). v.includes r) (seen_read shape bytes t read)) ∙ included in
      false≢true (sym (misses r.values own) ∙ (and_parts (r.table == query.table) _ parts.1).1)

  pub excludes : Excludes (seen shape bytes) (is_match layout query)
  excludes = record {
    final = ap (λ (v : IndexTuple). v.placeholder) (seen_read shape bytes t read) ∙ either t.placeholder _ drops;
    none = λ r included matches. none_included r included matches;
  }
