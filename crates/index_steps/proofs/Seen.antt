-- what is seen in bytes that are read as a tuple
use Rattle.std.proofs.Common.{◌≡◌, ℕ, ◌≤◌, true, List, ◌∷◌, length, Option, None, Some, sym, ap, subst, ◌∙◌, arith}
use Rattle.std.specs.Prelude.{Bool, ◌↔◌, Result, Ok, Err}
use Rattle.std.specs.Int.{bytes_high_first}
use Rattle.std.proofs.lemmas.List.{length-append}
use Rattle.std.proofs.lemmas.Option.{none-some, same_Some}
use Rattle.block_model.specs.declared.row.Cond.{Cond}
use Rattle.block_model.specs.declared.row.Row.{Row}
use Rattle.block_model.specs.declared.value.Value.{Value}
use Rattle.byte_fields.specs.Fields.{field_at, length-number, number_of}
use Rattle.opclass_any.specs.declared.classes.AnyClass.{AnyClass}
use Rattle.range_tuple.specs.IncludedRows.{tuple_includes}
use Rattle.range_tuple.specs.Keeps.{keeps}
use Rattle.range_tuple.specs.TupleBytes.{columns_bytes, flags_of, tuple_bytes}
use Rattle.range_tuple.specs.TupleFaults.{head_fault}
use Rattle.range_tuple.specs.TupleIncludes.{TupleIncludes}
use Rattle.range_tuple.specs.TupleReading.{columns_read, is_there, read_of, tuple_behind, tuple_in}
use Rattle.range_tuple.specs.Tuples.{IndexedColumn, Tuple}
use Rattle.index_steps.specs.IndexTuples.{IndexShape, are_values, classes_of, includes_row, is_placeholder, keeps_conds, kinds_of, row_values, seen}
use Rattle.index_steps.specs.Readings.{IsReadAs}
use Rattle.index_steps.proofs.Adding.{own_values}
use Rattle.index_steps.proofs.Copying.{said_of}
use Rattle.index_steps.proofs.Views.{seen_range}

range_bytes : (t : Tuple) → 4 ≤ length (tuple_bytes t)
unfolding tuple_bytes
range_bytes t = omega (arith, length-append (bytes_high_first 4 t.range) (flags_of t.placeholder t.empty ∷ columns_bytes t.columns), length-number 4 t.range)

behind_range : (bytes : List ℕ) (fault : Option ℕ) (columns : Result (List IndexedColumn) ℕ) (t : Tuple) → is_there (tuple_behind bytes fault columns) ≡ Some t → number_of (field_at bytes 0 4) ≡ t.range
behind_range bytes (Some at) columns t is = absurd (none-some t is)
behind_range bytes None (Err at) t is = absurd (none-some t is)
behind_range bytes None (Ok columns) t is = ap (λ (u : Tuple). u.range) (same_Some _ t is)

-- the range that is read is the number of the first four bytes
range_read : (parts : List (ℕ × AnyClass)) (bytes : List ℕ) (t : Tuple) → tuple_in parts bytes ≡ Some t → number_of (field_at bytes 0 4) ≡ t.range
unfolding read_of
range_read parts bytes t is = behind_range bytes (head_fault (length parts) bytes) (columns_read (length parts) parts bytes) t is

pub range_seen : (shape : IndexShape) (bytes : List ℕ) (t : Tuple) → IsReadAs shape bytes t → (seen shape bytes).range ≡ t.range
range_seen shape bytes t read =
    seen_range shape bytes ∙ said_of bytes t.range (subst (λ (b : List ℕ). 4 ≤ length b) (sym read.spelt) (range_bytes t), range_read (classes_of shape) bytes t read.read)

pub placeholder_seen : (shape : IndexShape) (bytes : List ℕ) (t : Tuple) → IsReadAs shape bytes t → (seen shape bytes).placeholder ≡ t.placeholder
unfolding seen
placeholder_seen shape bytes t read = ap is_placeholder read.read

pub keeps_seen : (shape : IndexShape) (bytes : List ℕ) (t : Tuple) → IsReadAs shape bytes t → (conds : List Cond) → (seen shape bytes).keeps conds ≡ keeps t conds
unfolding seen
keeps_seen shape bytes t read conds = ap (λ (o : Option Tuple). keeps_conds o conds) read.read

includes_seen : (shape : IndexShape) (bytes : List ℕ) (t : Tuple) → IsReadAs shape bytes t → (r : Row) → (seen shape bytes).includes r ≡ tuple_includes t (row_values shape r)
unfolding seen
includes_seen shape bytes t read r = ap (λ (o : Option Tuple). includes_row o (row_values shape r)) read.read

-- the test of included rows is right
abbrev pub IsTested : Type 0
IsTested = (t : Tuple) (row : List Value) → (tuple_includes t row ≡ true) ↔ TupleIncludes t row

pub included_seen : IsTested → (shape : IndexShape) (bytes : List ℕ) (t : Tuple) → IsReadAs shape bytes t → (r : Row) → are_values (kinds_of shape) r.values ≡ true → ((seen shape bytes).includes r ≡ true) ↔ TupleIncludes t r.values
included_seen tested shape bytes t read r are =
    let same : (seen shape bytes).includes r ≡ tuple_includes t r.values = includes_seen shape bytes t read r ∙ ap (tuple_includes t) (own_values shape r are) in
    subst (λ (b : Bool). (b ≡ true) ↔ TupleIncludes t r.values) (sym same) (tested t r.values)
