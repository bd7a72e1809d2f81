-- a tuple read: its head, its columns, and what they make
use Rattle.std.proofs.Common.{◌≡◌, sum_by, ℕ, zero, suc, ◌+◌, ◌*◌, ◌<◌, ◌≤◌, ◌==◌, ◌||◌, Bool, true, false, List, [], ◌∷◌, ◌++◌, All, length, get_or, drop, Option, None, Some, Ok, Err, refl, sym, ap, ◌∙◌, subst, arith}
use Rattle.std.specs.Prelude.{nat_lt, slice_index}
use Rattle.std.specs.List.{list_all}
use Rattle.std.specs.Int.{bytes_high_first}
use Rattle.std.proofs.lemmas.List.{get_or_default, length-append}
use Rattle.std.proofs.lemmas.List.Sums.{sum_by-cons}
use Rattle.byte_fields.specs.Fields.{field_at, length-number, number_of, put_at}
use Rattle.opclass_any.specs.AnyClass.{greatest_size}
use Rattle.range_tuple.specs.KeptColumns.{IsReadAgain, ReadsAgain}
use Rattle.range_tuple.specs.NullStates.{has_values}
use Rattle.range_tuple.specs.TupleBytes.{columns_bytes, flags_of, summaries_bytes, summary_bytes, tuple_bytes}
use Rattle.range_tuple.specs.TupleFaults.{head_fault, says_empty}
use Rattle.range_tuple.specs.TupleReading.{columns_in, read_of, says_placeholder, tuple_behind}
use Rattle.range_tuple.specs.Tuples.{IndexedColumn, IsColumn, IsTuple, Tuple, column_room, tuple_room, has_nothing, parts_of, tuple_of}
use Rattle.opclass_any.specs.declared.classes.AnyClass.{AnyClass}
use Rattle.range_tuple.proofs.ByPlace.{length-parts, part_at}
use Rattle.range_tuple.proofs.HeadFaults.{in_form, nothing_is_said}
use Rattle.range_tuple.proofs.TuplesInForm.{states_said}
use Rattle.range_tuple.proofs.WholeTuples.{fields_front}
use Rattle.range_tuple.proofs.ColumnBytes.{summary_of_none, summary_of_values}
use Rattle.range_tuple.proofs.EachColumn.{length-columns}
use Rattle.range_tuple.proofs.ReadBack.{tuple_again}

-- what the classes of an index know of bytes, those of another tuple of it know
pub reads_by_parts : (xs ys : List IndexedColumn) → parts_of xs ≡ parts_of ys → All ReadsAgain ys → All ReadsAgain xs
reads_by_parts xs ys same all = λ k d below.
    let inside : k < length ys = omega (arith, below, length-parts xs ys same) in
    let part = part_at xs ys k (get_or xs k d) (get_or ys k d) same inside (get_or_default xs k d (get_or xs k d) below) (get_or_default ys k d (get_or ys k d) inside) in
    subst (λ (p : ℕ × AnyClass). IsReadAgain p.1) (sym part) (all k d inside)

pub read_head : (parts : List (ℕ × AnyClass)) (bytes : List ℕ) (count at : ℕ) → count ≡ length parts → head_fault count bytes ≡ Some at → read_of parts bytes ≡ Err at
unfolding read_of
read_head parts bytes count at same wrong =
    ap (λ (o : Option ℕ). tuple_behind bytes o (columns_in (length parts) bytes parts 0 (5 + 3 * length parts))) (ap (λ (n : ℕ). head_fault n bytes) (sym same) ∙ wrong)

pub read_columns : (parts : List (ℕ × AnyClass)) (bytes : List ℕ) (count at : ℕ) → count ≡ length parts → head_fault count bytes ≡ None → columns_in count bytes parts 0 (5 + 3 * count) ≡ Err at → read_of parts bytes ≡ Err at
unfolding read_of
read_columns parts bytes count at same none wrong =
    (λ i. tuple_behind bytes (head_fault (sym same i) bytes) (columns_in (sym same i) bytes parts 0 (5 + 3 * sym same i))) ∙ (λ i. tuple_behind bytes (none i) (wrong i))

pub read_tuple : (parts : List (ℕ × AnyClass)) (bytes : List ℕ) (count : ℕ) (columns : List IndexedColumn) → count ≡ length parts → head_fault count bytes ≡ None → columns_in count bytes parts 0 (5 + 3 * count) ≡ Ok columns → read_of parts bytes ≡ Ok (tuple_of (number_of (field_at bytes 0 4)) (says_placeholder bytes) columns)
unfolding read_of
read_tuple parts bytes count columns same none right =
    (λ i. tuple_behind bytes (head_fault (sym same i) bytes) (columns_in (sym same i) bytes parts 0 (5 + 3 * sym same i))) ∙ (λ i. tuple_behind bytes (none i) (right i))

flags_again : (flags : ℕ) → flags ≤ 3 → flags_of ((flags == 1) || (flags == 3)) (nat_lt 1 flags) ≡ flags
flags_again zero small = refl
flags_again (suc zero) small = refl
flags_again (suc (suc zero)) small = refl
flags_again (suc (suc (suc zero))) small = refl
flags_again (suc (suc (suc (suc n)))) small = absurd (omega (arith, small))

-- the fields that were read are a tuple's bytes
pub bytes_found : (bytes : List ℕ) (columns : List IndexedColumn) (range : ℕ) (placeholder : Bool) → 0 < length columns → head_fault (length columns) bytes ≡ None → put_at bytes 0 4 range ≡ bytes → placeholder ≡ says_placeholder bytes → drop 5 bytes ≡ columns_bytes columns → bytes ≡ tuple_bytes (tuple_of range placeholder columns)
unfolding tuple_bytes
bytes_found bytes columns range placeholder some none again flag found =
    let form = in_form (length columns) bytes none in
    let empty : list_all has_nothing columns ≡ says_empty bytes = sym (states_said columns bytes found) ∙ nothing_is_said (length columns) bytes some form in
    let flags : flags_of placeholder (list_all has_nothing columns) ≡ get_or bytes 4 0 = (λ i. flags_of (flag i) (empty i)) ∙ flags_again (slice_index bytes 4) form.flags in
    fields_front bytes range (flags_of placeholder (list_all has_nothing columns)) (omega (arith, form.long)) flags again
    ∙ ap (λ (rest : List ℕ). bytes_high_first 4 range ++ flags_of placeholder (list_all has_nothing columns) ∷ rest) found

-- the bytes of a tuple of the index are read as that tuple
pub read_back : (old t : Tuple) (bytes : List ℕ) → All ReadsAgain old.columns → IsTuple t → parts_of t.columns ≡ parts_of old.columns → bytes ≡ tuple_bytes t → read_of (parts_of old.columns) bytes ≡ Ok t
read_back old t bytes known lawful parts is = ap (λ (ps : List (ℕ × AnyClass)). read_of ps bytes) (sym parts) ∙ tuple_again t bytes lawful (reads_by_parts t.columns old.columns parts known) is

-- a summary's bytes are no more than its class says
summary_size : (column : IndexedColumn) (b : Bool) → has_values column.state ≡ b → IsReadAgain column.class → IsColumn column → length (summary_bytes column) ≤ greatest_size column.class
summary_size column true some known of = rw (summary_of_values column some) (known.bound column.summary of.of_class)
summary_size column false none known of = rw (summary_of_none column none) (omega arith)

columns_fit : (columns : List IndexedColumn) → All IsColumn columns → All ReadsAgain columns → 3 * length columns + length (summaries_bytes columns) ≤ sum_by column_room columns
columns_fit [] of known = omega arith
columns_fit (column ∷ columns) of known =
    let one = summary_size column (has_values column.state) refl (known 0 column (omega arith)) (of 0 column (omega arith)) in
    let rest = columns_fit columns (λ k d below. of (suc k) d (omega (arith, below))) (λ k d below. known (suc k) d (omega (arith, below))) in
    omega (arith, one, rest, sum_by-cons column_room column columns, length-append (summary_bytes column) (summaries_bytes columns))

pub tuple_fits : (t : Tuple) → IsTuple t → All ReadsAgain t.columns → length (tuple_bytes t) ≤ tuple_room t.columns
unfolding tuple_bytes
tuple_fits t lawful known =
    omega (arith, columns_fit t.columns lawful.columns known, length-columns t.columns, length-append (bytes_high_first 4 t.range) (flags_of t.placeholder t.empty ∷ columns_bytes t.columns), length-number 4 t.range)
