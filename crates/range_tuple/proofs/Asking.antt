-- what a tuple doesn't keep it excludes
use Rattle.std.proofs.Common.{◌≡◌, ℕ, ◌+◌, ◌*◌, ◌<◌, ◌==◌, Bool, true, false, not, ◌&&◌, Some, List, [], ◌∷◌, All, drop, length, Result, Ok, Err, refl, sym, ap, subst, ◌∙◌, arith}
use Rattle.std.specs.Prelude.{nat_lt}
use Rattle.std.specs.List.{list_all}
use Rattle.std.proofs.lemmas.Bool.{and_parts, false≢true, or_parts}
use Rattle.std.proofs.lemmas.List.{length-map}
use Rattle.std.proofs.lemmas.List.Elements.{All-filter, All-head, All-tail}
use Rattle.block_model.specs.declared.row.Cond.{Cond}
use Rattle.block_model.specs.declared.value.Kind.TheVariants as kinds
use Rattle.block_model.specs.declared.value.Op.{Op}
use Rattle.block_model.specs.declared.value.Value.{Value}
use Rattle.block_model.specs.declared.value.Value.TheVariants.{Int, Net, Null, Span}
use Rattle.block_model.specs.Matches.{matches}
use Rattle.block_model.specs.RowMatches.{column_matches}
use Rattle.byte_fields.specs.Fields.{field_at, number_of}
use Rattle.opclass_api.specs.Asking.{by_kind}
use Rattle.opclass_api.specs.Conditions.{AllCompare, compares, meets, meets_all}
use Rattle.opclass_inclusion.specs.SpanConsistent.{condition_holds, consistent as span_consistent, key_holds}
use Rattle.opclass_inclusion.specs.SpanIncludes.{Includes as SpanIncludes}
use Rattle.opclass_inclusion.specs.declared.span_summary.SpanSummary.{SpanSummary}
use Rattle.opclass_bloom.proofs.Asking.{misses_none as bloom_misses}
use Rattle.opclass_inclusion.proofs.NetAsking.{misses_none as net_misses}
use Rattle.opclass_inclusion.proofs.SpanAsking.{misses_none as range_misses}
use Rattle.opclass_minmax.proofs.Asking.{misses_none as minmax_misses}
use Rattle.opclass_multi.proofs.Asking.{misses_none as multi_misses}
use Rattle.opclass_any.specs.AnyClass.{consistent, includes}
use Rattle.opclass_any.specs.declared.classes.AnyClass.{AnyClass}
use Rattle.opclass_any.specs.declared.classes.AnyClass.TheVariants as forms
use Rattle.opclass_any.specs.declared.classes.AnySummary.{AnySummary}
use Rattle.opclass_any.specs.declared.classes.AnySummary.TheVariants as kept
use Rattle.range_tuple.specs.Keeps.{column_allows, comparisons, keeps, may_meet}
use Rattle.range_tuple.specs.NullStates.{has_values}
use Rattle.range_tuple.specs.TupleFaults.{length_at, state_at}
use Rattle.range_tuple.specs.TupleIncludes.{ColumnIncludes}
use Rattle.range_tuple.specs.TupleReading.{behind, columns_in, read_of, says_placeholder, state_in, summary_in, tuple_in}
use Rattle.range_tuple.specs.Tuples.{IndexedColumn, Tuple, has_nothing, part_of, parts_of, tuple_of}
use Rattle.range_tuple.proofs.AskingColumns.{all_compare, misses}
use Rattle.range_tuple.proofs.ByPlace.{nothing_included}
use Rattle.range_tuple.specs.OwnKinds.{HaveOwnKeys, IsOfItsKind}
use Rattle.range_tuple.specs.SoundTuples.{ExcludesRows}
use Rattle.range_tuple.proofs.Numbers.{by_cond}
use Rattle.range_tuple.proofs.Reading.{is_behind, on_read, read_ok, reads_of}

-- a test, by what it comes to
by_test : (b : Bool) (P : Type 0) → (b ≡ true → P) → (b ≡ false → P) → P
by_test true P one other = one refl
by_test false P one other = other refl

and_false : (b : Bool) → (b && false) ≡ false
and_false true = refl
and_false false = refl

by_and : (h hs m ms : Bool) → (h && hs) ≡ false → (h ≡ false → m ≡ false) → (hs ≡ false → ms ≡ false) → (m && ms) ≡ false
by_and false hs m ms none one rest = ap (λ (b : Bool). b && ms) (one refl)
by_and true hs m ms none one rest = ap (λ (b : Bool). m && b) (rest none) ∙ and_false m

and_second : (a b : Bool) → (a && b) ≡ false → a ≡ true → b ≡ false
and_second true b none is = none
and_second false b none is = absurd (false≢true is)

-- ---- one summary

range_key : (s : SpanSummary) (op : Op) (key v : Value) → compares op ≡ true → IsOfItsKind key → key_holds s.empty_added s.hull op key ≡ false → SpanIncludes s v → matches v op key ≡ false
range_key s op (Span k) v c own none within = range_misses s op k (own kinds.Span refl).0 none c v within
range_key s op Null (Span r) c own none within = by_kind (Span r) op Null c
range_key s op (Int n) (Span r) c own none within = by_kind (Span r) op (Int n) c
range_key s op (Net n) (Span r) c own none within = by_kind (Span r) op (Net n) c
range_key s op key Null c own none within = absurd within
range_key s op key (Int n) c own none within = absurd within
range_key s op key (Net n) c own none within = absurd within

span_misses : (s : SpanSummary) (conds : List Cond) (v : Value) → AllCompare conds → HaveOwnKeys conds → span_consistent s conds ≡ false → SpanIncludes s v → meets_all conds v ≡ false
span_misses s [] v all own none within = absurd (false≢true (sym none))
span_misses s (c ∷ conds) v all own none within =
    let P : Cond → Type 0 = λ d. IsOfItsKind d.key in
    let both = and_parts (compares c.op) (list_all (λ (d : Cond). compares d.op) conds) all in
    by_and (condition_holds s c) (span_consistent s conds) (meets v c) (meets_all conds v) none
    (λ fails. range_key s c.op c.key v both.0 (All-head P c conds own) fails within)
    (λ fails. span_misses s conds v both.1 (All-tail P c conds own) fails within)

class_misses : (class : AnyClass) (s : AnySummary) (conds : List Cond) (v : Value) → AllCompare conds → HaveOwnKeys conds → consistent class s conds ≡ false → includes class s v → meets_all conds v ≡ false
unfolding consistent includes
class_misses (forms.MinMax class) (kept.MinMax s) conds v all own none within = minmax_misses s conds v all none within
class_misses (forms.Multi limit) (kept.Multi s) conds v all own none within = multi_misses s conds v all none within
class_misses (forms.SpanHull class) (kept.SpanHull s) conds v all own none within = span_misses s conds v all own none within
class_misses (forms.NetHull class) (kept.NetHull s) conds v all own none within = net_misses s conds v all none within
class_misses (forms.Bloom p) (kept.Bloom s) conds v all own none within = bloom_misses p s conds v all none within
class_misses class s conds v all own none within = absurd (false≢true (sym none))

-- ---- columns

column_misses : (column : IndexedColumn) (conds : List Cond) (row : List Value) → HaveOwnKeys conds → column_allows conds column ≡ false → ColumnIncludes row column → list_all (column_matches row) conds ≡ false
column_misses column conds row own none within =
    let P : Cond → Type 0 = λ c. IsOfItsKind c.key in
    let asked = comparisons column.place conds in
    let keys : HaveOwnKeys asked = All-filter (λ (c : Cond). (c.column == column.place) && compares c.op) P conds own in
    misses column (may_meet conds column) conds
    (λ fails there v inc. class_misses column.class column.summary asked v (all_compare column.place conds) keys (and_second (has_values column.state) (consistent column.class column.summary asked) fails there) inc)
    none row within

columns_miss : (columns : List IndexedColumn) (conds : List Cond) (row : List Value) → HaveOwnKeys conds → list_all (column_allows conds) columns ≡ false → All (ColumnIncludes row) columns → list_all (column_matches row) conds ≡ false
columns_miss [] conds row own none within = absurd (false≢true (sym none))
columns_miss (column ∷ columns) conds row own none within =
    by_test (column_allows conds column) (list_all (column_matches row) conds ≡ false)
    (λ t. columns_miss columns conds row own (and_second (column_allows conds column) (list_all (column_allows conds) columns) none t) (All-tail (ColumnIncludes row) column columns within))
    (λ f. column_misses column conds row own f (All-head (ColumnIncludes row) column columns within))

-- ---- tuples

excludes : (t : Tuple) (conds : List Cond) → 0 < length t.columns → t.empty ≡ list_all has_nothing t.columns → HaveOwnKeys conds → keeps t conds ≡ false → ExcludesRows t conds
excludes t conds some empty own none =
    let parts = or_parts t.placeholder (not t.empty && list_all (column_allows conds) t.columns) none in
    record {
      final = parts.0;
      none = λ row within. by_test t.empty (list_all (column_matches row) conds ≡ false)
          (λ held. absurd (nothing_included t.columns row some (sym empty ∙ held) within))
          (λ filled. columns_miss t.columns conds row own (ap (λ (b : Bool). not b && list_all (column_allows conds) t.columns) (sym filled) ∙ parts.1) within);
    }

-- the columns that are read are those of the index
columns_index : (count : ℕ) (bytes : List ℕ) (parts : List (ℕ × AnyClass)) (k at : ℕ) (columns : List IndexedColumn) → columns_in count bytes parts k at ≡ Ok columns → parts_of columns ≡ parts
columns_index count bytes [] k at columns is =
    by_cond (nat_lt at (length bytes)) (Err at) (Ok []) (Ok columns) (parts_of columns ≡ []) is (λ t wrong. absurd (cc)) (λ f is. let own : [] ≡ columns = cc in subst (λ (cs : List IndexedColumn). parts_of cs ≡ []) own refl)
columns_index count bytes (part ∷ parts) k at columns is =
    let size = length_at count bytes k in
    let state = state_in (state_at bytes k) in
    let next : AnySummary → Result (List IndexedColumn) ℕ = λ s. behind (record { place = part.0; class = part.1; state = state; summary = s } ∷ []) (columns_in count bytes parts (k + 1) (at + size)) in
    let on = on_read at (summary_in part.1 state size (drop at bytes)) next columns is in
    let column : IndexedColumn = record { place = part.0; class = part.1; state = state; summary = on.summary } in
    let back = is_behind column (columns_in count bytes parts (k + 1) (at + size)) columns on.rest in
    subst (λ (cs : List IndexedColumn). parts_of cs ≡ part ∷ parts) back.are
    (ap (λ (ps : List (ℕ × AnyClass)). part ∷ ps) (columns_index count bytes parts (k + 1) (at + size) back.more back.read))

pub excludes_of : (parts : List (ℕ × AnyClass)) (bytes : List ℕ) (t : Tuple) (conds : List Cond) → 0 < length parts → tuple_in parts bytes ≡ Some t → HaveOwnKeys conds → keeps t conds ≡ false → ExcludesRows t conds
excludes_of parts bytes t conds some is own none =
    let was = reads_of parts bytes t (read_ok (read_of parts bytes) t is) in
    let n = length parts in
    let made = tuple_of (number_of (field_at bytes 0 4)) (says_placeholder bytes) was.columns in
    let index = columns_index n bytes parts 0 (5 + 3 * n) was.columns was.read in
    let many : 0 < length was.columns = omega (arith, some, length-map was.columns part_of, ap length index) in
    subst (λ (u : Tuple). ExcludesRows u conds) was.is (excludes made conds many refl own (subst (λ (u : Tuple). keeps u conds ≡ false) (sym was.is) none))
