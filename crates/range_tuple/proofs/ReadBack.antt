-- the bytes of a tuple are read as that tuple
use Rattle.std.proofs.Common.{◌≡◌, ℕ, suc, ◌+◌, ◌*◌, ◌<◌, ◌≤◌, Bool, true, false, cond, List, [], ◌∷◌, ◌++◌, All, length, get_or, take, drop, None, Result, Ok, Err, ◌==◌, ◌||◌, refl, sym, ap, ◌∙◌, subst, arith, append_assoc}
use Rattle.std.specs.Prelude.{nat_lt}
use Rattle.std.proofs.lemmas.Bool.{eq-eqb, le-ltb, lt-ltb, ne_eqb}
use Rattle.std.proofs.lemmas.List.{append-nil, drop_at, get_or_at, length-append, length-map, take_at}
use Rattle.std.proofs.lemmas.List.Concat.{flat_map-append}
use Rattle.opclass_any.specs.AnyClass.{empty, read_of}
use Rattle.range_tuple.specs.KeptColumns.{IsReadAgain, ReadsAgain}
use Rattle.range_tuple.specs.NullStates.{number_of, has_values}
use Rattle.range_tuple.specs.TupleBytes.{columns_bytes, flags_of, length_bytes, summaries_bytes, summary_bytes, tuple_bytes}
use Rattle.range_tuple.specs.TupleFaults.{head_fault, length_at, state_at}
use Rattle.range_tuple.specs.TupleReading.{behind, columns_in, read_on, says_placeholder, some_in, state_in, summary_in, read_of as read_tuple, tuple_behind, whole}
use Rattle.range_tuple.specs.Tuples.{IndexedColumn, IsColumn, IsTuple, Tuple, part_of, parts_of}
use Rattle.opclass_any.specs.declared.classes.AnyClass.{AnyClass}
use Rattle.opclass_any.specs.declared.classes.AnySummary.{AnySummary}
use Rattle.range_tuple.specs.declared.state.NullState.{NullState}
use Rattle.range_tuple.specs.declared.state.NullState.TheVariants.{Nothing, Nulls, Values, Both}
use Rattle.range_tuple.proofs.ColumnBytes.{summary_fits, summary_of_values}
use Rattle.range_tuple.proofs.EachColumn.{has_areas, has_column, has_summary}
use Rattle.range_tuple.proofs.HeadFaults.{from_form}
use Rattle.range_tuple.proofs.TuplesInForm.{length_spelt, tuple_in_form}
use Rattle.range_tuple.proofs.WholeTuples.{has_fields}

pub state_of_number : (s : NullState) → state_in (number_of s) ≡ s
state_of_number Nothing = refl
state_of_number Nulls = refl
state_of_number Values = refl
state_of_number Both = refl

-- ---- one summary

pub read_none : (class : AnyClass) (state : NullState) (size : ℕ) (bytes : List ℕ) → has_values state ≡ false → summary_in class state size bytes ≡ Ok (empty class)
unfolding summary_in
read_none class state size bytes none = ap (λ (b : Bool). cond b (some_in class size bytes) (Ok (empty class))) none

read_some : (class : AnyClass) (state : NullState) (size : ℕ) (bytes : List ℕ) → has_values state ≡ true → 0 < length bytes → summary_in class state size bytes ≡ whole (nat_lt (length bytes) size) (length bytes) (read_of class (take size bytes))
unfolding summary_in
read_some class state size bytes some there =
    ap (λ (b : Bool). cond b (some_in class size bytes) (Ok (empty class))) some
    ∙ ap (λ (b : Bool). cond b (Err 0) (whole (nat_lt (length bytes) size) (length bytes) (read_of class (take size bytes)))) (ne_eqb (length bytes) 0 (λ zero. omega (arith, there, zero)))

pub read_no_bytes : (class : AnyClass) (state : NullState) (size : ℕ) (bytes : List ℕ) → has_values state ≡ true → length bytes ≡ 0 → summary_in class state size bytes ≡ Err 0
unfolding summary_in
read_no_bytes class state size bytes some none =
    ap (λ (b : Bool). cond b (some_in class size bytes) (Ok (empty class))) some
    ∙ ap (λ (b : Bool). cond b (Err 0) (whole (nat_lt (length bytes) size) (length bytes) (read_of class (take size bytes)))) (eq-eqb (length bytes) 0 none)

pub read_fault : (class : AnyClass) (state : NullState) (size at : ℕ) (bytes : List ℕ) → has_values state ≡ true → 0 < length bytes → read_of class (take size bytes) ≡ Err at → summary_in class state size bytes ≡ Err at
read_fault class state size at bytes some there is =
    read_some class state size bytes some there ∙ ap (whole (nat_lt (length bytes) size) (length bytes)) is ∙ same (nat_lt (length bytes) size)
  where
    same : (b : Bool) → whole b (length bytes) (Err at) ≡ Err at
    same true = refl
    same false = refl

pub read_short : (class : AnyClass) (state : NullState) (size : ℕ) (bytes : List ℕ) (s : AnySummary) → has_values state ≡ true → 0 < length bytes → read_of class (take size bytes) ≡ Ok s → length bytes < size → summary_in class state size bytes ≡ Err (length bytes)
read_short class state size bytes s some there is short =
    read_some class state size bytes some there ∙ (λ i. whole (lt-ltb (length bytes) size short i) (length bytes) (is i))

pub read_whole : (class : AnyClass) (state : NullState) (size : ℕ) (bytes : List ℕ) (s : AnySummary) → has_values state ≡ true → 0 < length bytes → read_of class (take size bytes) ≡ Ok s → size ≤ length bytes → summary_in class state size bytes ≡ Ok s
read_whole class state size bytes s some there is long =
    read_some class state size bytes some there ∙ (λ i. whole (le-ltb (length bytes) size long i) (length bytes) (is i))

by_state : (column : IndexedColumn) (rest : List ℕ) (b : Bool) → has_values column.state ≡ b → IsReadAgain column.class → IsColumn column → summary_in column.class column.state (length (summary_bytes column)) (summary_bytes column ++ rest) ≡ Ok column.summary
by_state column rest false is again of = read_none column.class column.state _ _ is ∙ ap Ok (sym (of.of_no_value is))
by_state column rest true is again of =
    let s = summary_bytes column in
    let some : 0 < length s = rw (summary_of_values column is) (of.has_bytes is) in
    read_whole column.class column.state (length s) (s ++ rest) column.summary is (omega (arith, some, length-append s rest))
    (ap (read_of column.class) (take_at s rest (length s) refl ∙ summary_of_values column is) ∙ again.again column.summary of.of_class) (omega (arith, length-append s rest))

pub summary_again : (column : IndexedColumn) (bytes rest : List ℕ) (state : NullState) (size : ℕ) → IsReadAgain column.class → IsColumn column → state ≡ column.state → size ≡ length (summary_bytes column) → bytes ≡ summary_bytes column ++ rest → summary_in column.class state size bytes ≡ Ok column.summary
summary_again column bytes rest state size again of same long is =
    (λ i. summary_in column.class (same i) (long i) (is i)) ∙ by_state column rest (has_values column.state) refl again of

-- the columns behind some that were read
columns_again : (done rest : List IndexedColumn) (bytes : List ℕ) (k at : ℕ) → 5 ≤ length bytes → drop 5 bytes ≡ columns_bytes (done ++ rest) → k ≡ length done → at ≡ 5 + 3 * length (done ++ rest) + length (summaries_bytes done) → All IsColumn rest → All ReadsAgain rest → columns_in (length (done ++ rest)) bytes (parts_of rest) k at ≡ Ok rest
columns_again done [] bytes k at head is place front of again =
    let areas = has_areas (done ++ []) bytes head is in
    let past : nat_lt at (length bytes) ≡ false = le-ltb at (length bytes) (omega (arith, front, areas.long, ap (λ (cs : List IndexedColumn). length (summaries_bytes cs)) (append-nil done))) in
    ap (λ (b : Bool). cond b (Err at) (Ok [])) past
columns_again done (column ∷ rest) bytes k at head is place front of again =
    let columns = done ++ column ∷ rest in
    let count = length columns in
    let within : k < count = omega (arith, place, length-append done (column ∷ rest)) in
    let there : get_or columns k column ≡ column = get_or_at done column rest column k (sym place) in
    let first : take k columns ≡ done = take_at done (column ∷ rest) k (sym place) in
    let one : IsColumn column = of 0 column (omega arith) in
    let known : IsReadAgain column.class = again 0 column (omega arith) in
    let fields = has_column columns bytes k column head is within in
    let state : state_in (state_at bytes k) ≡ column.state = ap state_in (fields.state ∙ ap (λ (c : IndexedColumn). number_of c.state) there) ∙ state_of_number column.state in
    let fits : length (summary_bytes column) < 65536 = summary_fits column known.fits one in
    let size : length_at count bytes k ≡ length (summary_bytes column) = length_spelt column bytes count k fits (fields.size ∙ ap (λ (c : IndexedColumn). length_bytes c) there) in
    let last : drop (k + 1) columns ≡ rest = ap (drop (k + 1)) (sym (append_assoc done (column ∷ []) rest)) ∙ drop_at (done ++ column ∷ []) rest (k + 1) (omega (arith, length-append done (column ∷ []), place)) in
    let tail : drop at bytes ≡ summary_bytes column ++ summaries_bytes rest =
    has_summary columns bytes k at column head is within (front ∙ ap (λ (cs : List IndexedColumn). 5 + 3 * count + length (summaries_bytes cs)) (sym first)) ∙ (λ i. summary_bytes (there i) ++ summaries_bytes (last i))
    in
    let read = summary_again column (drop at bytes) (summaries_bytes rest) (state_in (state_at bytes k)) (length_at count bytes k) known one state size tail in
    let whole_is : done ++ column ∷ [] ++ rest ≡ columns = append_assoc done (column ∷ []) rest in
    let more : summaries_bytes (done ++ column ∷ []) ≡ summaries_bytes done ++ summary_bytes column = flat_map-append summary_bytes done (column ∷ []) ∙ ap (λ (bs : List ℕ). summaries_bytes done ++ bs) (append-nil (summary_bytes column)) in
    let next : columns_in count bytes (parts_of rest) (k + 1) (at + length_at count bytes k) ≡ Ok rest =
    subst (λ (cs : List IndexedColumn). columns_in (length cs) bytes (parts_of rest) (k + 1) (at + length_at count bytes k) ≡ Ok rest) whole_is
    (columns_again (done ++ column ∷ []) rest bytes (k + 1) (at + length_at count bytes k) head (is ∙ ap columns_bytes (sym whole_is)) (omega (arith, length-append done (column ∷ []), place))
    (omega (arith, front, size, ap length more, length-append (summaries_bytes done) (summary_bytes column), ap (λ (cs : List IndexedColumn). length cs) whole_is)) (λ j d below. of (suc j) d (omega (arith, below))) (λ j d below. again (suc j) d (omega (arith, below))))
    in
    let st = state_in (state_at bytes k) in
    let f : AnySummary → Result (List IndexedColumn) ℕ = λ s. behind (record { place = column.place; class = column.class; state = st; summary = s } ∷ []) (columns_in count bytes (parts_of rest) (k + 1) (at + length_at count bytes k)) in
    ap (λ (r : Result AnySummary ℕ). read_on at r f) read
    ∙ ap (behind (record { place = column.place; class = column.class; state = st; summary = column.summary } ∷ [])) next
    ∙ (λ i. Ok (record { place = column.place; class = column.class; state = state i; summary = column.summary } ∷ rest))

-- ---- columns one after the other

-- one column more behind those that were read
pub behind_more : (columns : List IndexedColumn) (column : IndexedColumn) (rest : Result (List IndexedColumn) ℕ) → behind columns (behind (column ∷ []) rest) ≡ behind (columns ++ column ∷ []) rest
behind_more columns column (Ok more) = ap Ok (sym (append_assoc columns (column ∷ []) more))
behind_more columns column (Err at) = refl

pub behind_err : (columns : List IndexedColumn) (rest : Result (List IndexedColumn) ℕ) (at : ℕ) → rest ≡ Err at → behind columns rest ≡ Err at
behind_err columns (Ok more) at is = cc
behind_err columns (Err other) at is = is

placeholder_said : (placeholder empty : Bool) → ((flags_of placeholder empty == 1) || (flags_of placeholder empty == 3)) ≡ placeholder
placeholder_said true true = refl
placeholder_said true false = refl
placeholder_said false true = refl
placeholder_said false false = refl

pub tuple_again : (t : Tuple) (bytes : List ℕ) → IsTuple t → All ReadsAgain t.columns → bytes ≡ tuple_bytes t → read_tuple (parts_of t.columns) bytes ≡ Ok t
unfolding read_tuple
tuple_again t bytes lawful again is =
    let fields = has_fields t bytes lawful.range_fits is in
    let columns = t.columns in
    let count : length (parts_of columns) ≡ length columns = length-map columns part_of in
    let fits : All (λ column. length (summary_bytes column) < 65536) columns = λ k d below. summary_fits (get_or columns k d) (again k d below).fits (lawful.columns k d below) in
    let head : head_fault (length (parts_of columns)) bytes ≡ None = ap (λ (n : ℕ). head_fault n bytes) count ∙ from_form (length columns) bytes (tuple_in_form t bytes lawful fits is) in
    let read : columns_in (length (parts_of columns)) bytes (parts_of columns) 0 (5 + 3 * length (parts_of columns)) ≡ Ok columns =
    ap (λ (n : ℕ). columns_in n bytes (parts_of columns) 0 (5 + 3 * n)) count ∙ columns_again [] columns bytes 0 (5 + 3 * length columns) fields.long fields.columns_there refl (omega arith) lawful.columns again
    in
    let placeholder : says_placeholder bytes ≡ t.placeholder = ap (λ (n : ℕ). (n == 1) || (n == 3)) fields.flags_there ∙ placeholder_said t.placeholder t.empty in
    (λ i. tuple_behind bytes (head i) (read i)) ∙ (λ i. Ok (record { range = fields.range_there i; placeholder = placeholder i; empty = sym lawful.empty_flag i; columns = columns }))
