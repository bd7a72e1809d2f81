-- what reads as a tuple of an index is one, with those bytes
use Rattle.std.proofs.Common.{◌≡◌, ℕ, zero, suc, ◌+◌, ◌*◌, ◌<◌, ◌≤◌, ◌^◌, ◌==◌, Bool, true, false, Option, None, Some, List, [], ◌∷◌, ◌++◌, All, length, take, drop, Result, Ok, Err, refl, sym, ap, subst, ◌∙◌, arith}
use Rattle.std.specs.Prelude.{nat_lt}
use Rattle.std.specs.Int.{bytes_high_first}
use Rattle.std.proofs.lemmas.Bool.{false≢true, ltb-false}
use Rattle.std.proofs.lemmas.List.{drop-drop, drop_all, drop_more, length-map, length-take-le, take-append-drop}
use Rattle.std.proofs.Math.Seq.{take-add}
use Rattle.std.proofs.lemmas.List.Elements.{All-cons, All-head, All-nil, All-tail}
use Rattle.byte_fields.specs.Fields.{AreBytes, AreBytes-drop, AreBytes-take, bytes-number, field_at, length-field, number_of as spelt, put-number}
use Rattle.opclass_any.specs.AnyClass.{bytes_of, empty, read_of as summary_of}
use Rattle.opclass_any.specs.declared.classes.AnyClass.{AnyClass}
use Rattle.opclass_any.specs.declared.classes.AnySummary.{AnySummary}
use Rattle.range_tuple.specs.NullStates.{has_values, number_of}
use Rattle.range_tuple.specs.TupleBytes.{columns_bytes, length_bytes, lengths_bytes, state_number, states_bytes, summaries_bytes, summary_bytes, tuple_bytes}
use Rattle.range_tuple.specs.TupleFaults.{head_fault, length_at, state_at}
use Rattle.range_tuple.specs.TupleReading.{behind, columns_in, columns_read, is_there, read_of, read_on, says_placeholder, some_in, state_in, summary_in, tuple_behind, tuple_in, whole}
use Rattle.range_tuple.specs.Tuples.{IndexedColumn, IsColumn, IsSummaryIn, Tuple, part_of, parts_of, tuple_of}
use Rattle.range_tuple.specs.declared.state.NullState.{NullState}
use Rattle.range_tuple.proofs.ColumnBytes.{summary_of_none, summary_of_values}
use Rattle.range_tuple.proofs.HeadFaults.{IsHeadInForm, in_form, length_agrees, state_small}
use Rattle.range_tuple.proofs.TupleRead.{bytes_found}
use Rattle.range_tuple.specs.SoundClasses.{IsSoundClass}
use Rattle.range_tuple.specs.SoundTuples.{IsTupleSpelt}
use Rattle.range_tuple.proofs.Numbers.{by_cond, number_small}

-- ---- one summary

-- the first bytes of some are those of a summary in its state
record IsRead (class : AnyClass) (state : NullState) (size : ℕ) (bytes : List ℕ) (s : AnySummary) : Type 0 where
  lawful : IsSummaryIn class state s
  within : size ≤ length bytes
  spelt : (place : ℕ) → summary_bytes (record { place = place; class = class; state = state; summary = s }) ≡ take size bytes

whole_ok : (short : Bool) (end : ℕ) (r : Result AnySummary ℕ) (s : AnySummary) → whole short end r ≡ Ok s → (short ≡ false) × (r ≡ Ok s)
whole_ok short end (Err at) s is = absurd (cc)
whole_ok true end (Ok t) s is = absurd (cc)
whole_ok false end (Ok t) s is = (refl, is)

-- in a state with values
values_read : (class : AnyClass) (state : NullState) (size : ℕ) (bytes : List ℕ) (s : AnySummary) → IsSoundClass class → AreBytes bytes → has_values state ≡ true → 0 < size → some_in class size bytes ≡ Ok s → IsRead class state size bytes s
values_read class state size bytes s sound small some there is =
    by_cond (length bytes == 0) (Err 0) (whole (nat_lt (length bytes) size) (length bytes) (summary_of class (take size bytes))) (Ok s) (IsRead class state size bytes s) is (λ t wrong. absurd (cc))
    (λ f is. let parts = whole_ok (nat_lt (length bytes) size) (length bytes) (summary_of class (take size bytes)) s is in
    let within : size ≤ length bytes = ltb-false (length bytes) size parts.0 in
    let read = sound.read (take size bytes) s (AreBytes-take size bytes small) parts.1 in
    let long : length (bytes_of class s) ≡ size = ap length (sym read.spelt) ∙ length-take-le size bytes within in
    record {
      lawful = record { of_class = read.of_class; of_no_value = λ none. absurd (false≢true (sym none ∙ some)); has_bytes = λ t. omega (arith, long, there) };
      within = within;
      spelt = λ place. summary_of_values (record { place = place; class = class; state = state; summary = s }) some ∙ sym read.spelt;
    })

none_read : (class : AnyClass) (state : NullState) (size : ℕ) (bytes : List ℕ) (s : AnySummary) → IsSoundClass class → has_values state ≡ false → size ≡ 0 → empty class ≡ s → IsRead class state size bytes s
none_read class state size bytes s sound none no_size own =
    subst (IsRead class state size bytes) own (record {
      lawful = record { of_class = sound.empty; of_no_value = λ t. refl; has_bytes = λ some. absurd (false≢true (sym none ∙ some)) };
      within = omega (arith, no_size);
      spelt = λ place. summary_of_none (record { place = place; class = class; state = state; summary = empty class }) none ∙ ap (λ (n : ℕ). take n bytes) (sym no_size);
    })

summary_read : (class : AnyClass) (state : NullState) (size : ℕ) (bytes : List ℕ) (s : AnySummary) → IsSoundClass class → AreBytes bytes → (has_values state ≡ true → 0 < size) → (has_values state ≡ false → size ≡ 0) → summary_in class state size bytes ≡ Ok s → IsRead class state size bytes s
unfolding summary_in
summary_read class state size bytes s sound small some none is =
    by_cond (has_values state) (some_in class size bytes) (Ok (empty class)) (Ok s) (IsRead class state size bytes s) is
    (λ t is. values_read class state size bytes s sound small t (some t) is)
    (λ f is. let own : empty class ≡ s = cc in none_read class state size bytes s sound f (none f) own)

-- ---- the columns from one on

-- the columns whose states, lengths and summaries stand there
record AreFound (count : ℕ) (bytes : List ℕ) (parts : List (ℕ × AnyClass)) (k at : ℕ) (columns : List IndexedColumn) : Type 0 where
  index : parts_of columns ≡ parts
  lawful : All IsColumn columns
  states : states_bytes columns ≡ take (length parts) (drop (5 + k) bytes)
  lengths : lengths_bytes columns ≡ take (2 * length parts) (drop (5 + count + 2 * k) bytes)
  summaries : summaries_bytes columns ≡ drop at bytes

pub record OnRead (at : ℕ) (r : Result AnySummary ℕ) (next : AnySummary → Result (List IndexedColumn) ℕ) (columns : List IndexedColumn) : Type 0 where
  pub summary : AnySummary
  pub read : r ≡ Ok summary
  pub rest : next summary ≡ Ok columns

pub on_read : (at : ℕ) (r : Result AnySummary ℕ) (next : AnySummary → Result (List IndexedColumn) ℕ) (columns : List IndexedColumn) → read_on at r next ≡ Ok columns → OnRead at r next columns
on_read at (Ok s) next columns is = record { summary = s; read = refl; rest = is }
on_read at (Err fault) next columns is = absurd (cc)

pub record IsBehind (column : IndexedColumn) (r : Result (List IndexedColumn) ℕ) (columns : List IndexedColumn) : Type 0 where
  pub more : List IndexedColumn
  pub read : r ≡ Ok more
  pub are : column ∷ more ≡ columns

pub is_behind : (column : IndexedColumn) (r : Result (List IndexedColumn) ℕ) (columns : List IndexedColumn) → behind (column ∷ []) r ≡ Ok columns → IsBehind column r columns
is_behind column (Ok more) columns is = let same : column ∷ more ≡ columns = cc in record { more = more; read = refl; are = same }
is_behind column (Err at) columns is = absurd (cc)

state_number_again : (n : ℕ) → n ≤ 3 → number_of (state_in n) ≡ n
state_number_again zero small = refl
state_number_again (suc zero) small = refl
state_number_again (suc (suc zero)) small = refl
state_number_again (suc (suc (suc zero))) small = refl
state_number_again (suc (suc (suc (suc n)))) small = absurd (omega (arith, small))

-- a length that is read is written again
length_again : (column : IndexedColumn) (count : ℕ) (bytes : List ℕ) (k : ℕ) → AreBytes bytes → 5 + count + 2 * k + 2 ≤ length bytes → length (summary_bytes column) ≡ length_at count bytes k → length_bytes column ≡ field_at bytes (5 + count + 2 * k) 2
unfolding length_bytes
length_again column count bytes k small within long =
    let field = field_at bytes (5 + count + 2 * k) 2 in
    ap (bytes_high_first 2) long
    ∙ ap (λ (n : ℕ). bytes_high_first n (spelt field)) (sym (length-field bytes (5 + count + 2 * k) 2 within))
    ∙ bytes-number field (AreBytes-take 2 (drop (5 + count + 2 * k) bytes) (AreBytes-drop (5 + count + 2 * k) bytes small))

module _ (count : ℕ) (bytes : List ℕ) (small : AreBytes bytes) (form : IsHeadInForm count bytes) where
  -- one column, and those behind it
  one_found : (column : IndexedColumn) (parts : List (ℕ × AnyClass)) (k at size : ℕ) (more : List IndexedColumn) → k < count → size ≡ length_at count bytes k → state_number column ≡ state_at bytes k → IsRead column.class column.state size (drop at bytes) column.summary
      → AreFound count bytes parts (k + 1) (at + size) more → AreFound count bytes (part_of column ∷ parts) k at (column ∷ more)
  one_found column parts k at size more below is state read rest =
      let summary : summary_bytes column ≡ take size (drop at bytes) = read.spelt column.place in
      let long : length (summary_bytes column) ≡ length_at count bytes k = ap length summary ∙ length-take-le size (drop at bytes) read.within ∙ is in
      let there = length_again column count bytes k small (omega (arith, below, form.long)) long in
      let n = length parts in
      let five : 5 + k + 1 ≡ 5 + (k + 1) = omega arith in
      let twice : 5 + count + 2 * k + 2 ≡ 5 + count + 2 * (k + 1) = omega arith in
      let double : 2 * suc n ≡ 2 + 2 * n = omega arith in
      record {
        index = ap (λ (ps : List (ℕ × AnyClass)). part_of column ∷ ps) rest.index;
        lawful = All-cons IsColumn column more read.lawful rest.lawful;
        states =
            (λ i. state i ∷ rest.states i)
            ∙ ap (λ (m : ℕ). state_at bytes k ∷ take n (drop m bytes)) (sym five)
            ∙ ap (take (suc n)) (sym (drop_more bytes (5 + k) 0 (omega (arith, below, form.long))));
        lengths =
            (λ i. there i ++ rest.lengths i)
            ∙ ap (λ (m : ℕ). field_at bytes (5 + count + 2 * k) 2 ++ take (2 * n) (drop m bytes)) (sym twice)
            ∙ ap (λ (xs : List ℕ). field_at bytes (5 + count + 2 * k) 2 ++ take (2 * n) xs) (sym (drop-drop 2 (5 + count + 2 * k) bytes))
            ∙ sym (take-add 2 (2 * n) (drop (5 + count + 2 * k) bytes))
            ∙ ap (λ (m : ℕ). take m (drop (5 + count + 2 * k) bytes)) (sym double);
        summaries = (λ i. summary i ++ (rest.summaries ∙ sym (drop-drop size at bytes)) i) ∙ take-append-drop size (drop at bytes);
      }

  columns_found : (parts : List (ℕ × AnyClass)) (k at : ℕ) (columns : List IndexedColumn) → All (λ (p : ℕ × AnyClass). IsSoundClass p.1) parts → k + length parts ≡ count → columns_in count bytes parts k at ≡ Ok columns → AreFound count bytes parts k at columns
  columns_found [] k at columns sound all is =
      by_cond (nat_lt at (length bytes)) (Err at) (Ok []) (Ok columns) (AreFound count bytes [] k at columns) is (λ t wrong. absurd (cc))
      (λ f is. let own : [] ≡ columns = cc in
      subst (AreFound count bytes [] k at) own (record {
        index = refl;
        lawful = All-nil IsColumn;
        states = refl;
        lengths = refl;
        summaries = sym (drop_all at bytes (ltb-false at (length bytes) f));
      }))
  columns_found (part ∷ parts) k at columns sound all is =
      let P : ℕ × AnyClass → Type 0 = λ p. IsSoundClass p.1 in
      let below : k < count = omega arith in
      let size = length_at count bytes k in
      let state = state_in (state_at bytes k) in
      let next : AnySummary → Result (List IndexedColumn) ℕ = λ s. behind (record { place = part.0; class = part.1; state = state; summary = s } ∷ []) (columns_in count bytes parts (k + 1) (at + size)) in
      let on = on_read at (summary_in part.1 state size (drop at bytes)) next columns is in
      let column : IndexedColumn = record { place = part.0; class = part.1; state = state; summary = on.summary } in
      let back = is_behind column (columns_in count bytes parts (k + 1) (at + size)) columns on.rest in
      let number : number_of state ≡ state_at bytes k = state_number_again (state_at bytes k) (state_small count bytes k (form.states k below)) in
      let agrees = length_agrees count bytes k state size (form.lengths k below) number refl in
      let read = summary_read part.1 state size (drop at bytes) on.summary (All-head P part parts sound) (AreBytes-drop at bytes small) agrees.0 agrees.1 on.read in
      let rest = columns_found parts (k + 1) (at + size) back.more (All-tail P part parts sound) (omega (arith, all)) back.read in
      subst (AreFound count bytes (part ∷ parts) k at) back.are (one_found column parts k at size back.more below refl number read rest)

-- ---- the tuple

pub record TupleBehind (bytes : List ℕ) (fault : Option ℕ) (r : Result (List IndexedColumn) ℕ) (t : Tuple) : Type 0 where
  pub none : fault ≡ None
  pub columns : List IndexedColumn
  pub read : r ≡ Ok columns
  pub is : tuple_of (spelt (field_at bytes 0 4)) (says_placeholder bytes) columns ≡ t

tuple_parts : (bytes : List ℕ) (fault : Option ℕ) (r : Result (List IndexedColumn) ℕ) (t : Tuple) → tuple_behind bytes fault r ≡ Ok t → TupleBehind bytes fault r t
tuple_parts bytes (Some at) r t is = absurd (cc)
tuple_parts bytes None (Err at) t is = absurd (cc)
tuple_parts bytes None (Ok columns) t is =
    let same : tuple_of (spelt (field_at bytes 0 4)) (says_placeholder bytes) columns ≡ t = cc in
    record { none = refl; columns = columns; read = refl; is = same }

-- the bytes behind the flags
columns_spelt : (bytes : List ℕ) (parts : List (ℕ × AnyClass)) (columns : List IndexedColumn) → AreFound (length parts) bytes parts 0 (5 + 3 * length parts) columns → drop 5 bytes ≡ columns_bytes columns
unfolding columns_bytes
columns_spelt bytes parts columns found =
    let n = length parts in
    let none : 5 + n + 2 * 0 ≡ 5 + n = omega arith in
    let states : take n (drop 5 bytes) ≡ states_bytes columns = sym found.states in
    let lengths : take (2 * n) (drop (5 + n) bytes) ≡ lengths_bytes columns = ap (λ (m : ℕ). take (2 * n) (drop m bytes)) (sym none) ∙ sym found.lengths in
    let base : 5 + n + 2 * n ≡ 5 + 3 * n = omega arith in
    let summaries : drop (2 * n) (drop (5 + n) bytes) ≡ summaries_bytes columns = drop-drop (2 * n) (5 + n) bytes ∙ ap (λ (m : ℕ). drop m bytes) base ∙ sym found.summaries in
    let back : drop n (drop 5 bytes) ≡ lengths_bytes columns ++ summaries_bytes columns = drop-drop n 5 bytes ∙ sym (take-append-drop (2 * n) (drop (5 + n) bytes)) ∙ (λ i. lengths i ++ summaries i) in
    sym (take-append-drop n (drop 5 bytes)) ∙ (λ i. states i ++ back i)

pub read_ok : (r : Result Tuple ℕ) (t : Tuple) → is_there r ≡ Some t → r ≡ Ok t
read_ok (Ok u) t is = let same : u ≡ t = cc in ap Ok same
read_ok (Err at) t is = absurd (cc)

pub reads_of : (parts : List (ℕ × AnyClass)) (bytes : List ℕ) (t : Tuple) → read_of parts bytes ≡ Ok t → TupleBehind bytes (head_fault (length parts) bytes) (columns_read (length parts) parts bytes) t
unfolding read_of
reads_of parts bytes t is = tuple_parts bytes (head_fault (length parts) bytes) (columns_read (length parts) parts bytes) t is

pub spelt_of : (parts : List (ℕ × AnyClass)) (bytes : List ℕ) (t : Tuple) → 0 < length parts → All (λ (p : ℕ × AnyClass). IsSoundClass p.1) parts → AreBytes bytes → tuple_in parts bytes ≡ Some t → IsTupleSpelt parts bytes t
spelt_of parts bytes t some sound small is =
    let was = reads_of parts bytes t (read_ok (read_of parts bytes) t is) in
    let n = length parts in
    let form : IsHeadInForm n bytes = in_form n bytes was.none in
    let found = columns_found n bytes small form parts 0 (5 + 3 * n) was.columns sound (omega arith) was.read in
    let range = spelt (field_at bytes 0 4) in
    let long : length was.columns ≡ n = sym (length-map was.columns part_of) ∙ ap length found.index in
    let five : 5 ≤ length bytes = omega (arith, form.long) in
    let fits : range < 2 ^ 32 = omega (arith, number_small bytes 0 4 small (omega (arith, five))) in
    let own = tuple_of range (says_placeholder bytes) was.columns in
    let bytes_are : bytes ≡ tuple_bytes own =
    bytes_found bytes was.columns range (says_placeholder bytes) (omega (arith, some, long)) (ap (λ (m : ℕ). head_fault m bytes) long ∙ was.none) (put-number bytes 0 4 (omega (arith, five)) small) refl
    (columns_spelt bytes parts was.columns found)
    in
    subst (IsTupleSpelt parts bytes) was.is (record { of = record { is = record { range_fits = fits; empty_flag = refl; columns = found.lawful }; of_index = found.index }; spelt = bytes_are })
