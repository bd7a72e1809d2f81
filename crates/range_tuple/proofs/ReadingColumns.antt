-- columns read one after the other
use Rattle.std.proofs.Common.{◌≡◌, ℕ, ◌+◌, ◌*◌, ◌<◌, ◌≤◌, Bool, cond, List, [], ◌∷◌, ◌++◌, length, map, get_or, take, drop, set, Result, Ok, Err, refl, sym, ap, ◌∙◌, arith}
use Rattle.std.specs.Int.{bytes_high_first}
use Rattle.std.proofs.Math.Seq.{take-add}
use Rattle.std.proofs.lemmas.Bool.{le-ltb, lt-ltb}
use Rattle.std.proofs.lemmas.List.{append-nil, append_assoc, drop-drop, drop_all, drop_more, get_or-drop, get_or-map, length-append, length-drop, length-map, length-take-le, map_push, take-append-drop, take_all, take_more, take_more_set}
use Rattle.byte_fields.specs.Fields.{field_at}
use Rattle.range_tuple.specs.NullStates.{number_of}
use Rattle.range_tuple.specs.TupleBytes.{columns_bytes, length_bytes, lengths_bytes, state_number, states_bytes, summaries_bytes, summary_bytes}
use Rattle.range_tuple.specs.TupleFaults.{length_at, state_at}
use Rattle.range_tuple.specs.TupleReading.{behind, columns_in, read_on, state_in, summary_in}
use Rattle.range_tuple.specs.Tuples.{IndexedColumn, part_of, parts_of}
use Rattle.opclass_any.specs.declared.classes.AnyClass.{AnyClass}
use Rattle.opclass_any.specs.declared.classes.AnySummary.{AnySummary}
use Rattle.range_tuple.specs.declared.state.NullState.{NullState}
use Rattle.range_tuple.proofs.ByPlace.{parts-set}
use Rattle.range_tuple.proofs.EachColumn.{flat_set}
use Rattle.range_tuple.proofs.ReadBack.{behind_err, behind_more, state_of_number}

-- so many first columns are those that the bytes encode, and the next summary stands at that place
pub record AreRead (parts : List (ℕ × AnyClass)) (bytes : List ℕ) (count i at : ℕ) (columns : List IndexedColumn) : Type 0 where
  pub same_index : parts_of columns ≡ parts
  pub within : at ≤ length bytes
  pub place : at ≡ 5 + 3 * count + length (summaries_bytes (take i columns))
  pub states : states_bytes (take i columns) ≡ take i (drop 5 bytes)
  pub lengths : lengths_bytes (take i columns) ≡ take (2 * i) (drop (5 + count) bytes)
  pub summaries : drop (5 + 3 * count) bytes ≡ summaries_bytes (take i columns) ++ drop at bytes
  pub read : columns_in count bytes parts 0 (5 + 3 * count) ≡ behind (take i columns) (columns_in count bytes (drop i parts) i at)

-- what is read of the next column: its state, its summary's length, and its summary
pub record IsNext (bytes : List ℕ) (count i at size : ℕ) (x : IndexedColumn) (state : NullState) : Type 0 where
  pub state_is : number_of state ≡ state_at bytes i
  pub size_is : size ≡ length_at count bytes i
  pub size_bytes : field_at bytes (5 + count + 2 * i) 2 ≡ bytes_high_first 2 size

-- the next column's part is the next of the index
next_part : (parts : List (ℕ × AnyClass)) (columns : List IndexedColumn) (i : ℕ) (x : IndexedColumn) → parts_of columns ≡ parts → i < length columns → x ≡ get_or columns i x → drop i parts ≡ part_of x ∷ drop (i + 1) parts
next_part parts columns i x same within is =
    let long : length parts ≡ length columns = ap length (sym same) ∙ length-map columns part_of in
    let there : get_or parts i (part_of x) ≡ part_of x = ap (λ (ps : List (ℕ × AnyClass)). get_or ps i (part_of x)) (sym same) ∙ get_or-map part_of columns i x (part_of x) within ∙ ap part_of (sym is) in
    drop_more parts i (part_of x) (omega (arith, long, within)) ∙ ap (λ (p : ℕ × AnyClass). p ∷ drop (i + 1) parts) there

-- reading goes on with that column
goes_on : (parts : List (ℕ × AnyClass)) (bytes : List ℕ) (count i at size : ℕ) (x : IndexedColumn) (state : NullState) → drop i parts ≡ part_of x ∷ drop (i + 1) parts → IsNext bytes count i at size x state
    → columns_in count bytes (drop i parts) i at ≡ read_on at (summary_in x.class state size (drop at bytes)) (λ s. behind (record { place = x.place; class = x.class; state = state; summary = s } ∷ []) (columns_in count bytes (drop (i + 1) parts) (i + 1) (at + size)))
goes_on parts bytes count i at size x state part next =
    let st : state_in (state_at bytes i) ≡ state = ap state_in (sym next.state_is) ∙ state_of_number state in
    let sz : length_at count bytes i ≡ size = sym next.size_is in
    ap (λ (ps : List (ℕ × AnyClass)). columns_in count bytes ps i at) part
    ∙ (λ j. read_on at (summary_in x.class (st j) (sz j) (drop at bytes)) (λ s. behind (record { place = x.place; class = x.class; state = st j; summary = s } ∷ []) (columns_in count bytes (drop (i + 1) parts) (i + 1) (at + sz j))))

-- where its summary goes wrong
pub read_fails : (parts : List (ℕ × AnyClass)) (bytes : List ℕ) (count i at size fault : ℕ) (columns : List IndexedColumn) (x : IndexedColumn) (state : NullState) → AreRead parts bytes count i at columns → i < length columns → x ≡ get_or columns i x → IsNext bytes count i at size x state → summary_in x.class state size (drop at bytes) ≡ Err fault → columns_in count bytes parts 0 (5 + 3 * count) ≡ Err (at + fault)
read_fails parts bytes count i at size fault columns x state before within is next wrong =
    let on = goes_on parts bytes count i at size x state (next_part parts columns i x before.same_index within is) next in
    before.read ∙ behind_err (take i columns) (columns_in count bytes (drop i parts) i at) (at + fault)
    (on ∙ ap (λ (r : Result AnySummary ℕ). read_on at r (λ s. behind (record { place = x.place; class = x.class; state = state; summary = s } ∷ []) (columns_in count bytes (drop (i + 1) parts) (i + 1) (at + size)))) wrong)

-- one column more
pub read_more : (parts : List (ℕ × AnyClass)) (bytes : List ℕ) (count i at size : ℕ) (columns : List IndexedColumn) (x y : IndexedColumn) (state : NullState) → AreRead parts bytes count i at columns → i < length columns → i < count → 5 + 3 * count ≤ length bytes → x ≡ get_or columns i x → IsNext bytes count i at size x state → part_of y ≡ part_of x → y.state ≡ state → size ≤ length (drop at bytes) → take size (drop at bytes) ≡ summary_bytes y → summary_in x.class state size (drop at bytes) ≡ Ok y.summary → AreRead parts bytes count (i + 1) (at + size) (set columns i y)
unfolding length_bytes
read_more parts bytes count i at size columns x y state before within inside head is next part state_is there found read =
    let rest = drop at bytes in
    let behind_it = drop (5 + count) bytes in
    let long : size ≡ length (summary_bytes y) = sym (length-take-le size rest there) ∙ ap length found in
    let more = flat_set summary_bytes columns i y within in
    let twice : 2 * (i + 1) ≡ 2 * i + 2 = omega arith in
    let field : take 2 (drop (2 * i) behind_it) ≡ length_bytes y = ap (take 2) (drop-drop (2 * i) (5 + count) bytes) ∙ next.size_bytes ∙ ap (bytes_high_first 2) long in
    let number : state_number y ≡ get_or (drop 5 bytes) i 0 = ap number_of state_is ∙ next.state_is ∙ sym (get_or-drop 5 bytes i 0) in
    let tail : rest ≡ summary_bytes y ++ drop (at + size) bytes = sym (take-append-drop size rest) ∙ (λ j. found j ++ drop-drop size at bytes j) in
    let on = goes_on parts bytes count i at size x state (next_part parts columns i x before.same_index within is) next in
    let others = columns_in count bytes (drop (i + 1) parts) (i + 1) (at + size) in
    let one : columns_in count bytes (drop i parts) i at ≡ behind (y ∷ []) others =
    on
    ∙ ap (λ (r : Result AnySummary ℕ). read_on at r (λ s. behind (record { place = x.place; class = x.class; state = state; summary = s } ∷ []) others)) read
    ∙ (λ j. behind (record { place = (sym part j).0; class = (sym part j).1; state = sym state_is j; summary = y.summary } ∷ []) others)
    in
    record {
      same_index = parts-set columns i x y is part ∙ before.same_index;
      within = omega (arith, before.within, there, length-drop at bytes);
      place = omega (arith, before.place, long, ap length more, length-append (summaries_bytes (take i columns)) (summary_bytes y));
      states =
          ap (map state_number) (take_more_set columns i y within) ∙ map_push state_number (take i columns) y ∙ (λ j. before.states j ++ number j ∷ []) ∙ sym (take_more (drop 5 bytes) i 0 (omega (arith, inside, head, length-drop 5 bytes)));
      lengths = flat_set length_bytes columns i y within ∙ (λ j. before.lengths j ++ sym field j) ∙ sym (take-add (2 * i) 2 behind_it) ∙ ap (λ (n : ℕ). take n behind_it) (sym twice);
      summaries = before.summaries ∙ ap (λ (bs : List ℕ). summaries_bytes (take i columns) ++ bs) tail ∙ sym (append_assoc (summaries_bytes (take i columns)) (summary_bytes y) (drop (at + size) bytes)) ∙ ap (λ (bs : List ℕ). bs ++ drop (at + size) bytes) (sym more);
      read = before.read ∙ ap (behind (take i columns)) one ∙ behind_more (take i columns) y others ∙ ap (λ (cs : List IndexedColumn). behind cs others) (sym (take_more_set columns i y within));
    }

-- bytes behind the last column
pub read_too_many : (parts : List (ℕ × AnyClass)) (bytes : List ℕ) (count i at : ℕ) (columns : List IndexedColumn) → AreRead parts bytes count i at columns → length columns ≤ i → at < length bytes → columns_in count bytes parts 0 (5 + 3 * count) ≡ Err at
read_too_many parts bytes count i at columns all past more =
    let long : length parts ≡ length columns = ap length (sym all.same_index) ∙ length-map columns part_of in
    let none : drop i parts ≡ [] = drop_all i parts (omega (arith, long, past)) in
    all.read ∙ behind_err (take i columns) _ at (ap (λ (ps : List (ℕ × AnyClass)). columns_in count bytes ps i at) none ∙ ap (λ (b : Bool). cond b (Err at) (Ok [])) (lt-ltb at (length bytes) more))

-- all columns
pub read_all : (parts : List (ℕ × AnyClass)) (bytes : List ℕ) (count i at : ℕ) (columns : List IndexedColumn) → AreRead parts bytes count i at columns → length columns ≤ i → length bytes ≤ at → columns_in count bytes parts 0 (5 + 3 * count) ≡ Ok columns
read_all parts bytes count i at columns all past end =
    let long : length parts ≡ length columns = ap length (sym all.same_index) ∙ length-map columns part_of in
    let none : drop i parts ≡ [] = drop_all i parts (omega (arith, long, past)) in
    let last : columns_in count bytes (drop i parts) i at ≡ Ok [] = ap (λ (ps : List (ℕ × AnyClass)). columns_in count bytes ps i at) none ∙ ap (λ (b : Bool). cond b (Err at) (Ok [])) (le-ltb at (length bytes) end) in
    all.read ∙ ap (behind (take i columns)) last ∙ ap Ok (append-nil (take i columns) ∙ take_all i columns past)

-- they are those whose bytes stand there
pub all_found : (parts : List (ℕ × AnyClass)) (bytes : List ℕ) (i at : ℕ) (columns : List IndexedColumn) → AreRead parts bytes (length columns) i at columns → i ≡ length columns → length bytes ≤ at → drop 5 bytes ≡ columns_bytes columns
unfolding columns_bytes
all_found parts bytes i at columns all end past =
    let n = length columns in
    let whole : take i columns ≡ columns = take_all i columns (omega (arith, end)) in
    let states : take n (drop 5 bytes) ≡ states_bytes columns = ap (λ (k : ℕ). take k (drop 5 bytes)) (sym end) ∙ sym all.states ∙ ap (λ (cs : List IndexedColumn). states_bytes cs) whole in
    let lengths : take (2 * n) (drop (5 + n) bytes) ≡ lengths_bytes columns = ap (λ (k : ℕ). take (2 * k) (drop (5 + n) bytes)) (sym end) ∙ sym all.lengths ∙ ap (λ (cs : List IndexedColumn). lengths_bytes cs) whole in
    let base : 5 + n + 2 * n ≡ 5 + 3 * n = omega arith in
    let summaries : drop (2 * n) (drop (5 + n) bytes) ≡ summaries_bytes columns =
    drop-drop (2 * n) (5 + n) bytes ∙ ap (λ (k : ℕ). drop k bytes) base ∙ all.summaries ∙ (λ j. summaries_bytes (whole j) ++ drop_all at bytes past j) ∙ append-nil (summaries_bytes columns)
    in
    let back : drop n (drop 5 bytes) ≡ lengths_bytes columns ++ summaries_bytes columns = drop-drop n 5 bytes ∙ sym (take-append-drop (2 * n) (drop (5 + n) bytes)) ∙ (λ j. lengths j ++ summaries j) in
    sym (take-append-drop n (drop 5 bytes)) ∙ (λ j. states j ++ back j)

-- none yet
pub none_read : (bytes : List ℕ) (columns : List IndexedColumn) (at : ℕ) → at ≡ 5 + 3 * length columns → 5 + 3 * length columns ≤ length bytes → AreRead (parts_of columns) bytes (length columns) 0 at columns
none_read bytes columns at place head = record {
  same_index = refl;
  within = omega (arith, place, head);
  place = omega (arith, place);
  states = refl;
  lengths = refl;
  summaries = ap (λ (k : ℕ). drop k bytes) (sym place);
  read = same (columns_in (length columns) bytes (parts_of columns) 0 (5 + 3 * length columns)) ∙ ap (λ (k : ℕ). behind [] (columns_in (length columns) bytes (parts_of columns) 0 k)) (sym place);
}
  where
    same : (r : Result (List IndexedColumn) ℕ) → r ≡ behind [] r
    same (Ok columns) = refl
    same (Err fault) = refl
