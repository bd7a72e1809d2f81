-- the bytes of columns, one after the other
use Rattle.std.proofs.Common.{◌≡◌, ℕ, zero, suc, ◌+◌, ◌*◌, ◌-◌, ◌<◌, ◌≤◌, List, [], ◌∷◌, ◌++◌, length, get_or, set, take, drop, sum_by, refl, sym, ap, ◌∙◌, arith}
use Rattle.std.proofs.lemmas.List.{append-nil, append_assoc, drop-drop, drop_all, drop_at, drop_more, get_or-drop, get_or-map, get_or_append_left, length-append, length-drop, length-map, take-append-drop, take_at, take_more, take_more_set, take_rest}
use Rattle.std.proofs.lemmas.List.Concat.{flat_map-append}
use Rattle.std.proofs.lemmas.List.Sums.{sum_by-append, sum_by_push}
use Rattle.std.specs.List.{flat_map}
use Rattle.byte_fields.specs.Fields.{length-number}
use borrow.Rule.Slice.PartMut.{put_mid}
use Rattle.range_tuple.specs.TupleBytes.{columns_bytes, length_bytes, lengths_bytes, state_number, states_bytes, summaries_bytes, summary_bytes}
use Rattle.range_tuple.specs.Tuples.{IndexedColumn, column_room}

-- one column more
pub flat_push : {X : Type 0} (f : X → List ℕ) (xs : List X) (i : ℕ) (x : X) → i < length xs → x ≡ get_or xs i x → flat_map f (take (i + 1) xs) ≡ flat_map f (take i xs) ++ f x
flat_push {X} f xs i x within is =
    ap (flat_map f) (take_more xs i x within ∙ ap (λ (y : X). take i xs ++ y ∷ []) (sym is)) ∙ flat_map-append f (take i xs) (x ∷ []) ∙ ap (λ (last : List ℕ). flat_map f (take i xs) ++ last) (append-nil (f x))

-- columns that were set up to a place, and one more
pub flat_set : {X : Type 0} (f : X → List ℕ) (xs : List X) (i : ℕ) (x : X) → i < length xs → flat_map f (take (i + 1) (set xs i x)) ≡ flat_map f (take i xs) ++ f x
flat_set {X} f xs i x within =
    ap (flat_map f) (take_more_set xs i x within) ∙ flat_map-append f (take i xs) (x ∷ []) ∙ ap (λ (last : List ℕ). flat_map f (take i xs) ++ last) (append-nil (f x))

pub more_room : (columns : List IndexedColumn) (i : ℕ) (x : IndexedColumn) → i < length columns → x ≡ get_or columns i x → sum_by column_room (take (i + 1) columns) ≡ sum_by column_room (take i columns) + column_room x
more_room columns i x within is = ap (sum_by column_room) (take_more columns i x within ∙ ap (λ (y : IndexedColumn). take i columns ++ y ∷ []) (sym is)) ∙ sum_by_push column_room (take i columns) x

-- some columns need no more room than all
pub room_within : (columns : List IndexedColumn) (i : ℕ) → sum_by column_room (take i columns) ≤ sum_by column_room columns
room_within columns i = omega (arith, ap (sum_by column_room) (take-append-drop i columns), sum_by-append column_room (take i columns) (drop i columns))

-- bytes written behind a front that was written before
pub written_more : (old out back front bytes : List ℕ) (at r : ℕ) → length front ≡ at → out ≡ front ++ drop at old → back ≡ bytes ++ drop r (take (length out - at) (drop at out)) → put_mid at (length out - at) out back ≡ front ++ bytes ++ drop (at + r) old
written_more old out back front bytes at r long so_far is =
    let first : take at out ≡ front = ap (take at) so_far ∙ take_at front (drop at old) at long in
    let rest : drop at out ≡ drop at old = ap (drop at) so_far ∙ drop_at front (drop at old) at long in
    let none : drop (length out - at) (drop at out) ≡ [] = drop_all (length out - at) (drop at out) (omega (arith, length-drop at out)) in
    let behind : drop r (take (length out - at) (drop at out)) ≡ drop (at + r) old = ap (drop r) (take_rest out at ∙ rest) ∙ drop-drop r at old in
    ap (λ (xs : List ℕ). xs ++ (back ++ drop (length out - at) (drop at out))) first ∙ ap (λ (xs : List ℕ). front ++ (back ++ xs)) none ∙ ap (λ (xs : List ℕ). front ++ xs) (append-nil back ∙ is ∙ ap (λ (xs : List ℕ). bytes ++ xs) behind) ∙ sym (append_assoc front bytes (drop (at + r) old))

-- ---- the states, the lengths and the summaries

pub length-length : (column : IndexedColumn) → length (length_bytes column) ≡ 2
unfolding length_bytes
length-length column = length-number 2 (length (summary_bytes column))

pub length-lengths : (columns : List IndexedColumn) → length (lengths_bytes columns) ≡ 2 * length columns
length-lengths [] = refl
length-lengths (column ∷ columns) = omega (arith, length-append (length_bytes column) (lengths_bytes columns), length-length column, length-lengths columns)

pub length-columns : (columns : List IndexedColumn) → length (columns_bytes columns) ≡ 3 * length columns + length (summaries_bytes columns)
unfolding columns_bytes
length-columns columns =
    omega (arith, length-append (states_bytes columns) (lengths_bytes columns ++ summaries_bytes columns), length-append (lengths_bytes columns) (summaries_bytes columns), length-map columns state_number, length-lengths columns)

-- the states, the lengths and the summaries, written one behind the other
pub written_columns : (columns : List IndexedColumn) (out : List ℕ) (r : ℕ) → states_bytes columns ++ (lengths_bytes columns ++ (summaries_bytes columns ++ drop r (drop (2 * length columns) (drop (length columns) out)))) ≡ columns_bytes columns ++ drop (3 * length columns + r) out
unfolding columns_bytes
written_columns columns out r =
    let n = length columns in
    let states = states_bytes columns in
    let lengths = lengths_bytes columns in
    let summaries = summaries_bytes columns in
    let count : n + (2 * n + r) ≡ 3 * n + r = omega arith in
    let rest : drop r (drop (2 * n) (drop n out)) ≡ drop (3 * n + r) out = drop-drop r (2 * n) (drop n out) ∙ drop-drop (2 * n + r) n out ∙ ap (λ (k : ℕ). drop k out) count in
    ap (λ (back : List ℕ). states ++ (lengths ++ (summaries ++ back))) rest
    ∙ ap (λ (back : List ℕ). states ++ back) (sym (append_assoc lengths summaries (drop (3 * n + r) out)))
    ∙ sym (append_assoc states (lengths ++ summaries) (drop (3 * n + r) out))

-- the length of the column at a place, where the lengths begin
lengths_at : (columns : List IndexedColumn) (rest : List ℕ) (i : ℕ) (d : IndexedColumn) → i < length columns → take 2 (drop (2 * i) (lengths_bytes columns ++ rest)) ≡ length_bytes (get_or columns i d)
lengths_at [] rest i d within = absurd (omega (arith, within))
lengths_at (column ∷ columns) rest zero d within =
    ap (take 2) (append_assoc (length_bytes column) (lengths_bytes columns) rest) ∙ take_at (length_bytes column) (lengths_bytes columns ++ rest) 2 (length-length column)
lengths_at (column ∷ columns) rest (suc i) d within =
    let behind = lengths_bytes columns ++ rest in
    let twice : 2 * suc i ≡ 2 + 2 * i = omega arith in
    let first : drop (2 * suc i) (lengths_bytes (column ∷ columns) ++ rest) ≡ drop (2 * i) behind =
    ap (λ (n : ℕ). drop n (lengths_bytes (column ∷ columns) ++ rest)) twice
    ∙ sym (drop-drop (2 * i) 2 (lengths_bytes (column ∷ columns) ++ rest))
    ∙ ap (λ (bs : List ℕ). drop (2 * i) (drop 2 bs)) (append_assoc (length_bytes column) (lengths_bytes columns) rest)
    ∙ ap (drop (2 * i)) (drop_at (length_bytes column) behind 2 (length-length column))
    in
    ap (take 2) first ∙ lengths_at columns rest i d (omega (arith, within))

-- the summary of the column at a place, and those behind it
summaries_at : (columns : List IndexedColumn) (i : ℕ) (d : IndexedColumn) → i < length columns → drop (length (summaries_bytes (take i columns))) (summaries_bytes columns) ≡ summary_bytes (get_or columns i d) ++ summaries_bytes (drop (i + 1) columns)
summaries_at columns i d within =
    let split : summaries_bytes columns ≡ summaries_bytes (take i columns) ++ summaries_bytes (drop i columns) = ap (flat_map summary_bytes) (sym (take-append-drop i columns)) ∙ flat_map-append summary_bytes (take i columns) (drop i columns) in
    ap (drop (length (summaries_bytes (take i columns)))) split ∙ drop_at (summaries_bytes (take i columns)) (summaries_bytes (drop i columns)) (length (summaries_bytes (take i columns))) refl ∙ ap (flat_map summary_bytes) (drop_more columns i d within)

-- where the bytes behind the flags are those of columns: what stands behind the states, and behind the lengths
pub record HasAreas (columns : List IndexedColumn) (bytes : List ℕ) : Type 0 where
  pub long : length bytes ≡ 5 + 3 * length columns + length (summaries_bytes columns)
  pub behind_states : drop (5 + length columns) bytes ≡ lengths_bytes columns ++ summaries_bytes columns
  pub behind_lengths : drop (5 + 3 * length columns) bytes ≡ summaries_bytes columns

pub has_areas : (columns : List IndexedColumn) (bytes : List ℕ) → 5 ≤ length bytes → drop 5 bytes ≡ columns_bytes columns → HasAreas columns bytes
unfolding columns_bytes
has_areas columns bytes head is =
    let n = length columns in
    let states = states_bytes columns in
    let lengths = lengths_bytes columns in
    let summaries = summaries_bytes columns in
    let one : length states ≡ n = length-map columns state_number in
    let two : length lengths ≡ 2 * n = length-lengths columns in
    let behind : drop (5 + n) bytes ≡ lengths ++ summaries = sym (drop-drop n 5 bytes) ∙ ap (drop n) is ∙ drop_at states (lengths ++ summaries) n one in
    record {
      long = omega (arith, head, length-drop 5 bytes, ap length is, length-append states (lengths ++ summaries), length-append lengths summaries, one, two);
      behind_states = behind;
      behind_lengths = ap (λ (k : ℕ). drop k bytes) (omega arith) ∙ sym (drop-drop (2 * n) (5 + n) bytes) ∙ ap (drop (2 * n)) behind ∙ drop_at lengths summaries (2 * n) two;
    }

-- the fields of one column in the bytes of columns
pub record HasColumn (column : IndexedColumn) (bytes : List ℕ) (count i : ℕ) : Type 0 where
  pub state : get_or bytes (5 + i) 0 ≡ state_number column
  pub size : take 2 (drop (5 + count + 2 * i) bytes) ≡ length_bytes column

pub has_column : (columns : List IndexedColumn) (bytes : List ℕ) (i : ℕ) (d : IndexedColumn) → 5 ≤ length bytes → drop 5 bytes ≡ columns_bytes columns → i < length columns → HasColumn (get_or columns i d) bytes (length columns) i
unfolding columns_bytes
has_column columns bytes i d head is within =
    let areas = has_areas columns bytes head is in
    let n = length columns in
    let rest = lengths_bytes columns ++ summaries_bytes columns in
    record {
      state = sym (get_or-drop 5 bytes i 0) ∙ ap (λ (bs : List ℕ). get_or bs i 0) is ∙ get_or_append_left (states_bytes columns) rest 0 i (omega (arith, within, length-map columns state_number)) ∙ get_or-map state_number columns i d 0 within;
      size = ap (take 2) (sym (drop-drop (2 * i) (5 + n) bytes) ∙ ap (drop (2 * i)) areas.behind_states) ∙ lengths_at columns (summaries_bytes columns) i d within;
    }

-- the summary of one column, and those behind it
pub has_summary : (columns : List IndexedColumn) (bytes : List ℕ) (i at : ℕ) (d : IndexedColumn) → 5 ≤ length bytes → drop 5 bytes ≡ columns_bytes columns → i < length columns → at ≡ 5 + 3 * length columns + length (summaries_bytes (take i columns)) → drop at bytes ≡ summary_bytes (get_or columns i d) ++ summaries_bytes (drop (i + 1) columns)
has_summary columns bytes i at d head is within place =
    let areas = has_areas columns bytes head is in
    let front = length (summaries_bytes (take i columns)) in
    ap (λ (k : ℕ). drop k bytes) place ∙ sym (drop-drop front (5 + 3 * length columns) bytes) ∙ ap (drop front) areas.behind_lengths ∙ summaries_at columns i d within
