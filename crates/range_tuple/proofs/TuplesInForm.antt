-- the bytes of a tuple are in form before its summaries
use Rattle.std.proofs.Common.{◌≡◌, ℕ, ◌+◌, ◌*◌, ◌<◌, ◌≤◌, ◌==◌, Bool, true, false, cond, ◌&&◌, List, [], ◌∷◌, ◌++◌, All, length, get_or, take, drop, refl, sym, ap, ◌∙◌, subst, arith, inl, inr}
use Rattle.std.specs.Prelude.{nat_lt, slice_index}
use Rattle.std.specs.List.{list_all}
use Rattle.std.proofs.lemmas.Bool.{and_left, and_right, cases_eq, eqb-true, le-ltb, ne_eqb, or_from}
use Rattle.std.proofs.lemmas.List.{length-map, take_at}
use Rattle.std.proofs.lemmas.List.Elements.{All-get_or}
use Rattle.std.proofs.lemmas.List.Sums.{AllPass-from_list_all}
use Rattle.byte_fields.specs.Fields.{number_of as spelt, number-bytes}
use Rattle.range_tuple.specs.NullStates.{number_of}
use Rattle.range_tuple.specs.TupleBytes.{columns_bytes, flags_of, length_bytes, lengths_bytes, state_number, states_bytes, summaries_bytes, summary_bytes, tuple_bytes}
use Rattle.range_tuple.specs.TupleFaults.{are_nothing, is_wrong, is_zero, length_at, length_is_wrong, says_empty, state_is_wrong}
use Rattle.range_tuple.specs.Tuples.{IndexedColumn, IsColumn, IsTuple, Tuple, has_nothing}
use Rattle.range_tuple.specs.declared.state.NullState.{NullState}
use Rattle.range_tuple.specs.declared.state.NullState.TheVariants.{Nothing, Nulls, Values, Both}
use Rattle.range_tuple.proofs.ColumnBytes.{summary_of_none, summary_of_values}
use Rattle.range_tuple.proofs.EachColumn.{has_areas, has_column}
use Rattle.range_tuple.proofs.HeadFaults.{IsHeadInForm, nothing_by_states, right_length, zero_is_nothing}
use Rattle.range_tuple.proofs.WholeTuples.{flags_small, has_fields}

number_small : (s : NullState) → nat_lt 3 (number_of s) ≡ false
number_small Nothing = refl
number_small Nulls = refl
number_small Values = refl
number_small Both = refl

flag_said : (placeholder empty : Bool) → nat_lt 1 (flags_of placeholder empty) ≡ empty
flag_said true true = refl
flag_said true false = refl
flag_said false true = refl
flag_said false false = refl

-- the length of a column's summary is the one that its bytes spell
pub length_spelt : (column : IndexedColumn) (bytes : List ℕ) (count k : ℕ) → length (summary_bytes column) < 65536 → take 2 (drop (5 + count + 2 * k) bytes) ≡ length_bytes column → length_at count bytes k ≡ length (summary_bytes column)
unfolding length_bytes
length_spelt column bytes count k fits is = ap spelt is ∙ number-bytes 2 (length (summary_bytes column)) fits

-- so many first states of the bytes of columns
pub states_said : (columns : List IndexedColumn) (bytes : List ℕ) → drop 5 bytes ≡ columns_bytes columns → are_nothing bytes (length columns) ≡ list_all has_nothing columns
unfolding columns_bytes
states_said columns bytes is =
    ap (λ (bs : List ℕ). list_all is_zero (take (length columns) bs)) is ∙ ap (list_all is_zero) (take_at (states_bytes columns) (lengths_bytes columns ++ summaries_bytes columns) (length columns) (length-map columns state_number)) ∙ nothing_by_states columns

second_right : (columns : List IndexedColumn) (bytes : List ℕ) (k : ℕ) (d : IndexedColumn) (b : Bool) → list_all has_nothing columns ≡ b → drop 5 bytes ≡ columns_bytes columns → k < length columns → cond b (nat_lt 0 (state_number (get_or columns k d))) (are_nothing bytes (k + 1) && (k + 1 == length columns)) ≡ false
second_right columns bytes k d true nothing is within =
    let column = get_or columns k d in
    let zero : is_zero (state_number column) ≡ true = zero_is_nothing column column.state refl ∙ AllPass-from_list_all has_nothing columns nothing k d within in
    le-ltb 0 (state_number column) (omega (arith, eqb-true (state_number column) 0 zero))
second_right columns bytes k d false nothing is within =
    elim (cases_eq (k + 1) (length columns)) [
      | inl same ↦ and_left _ _ (ap (are_nothing bytes) same ∙ states_said columns bytes is ∙ nothing)
      | inr other ↦ and_right _ _ (ne_eqb (k + 1) (length columns) other)
    ]

state_right : (columns : List IndexedColumn) (bytes : List ℕ) (k : ℕ) (d : IndexedColumn) → 5 ≤ length bytes → says_empty bytes ≡ list_all has_nothing columns → drop 5 bytes ≡ columns_bytes columns → k < length columns → state_is_wrong (length columns) bytes k ≡ false
unfolding state_is_wrong
state_right columns bytes k d head says is within =
    let column = get_or columns k d in
    let there = has_column columns bytes k d head is within in
    subst (λ (n : ℕ). is_wrong n (says_empty bytes) (are_nothing bytes (k + 1) && (k + 1 == length columns)) ≡ false) (sym there.state)
    (or_from _ _ (number_small column.state)
    (ap (λ (b : Bool). cond b (nat_lt 0 (state_number column)) (are_nothing bytes (k + 1) && (k + 1 == length columns))) says ∙ second_right columns bytes k d (list_all has_nothing columns) refl is within))

length_right : (columns : List IndexedColumn) (bytes : List ℕ) (k : ℕ) (d : IndexedColumn) → 5 ≤ length bytes → All IsColumn columns → All (λ column. length (summary_bytes column) < 65536) columns → drop 5 bytes ≡ columns_bytes columns → k < length columns → length_is_wrong (length columns) bytes k ≡ false
length_right columns bytes k d head lawful fits is within =
    let column = get_or columns k d in
    let there = has_column columns bytes k d head is within in
    let of : IsColumn column = All-get_or IsColumn columns k d within lawful in
    let short : length (summary_bytes column) < 65536 = All-get_or (λ column. length (summary_bytes column) < 65536) columns k d within fits in
    right_length (length columns) bytes k column.state (length (summary_bytes column)) (sym there.state) (sym (length_spelt column bytes (length columns) k short there.size))
    (λ some. rw (summary_of_values column some) (of.has_bytes some))
    (λ none. ap length (summary_of_none column none))

columns_in_form : (columns : List IndexedColumn) (bytes : List ℕ) → 5 ≤ length bytes → slice_index bytes 4 ≤ 3 → says_empty bytes ≡ list_all has_nothing columns → All IsColumn columns → All (λ column. length (summary_bytes column) < 65536) columns → drop 5 bytes ≡ columns_bytes columns → IsHeadInForm (length columns) bytes
columns_in_form [] bytes head flags says lawful fits is = record {
  long = omega (arith, (has_areas [] bytes head is).long);
  flags = flags;
  states = λ k below. absurd (omega (arith, below));
  lengths = λ k below. absurd (omega (arith, below));
}
columns_in_form (column ∷ columns) bytes head flags says lawful fits is = record {
  long = omega (arith, (has_areas (column ∷ columns) bytes head is).long);
  flags = flags;
  states = λ k below. state_right (column ∷ columns) bytes k column head says is below;
  lengths = λ k below. length_right (column ∷ columns) bytes k column head lawful fits is below;
}

pub tuple_in_form : (t : Tuple) (bytes : List ℕ) → IsTuple t → All (λ column. length (summary_bytes column) < 65536) t.columns → bytes ≡ tuple_bytes t → IsHeadInForm (length t.columns) bytes
tuple_in_form t bytes lawful fits is =
    let fields = has_fields t bytes lawful.range_fits is in
    columns_in_form t.columns bytes fields.long (rw fields.flags_there (flags_small t.placeholder t.empty))
    (ap (nat_lt 1) fields.flags_there ∙ flag_said t.placeholder t.empty ∙ lawful.empty_flag)
    lawful.columns fits fields.columns_there
