-- the bytes of a tuple of one minmax column
use Rattle.std.proofs.Common.{◌≡◌, ℕ, ℤ, ◌+◌, ◌<◌, ◌≤◌, ◌^◌, Bool, true, false, List, [], ◌∷◌, ◌++◌, length, take, drop, Some, refl, sym, ap, subst, ◌∙◌, arith}
use Rattle.std.specs.Int.{w64, cast_unsigned, bytes_high_first}
use Rattle.std.specs.List.{list_all}
use Rattle.std.proofs.lemmas.Bool.{true≢false}
use Rattle.std.proofs.lemmas.List.{drop-drop, drop_all, drop_at, length-take-le}
use Rattle.std.proofs.lemmas.List.Elements.{All-cons, All-nil}
use Rattle.byte_fields.specs.Fields.{AreBytes, AreBytes-take, field_at, length-field, number_of, number-fits, put-number, put-part, put_at}
use Rattle.byte_fields.specs.Int8.{int8_bytes}
use Rattle.opclass_any.specs.AnyClass.{bytes_of, is_of}
use Rattle.opclass_minmax.specs.Bounds.{IsOrdered}
use Rattle.range_tuple.specs.TupleBytes.{columns_bytes, length_bytes, summary_bytes, tuple_bytes}
use Rattle.range_tuple.specs.Tuples.{IsColumn, IsTuple, has_nothing}
use Rattle.kept_tuples.specs.MinMaxTuples.{Tells, minmax_column, minmax_tuple}
use Rattle.kept_tuples.specs.declared.bounds.Bounds.TheVariants.{MinMax}

-- ---- bytes of four numbers

-- the number that stands at a place begins what is left there
left_is : (bytes : List ℕ) (at n x : ℕ) → at + n ≤ length bytes → put_at bytes at n x ≡ bytes → drop at bytes ≡ bytes_high_first n x ++ drop (at + n) bytes
left_is bytes at n x within same =
    ap (drop at) (sym same ∙ put-part bytes at n x)
    ∙ drop_at (take at bytes) (bytes_high_first n x ++ drop n (drop at bytes)) at (length-take-le at bytes (omega (arith, within)))
    ∙ ap (λ (l : List ℕ). bytes_high_first n x ++ l) (drop-drop n at bytes)

abbrev four_numbers : (range head least greatest : ℕ) → List ℕ
four_numbers range head least greatest = bytes_high_first 4 range ++ (bytes_high_first 4 head ++ (bytes_high_first 8 least ++ bytes_high_first 8 greatest))

bytes_are : (bytes : List ℕ) (range head least greatest : ℕ) → length bytes ≡ 24 → put_at bytes 0 4 range ≡ bytes → put_at bytes 4 4 head ≡ bytes → put_at bytes 8 8 least ≡ bytes → put_at bytes 16 8 greatest ≡ bytes
    → bytes ≡ four_numbers range head least greatest
bytes_are bytes range head least greatest long first second third fourth =
    left_is bytes 0 4 range (omega (arith, long)) first
    ∙ ap (λ (l : List ℕ). bytes_high_first 4 range ++ l) (left_is bytes 4 4 head (omega (arith, long)) second)
    ∙ ap (λ (l : List ℕ). bytes_high_first 4 range ++ (bytes_high_first 4 head ++ l)) (left_is bytes 8 8 least (omega (arith, long)) third)
    ∙ ap (λ (l : List ℕ). bytes_high_first 4 range ++ (bytes_high_first 4 head ++ (bytes_high_first 8 least ++ l))) (left_is bytes 16 8 greatest (omega (arith, long)) fourth)
    ∙ ap (λ (l : List ℕ). four_numbers range head least greatest ++ l) (drop_all 24 bytes (omega (arith, long)))

field_fits : (bytes : List ℕ) → AreBytes bytes → 0 + 4 ≤ length bytes → number_of (field_at bytes 0 4) < 2 ^ 32
field_fits bytes small within =
    let long : length (field_at bytes 0 4) ≡ 4 = length-field bytes 0 4 within in
    subst (λ (n : ℕ). number_of (field_at bytes 0 4) < 256 ^ n) long (number-fits (field_at bytes 0 4) (AreBytes-take 4 bytes small))

-- no flag, the state, and 16 bytes of summary
abbrev pub head_of : Bool → ℕ
head_of false = 131088
head_of true = 196624

tuple_bytes_are : (place range : ℕ) (nulls : Bool) (least greatest : ℤ) → four_numbers range (head_of nulls) (cast_unsigned w64 least) (cast_unsigned w64 greatest) ≡ tuple_bytes (minmax_tuple place range nulls least greatest)
unfolding tuple_bytes columns_bytes length_bytes summary_bytes bytes_of int8_bytes
tuple_bytes_are place range true least greatest = refl
tuple_bytes_are place range false least greatest = refl

-- ---- that tuple

column_is_one : (place : ℕ) (nulls : Bool) (least greatest : ℤ) → IsOrdered least greatest → IsColumn (minmax_column place nulls least greatest)
unfolding is_of bytes_of int8_bytes
column_is_one place true least greatest ordered = record { of_class = ordered; of_no_value = λ none. absurd (true≢false none); has_bytes = λ some. omega arith }
column_is_one place false least greatest ordered = record { of_class = ordered; of_no_value = λ none. absurd (true≢false none); has_bytes = λ some. omega arith }

not_empty : (place : ℕ) (nulls : Bool) (least greatest : ℤ) → false ≡ list_all has_nothing (minmax_column place nulls least greatest ∷ [])
not_empty place true least greatest = refl
not_empty place false least greatest = refl

is_tuple : (place range : ℕ) (nulls : Bool) (least greatest : ℤ) → range < 2 ^ 32 → IsOrdered least greatest → IsTuple (minmax_tuple place range nulls least greatest)
is_tuple place range nulls least greatest fits ordered = record {
  range_fits = fits;
  empty_flag = not_empty place nulls least greatest;
  columns = All-cons IsColumn (minmax_column place nulls least greatest) [] (column_is_one place nulls least greatest ordered) (All-nil IsColumn);
}

-- ---- what bytes tell

-- bytes with these numbers are those of the tuple
pub tells_bytes : (bytes : List ℕ) (nulls : Bool) (least greatest : ℤ) → AreBytes bytes → length bytes ≡ 24 → put_at bytes 4 4 (head_of nulls) ≡ bytes → put_at bytes 8 8 (cast_unsigned w64 least) ≡ bytes
    → put_at bytes 16 8 (cast_unsigned w64 greatest) ≡ bytes → IsOrdered least greatest → Tells (MinMax nulls least greatest) (Some bytes)
tells_bytes bytes nulls least greatest small long head low high ordered =
    let range = number_of (field_at bytes 0 4) in
    let within : 0 + 4 ≤ length bytes = omega (arith, long) in (
      ordered,
      (
        range,
        λ place. (
          is_tuple place range nulls least greatest (field_fits bytes small within) ordered,
          ap (λ (l : List ℕ). Some l) (bytes_are bytes range (head_of nulls) (cast_unsigned w64 least) (cast_unsigned w64 greatest) long (put-number bytes 0 4 within small) head low high ∙ tuple_bytes_are place range nulls least greatest),
        ),
      ),
    )
