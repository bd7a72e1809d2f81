-- which rows the tuples take
use Rattle.std.proofs.Common.{◌≡◌, ℕ, ℤ, List, [], ◌∷◌, All, slice_get, sym, subst}
use Rattle.std.proofs.lemmas.List.Elements.{All-cons, All-nil}
use Rattle.block_model.specs.Networks.{Network}
use Rattle.block_model.specs.Ranges.{Range}
use Rattle.block_model.specs.declared.value.Value.{Value}
use Rattle.block_model.specs.declared.value.Value.TheVariants.{Null, Int, Span, Net}
use Rattle.data_tests.specs.FiveColumns.{minmax_part, multi_part, span_part, net_part, bloom_part, five_parts}
use Rattle.opclass_any.specs.AnyClass.{takes}
use Rattle.opclass_any.specs.declared.classes.AnyClass.{AnyClass}
use Rattle.range_tuple.specs.SameIndex.{takes_by_parts}
use Rattle.range_tuple.specs.TupleIncludes.{ColumnTakes, TakesThere}
use Rattle.range_tuple.specs.Tuples.{IndexedColumn, parts_of}

abbrev IsTaken : List Value → ℕ × AnyClass → Type 0
IsTaken values p = TakesThere p.1 (slice_get values p.0)

-- a row is taken where each of the five parts takes its value
all_taken : (columns : List IndexedColumn) (values : List Value) → parts_of columns ≡ five_parts → IsTaken values minmax_part → IsTaken values multi_part → IsTaken values span_part → IsTaken values net_part → IsTaken values bloom_part → All (ColumnTakes values) columns
all_taken columns values five minmax multi span net bloom =
    let P : ℕ × AnyClass → Type 0 = IsTaken values in
    let one : All P (bloom_part ∷ []) = All-cons P bloom_part [] bloom (All-nil P) in
    let two : All P (net_part ∷ bloom_part ∷ []) = All-cons P net_part (bloom_part ∷ []) net one in
    let three : All P (span_part ∷ net_part ∷ bloom_part ∷ []) = All-cons P span_part (net_part ∷ bloom_part ∷ []) span two in
    let four : All P (multi_part ∷ span_part ∷ net_part ∷ bloom_part ∷ []) = All-cons P multi_part (span_part ∷ net_part ∷ bloom_part ∷ []) multi three in
    let all : All P five_parts = All-cons P minmax_part (multi_part ∷ span_part ∷ net_part ∷ bloom_part ∷ []) minmax four in
    takes_by_parts columns values (subst (All P) (sym five) all)

pub values_are_taken : (columns : List IndexedColumn) (n : ℤ) (r : Range) (net : Network) → parts_of columns ≡ five_parts → All (ColumnTakes (Int n ∷ Int n ∷ Span r ∷ Net net ∷ Int n ∷ [])) columns
unfolding takes
values_are_taken columns n r net five = all_taken columns (Int n ∷ Int n ∷ Span r ∷ Net net ∷ Int n ∷ []) five tt tt tt tt tt

pub nulls_are_taken : (columns : List IndexedColumn) → parts_of columns ≡ five_parts → All (ColumnTakes (Null ∷ Null ∷ Null ∷ Null ∷ Null ∷ [])) columns
nulls_are_taken columns five = all_taken columns (Null ∷ Null ∷ Null ∷ Null ∷ Null ∷ []) five tt tt tt tt tt
