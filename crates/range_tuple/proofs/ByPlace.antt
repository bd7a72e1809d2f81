-- columns of an index, place by place
use Rattle.std.proofs.Common.{◌≡◌, ℕ, zero, suc, ◌+◌, ◌*◌, ◌<◌, ◌≤◌, Bool, true, false, not, Option, None, Some, List, [], ◌∷◌, All, length, map, sum_by, get_or, set, slice_get, refl, sym, ap, ◌∙◌, arith}
use Rattle.std.specs.List.{list_all}
use Rattle.std.proofs.lemmas.Bool.{false≢true, and_parts}
use Rattle.std.proofs.lemmas.List.{get_or-map, length-map, map-set, set-get_or}
use Rattle.std.proofs.lemmas.List.Elements.{All-head}
use Rattle.std.proofs.lemmas.List.Sums.{sum_by-cons}
use Rattle.block_model.specs.declared.value.Value.{Value}
use Rattle.block_model.specs.declared.value.Value.TheVariants.{Null, Int, Span, Net}
use Rattle.opclass_any.specs.AnyClass.{greatest_size}
use Rattle.range_tuple.specs.KeptColumns.{AreKept}
use Rattle.range_tuple.specs.TupleIncludes.{ColumnIncludes, IncludesThere}
use Rattle.range_tuple.specs.Tuples.{IndexedColumn, part_of, parts_of, has_nothing, united_column, united_columns, column_room, tuple_room}
use Rattle.opclass_any.specs.declared.classes.AnyClass.{AnyClass}

-- ---- the same index

pub length-parts : (xs ys : List IndexedColumn) → parts_of xs ≡ parts_of ys → length xs ≡ length ys
length-parts xs ys same = sym (length-map xs part_of) ∙ ap length same ∙ length-map ys part_of

-- two columns at one place of the same index
pub part_at : (xs ys : List IndexedColumn) (i : ℕ) (x y : IndexedColumn) → parts_of xs ≡ parts_of ys → i < length ys → x ≡ get_or xs i x → y ≡ get_or ys i y → part_of x ≡ part_of y
part_at xs ys i x y same within first second =
    let long = length-parts xs ys same in
    ap part_of first ∙ sym (get_or-map part_of xs i x (part_of x) (omega (arith, long, within))) ∙ ap (λ (ps : List (ℕ × AnyClass)). get_or ps i (part_of x)) same ∙ get_or-map part_of ys i y (part_of x) within ∙ ap part_of (sym second)

pub parts-set : (ys : List IndexedColumn) (i : ℕ) (a b : IndexedColumn) → a ≡ get_or ys i a → part_of b ≡ part_of a → parts_of (set ys i b) ≡ parts_of ys
parts-set ys i a b read part =
    map-set part_of ys i b ∙ ap (λ (p : ℕ × AnyClass). set (parts_of ys) i p) (part ∙ ap part_of read) ∙ sym (map-set part_of ys i (get_or ys i a)) ∙ ap parts_of (set-get_or ys i a)

pub parts-united : (columns others : List IndexedColumn) → parts_of (united_columns columns others) ≡ parts_of columns
parts-united [] others = refl
parts-united (column ∷ columns) [] = refl
parts-united (column ∷ columns) (other ∷ others) = ap (λ (ps : List (ℕ × AnyClass)). part_of column ∷ ps) (parts-united columns others)

pub length-united : (columns others : List IndexedColumn) → length (united_columns columns others) ≡ length columns
length-united columns others = length-parts (united_columns columns others) columns (parts-united columns others)

pub get_or-united : (columns others : List IndexedColumn) (i : ℕ) (a o b : IndexedColumn) → length others ≡ length columns → i < length columns → a ≡ get_or columns i a → o ≡ get_or others i o → get_or (united_columns columns others) i b ≡ united_column a o
get_or-united [] others i a o b long within first second = absurd (omega (arith, within))
get_or-united (column ∷ columns) [] i a o b long within first second = absurd (omega (arith, long))
get_or-united (column ∷ columns) (other ∷ others) zero a o b long within first second = λ i. united_column (sym first i) (sym second i)
get_or-united (column ∷ columns) (other ∷ others) (suc i) a o b long within first second = get_or-united columns others i a o b (omega (arith, long)) (omega (arith, within)) first second

-- ---- room

room_by_parts : (columns : List IndexedColumn) → sum_by column_room columns ≡ sum_by (λ (p : ℕ × AnyClass). 1 + 2 + greatest_size p.1) (parts_of columns)
room_by_parts [] = refl
room_by_parts (column ∷ columns) =
    let g : ℕ × AnyClass → ℕ = λ p. 1 + 2 + greatest_size p.1 in
    sum_by-cons column_room column columns ∙ ap (λ (n : ℕ). column_room column + n) (room_by_parts columns) ∙ sym (sum_by-cons g (part_of column) (parts_of columns))

pub same_room : (xs ys : List IndexedColumn) → parts_of xs ≡ parts_of ys → tuple_room xs ≡ tuple_room ys
same_room xs ys same = ap (λ (n : ℕ). 4 + 1 + n) (room_by_parts xs ∙ ap (sum_by (λ (p : ℕ × AnyClass). 1 + 2 + greatest_size p.1)) same ∙ sym (room_by_parts ys))

sum_by_map : {X : Type 0} (f : X → ℕ) (xs : List X) → sum_by f xs ≡ sum_by (λ (n : ℕ). n) (map f xs)
sum_by_map f [] = refl
sum_by_map f (x ∷ xs) = sum_by-cons f x xs ∙ ap (λ (n : ℕ). f x + n) (sum_by_map f xs) ∙ sym (sum_by-cons (λ (n : ℕ). n) (f x) (map f xs))

pub same_sums : {X Y : Type 0} (f : X → ℕ) (g : Y → ℕ) (xs : List X) (ys : List Y) → map f xs ≡ map g ys → sum_by f xs ≡ sum_by g ys
same_sums f g xs ys same = sum_by_map f xs ∙ ap (sum_by (λ (n : ℕ). n)) same ∙ sym (sum_by_map g ys)

-- columns of the same index are kept as well
pub kept_after : (range : ℕ) (columns new : List IndexedColumn) → AreKept range columns → parts_of new ≡ parts_of columns → AreKept range new
kept_after range columns new kept same = record {
  range_fits = kept.range_fits;
  some = omega (arith, kept.some, length-parts new columns same);
  fits = omega (arith, kept.fits, same_room new columns same);
}

-- three bytes a column at least
pub heads_fit : (columns : List IndexedColumn) → 3 * length columns ≤ sum_by column_room columns
heads_fit [] = omega arith
heads_fit (column ∷ columns) = omega (arith, heads_fit columns, sum_by-cons column_room column columns)

-- ---- nothing added

not_both : (b : Bool) → not b ≡ true → b ≡ true → ⊥
not_both true first second = false≢true first
not_both false first second = false≢true second

nothing_there : (column : IndexedColumn) (o : Option Value) → has_nothing column ≡ true → IncludesThere column o → ⊥
nothing_there column None nothing within = within
nothing_there column (Some Null) nothing within = not_both _ (and_parts _ _ nothing).0 within
nothing_there column (Some (Int n)) nothing within = not_both _ (and_parts _ _ nothing).1 within.0
nothing_there column (Some (Span r)) nothing within = not_both _ (and_parts _ _ nothing).1 within.0
nothing_there column (Some (Net n)) nothing within = not_both _ (and_parts _ _ nothing).1 within.0

-- columns to which nothing was added include no row
pub nothing_included : (columns : List IndexedColumn) (row : List Value) → 0 < length columns → list_all has_nothing columns ≡ true → All (ColumnIncludes row) columns → ⊥
nothing_included [] row some nothing all = omega (arith, some)
nothing_included (column ∷ columns) row some nothing all = nothing_there column (slice_get row column.place) (and_parts _ _ nothing).0 (All-head (ColumnIncludes row) column columns all)
