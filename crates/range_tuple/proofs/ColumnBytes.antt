-- the bytes of a column: its state, its summary's length, and its summary
use Rattle.std.proofs.Common.{◌≡◌, ℕ, ◌+◌, ◌<◌, ◌≤◌, Bool, true, false, cond, List, [], ◌++◌, length, take, drop, refl, sym, ap, ◌∙◌, subst, arith}
use Rattle.std.proofs.lemmas.List.{drop_at, length-append, length-take-le, take_at}
use Rattle.std.specs.Int.{bytes_high_first}
use Rattle.byte_fields.specs.Fields.{field_at, length-number, put_at, put-part}
use borrow.Rule.Slice.PartMut.{put_mid}
use Rattle.opclass_any.specs.AnyClass.{is_of, bytes_of}
use Rattle.range_tuple.specs.NullStates.{number_of, has_values}
use Rattle.range_tuple.specs.TupleBytes.{summary_bytes}
use Rattle.range_tuple.specs.Tuples.{IndexedColumn, IsColumn, part_of}
use Rattle.opclass_any.specs.declared.classes.AnyClass.{AnyClass}
use Rattle.opclass_any.specs.declared.classes.AnySummary.{AnySummary}
use Rattle.range_tuple.specs.declared.state.NullState.{NullState}
use Rattle.range_tuple.specs.declared.state.NullState.TheVariants.{Nothing, Nulls, Values, Both}

-- ---- the summary's bytes

by_values : (column : IndexedColumn) (b : Bool) → has_values column.state ≡ b → summary_bytes column ≡ cond b (bytes_of column.class column.summary) []
unfolding summary_bytes
by_values column b is = ap (λ (b : Bool). cond b (bytes_of column.class column.summary) []) is

pub summary_of_values : (column : IndexedColumn) → has_values column.state ≡ true → summary_bytes column ≡ bytes_of column.class column.summary
summary_of_values column is = by_values column true is

pub summary_of_none : (column : IndexedColumn) → has_values column.state ≡ false → summary_bytes column ≡ []
summary_of_none column is = by_values column false is

-- a summary in a state is no longer than one of its class may be
summary_fits_by : (column : IndexedColumn) (b : Bool) → has_values column.state ≡ b → ((s : AnySummary) → is_of column.class s → length (bytes_of column.class s) < 65536) → IsColumn column → length (summary_bytes column) < 65536
summary_fits_by column true is short lawful = rw (summary_of_values column is) (short column.summary lawful.of_class)
summary_fits_by column false is short lawful = rw (summary_of_none column is) (omega arith)

pub summary_fits : (column : IndexedColumn) → ((s : AnySummary) → is_of column.class s → length (bytes_of column.class s) < 65536) → IsColumn column → length (summary_bytes column) < 65536
summary_fits column short lawful = summary_fits_by column (has_values column.state) refl short lawful

-- a column of the same class has a summary whose length can be written
pub fits_of : (self column : IndexedColumn) → part_of column ≡ part_of self → IsColumn column → ((s : AnySummary) → is_of self.class s → length (bytes_of self.class s) < 65536) → length (summary_bytes column) < 65536
fits_of self column part lawful short =
    summary_fits column (subst (λ (a : AnyClass). (s : AnySummary) → is_of a s → length (bytes_of a s) < 65536) (sym (ap (λ (p : ℕ × AnyClass). p.1) part)) short) lawful

-- ---- the state's number

pub number-injective : (s t : NullState) → number_of s ≡ number_of t → s ≡ t
number-injective Nothing Nothing same = refl
number-injective Nothing Nulls same = absurd (omega (arith, same))
number-injective Nothing Values same = absurd (omega (arith, same))
number-injective Nothing Both same = absurd (omega (arith, same))
number-injective Nulls Nothing same = absurd (omega (arith, same))
number-injective Nulls Nulls same = refl
number-injective Nulls Values same = absurd (omega (arith, same))
number-injective Nulls Both same = absurd (omega (arith, same))
number-injective Values Nothing same = absurd (omega (arith, same))
number-injective Values Nulls same = absurd (omega (arith, same))
number-injective Values Values same = refl
number-injective Values Both same = absurd (omega (arith, same))
number-injective Both Nothing same = absurd (omega (arith, same))
number-injective Both Nulls same = absurd (omega (arith, same))
number-injective Both Values same = absurd (omega (arith, same))
number-injective Both Both same = refl

-- ---- fields

-- bytes into which a number was put begin with what was before and the number
pub put_more : (bytes : List ℕ) (at n x : ℕ) → at ≤ length bytes → take (at + n) (put_at bytes at n x) ≡ take at bytes ++ bytes_high_first n x
unfolding put_at
put_more bytes at n x within =
    take_at (take at bytes ++ bytes_high_first n x) (drop (at + n) bytes) (at + n) (length-append (take at bytes) (bytes_high_first n x) ∙ (λ i. length-take-le at bytes within i + length-number n x i))

-- bytes that a put leaves as they are have the number in the field
pub field_is : (bytes : List ℕ) (at n x : ℕ) → at ≤ length bytes → put_at bytes at n x ≡ bytes → field_at bytes at n ≡ bytes_high_first n x
field_is bytes at n x within again =
    let whole : put_mid at n bytes (bytes_high_first n x) ≡ bytes = sym (put-part bytes at n x) ∙ again in
    ap (λ (bs : List ℕ). take n (drop at bs)) (sym whole) ∙ ap (take n) (drop_front bytes at n x within) ∙ take_at (bytes_high_first n x) (drop n (drop at bytes)) n (length-number n x)
  where
    drop_front : (bytes : List ℕ) (at n x : ℕ) → at ≤ length bytes → drop at (put_mid at n bytes (bytes_high_first n x)) ≡ bytes_high_first n x ++ drop n (drop at bytes)
    drop_front bytes at n x within = drop_at (take at bytes) (bytes_high_first n x ++ drop n (drop at bytes)) at (length-take-le at bytes within)
