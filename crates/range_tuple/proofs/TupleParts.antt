-- tuples of an index: empty, with a row, united, and written
use Rattle.std.proofs.Common.{◌≡◌, ℕ, ◌<◌, ◌^◌, Bool, true, false, List, [], ◌∷◌, ◌++◌, All, length, map, get_or, refl, sym, ap, subst, ◌∙◌, arith}
use Rattle.std.specs.Int.{bytes_high_first}
use Rattle.std.specs.List.{list_all}
use Rattle.std.proofs.lemmas.List.{get_or-map, length-map}
use Rattle.std.proofs.lemmas.List.Elements.{All-cons, All-head, All-map, All-nil, All-tail}
use Rattle.block_model.specs.declared.schema.Column.{Column}
use Rattle.block_model.specs.declared.schema.Part.{Part}
use Rattle.block_model.specs.declared.value.Value.{Value}
use Rattle.byte_fields.specs.Fields.{AreBytes}
use Rattle.opclass_any.specs.declared.classes.AnyClass.{AnyClass}
use Rattle.range_tuple.specs.KeptColumns.{IsReadAgain, ReadsAgain}
use Rattle.range_tuple.specs.NullStates.{has_values, number_of}
use Rattle.range_tuple.specs.SameIndex.{parts-with_row, takes_by_parts}
use Rattle.range_tuple.specs.TupleBytes.{columns_bytes, flags_of, length_bytes, lengths_bytes, state_number, states_bytes, summaries_bytes, summary_bytes, tuple_bytes}
use Rattle.range_tuple.specs.TupleIncludes.{ColumnIncludes, ColumnTakes}
use Rattle.range_tuple.specs.TupleReading.{is_there, read_of}
use Rattle.range_tuple.specs.Tuples.{IndexedColumn, IsColumn, IsTuple, Tuple, empty_column, empty_tuple, has_nothing, part_of, parts_of, united_column, united_columns, with_row_at}
use Rattle.range_tuple.specs.declared.state.NullState.{NullState}
use Rattle.range_tuple.specs.declared.state.NullState.TheVariants.{Both, Nothing, Nulls, Values}
use Rattle.range_tuple.proofs.ByPlace.{nothing_included, parts-united}
use Rattle.range_tuple.proofs.ColumnBytes.{summary_of_none, summary_of_values}
use Rattle.range_tuple.proofs.ReadBack.{tuple_again}
use Rattle.range_tuple.proofs.TupleRead.{tuple_fits}
use Rattle.range_tuple.proofs.WholeTuples.{flags_small}
use Rattle.range_tuple.specs.OwnKinds.{IsOfItsKind}
use Rattle.range_tuple.specs.SoundClasses.{IsSoundClass}
use Rattle.range_tuple.specs.SoundTuples.{AreTaken, IsEmptyTuple, IsIndexTuple, IsTupleWritten, UnitesTuples, WidensTuple}
use Rattle.range_tuple.proofs.SoundColumns.{WidensRow, columns_unite, empty_is, row_widens}
use Rattle.range_tuple.proofs.Numbers.{byte_more, bytes_more, none_bytes, number_bytes}

-- each class of the index is sound
abbrev pub AreSound : List (ℕ × AnyClass) → Type 0
AreSound parts = All (λ (p : ℕ × AnyClass). IsSoundClass p.1) parts

-- and so is that of each column
abbrev HasSoundClass : IndexedColumn → Type 0
HasSoundClass column = IsSoundClass column.class

sound_columns : (columns : List IndexedColumn) → AreSound (parts_of columns) → All HasSoundClass columns
sound_columns columns all k d below =
    subst (λ (p : ℕ × AnyClass). IsSoundClass p.1) (get_or-map part_of columns k d (part_of d) below) (all k (part_of d) (rw (length-map columns part_of) below))

sounds : (parts : List (ℕ × AnyClass)) (t : Tuple) → AreSound parts → IsIndexTuple parts t → All HasSoundClass t.columns
sounds parts t sound of = sound_columns t.columns (subst AreSound (sym of.of_index) sound)

-- ---- empty

empty_columns : (columns : List Column) (indexed : List Part) → AreSound (parts_of (map (empty_column columns) indexed)) → All IsColumn (map (empty_column columns) indexed)
empty_columns columns [] sound = All-nil IsColumn
empty_columns columns (part ∷ indexed) sound =
    let P : ℕ × AnyClass → Type 0 = λ p. IsSoundClass p.1 in
    let first = part_of (empty_column columns part) in
    let rest = parts_of (map (empty_column columns) indexed) in
    All-cons IsColumn (empty_column columns part) (map (empty_column columns) indexed) (empty_is columns part (All-head P first rest sound)) (empty_columns columns indexed (All-tail P first rest sound))

all_nothing : (columns : List Column) (indexed : List Part) → list_all has_nothing (map (empty_column columns) indexed) ≡ true
all_nothing columns [] = refl
all_nothing columns (part ∷ indexed) = all_nothing columns indexed

pub empty_of : (parts : List (ℕ × AnyClass)) (range : ℕ) (held : Bool) (columns : List Column) (indexed : List Part) → 0 < length parts → AreSound parts → range < 2 ^ 32 → parts_of (map (empty_column columns) indexed) ≡ parts
    → IsEmptyTuple parts (empty_tuple range held columns indexed)
empty_of parts range held columns indexed some sound fits same =
    let made = map (empty_column columns) indexed in
    let many : length made ≡ length parts = sym (length-map made part_of) ∙ ap length same in
    record {
      of = record {
        is = record { range_fits = fits; empty_flag = refl; columns = empty_columns columns indexed (subst AreSound (sym same) sound) };
        of_index = same;
      };
      nothing = λ row within. nothing_included made row (omega (arith, some, many)) (all_nothing columns indexed) within;
    }

-- ---- with a row

rows_widen : (columns : List IndexedColumn) (values : List Value) → All HasSoundClass columns → All IsColumn columns → All (ColumnTakes values) columns → All IsOfItsKind values → All (λ (column : IndexedColumn). WidensRow column (with_row_at values column) values) columns
rows_widen columns values sound of taken known k d below = row_widens (get_or columns k d) values (sound k d below) (of k d below) (taken k d below) known

kept_by_row : (columns : List IndexedColumn) (values row : List Value) → All (λ (column : IndexedColumn). WidensRow column (with_row_at values column) values) columns → All (ColumnIncludes row) columns → All (ColumnIncludes row) (map (with_row_at values) columns)
kept_by_row columns values row widens within = All-map (ColumnIncludes row) (with_row_at values) columns (λ k d below. (widens k d below).kept row (within k d below))

pub row_of : (parts : List (ℕ × AnyClass)) (t : Tuple) (values : List Value) → AreSound parts → IsIndexTuple parts t → AreTaken parts values → All IsOfItsKind values → WidensTuple parts t values
row_of parts t values sound of taken known =
    let takes : All (ColumnTakes values) t.columns = takes_by_parts t.columns values (subst (λ (ps : List (ℕ × AnyClass)). AreTaken ps values) (sym of.of_index) taken) in
    let widens = rows_widen t.columns values (sounds parts t sound of) of.is.columns takes known in
    record {
      of = record {
        is = record { range_fits = of.is.range_fits; empty_flag = refl; columns = All-map IsColumn (with_row_at values) t.columns (λ k d below. (widens k d below).is) };
        of_index = parts-with_row values t.columns ∙ of.of_index;
      };
      row = All-map (ColumnIncludes values) (with_row_at values) t.columns (λ k d below. (widens k d below).row);
      kept = λ row within. kept_by_row t.columns values row widens within;
    }

-- ---- united

record ManyUnite (columns others new : List IndexedColumn) : Type 0 where
  are : All IsColumn new
  first : (row : List Value) → All (ColumnIncludes row) columns → All (ColumnIncludes row) new
  second : (row : List Value) → All (ColumnIncludes row) others → All (ColumnIncludes row) new

many_unite : (columns others : List IndexedColumn) → parts_of others ≡ parts_of columns → All HasSoundClass columns → All IsColumn columns → All IsColumn others → ManyUnite columns others (united_columns columns others)
many_unite [] [] same sound of also = record { are = of; first = λ row within. within; second = λ row within. within }
many_unite [] (other ∷ others) same sound of also = absurd (cc)
many_unite (column ∷ columns) [] same sound of also = absurd (cc)
many_unite (column ∷ columns) (other ∷ others) same sound of also =
    let part : part_of other ≡ part_of column = cc in
    let rest : parts_of others ≡ parts_of columns = cc in
    let one = columns_unite column other (All-head HasSoundClass column columns sound) part (All-head IsColumn column columns of) (All-head IsColumn other others also) in
    let more = many_unite columns others rest (All-tail HasSoundClass column columns sound) (All-tail IsColumn column columns of) (All-tail IsColumn other others also) in
    let new = united_column column other in
    let news = united_columns columns others in
    record {
      are = All-cons IsColumn new news one.is more.are;
      first = λ row within. All-cons (ColumnIncludes row) new news (one.first row (All-head (ColumnIncludes row) column columns within)) (more.first row (All-tail (ColumnIncludes row) column columns within));
      second = λ row within. All-cons (ColumnIncludes row) new news (one.second row (All-head (ColumnIncludes row) other others within)) (more.second row (All-tail (ColumnIncludes row) other others within));
    }

pub union_of : (parts : List (ℕ × AnyClass)) (t other : Tuple) → AreSound parts → IsIndexTuple parts t → IsIndexTuple parts other → UnitesTuples parts t other
union_of parts t other sound of also =
    let unite = many_unite t.columns other.columns (also.of_index ∙ sym of.of_index) (sounds parts t sound of) of.is.columns also.is.columns in
    record {
      of = record {
        is = record { range_fits = of.is.range_fits; empty_flag = refl; columns = unite.are };
        of_index = parts-united t.columns other.columns ∙ of.of_index;
      };
      first = λ row within. unite.first row within;
      second = λ row within. unite.second row within;
    }

-- ---- written

reads_again : (class : AnyClass) → IsSoundClass class → IsReadAgain class
reads_again class sound = record {
  bound = λ s of. (sound.written s of).bound;
  fits = λ s of. omega (arith, (sound.written s of).bound, sound.small);
  again = λ s of. (sound.written s of).again;
}

number_small : (s : NullState) → number_of s < 256
number_small Nothing = omega arith
number_small Nulls = omega arith
number_small Values = omega arith
number_small Both = omega arith

states_are_bytes : (columns : List IndexedColumn) → AreBytes (states_bytes columns)
states_are_bytes [] = none_bytes
states_are_bytes (column ∷ columns) = byte_more (state_number column) (states_bytes columns) (number_small column.state) (states_are_bytes columns)

length_is_bytes : (column : IndexedColumn) → AreBytes (length_bytes column)
unfolding length_bytes
length_is_bytes column = number_bytes 2 (length (summary_bytes column))

lengths_are_bytes : (columns : List IndexedColumn) → AreBytes (lengths_bytes columns)
lengths_are_bytes [] = none_bytes
lengths_are_bytes (column ∷ columns) = bytes_more (length_bytes column) (lengths_bytes columns) (length_is_bytes column) (lengths_are_bytes columns)

summary_are_bytes : (column : IndexedColumn) (b : Bool) → has_values column.state ≡ b → IsSoundClass column.class → IsColumn column → AreBytes (summary_bytes column)
summary_are_bytes column true is sound of = subst AreBytes (sym (summary_of_values column is)) (sound.written column.summary of.of_class).bytes
summary_are_bytes column false is sound of = subst AreBytes (sym (summary_of_none column is)) none_bytes

summaries_are_bytes : (columns : List IndexedColumn) → All HasSoundClass columns → All IsColumn columns → AreBytes (summaries_bytes columns)
summaries_are_bytes [] sound of = none_bytes
summaries_are_bytes (column ∷ columns) sound of =
    bytes_more (summary_bytes column) (summaries_bytes columns) (summary_are_bytes column (has_values column.state) refl (All-head HasSoundClass column columns sound) (All-head IsColumn column columns of))
    (summaries_are_bytes columns (All-tail HasSoundClass column columns sound) (All-tail IsColumn column columns of))

columns_are_bytes : (columns : List IndexedColumn) → All HasSoundClass columns → All IsColumn columns → AreBytes (columns_bytes columns)
unfolding columns_bytes
columns_are_bytes columns sound of =
    bytes_more (states_bytes columns) (lengths_bytes columns ++ summaries_bytes columns) (states_are_bytes columns)
    (bytes_more (lengths_bytes columns) (summaries_bytes columns) (lengths_are_bytes columns) (summaries_are_bytes columns sound of))

tuple_are_bytes : (t : Tuple) → All HasSoundClass t.columns → IsTuple t → AreBytes (tuple_bytes t)
unfolding tuple_bytes
tuple_are_bytes t sound is =
    bytes_more (bytes_high_first 4 t.range) (flags_of t.placeholder t.empty ∷ columns_bytes t.columns) (number_bytes 4 t.range)
    (byte_more (flags_of t.placeholder t.empty) (columns_bytes t.columns) (omega (arith, flags_small t.placeholder t.empty)) (columns_are_bytes t.columns sound is.columns))

pub written_of : (parts : List (ℕ × AnyClass)) (t : Tuple) → AreSound parts → IsIndexTuple parts t → IsTupleWritten parts t
written_of parts t sound of =
    let all = sounds parts t sound of in
    let known : All ReadsAgain t.columns = λ k d below. reads_again (get_or t.columns k d).class (all k d below) in
    record {
      bytes = tuple_are_bytes t all of.is;
      bound = tuple_fits t of.is known;
      again = ap is_there (ap (λ (ps : List (ℕ × AnyClass)). read_of ps (tuple_bytes t)) (sym of.of_index) ∙ tuple_again t (tuple_bytes t) of.is known refl);
    }
