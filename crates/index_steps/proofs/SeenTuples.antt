-- the tuples of an index, as they are seen in their bytes
use Rattle.std.proofs.Common.{◌≡◌, ℕ, ◌≤◌, ◌^◌, Bool, true, false, List, [], ◌∷◌, length, map, Option, None, Some, refl, sym, ap, ◌∙◌, arith, length-append, zero, suc}
use Rattle.std.specs.Prelude.{if◌then◌else◌, nat_lt}
use Rattle.std.specs.Int.{bytes_high_first}
use Rattle.std.specs.Option.{option_map}
use Rattle.std.proofs.lemmas.Bool.{and_from, and_parts, le-ltb, lt-ltb, ltb-true}
use Rattle.std.proofs.lemmas.Option.{none-some, same_Some}
use Rattle.block_model.specs.declared.row.Row.{Row}
use Rattle.block_model.specs.declared.value.Value.{Value}
use Rattle.block_model.specs.TupleSize.{tuple_size}
use Rattle.byte_fields.specs.Fields.{AreBytes, field_at, length-number, number_of}
use Rattle.range_tuple.specs.IncludedRows.{tuple_includes}
use Rattle.range_tuple.specs.TupleBytes.{columns_bytes, flags_of, tuple_bytes}
use Rattle.range_tuple.specs.TupleReading.{tuple_in}
use Rattle.range_tuple.specs.Tuples.{Tuple, empty_column, empty_placeholder, parts_of, with_row}
use Rattle.coverage.specs.IndexView.{IndexTuple, IsFormed}
use Rattle.range_tuple.specs.SoundTuples.{AreSoundTuples, IsIndexTuple, WidensTuple}
use Rattle.index_steps.specs.IndexTuples.{IndexShape, TakesValues, are_bytes, changed, changed_as, classes_of, contents_of, final_union, have_kinds, kinds_of, range_said, row_values, seen, seen_as, tuple_said, united_as}
use Rattle.index_steps.proofs.Rows.{row_has_kinds, row_known}

-- ---- bytes by their test

pub bytes_pass : (bytes : List ℕ) → AreBytes bytes → are_bytes bytes ≡ true
bytes_pass [] small = refl
bytes_pass (b ∷ bytes) small = and_from (nat_lt b 256) (are_bytes bytes) (lt-ltb b 256 (small 0)) (bytes_pass bytes (λ i. small (suc i)))

pass_bytes : (bytes : List ℕ) → are_bytes bytes ≡ true → AreBytes bytes
pass_bytes [] is i = omega arith
pass_bytes (b ∷ bytes) is zero = ltb-true b 256 (and_parts (nat_lt b 256) (are_bytes bytes) is).0
pass_bytes (b ∷ bytes) is (suc i) = pass_bytes bytes (and_parts (nat_lt b 256) (are_bytes bytes) is).1 i

-- ---- what is seen of a tuple's bytes

pub seen_bytes : (shape : IndexShape) (bytes : List ℕ) → (seen shape bytes).bytes ≡ bytes
unfolding seen
seen_bytes shape bytes = refl

pub seen_range : (shape : IndexShape) (bytes : List ℕ) → (seen shape bytes).range ≡ range_said bytes
unfolding seen
seen_range shape bytes = refl

pub seen_placeholder : (shape : IndexShape) (bytes : List ℕ) (t : Tuple) → tuple_in (classes_of shape) bytes ≡ Some t → (seen shape bytes).placeholder ≡ t.placeholder
unfolding seen
seen_placeholder shape bytes t is = ap (λ (o : Option Tuple). (seen_as shape bytes o).placeholder) is

pub seen_includes : (shape : IndexShape) (bytes : List ℕ) (t : Tuple) (r : Row) → tuple_in (classes_of shape) bytes ≡ Some t → (seen shape bytes).includes r ≡ tuple_includes t (row_values shape r)
unfolding seen
seen_includes shape bytes t r is = ap (λ (o : Option Tuple). (seen_as shape bytes o).includes r) is

-- ---- what the contents are, word for word

pub read_is : (shape : IndexShape) (bytes : List ℕ) → (contents_of shape).read bytes ≡ option_map (λ (t : Tuple). seen shape bytes) (tuple_said shape bytes)
unfolding contents_of
read_is shape bytes = refl

pub added_is : (shape : IndexShape) (r : Row) (t : IndexTuple) → (contents_of shape).added r t ≡ changed shape t.bytes (with_row (row_values shape r))
unfolding contents_of
added_is shape r t = refl

pub united_is : (shape : IndexShape) (t other : IndexTuple) → (contents_of shape).united t other ≡ united_as shape t.bytes (tuple_in (classes_of shape) other.bytes)
unfolding contents_of
united_is shape t other = refl

pub empty_is : (shape : IndexShape) (range : ℕ) → (contents_of shape).empty range ≡ seen shape (tuple_bytes (empty_placeholder range shape.columns shape.parts))
unfolding contents_of
empty_is shape range = refl

pub greatest_is : (shape : IndexShape) → (contents_of shape).greatest ≡ tuple_size shape.columns shape.parts
unfolding contents_of
greatest_is shape = refl

pub ranges_are : (shape : IndexShape) → (contents_of shape).ranges ≡ 2 ^ 32
unfolding contents_of
ranges_are shape = refl

-- bytes that say a tuple are bytes, in which the classes read one
record Says (shape : IndexShape) (bytes : List ℕ) : Type 0 where
  small : AreBytes bytes
  tuple : Tuple
  read : tuple_in (classes_of shape) bytes ≡ Some tuple

says_by : (shape : IndexShape) (bytes : List ℕ) (b : Bool) (o : Option Tuple) (t : IndexTuple) → are_bytes bytes ≡ b → tuple_in (classes_of shape) bytes ≡ o → option_map (λ (u : Tuple). seen shape bytes) (if b then o else None) ≡ Some t → Says shape bytes
says_by shape bytes false o t are is said = absurd (none-some t said)
says_by shape bytes true None t are is said = absurd (none-some t said)
says_by shape bytes true (Some u) t are is said = record { small = pass_bytes bytes are; tuple = u; read = is }

pub said_is : (shape : IndexShape) (bytes : List ℕ) (t : Tuple) → are_bytes bytes ≡ true → tuple_in (classes_of shape) bytes ≡ Some t → (contents_of shape).read bytes ≡ Some (seen shape bytes)
said_is shape bytes t are is = read_is shape bytes ∙ (λ i. option_map (λ (u : Tuple). seen shape bytes) (if are i then is i else None))

-- the same tuple, where it is seen in the same bytes
says_seen : (shape : IndexShape) (bytes : List ℕ) (t : IndexTuple) (b : Bool) (o : Option Tuple) → option_map (λ (u : Tuple). seen shape bytes) (if b then o else None) ≡ Some t → t ≡ seen shape bytes
says_seen shape bytes t false o said = absurd (none-some t said)
says_seen shape bytes t true None said = absurd (none-some t said)
says_seen shape bytes t true (Some u) said = sym (same_Some (seen shape bytes) t said)

-- the bytes of a tuple begin with four of its range
pub said_range : (t : Tuple) → range_said (tuple_bytes t) ≡ number_of (field_at (tuple_bytes t) 0 4)
unfolding range_said tuple_bytes
said_range t =
    let size : 4 ≤ length (tuple_bytes t) = omega (arith, length-append (bytes_high_first 4 t.range) (flags_of t.placeholder t.empty ∷ columns_bytes t.columns), length-number 4 t.range) in
    ap (λ (b : Bool). if b then 2 ^ 32 else number_of (field_at (tuple_bytes t) 0 4)) (le-ltb (length (tuple_bytes t)) 4 size)

pub classes_are : (shape : IndexShape) → parts_of (map (empty_column shape.columns) shape.parts) ≡ classes_of shape
unfolding classes_of
classes_are shape = refl

-- ---- tuples of the index, as they are seen

abbrev pub OfIndex : IndexShape → Tuple → Type 0
OfIndex shape u = IsIndexTuple (classes_of shape) u

abbrev pub as_seen : IndexShape → Tuple → IndexTuple
as_seen shape u = seen shape (tuple_bytes u)

pub final_of : (shape : IndexShape) (u : Tuple) → OfIndex shape u → OfIndex shape (record u { placeholder = false })
final_of shape u of = record { is = record { range_fits = of.is.range_fits; empty_flag = of.is.empty_flag; columns = of.is.columns }; of_index = of.of_index }

-- a tuple of the contents is one that is seen
pub record IsSeen (shape : IndexShape) (t : IndexTuple) : Type 0 where
  pub tuple : Tuple
  pub of : OfIndex shape tuple
  pub is : t ≡ as_seen shape tuple

module _ (shape : IndexShape) (sound : AreSoundTuples (classes_of shape)) where
  pub is_seen : (t : IndexTuple) → IsFormed (contents_of shape) t → IsSeen shape t
  is_seen t formed =
      let said = sym (read_is shape t.bytes) ∙ formed.says in
      let says = says_by shape t.bytes (are_bytes t.bytes) (tuple_in (classes_of shape) t.bytes) t refl refl said in
      let spelt = sound.read t.bytes says.tuple says.small says.read in
      record {
        tuple = says.tuple;
        of = spelt.of;
        is = says_seen shape t.bytes t (are_bytes t.bytes) (tuple_in (classes_of shape) t.bytes) said ∙ ap (seen shape) spelt.spelt;
      }

  pub added_seen : (r : Row) (u : Tuple) → OfIndex shape u → (contents_of shape).added r (as_seen shape u) ≡ as_seen shape (with_row (row_values shape r) u)
  added_seen r u of =
      added_is shape r (as_seen shape u)
      ∙ ap (λ (b : List ℕ). changed shape b (with_row (row_values shape r))) (seen_bytes shape (tuple_bytes u))
      ∙ ap (changed_as shape (tuple_bytes u) (with_row (row_values shape r))) (sound.written u of).again

  pub united_seen : (u other : Tuple) → OfIndex shape u → OfIndex shape other → (contents_of shape).united (as_seen shape u) (as_seen shape other) ≡ as_seen shape (final_union other u)
  united_seen u other of also =
      united_is shape (as_seen shape u) (as_seen shape other)
      ∙ ap (λ (b : List ℕ). united_as shape (as_seen shape u).bytes (tuple_in (classes_of shape) b)) (seen_bytes shape (tuple_bytes other))
      ∙ ap (united_as shape (as_seen shape u).bytes) (sound.written other also).again
      ∙ ap (λ (b : List ℕ). changed shape b (final_union other)) (seen_bytes shape (tuple_bytes u))
      ∙ ap (changed_as shape (tuple_bytes u) (final_union other)) (sound.written u of).again

  pub widened : ((values : List Value) → have_kinds (kinds_of shape) values ≡ true → TakesValues shape values) → (r : Row) (u : Tuple) → OfIndex shape u → WidensTuple (classes_of shape) u (row_values shape r)
  widened takes r u of = sound.widens u (row_values shape r) of (takes (row_values shape r) (row_has_kinds shape r)).taken (row_known shape r)
