-- bytes of a range at a spot, as the protocol sees them there
use Rattle.std.proofs.Common.{◌≡◌, inl, inr, ℕ, ◌<◌, ◌^◌, Bool, List, length, Some, refl, sym, ap, ◌∙◌, arith}
use Rattle.std.specs.Prelude.{if◌then◌else◌, Ok, Err}
use Rattle.std.proofs.lemmas.Bool.{cases_lt, le-ltb, lt-ltb}
use Rattle.block_model.specs.declared.place.Spot.{Spot}
use Rattle.byte_fields.specs.Fields.{field_at, number_of}
use Rattle.disk_trait.specs.Told.{Told}
use Rattle.page_map.specs.declared.faults.StoreError.{StoreError}
use Rattle.page_map.specs.declared.faults.StoreError.TheVariants as errors
use Rattle.page_map.specs.Outcome.{Refused}
use Rattle.page_map.specs.PageMap.{View}
use Rattle.opclass_any.specs.declared.classes.AnyClass.{AnyClass}
use Rattle.range_tuple.specs.TupleBytes.{tuple_bytes}
use Rattle.range_tuple.specs.TupleReading.{is_there, read_of, tuple_in}
use Rattle.range_tuple.specs.Tuples.{Tuple}
use Rattle.range_store.specs.Tuples.{IsOfRange}
use Rattle.coverage.specs.IndexView.{IndexTuple}
use Rattle.index_contents.specs.IndexContents.{IndexContents}
use Rattle.index_steps.specs.IndexTuples.{IndexShape, classes_of, range_said}
use Rattle.index_steps.specs.Readings.{IsMisnamed, IsMisread, IsReadAs, ShowsGone, ShowsTuple}
use Rattle.index_steps.proofs.Views.{seen_range, seen_there, stands_by}

-- a tuple of the range begins with its number
pub said_of : (bytes : List ℕ) (range : ℕ) → IsOfRange bytes range → range_said bytes ≡ range
unfolding range_said
said_of bytes range of = ap (λ (b : Bool). if b then 2 ^ 32 else number_of (field_at bytes 0 4)) (le-ltb (length bytes) 4 of.0) ∙ of.1

pub of_said : (bytes : List ℕ) (range : ℕ) → range < 2 ^ 32 → range_said bytes ≡ range → IsOfRange bytes range
unfolding range_said
of_said bytes range small said = elim (cases_lt (length bytes) 4) [
  | inl short ↦
      let none : 2 ^ 32 ≡ range = sym (ap (λ (b : Bool). if b then 2 ^ 32 else number_of (field_at bytes 0 4)) (lt-ltb (length bytes) 4 short)) ∙ said in
      absurd (omega (arith, small, none))
  | inr long ↦ (long, sym (ap (λ (b : Bool). if b then 2 ^ 32 else number_of (field_at bytes 0 4)) (le-ltb (length bytes) 4 long)) ∙ said)
]

-- bytes of the range stand there as a tuple
pub shows_tuple : (shape : IndexShape) (c : IndexContents) (range : ℕ) (x : Spot) (bytes : List ℕ) → c.bytes x ≡ Some bytes → IsOfRange bytes range → ShowsTuple shape c range x bytes
shows_tuple shape c range x bytes there of lock w shows = (seen_there shape c lock w x bytes shows there, seen_range shape bytes ∙ said_of bytes range of)

-- where none of the range stand, no tuple of it does
pub shows_gone : (shape : IndexShape) (c : IndexContents) (range : ℕ) (x : Spot) → range < 2 ^ 32 → ((bytes : List ℕ) → c.bytes x ≡ Some bytes → IsOfRange bytes range → ⊥) → ShowsGone shape c range x
shows_gone shape c range x small gone lock w shows t is same =
    let by = stands_by shape c lock w x t shows is in
    gone by.bytes by.there (of_said by.bytes range small (sym (seen_range shape by.bytes) ∙ sym (ap (λ (u : IndexTuple). u.range) by.is) ∙ same))

-- an entry names a spot without a tuple of the range
pub is_misnamed : (c : IndexContents) (range : ℕ) (x : Spot) → range < 2 ^ 32 → c.entry range ≡ Some x → ((bytes : List ℕ) → c.bytes x ≡ Some bytes → IsOfRange bytes range → ⊥) → IsMisnamed c range
is_misnamed c range x small named gone = record { spot = x; named = named; none = λ bytes there said. gone bytes there (of_said bytes range small said) }

-- what the classes read in the bytes
pub read_as : (shape : IndexShape) (parts : List (ℕ × AnyClass)) (bytes : List ℕ) (t : Tuple) → parts ≡ classes_of shape → bytes ≡ tuple_bytes t → read_of parts bytes ≡ Ok t → IsReadAs shape bytes t
read_as shape parts bytes t are spelt read = record { spelt = spelt; read = ap (λ (ps : List (ℕ × AnyClass)). tuple_in ps bytes) (sym are) ∙ ap is_there read }

pub is_misread : (shape : IndexShape) (c : IndexContents) (parts : List (ℕ × AnyClass)) (range at : ℕ) (x : Spot) (bytes : List ℕ) → parts ≡ classes_of shape → c.bytes x ≡ Some bytes → IsOfRange bytes range → read_of parts bytes ≡ Err at → IsMisread shape c range x
is_misread shape c parts range at x bytes are there of wrong = record {
  bytes = bytes;
  there = there;
  of = said_of bytes range of;
  misread = ap (λ (ps : List (ℕ × AnyClass)). tuple_in ps bytes) (sym are) ∙ ap is_there wrong;
}

-- an error for one cause is one for another
pub refused_for : {D : Type 0} (told : D → Told) (Cause Other : Type 0) (old new : View D) (error : StoreError) → (Cause → Other) → Refused told Cause old new error → Refused told Other old new error
refused_for told Cause Other old new errors.Disk weaker refused = refused
refused_for told Cause Other old new (errors.Reopen faults) weaker refused = refused
refused_for told Cause Other old new (errors.Damaged at) weaker (was, now, more, cause) = (was, now, more, weaker cause)
