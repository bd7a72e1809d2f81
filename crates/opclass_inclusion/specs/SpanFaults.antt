-- which bytes encode no summary of ranges, and where the fault is
use Rattle.std.specs.Prelude.{◌≡◌, ℕ, suc, pos, nat_lt, nat_le, int_lt, ◌==◌, Bool, not, ◌||◌, ◌&&◌, false, if◌then◌else◌, List, length, slice_index, Option, None, Some}
use Rattle.std.specs.Ordering.{int_eq}
use Rattle.byte_fields.specs.Int8.{int8_at}
use Rattle.block_model.specs.Ranges.{Range, lower_of, upper_of}
use Rattle.opclass_inclusion.specs.Faults.{placed}
use Rattle.opclass_inclusion.specs.SpanEncoding.{number_of_bound, shape_of}
use Rattle.opclass_inclusion.specs.SpanHulls.{is_empty}
use Rattle.opclass_inclusion.specs.declared.span_bytes.SpanFields.{SpanFields}

-- bit 1 of the flags
abbrev pub has_hull : SpanFields → Bool
has_hull f = nat_le 2 f.flags

-- bits 1 and 2 of the shape
abbrev pub lower_is_infinite : ℕ → Bool
lower_is_infinite shape = (shape == 2) || (shape == 6)

abbrev pub upper_is_infinite : ℕ → Bool
upper_is_infinite shape = (shape == 4) || (shape == 6)

abbrev pub has_lower : SpanFields → Bool
has_lower f = has_hull f && not (lower_is_infinite f.shape)

abbrev pub has_upper : SpanFields → Bool
has_upper f = has_hull f && not (upper_is_infinite f.shape)

-- of a hull the shape says which bounds are infinite, and nothing else
abbrev pub shape_in_form : SpanFields → Bool
shape_in_form f = (f.shape == 0) || (has_hull f && (lower_is_infinite f.shape || upper_is_infinite f.shape))

-- a bound that is absent is 0
abbrev pub lower_in_form : SpanFields → Bool
lower_in_form f = has_lower f || int_eq f.lower (pos 0)

-- and the upper bound is above the lower one, where there are both
abbrev pub upper_in_form : SpanFields → Bool
upper_in_form f = if has_upper f then not (has_lower f) || int_lt f.lower f.upper else int_eq f.upper (pos 0)

-- the place of the first field that is out of form
abbrev pub field_fault : SpanFields → Option ℕ
field_fault f =
    if nat_lt 3 f.flags then Some 0
    else if not (shape_in_form f) then Some 1
    else if not (lower_in_form f) then Some 2
    else if not (upper_in_form f) then Some 10
    else None

-- where the field that begins at a place ends
abbrev pub field_end : ℕ → ℕ
field_end at = if at == 2 then 10 else if at == 10 then 18 else suc at

-- the fields of the bytes; one that isn't whole counts as 0
abbrev pub fields_in : List ℕ → SpanFields
fields_in bytes = record {
  flags = slice_index bytes 0;
  shape = slice_index bytes 1;
  lower = if nat_lt (length bytes) 10 then pos 0 else int8_at bytes 2;
  upper = if nat_lt (length bytes) 18 then pos 0 else int8_at bytes 10;
}

-- a range of these fields that isn't empty
pub record IsHullIn (f : SpanFields) (r : Range) : Type 0 where
  pub is_there : is_empty r ≡ false
  pub shape : shape_of r ≡ f.shape
  pub lower : number_of_bound (lower_of r) ≡ f.lower
  pub upper : number_of_bound (upper_of r) ≡ f.upper

-- the first field out of form of 18 bytes
abbrev pub fault_in : List ℕ → Option ℕ
fault_in bytes = placed (length bytes) 18 field_end (field_fault (fields_in bytes))
