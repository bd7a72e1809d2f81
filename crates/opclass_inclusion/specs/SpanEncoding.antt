-- the bytes of a summary of ranges
use Rattle.std.specs.Prelude.{ℕ, ℤ, pos, ◌+◌, Bool, true, false, not, if◌then◌else◌, List, ◌∷◌, ◌++◌, Option, None, Some}
use Rattle.byte_fields.specs.Int8.{int8_bytes}
use Rattle.block_model.specs.Ranges.{Range, Empty, Between, lower_of, upper_of}
use Rattle.opclass_inclusion.specs.SpanHulls.{is_empty}
use Rattle.opclass_inclusion.specs.declared.span_bytes.SpanFields.{SpanFields}
use Rattle.opclass_inclusion.specs.declared.span_summary.SpanSummary.{SpanSummary}

-- the value of a bit
abbrev pub bit : Bool → ℕ → ℕ
bit b value = if b then value else 0

abbrev pub is_infinite : Option ℤ → Bool
is_infinite None = true
is_infinite (Some z) = false

-- 0 where a bound is absent
abbrev pub number_of_bound : Option ℤ → ℤ
number_of_bound None = pos 0
number_of_bound (Some z) = z

-- bit 1 says that the lower bound is infinite, and bit 2 that the upper one is; bit 0 would say that the range is empty
abbrev pub shape_of : Range → ℕ
shape_of Empty = 0
shape_of (Between l h) = bit (is_infinite l) 2 + bit (is_infinite h) 4

-- Bit 0 of the flags says that an empty range was added, and bit 1 that there is a hull. The hull follows: its shape, and
-- its bounds. They are zeros where there is none.
abbrev pub fields_of : SpanSummary → SpanFields
fields_of s = record {
  flags = bit s.empty_added 1 + bit (not (is_empty s.hull)) 2;
  shape = shape_of s.hull;
  lower = number_of_bound (lower_of s.hull);
  upper = number_of_bound (upper_of s.hull);
}

-- 18 bytes: 1 of flags, 1 of the shape, and 8 for each bound
abbrev pub field_bytes : SpanFields → List ℕ
field_bytes f = f.flags ∷ f.shape ∷ (int8_bytes f.lower ++ int8_bytes f.upper)

abbrev pub bytes_of : SpanSummary → List ℕ
bytes_of s = field_bytes (fields_of s)
