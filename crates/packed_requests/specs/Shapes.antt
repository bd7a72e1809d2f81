-- a value without its numbers, and how many numbers it has
use Rattle.std.specs.Prelude.{ℕ, None, Some}
use Rattle.block_model.specs.declared.value.Value.{Value}
use Rattle.block_model.specs.declared.value.Value.TheVariants.{Null, Int, Span, Net}
use Rattle.block_model.specs.Ranges.{Range, Empty, Between}
use Rattle.packed_requests.specs.declared.shape.Shape.{Shape}
use Rattle.packed_requests.specs.declared.shape.Shape.TheVariants as shapes

-- which bounds a range has
abbrev pub range_shape : Range → Shape
range_shape Empty = shapes.EmptyRange
range_shape (Between None None) = shapes.WholeRange
range_shape (Between (Some l) None) = shapes.RangeFrom
range_shape (Between None (Some h)) = shapes.RangeBelow
range_shape (Between (Some l) (Some h)) = shapes.RangeBetween

abbrev pub shape_of : Value → Shape
shape_of Null = shapes.Null
shape_of (Int n) = shapes.Number
shape_of (Span r) = range_shape r
shape_of (Net n) = shapes.Network

-- a number has itself, a range its bounds, and an address one number for itself and its prefix
abbrev pub width : Shape → ℕ
width shapes.Null = 0
width shapes.Number = 1
width shapes.EmptyRange = 0
width shapes.WholeRange = 0
width shapes.RangeFrom = 1
width shapes.RangeBelow = 1
width shapes.RangeBetween = 2
width shapes.Network = 1
