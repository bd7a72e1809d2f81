-- the bytes of a tuple: there are some, and the room for them goes by the index
use Rattle.std.proofs.Common.{◌≡◌, ℕ, ◌+◌, ◌<◌, List, [], ◌∷◌, length, refl, ap, arith}
use Rattle.std.specs.Prelude.{sum_by}
use Rattle.std.specs.Int.{bytes_high_first}
use Rattle.std.proofs.lemmas.List.{length-append}
use Rattle.std.proofs.lemmas.List.Sums.{sum_by-cons}
use Rattle.opclass_any.specs.AnyClass.{greatest_size}
use Rattle.opclass_any.specs.declared.classes.AnyClass.{AnyClass}
use Rattle.range_tuple.specs.TupleBytes.{columns_bytes, flags_of, tuple_bytes}
use Rattle.range_tuple.specs.Tuples.{IndexedColumn, Tuple, column_room, parts_of, tuple_room}

pub some_bytes : (t : Tuple) → 0 < length (tuple_bytes t)
unfolding tuple_bytes
some_bytes t = omega (arith, length-append (bytes_high_first 4 t.range) (flags_of t.placeholder t.empty ∷ columns_bytes t.columns))

-- the room of an index's columns, by their classes
abbrev part_rooms : List (ℕ × AnyClass) → ℕ
part_rooms [] = 0
part_rooms (p ∷ parts) = 1 + 2 + greatest_size p.1 + part_rooms parts

rooms_are : (columns : List IndexedColumn) → sum_by column_room columns ≡ part_rooms (parts_of columns)
rooms_are [] = refl
rooms_are (column ∷ columns) = omega (arith, sum_by-cons column_room column columns, rooms_are columns)

pub same_room : (xs ys : List IndexedColumn) → parts_of xs ≡ parts_of ys → tuple_room xs ≡ tuple_room ys
same_room xs ys same = omega (arith, rooms_are xs, rooms_are ys, ap part_rooms same)
