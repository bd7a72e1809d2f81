-- the bytes of a summary
use Rattle.std.specs.Prelude.{ℕ, int_lt, if◌then◌else◌, ◌+◌, List, ◌∷◌, ◌++◌, length, take, drop}
use Rattle.std.specs.Int.{bytes_high_first}
use Rattle.std.specs.List.{flat_map}
use Rattle.byte_fields.specs.Int8.{int8_bytes}
use Rattle.opclass_multi.specs.declared.element.Element.{Element}
use Rattle.opclass_multi.specs.Kept.{Kept}

-- a point: a byte 0 and its number; an interval: a byte 1 and both ends
abbrev pub element_bytes : Element → List ℕ
element_bytes e = if int_lt e.least e.greatest then 1 ∷ (int8_bytes e.least ++ int8_bytes e.greatest) else 0 ∷ int8_bytes e.least

-- how many bytes that is
abbrev pub size_of : Element → ℕ
size_of e = if int_lt e.least e.greatest then 17 else 9

-- the number of elements in 2 bytes, then each
abbrev pub elements_bytes : List Element → List ℕ
elements_bytes es = bytes_high_first 2 (length es) ++ flat_map element_bytes es

-- the bytes of the elements; how many they may be is not written
abbrev pub bytes_of : Kept → List ℕ
bytes_of s = elements_bytes s.elements

-- the bytes with others written over them from a place on
unfoldable pub written_at : ℕ → List ℕ → List ℕ → List ℕ
written_at at bytes out = take at out ++ (bytes ++ drop (at + length bytes) out)
