-- what bytes encode, or the place of their first field out of form: the length where bytes are missing
use Rattle.std.specs.Prelude.{ℕ, zero, suc, ◌+◌, ◌-◌, ◌==◌, nat_lt, ℤ, int_lt, Bool, true, ◌&&◌, if◌then◌else◌, Option, None, Some, Result, Ok, Err, List, [], ◌∷◌, ◌++◌, length, drop}
use Rattle.std.specs.Int.{w64, cast_signed}
use Rattle.byte_fields.specs.Fields.{field_at, number_of}
use Rattle.opclass_multi.specs.declared.bytes.ReadElement.{ReadElement}
use Rattle.opclass_multi.specs.declared.element.Element.{Element}
use Rattle.opclass_multi.specs.Elements.{point, weight}
use Rattle.opclass_multi.specs.Encoding.{size_of}
use Rattle.opclass_multi.specs.Kept.{Kept}

-- the number of int8 in the 8 bytes from a place
unfoldable pub number_at : List ℕ → ℕ → ℤ
number_at bytes at = cast_signed w64 (number_of (field_at bytes at 8))

-- the number is above the end of the element before it, if there is one
abbrev pub is_above : Option ℤ → ℤ → Bool
is_above None v = true
is_above (Some before) v = int_lt before v

-- a point, whose number is above the element before it; its byte 0 was read
abbrev pub point_in : Option ℤ → List ℕ → Result Element ℕ
point_in before bytes =
    if nat_lt (length bytes) 8 then Err (suc (length bytes))
    else (if is_above before (number_at bytes 0) then Ok (point (number_at bytes 0)) else Err 1)

-- an interval, whose least is above the element before it and whose greatest is above its least; its byte 1 was read
abbrev pub interval_in : Option ℤ → List ℕ → Result Element ℕ
interval_in before bytes =
    if nat_lt (length bytes) 8 then Err (suc (length bytes))
    else (if is_above before (number_at bytes 0)
    then (if nat_lt (length bytes) 16 then Err (suc (length bytes))
    else (if int_lt (number_at bytes 0) (number_at bytes 8) then Ok (record { least = number_at bytes 0; greatest = number_at bytes 8 }) else Err 9))
    else Err 1)

-- an element; its first byte is 0, or 1 where an interval is still within the limit
abbrev pub element_in : ℕ → Option ℤ → List ℕ → Result Element ℕ
element_in intervals before [] = Err 0
element_in intervals before (tag ∷ bytes) =
    if tag == 0 then point_in before bytes
    else (if (tag == 1 && nat_lt 0 intervals) then interval_in before bytes else Err 0)

-- an element, the number of its bytes, and of the intervals that may follow it
abbrev pub sized : ℕ → Result Element ℕ → Result ReadElement ℕ
sized intervals (Ok e) = Ok (record { element = e; size = size_of e; intervals = suc intervals - weight e })
sized intervals (Err at) = Err at

-- what is read behind so many bytes, which gave those elements
abbrev pub behind : ℕ → List Element → Result (List Element) ℕ → Result (List Element) ℕ
behind size es (Ok more) = Ok (es ++ more)
behind size es (Err at) = Err (size + at)

-- what is read after an element
abbrev pub read_on : Result Element ℕ → (Element → Result (List Element) ℕ) → Result (List Element) ℕ
read_on (Ok e) next = behind (size_of e) (e ∷ []) (next e)
read_on (Err at) next = Err at

-- so many elements, of which so many may be intervals, and no byte behind them
abbrev pub elements_in : ℕ → ℕ → Option ℤ → List ℕ → Result (List Element) ℕ
elements_in zero intervals before [] = Ok []
elements_in zero intervals before (b ∷ bytes) = Err 0
elements_in (suc n) intervals before bytes =
    read_on (element_in intervals before bytes) (λ e. elements_in n (suc intervals - weight e) (Some e.greatest) (drop (size_of e) bytes))

-- the elements behind their number, which is at most the limit; each may be a point, and what is left of the limit intervals
abbrev pub counted_in : ℕ → ℕ → List ℕ → Result (List Element) ℕ
counted_in limit n bytes = if nat_lt limit n then Err 0 else behind 2 [] (elements_in n (limit - n) None bytes)

-- the elements that the bytes encode within the limit
abbrev pub read_of : ℕ → List ℕ → Result (List Element) ℕ
read_of limit bytes = if nat_lt (length bytes) 2 then Err (length bytes) else counted_in limit (number_of (field_at bytes 0 2)) (drop 2 bytes)

-- the summary of these elements
abbrev pub kept_in : ℕ → Result (List Element) ℕ → Result Kept ℕ
kept_in limit (Ok es) = Ok (record { limit = limit; elements = es })
kept_in limit (Err at) = Err at

abbrev pub summary_in : ℕ → List ℕ → Result Kept ℕ
summary_in limit bytes = kept_in limit (read_of limit bytes)
