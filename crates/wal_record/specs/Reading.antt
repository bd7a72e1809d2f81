-- Reading from the front of bytes: a value and the bytes after it, or nothing.
use Rattle.std.specs.Prelude.{◌≡◌, ℕ, ◌*◌, List, [], ◌∷◌, length, take, drop, Option, Some, None, nat_lt, ◌==◌, if◌then◌else◌}
use Rattle.block_model.specs.declared.limits.TheConstants.{PAGE_SIZE}
use Rattle.block_model.specs.declared.place.Place.{Place}
use Rattle.block_model.specs.declared.place.Spot.{Spot}
use Rattle.byte_fields.specs.Fields.{number_of}
use Rattle.wal_record.specs.Changes.{LoggedChange, FullPage, PageStart, RowPut, RowMark, RowsDrop, TuplePut, TupleReplace, TupleDrop, Evacuate, MapPage, MapSet, MetaSet, StatusSet}

-- what a reading gave, if it gave something, handed to the next
infixl 10 ◌>>=◌
abbrev pub ◌>>=◌ : {A B : Type 0} → Option A → (A → Option B) → Option B
(Some x) >>= f = f x
None >>= f = None

-- what a function returned, seen by view, is what reading gives
abbrev pub Gives : {X Y : Type 0} → (X → Y) → Option X → Option Y → Type 0
Gives view (Some x) read = read ≡ Some (view x)
Gives view None read = read ≡ None

-- a reading's value through a function
abbrev pub mapped : {A B : Type 0} → (A → B) → (List ℕ → Option (A × List ℕ)) → List ℕ → Option (B × List ℕ)
mapped f read bytes = read bytes >>= λ x. Some (f x.0, x.1)

-- one value, and another behind it
abbrev pub both : {A B : Type 0} → (List ℕ → Option (A × List ℕ)) → (List ℕ → Option (B × List ℕ)) → List ℕ → Option ((A × B) × List ℕ)
both first second bytes = first bytes >>= λ x. second x.1 >>= λ y. Some ((x.0, y.0), y.1)

-- the first byte
abbrev pub one_byte : List ℕ → Option (ℕ × List ℕ)
one_byte [] = None
one_byte (b ∷ bytes) = Some (b, bytes)

-- n bytes
abbrev pub part_at : ℕ → List ℕ → Option (List ℕ × List ℕ)
part_at n bytes = if nat_lt (length bytes) n then None else Some (take n bytes, drop n bytes)

-- the number that n bytes spell
abbrev pub number_at : ℕ → List ℕ → Option (ℕ × List ℕ)
number_at n bytes = if nat_lt (length bytes) n then None else Some (number_of (take n bytes), drop n bytes)

-- a byte of relation, and four of block
unfoldable pub place_at : List ℕ → Option (Place × List ℕ)
place_at bytes = mapped (λ x. record { relation = x.0; block = x.1 }) (both one_byte (number_at 4)) bytes

-- four bytes of block, and two of slot
unfoldable pub spot_at : List ℕ → Option (Spot × List ℕ)
spot_at bytes = mapped (λ x. record { block = x.0; slot = x.1 }) (both (number_at 4) (number_at 2)) bytes

-- a number of two bytes, and as many bytes as size says of it
abbrev pub sized_at : (ℕ → ℕ) → List ℕ → Option (List ℕ × List ℕ)
sized_at size bytes = number_at 2 bytes >>= λ n. part_at (size n.0) n.1

-- a length, and that many bytes
unfoldable pub counted_at : List ℕ → Option (List ℕ × List ℕ)
counted_at bytes = sized_at (λ n. n) bytes

-- a count, and two bytes for each slot
unfoldable pub slots_at : List ℕ → Option (List ℕ × List ℕ)
slots_at bytes = sized_at (λ n. 2 * n) bytes

-- a slot, and the bytes of what is put there
unfoldable pub put_bytes_at : List ℕ → Option ((ℕ × List ℕ) × List ℕ)
put_bytes_at bytes = both (number_at 2) counted_at bytes

-- a change of the map, of the number of its pages, or of the table of transactions
unfoldable pub map_change_at : ℕ → Place → List ℕ → Option (LoggedChange × List ℕ)
map_change_at tag place bytes =
    if tag == 9 then Some (Evacuate place, bytes)
    else (if tag == 10 then Some (MapPage place, bytes)
    else (if tag == 11 then mapped (λ x. MapSet place x.0 x.1) (both (number_at 2) spot_at) bytes
    else (if tag == 12 then mapped (MetaSet place) (number_at 4) bytes
    else (if tag == 13 then mapped (λ x. StatusSet place x.0 x.1) (both (number_at 2) one_byte) bytes
    else None))))

-- a change of tuples, or one of those above
unfoldable pub tuple_change_at : ℕ → Place → List ℕ → Option (LoggedChange × List ℕ)
tuple_change_at tag place bytes =
    if tag == 6 then mapped (λ x. TuplePut place x.0 x.1) put_bytes_at bytes
    else (if tag == 7 then mapped (λ x. TupleReplace place x.0 x.1) put_bytes_at bytes
    else (if tag == 8 then mapped (TupleDrop place) slots_at bytes
    else map_change_at tag place bytes))

-- a change of rows, or one of those above
unfoldable pub row_change_at : ℕ → Place → List ℕ → Option (LoggedChange × List ℕ)
row_change_at tag place bytes =
    if tag == 3 then mapped (λ x. RowPut place x.0 x.1) put_bytes_at bytes
    else (if tag == 4 then mapped (λ x. RowMark place x.0 x.1) (both (number_at 2) (number_at 8)) bytes
    else (if tag == 5 then mapped (RowsDrop place) slots_at bytes
    else tuple_change_at tag place bytes))

-- a change of a whole page, or one of those above
unfoldable pub page_change_at : ℕ → Place → List ℕ → Option (LoggedChange × List ℕ)
page_change_at tag place bytes =
    if tag == 1 then mapped (FullPage place) (part_at PAGE_SIZE) bytes
    else (if tag == 2 then mapped (PageStart place) one_byte bytes
    else row_change_at tag place bytes)

-- a tag, a place, and what the change of that tag carries
unfoldable pub change_at : List ℕ → Option (LoggedChange × List ℕ)
change_at bytes = one_byte bytes >>= λ tag. place_at tag.1 >>= λ place. page_change_at tag.0 place.0 place.1
