-- how many bytes a change has at the least
use Rattle.std.proofs.Common.{ℕ, ◌≤◌, List, [], ◌∷◌, ◌++◌, length, length-append, arith}
use Rattle.std.specs.Int.{bytes_high_first}
use Rattle.block_model.specs.declared.place.Place.{Place}
use Rattle.wal_record.specs.Changes.{LoggedChange, FullPage, PageStart, RowPut, RowMark, RowsDrop, TuplePut, TupleReplace, TupleDrop, Evacuate, MapPage, MapSet, MetaSet, StatusSet}
use Rattle.wal_record.specs.ChangeBytes.{bytes_of, counted_slots, place_bytes, put_bytes, spot_bytes, tagged}

tagged_least : (tag : ℕ) (place : Place) (carried : List ℕ) → 6 ≤ length (tagged tag place carried)
tagged_least tag place carried = omega (arith, length-append (place_bytes place) carried)

-- a tag and a place
pub least_size : (change : LoggedChange) → 6 ≤ length (bytes_of change)
unfolding bytes_of
least_size (FullPage place bytes) = tagged_least 1 place bytes
least_size (PageStart place kind) = tagged_least 2 place (kind ∷ [])
least_size (RowPut place slot bytes) = tagged_least 3 place (put_bytes slot bytes)
least_size (RowMark place slot deleter) = tagged_least 4 place (bytes_high_first 2 slot ++ bytes_high_first 8 deleter)
least_size (RowsDrop place slots) = tagged_least 5 place (counted_slots slots)
least_size (TuplePut place slot bytes) = tagged_least 6 place (put_bytes slot bytes)
least_size (TupleReplace place slot bytes) = tagged_least 7 place (put_bytes slot bytes)
least_size (TupleDrop place slots) = tagged_least 8 place (counted_slots slots)
least_size (Evacuate place) = tagged_least 9 place []
least_size (MapPage place) = tagged_least 10 place []
least_size (MapSet place entry spot) = tagged_least 11 place (bytes_high_first 2 entry ++ spot_bytes spot)
least_size (MetaSet place maps) = tagged_least 12 place (bytes_high_first 4 maps)
least_size (StatusSet place entry status) = tagged_least 13 place (bytes_high_first 2 entry ++ status ∷ [])
