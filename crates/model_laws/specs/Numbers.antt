-- numbers of transactions have 64 bits, places of rows 32
use Rattle.std.specs.Prelude.{◌-◌, ◌^◌, nat_lt, Bool, true, Option, None, Some}
use Rattle.std.specs.FinMap as map
use Rattle.block_model.specs.declared.request.Entry.{Entry}
use Rattle.block_model.specs.declared.request.Request.{Request}
use Rattle.block_model.specs.declared.request.Request.TheVariants.{Begin, Put}
use Rattle.block_model.specs.DatabaseState.{DatabaseState, OpenTransaction}

-- another row may be put
abbrev pub has_place_left : OpenTransaction → Bool
has_place_left x = nat_lt x.next_k (2 ^ 32 - 1)

-- another transaction may begin
abbrev pub has_number_left : DatabaseState → Bool
has_number_left s = nat_lt s.next (2 ^ 64 - 1)

-- a put takes a place
abbrev pub has_number_within : OpenTransaction → Request → Bool
has_number_within x (Put values) = has_place_left x
has_number_within x request = true

-- a begin takes a number
abbrev pub has_number_outside : DatabaseState → Request → Bool
has_number_outside s Begin = has_number_left s
has_number_outside s request = true

-- by the transaction that the session has
abbrev pub has_number_at : Option OpenTransaction → DatabaseState → Request → Bool
has_number_at None s request = has_number_outside s request
has_number_at (Some x) s request = has_number_within x request

-- the number or place that the request takes is there (a refused put, too, is taken to want its place)
abbrev pub has_number : DatabaseState → Entry → Bool
has_number s e = has_number_at (map.get s.sessions e.session) s e.request
