-- an entry taken apart
use Rattle.std.specs.Prelude.{ℕ, ℤ, ◌+◌, ◌*◌, ◌^◌, ◌<◌, ◌≤◌, List, [], ◌∷◌, ◌++◌, length, map, Option, None, Some, FitsSigned}
use Rattle.std.specs.Int.{w64, cast_unsigned}
use Rattle.std.specs.List.{flat_map}
use Rattle.block_model.specs.declared.limits.TheConstants.{MAX_COLUMNS}
use Rattle.block_model.specs.declared.value.Value.{Value}
use Rattle.block_model.specs.declared.value.Value.TheVariants.{Null, Int, Span, Net}
use Rattle.block_model.specs.declared.row.Query.{Query}
use Rattle.block_model.specs.declared.request.Request.{Request}
use Rattle.block_model.specs.declared.request.Request.TheVariants as requests
use Rattle.block_model.specs.declared.request.Entry.{Entry}
use Rattle.block_model.specs.Ranges.{IsRange, lower_of, upper_of}
use Rattle.block_model.specs.Networks.{IsNetwork}
use Rattle.packed_requests.specs.declared.head.Asked.{Asked}
use Rattle.packed_requests.specs.declared.head.Asked.TheVariants as asks
use Rattle.packed_requests.specs.declared.head.Head.{Head}
use Rattle.packed_requests.specs.declared.shape.Shape.{Shape}
use Rattle.packed_requests.specs.Shapes.{shape_of}

-- a bound, where there is one, as a number of 64 bits
abbrev pub bound_numbers : Option ℤ → List ℕ
bound_numbers None = []
bound_numbers (Some b) = cast_unsigned w64 b ∷ []

-- a value's numbers
abbrev pub numbers_of : Value → List ℕ
numbers_of Null = []
numbers_of (Int n) = cast_unsigned w64 n ∷ []
numbers_of (Span r) = bound_numbers (lower_of r) ++ bound_numbers (upper_of r)
numbers_of (Net n) = (n.prefix * 2 ^ 32 + n.address) ∷ []

-- a request without what it brings
abbrev pub asked_of : Request → Asked
asked_of requests.Begin = asks.Begin
asked_of (requests.Put values) = asks.Put (length values)
asked_of (requests.Look query) = asks.Look
asked_of (requests.Mark id) = asks.Mark
asked_of requests.Commit = asks.Commit
asked_of requests.Rollback = asks.Rollback

abbrev pub head_of : Entry → Head
head_of e = record { session = e.session; table = e.table; asked = asked_of e.request; tag = e.tag }

-- the shapes of the values that are put
abbrev pub request_shapes : Request → List Shape
request_shapes (requests.Put values) = map shape_of values
request_shapes request = []

-- the numbers of the values that are put, or of the row that is marked
abbrev pub request_numbers : Request → List ℕ
request_numbers (requests.Put values) = flat_map numbers_of values
request_numbers (requests.Mark id) = id.t ∷ id.k ∷ []
request_numbers request = []

-- the query of a look
abbrev pub request_queries : Request → List Query
request_queries (requests.Look query) = query ∷ []
request_queries request = []

-- a bound is a number of int8
abbrev pub IsBound : Option ℤ → Type 0
IsBound None = Unit {0}
IsBound (Some b) = FitsSigned w64 b

-- a number of int8, a range in its canonical form, or an address of 32 bits
abbrev pub IsValue : Value → Type 0
IsValue Null = Unit {0}
IsValue (Int n) = FitsSigned w64 n
IsValue (Span r) = IsRange r × (IsBound (lower_of r) × IsBound (upper_of r))
IsValue (Net n) = IsNetwork n

abbrev pub AreValues : List Value → Type 0
AreValues [] = Unit {0}
AreValues (value ∷ values) = IsValue value × AreValues values

-- at most eight values are put, and the place of a marked row among its transaction's has 32 bits
abbrev pub IsRequest : Request → Type 0
IsRequest (requests.Put values) = (length values ≤ MAX_COLUMNS) × AreValues values
IsRequest (requests.Mark id) = id.k < 2 ^ 32
IsRequest request = Unit {0}

abbrev pub AreRequests : List Entry → Type 0
AreRequests [] = Unit {0}
AreRequests (entry ∷ entries) = IsRequest entry.request × AreRequests entries
