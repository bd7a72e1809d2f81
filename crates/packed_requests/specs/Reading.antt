-- the entries that stand in the lists
use Rattle.std.specs.Prelude.{ℕ, ℤ, ◌/◌, ◌%◌, ◌^◌, nat_le, int_lt, min, List, [], ◌∷◌, take, drop, slice_index, Some, None, if◌then◌else◌}
use Rattle.std.specs.Int.{w64, cast_signed}
use Rattle.block_model.specs.declared.limits.TheConstants.{MAX_COLUMNS}
use Rattle.block_model.specs.declared.value.Value.{Value}
use Rattle.block_model.specs.declared.value.Value.TheVariants.{Null, Int, Span, Net}
use Rattle.block_model.specs.declared.row.RowId.{RowId}
use Rattle.block_model.specs.declared.row.Query.{Query}
use Rattle.block_model.specs.declared.request.Request.{Request}
use Rattle.block_model.specs.declared.request.Request.TheVariants as requests
use Rattle.block_model.specs.declared.request.Entry.{Entry}
use Rattle.block_model.specs.Ranges.{Range, Empty, Between}
use Rattle.block_model.specs.Networks.{network_v4}
use Rattle.packed_requests.specs.declared.head.Asked.{Asked}
use Rattle.packed_requests.specs.declared.head.Asked.TheVariants as asks
use Rattle.packed_requests.specs.declared.head.Head.{Head}
use Rattle.packed_requests.specs.declared.shape.Shape.{Shape}
use Rattle.packed_requests.specs.declared.shape.Shape.TheVariants as shapes
use Rattle.packed_requests.specs.Shapes.{width}

-- the number at a place, as one of int8
abbrev pub signed_at : List ℕ → ℕ → ℤ
signed_at numbers at = cast_signed w64 (slice_index numbers at)

-- from the first on and below the second; no number where they are out of order
abbrev pub range_between : ℤ → ℤ → Range
range_between l h = if int_lt l h then Between (Some l) (Some h) else Empty

-- the address and its prefix; null where the prefix is too long
abbrev pub network_in : ℕ → Value
network_in n = if nat_le (n / 2 ^ 32) 32 then Net (network_v4 (n % 2 ^ 32) (n / 2 ^ 32)) else Null

-- the value of this shape with the numbers at the front
abbrev pub value_in : Shape → List ℕ → Value
value_in shapes.Null ns = Null
value_in shapes.Number ns = Int (signed_at ns 0)
value_in shapes.EmptyRange ns = Span Empty
value_in shapes.WholeRange ns = Span (Between None None)
value_in shapes.RangeFrom ns = Span (Between (Some (signed_at ns 0)) None)
value_in shapes.RangeBelow ns = Span (Between None (Some (signed_at ns 0)))
value_in shapes.RangeBetween ns = Span (range_between (signed_at ns 0) (signed_at ns 1))
value_in shapes.Network ns = network_in (slice_index ns 0)

-- the values of these shapes, one after another
abbrev pub values_in : List Shape → List ℕ → List Value
values_in [] ns = []
values_in (s ∷ ss) ns = value_in s ns ∷ values_in ss (drop (width s) ns)

-- the numbers behind theirs
abbrev pub numbers_behind : List Shape → List ℕ → List ℕ
numbers_behind [] ns = ns
numbers_behind (s ∷ ss) ns = numbers_behind ss (drop (width s) ns)

-- the query at the front; one without conditions where there is none
abbrev pub query_in : List Query → Query
query_in [] = record { table = 0; conds = [] }
query_in (query ∷ queries) = query

abbrev pub row_id_in : List ℕ → RowId
row_id_in ns = record { t = slice_index ns 0; k = slice_index ns 1 % 2 ^ 32 }

-- the shapes of so many values; no more than eight are put
abbrev pub shapes_in : ℕ → List Shape → List Shape
shapes_in n ss = take (min n MAX_COLUMNS) ss

-- the request with what stands at the fronts of the lists
abbrev pub request_in : Asked → List Shape → List ℕ → List Query → Request
request_in asks.Begin ss ns qs = requests.Begin
request_in (asks.Put n) ss ns qs = requests.Put (values_in (shapes_in n ss) ns)
request_in asks.Look ss ns qs = requests.Look (query_in qs)
request_in asks.Mark ss ns qs = requests.Mark (row_id_in ns)
request_in asks.Commit ss ns qs = requests.Commit
request_in asks.Rollback ss ns qs = requests.Rollback

-- what is left of each list behind a request
abbrev pub shapes_after : Asked → List Shape → List Shape
shapes_after (asks.Put n) ss = drop (min n MAX_COLUMNS) ss
shapes_after asked ss = ss

abbrev pub numbers_after : Asked → List Shape → List ℕ → List ℕ
numbers_after (asks.Put n) ss ns = numbers_behind (shapes_in n ss) ns
numbers_after asks.Mark ss ns = drop 2 ns
numbers_after asked ss ns = ns

abbrev pub queries_after : Asked → List Query → List Query
queries_after asks.Look qs = drop 1 qs
queries_after asked qs = qs

abbrev pub entry_in : Head → List Shape → List ℕ → List Query → Entry
entry_in h ss ns qs = record { session = h.session; table = h.table; request = request_in h.asked ss ns qs; tag = h.tag }

-- an entry for each head
unfoldable pub entries_in : List Head → List Shape → List ℕ → List Query → List Entry
entries_in [] ss ns qs = []
entries_in (h ∷ hs) ss ns qs = entry_in h ss ns qs ∷ entries_in hs (shapes_after h.asked ss) (numbers_after h.asked ss ns) (queries_after h.asked qs)
