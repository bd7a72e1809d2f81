-- how packed entries are kept
use Rattle.std.specs.Prelude.{◌≡◌, ℕ, ◌+◌, ◌*◌, ◌≤◌, List, map, vec_len, vec_capacity}
use Rattle.std.specs.List.{flat_map}
use Rattle.block_model.specs.declared.limits.TheConstants.{MAX_COLUMNS}
use Rattle.block_model.specs.declared.row.Query.{Query}
use Rattle.block_model.specs.declared.request.Entry.{Entry}
use Rattle.packed_requests.specs.declared.limits.TheConstants.{NUMBERS_AN_ENTRY}
use Rattle.packed_requests.specs.declared.head.Head.{Head}
use Rattle.packed_requests.specs.declared.shape.Shape.{Shape}
use Rattle.packed_requests.specs.declared.packed.PackedEntries.TheInside.{Inside}
use Rattle.packed_requests.specs.Packing.{AreRequests, head_of, request_numbers, request_queries, request_shapes}
use Rattle.packed_requests.specs.Reading.{entries_in}

abbrev pub all_shapes : List Entry → List Shape
all_shapes entries = flat_map (λ (e : Entry). request_shapes e.request) entries

abbrev pub all_numbers : List Entry → List ℕ
all_numbers entries = flat_map (λ (e : Entry). request_numbers e.request) entries

abbrev pub all_queries : List Entry → List Query
all_queries entries = flat_map (λ (e : Entry). request_queries e.request) entries

-- the lists are those of these entries, one after another
pub record ArePacked (heads : List Head) (shapes : List Shape) (numbers : List ℕ) (queries : List Query) : Type 0 where
  pub entries : List Entry
  pub heads_are : heads ≡ map head_of entries
  pub shapes_are : shapes ≡ all_shapes entries
  pub numbers_are : numbers ≡ all_numbers entries
  pub queries_are : queries ≡ all_queries entries
  pub requests : AreRequests entries

-- and each list has room for so many more
pub record IsPacked (a : Inside) : Type 0 where
  pub packed : ArePacked a.heads.items a.shapes.items a.numbers.items a.queries.items
  pub heads_room : vec_len a.heads + a.room ≤ vec_capacity a.heads
  pub shapes_room : vec_len a.shapes + MAX_COLUMNS * a.room ≤ vec_capacity a.shapes
  pub numbers_room : vec_len a.numbers + NUMBERS_AN_ENTRY * a.room ≤ vec_capacity a.numbers
  pub queries_room : vec_len a.queries + a.room ≤ vec_capacity a.queries

abbrev pub entries_of : Inside → List Entry
entries_of a = entries_in a.heads.items a.shapes.items a.numbers.items a.queries.items
