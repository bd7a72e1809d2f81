-- the request for a summary that came first
use Rattle.std.specs.Prelude.{◌≡◌, ℕ, ◌*◌, ◌/◌, ◌<◌, List, length, slice_get, Some}
use Rattle.store_layout.specs.DiskLayout.{DiskLayout}
use Rattle.summarise_core.specs.declared.wish.Wish.TheVariants as wishes
use Rattle.summarise_core.specs.Summarises.{SummariseState, in_range_of}
use Rattle.session_maintenance.specs.declared.first_request.FirstRequest.{FirstRequest}

-- it is that one, of a declared index, with a block of its range
pub record IsFirstRequest (layout : DiskLayout) (queue : List (ℕ × ℕ)) (request : FirstRequest) : Type 0 where
  pub first : slice_get queue 0 ≡ Some (request.index, request.range)
  pub index : request.index < length layout.schema.indexes
  pub range : request.block / in_range_of layout request.index ≡ request.range

-- there is none of a declared index whose range begins at a block that a heap may have
abbrev pub HasNoRequest : DiskLayout → List (ℕ × ℕ) → Type 0
HasNoRequest layout queue = (request : ℕ × ℕ) → slice_get queue 0 ≡ Some request → request.0 < length layout.schema.indexes → request.1 * in_range_of layout request.0 < layout.sizes.heap_blocks → ⊥

-- the summarise is of that range of its index alone
abbrev pub IsOfRange : DiskLayout → SummariseState → (range : ℕ) → Type 0
IsOfRange layout a range = (block : ℕ) × (a.wish ≡ wishes.Block block) × (block / in_range_of layout a.index ≡ range)
