-- what an insert asks for, and where that comes: into the queue of the summaries, or among what it asks for in vain
use Rattle.std.specs.Prelude.{◌≡◌, ℕ, ◌+◌, ◌*◌, ◌/◌, ◌≤◌, ◌<◌, ◌++◌, ◌∷◌, [], Bool, true, false, List, length, slice_get, Option, None, Some}
use Rattle.block_model.specs.declared.place.Spot.{Spot}
use Rattle.block_model.specs.declared.reply.Point.TheVariants as points
use Rattle.store_layout.specs.DiskLayout.{DiskLayout}
use Rattle.page_map.specs.PageMap.{PageMap}
use Rattle.page_locks.specs.declared.did.Did.{Did}
use Rattle.page_locks.specs.declared.did.Did.TheVariants as did
use Rattle.brin_insert.specs.declared.queue.TheConstants.{MAX_REQUESTS}
use Rattle.coverage.specs.Accounts.{Asked}
use Rattle.index_contents.specs.IndexContents.{contents}
use Rattle.index_steps.specs.IndexTuples.{index_at}
use Rattle.index_steps.specs.ShownTable.{indexes_of}
use Rattle.brin_insert.specs.declared.insert.Insert.{Insert}
use Rattle.brin_insert.specs.InsertHands.{InsertHand}
use Rattle.brin_insert.specs.Inserts.{work_of}

-- A request for the range, by what its entry is: none for one that has an entry; else it joins the queue, if that isn't full.
pub data IsAsked (request : ℕ × ℕ) (queue queued dropped after : List (ℕ × ℕ)) : Option Spot → Type 0 where
  HasOne : (x : Spot) → queued ≡ queue → after ≡ dropped → IsAsked request queue queued dropped after (Some x)
  JoinsQueue : length queue < MAX_REQUESTS → queued ≡ queue ++ (request ∷ []) → after ≡ dropped → IsAsked request queue queued dropped after None
  InVain : MAX_REQUESTS ≤ length queue → queued ≡ queue → after ≡ dropped ++ (request ∷ []) → IsAsked request queue queued dropped after None

-- so it is of the range before that of the row
abbrev pub AsksHere : DiskLayout → PageMap → Option Spot → Option InsertHand → (queue queued dropped after : List (ℕ × ℕ)) → Type 0
AsksHere layout pages (Some x) (Some hand) queue queued dropped after = (range : ℕ) × (x.block / (index_at layout hand.index).pages_per_range ≡ range + 1)
    × IsAsked (hand.index, range) queue queued dropped after ((contents layout pages hand.index).entry range)
AsksHere layout pages place work queue queued dropped after = ⊥

-- What a step makes of the queue, and of what the insert asked for in vain: nothing, but where it has to ask.
abbrev pub AsksBy : DiskLayout → PageMap → (asking : Bool) → Option Spot → Option InsertHand → (queue queued dropped after : List (ℕ × ℕ)) → Type 0
AsksBy layout pages true place work queue queued dropped after = AsksHere layout pages place work queue queued dropped after
AsksBy layout pages asking place work queue queued dropped after = (queued ≡ queue) × (after ≡ dropped)

abbrev pub InsertAsks : DiskLayout → PageMap → (old new : Insert) → (queue queued : List (ℕ × ℕ)) → Type 0
InsertAsks layout pages old new queue queued = AsksBy layout pages old.asking old.place (work_of old) queue queued old.dropped.items new.dropped.items

-- where it has to ask, the step does so, under its point
abbrev pub AsksFirst : (asking : Bool) → Did → Type 0
AsksFirst true answer = answer ≡ did.Moved points.Ask
AsksFirst false answer = Unit {0}

-- where it hasn't, the step touches neither
abbrev pub AsksNothingMore : (asking : Bool) → (queue queued dropped after : List (ℕ × ℕ)) → Type 0
AsksNothingMore true queue queued dropped after = Unit {0}
AsksNothingMore false queue queued dropped after = (queued ≡ queue) × (after ≡ dropped)

-- A request of the engine, by the number of its index among all, is this one of the protocol, by its place among its table's. Its range begins at a block
-- that a heap may have.
pub record IsRequestOf (layout : DiskLayout) (request : ℕ × ℕ) (asked : Asked) : Type 0 where
  pub there : slice_get (indexes_of layout asked.table) asked.at ≡ Some request.0
  pub range : asked.range ≡ request.1
  pub begins : request.1 * (index_at layout request.0).pages_per_range < layout.sizes.heap_blocks

-- and so one by one
pub data AreRequestsOf (layout : DiskLayout) : List (ℕ × ℕ) → List Asked → Type 0 where
  NoRequests : AreRequestsOf layout [] []
  OneMoreRequest : (request : ℕ × ℕ) (asked : Asked) (requests : List (ℕ × ℕ)) (more : List Asked) → IsRequestOf layout request asked → AreRequestsOf layout requests more
      → AreRequestsOf layout (request ∷ requests) (asked ∷ more)
