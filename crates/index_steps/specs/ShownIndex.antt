-- what the pages of an index and the locks of its pages show
use Rattle.std.specs.Prelude.{◌≡◌, ℕ, Bool, Option}
use Rattle.std.specs.Option.{option_map}
use Rattle.block_model.specs.declared.place.Spot.{Spot}
use Rattle.store_layout.specs.DiskLayout.{DiskLayout}
use Rattle.disk_trait.specs.Told.{Told}
use Rattle.page_map.specs.Keeps.{Keeps, Tells}
use Rattle.page_map.specs.PageMap.{View}
use Rattle.page_locks.specs.LockChanges.{page_of}
use Rattle.page_locks.specs.LockHolders.{LockState, holder}
use Rattle.coverage.specs.IndexPart.{IndexPart}
use Rattle.coverage.specs.IndexView.{IndexTuple, IndexView}
use Rattle.index_contents.specs.IndexContents.{IndexContents, contents, relation_of}
use Rattle.index_steps.specs.IndexTuples.{IndexShape, contents_of, seen}

-- which actor holds the lock of each page of the index
abbrev pub lock_in : DiskLayout → LockState → ℕ → ℕ → Option ℕ
lock_in layout locks index page = holder locks (page_of (relation_of layout index) page)

-- the tuple at each spot, by the bytes that stand there
abbrev pub tuple_in_place : IndexShape → IndexContents → Spot → Option IndexTuple
tuple_in_place shape c x = option_map (seen shape) (c.bytes x)

-- the part of the protocol's index that they are, beside which tuples were unnamed at the opening
abbrev pub shown_part : IndexShape → IndexContents → (ℕ → Option ℕ) → (Spot → Bool) → IndexPart
shown_part shape c lock unnamed = record { entry = c.entry; tuple = tuple_in_place shape c; pages = c.pages; lock = lock; unnamed = unnamed }

-- the protocol's index is the one that they show
pub record Shows (shape : IndexShape) (c : IndexContents) (held : ℕ → Option ℕ) (w : IndexView) : Type 0 where
  pub contents : w.contents ≡ contents_of shape
  pub entry : (range : ℕ) → w.entry range ≡ c.entry range
  pub tuple : (x : Spot) → w.tuple x ≡ tuple_in_place shape c x
  pub pages : w.pages ≡ c.pages
  pub lock : (page : ℕ) → w.lock page ≡ held page

-- what an index has is what it had where no page changed
pub same_contents : {D : Type 0} (told : D → Told) (index : ℕ) (old new : View D) → Keeps told old new → Tells told old → contents new.layout new.pages index ≡ contents old.layout old.pages index
same_contents told index old new kept tells = λ i. contents (kept.leaves.layout i) (kept.pages tells i) index
