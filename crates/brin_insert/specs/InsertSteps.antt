-- what an insert has of an index between its steps, and what each step makes of the index
use Rattle.std.specs.Prelude.{◌≡◌, ℕ, List, Option}
use Rattle.block_model.specs.declared.reply.Point.{Point}
use Rattle.block_model.specs.declared.row.Row.{Row}
use Rattle.store_layout.specs.DiskLayout.{DiskLayout}
use Rattle.page_map.specs.PageMap.{PageMap}
use Rattle.page_locks.specs.declared.did.Did.{Did}
use Rattle.page_locks.specs.declared.did.Did.TheVariants as did
use Rattle.page_locks.specs.LockHolders.{LockState}
use Rattle.range_tuple.specs.TupleBytes.{tuple_bytes}
use Rattle.range_tuple.specs.Tuples.{Tuple}
use Rattle.coverage.specs.IndexPart.{InsertMakes}
use Rattle.coverage.specs.IndexView.{IndexView, range_of_block}
use Rattle.coverage.specs.Knowing.{Knows}
use Rattle.coverage.specs.Statements.{OnIndex, Empty, Held, Copied, Moving, Dropping, Statement, Idle, Inserting}
use Rattle.coverage.specs.Verdicts.{SwapVerdict, Waits}
use Rattle.index_contents.specs.IndexContents.{IndexContents, contents}
use Rattle.index_steps.specs.IndexTuples.{IndexShape, seen}
use Rattle.index_steps.specs.ShownIndex.{Shows, lock_in, shown_part}
use Rattle.brin_insert.specs.declared.stage.Stage.{Stage}
use Rattle.brin_insert.specs.declared.stage.Stage.TheVariants as stages
use Rattle.brin_insert.specs.InsertHands.{InsertHand}

-- An insert in an index: the index's pages and who locks them; the stage that the insert is at; the bytes of the tuple that it
-- copied, and those of the tuple with the row.
pub record InsertAt : Type 0 where
  pub pages : IndexContents
  pub lock : ℕ → Option ℕ
  pub stage : Stage
  pub copied : List ℕ
  pub widened : List ℕ

abbrev pub insert_at : DiskLayout → PageMap → LockState → (index : ℕ) → Stage → List ℕ → Tuple → InsertAt
insert_at layout pages locks index stage copied t =
    record { pages = contents layout pages index; lock = lock_in layout locks index; stage = stage; copied = copied; widened = tuple_bytes t }

-- so it is with this in hand
abbrev pub insert_of : DiskLayout → PageMap → LockState → InsertHand → (copied : List ℕ) → InsertAt
insert_of layout pages locks hand copied = insert_at layout pages locks hand.index hand.stage copied hand.widened

-- it, as the protocol's insert in the index
abbrev pub on_index : IndexShape → Stage → (copied widened : List ℕ) → OnIndex
on_index shape stages.Map copied widened = Empty
on_index shape (stages.Copy x) copied widened = Held x
on_index shape (stages.Swap x) copied widened = Copied x (seen shape copied) (seen shape widened)
on_index shape (stages.Set x y) copied widened = Moving x y (seen shape copied) (seen shape widened)
on_index shape (stages.Drop x) copied widened = Dropping x
on_index shape stages.Complete copied widened = Empty

-- and as its statement, once the row stands at block and slot
abbrev pub statement_in : IndexShape → (b k : ℕ) → Row → Stage → (copied widened : List ℕ) → Statement
statement_in shape b k r stages.Complete copied widened = Idle
statement_in shape b k r stage copied widened = Inserting b k r (on_index shape stage copied widened)

-- it has a step left in the index
abbrev pub IsAtWork : Stage → Type 0
IsAtWork stages.Complete = ⊥
IsAtWork stage = Unit {0}

-- of each index that pages and locks showed, where the row stands in the range and the insert knows what it has to, this is a step of it
abbrev pub StepMakes : IndexShape → (s range : ℕ) → Row → (old new : InsertAt) → Point → Type 0
StepMakes shape s range r old new point = (b k : ℕ) (w : IndexView) → range_of_block w b ≡ range → Shows shape old.pages old.lock w
    → Knows w s (Inserting b k r (on_index shape old.stage old.copied old.widened))
    → InsertMakes s b k r w (shown_part shape new.pages new.lock w.unnamed) (on_index shape old.stage old.copied old.widened)
    (statement_in shape b k r new.stage new.copied new.widened) point

-- the insert waits for the lock of this page
abbrev pub IsWaiting : IndexView → (s range : ℕ) → OnIndex → (page : ℕ) → Type 0
IsWaiting w s range (Copied x old new) page = SwapVerdict w s range x old new (Waits page)
IsWaiting w s range on_index page = ⊥

abbrev pub StepWaits : IndexShape → (s range : ℕ) → Row → InsertAt → (page : ℕ) → Type 0
StepWaits shape s range r old page = (b k : ℕ) (w : IndexView) → range_of_block w b ≡ range → Shows shape old.pages old.lock w
    → Knows w s (Inserting b k r (on_index shape old.stage old.copied old.widened))
    → IsWaiting w s range (on_index shape old.stage old.copied old.widened) page

-- What a step did: it goes on, or the index is complete; or it waits, and stands where it stood, with what it had.
abbrev pub Stepped : IndexShape → (s range : ℕ) → Row → (old new : InsertAt) → Did → Type 0
Stepped shape s range r old new (did.Moved point) = StepMakes shape s range r old new point × IsAtWork new.stage
Stepped shape s range r old new (did.Finished point) = StepMakes shape s range r old new point × (new.stage ≡ stages.Complete)
Stepped shape s range r old new (did.Blocked held) = StepWaits shape s range r old held.page.block × (new.stage ≡ old.stage) × (new.copied ≡ old.copied) × (new.widened ≡ old.widened)
Stepped shape s range r old new (did.NoRight by) = ⊥
