-- what an explain has in hand, and what its steps do
use Rattle.std.specs.Prelude.{◌≡◌, ℕ, Bool, true, false, List, length, Option, None}
use Rattle.std.specs.List.{filter, range_with_len}
use Rattle.store_layout.specs.DiskLayout.{DiskLayout}
use Rattle.page_layout.specs.PageContents.{Slot}
use Rattle.page_map.specs.PageMap.{PageMap}
use Rattle.page_locks.specs.declared.did.Did.{Did}
use Rattle.page_locks.specs.declared.did.Did.TheVariants as did
use Rattle.page_locks.specs.LockHolders.{LockState}
use Rattle.coverage.specs.Machines.{Unseen}
use Rattle.heap_rows.specs.HeapBlocks.{HasBlocks}
use Rattle.bitmap_scan.specs.ScanHands.{IsJudging, ScanHand, is_candidate}
use Rattle.bitmap_scan.specs.ScanSteps.{account_at, point_at}
use Rattle.bitmap_scan.specs.ScanAnswers.{ScanStepped}
use Rattle.index_steps.specs.ShownRows.{shown_by}
use Rattle.bitmap_scan.specs.TableScans.{Beside, table_scan, task_of}
use Rattle.bitmap_scan.specs.declared.stage.Stage.{Stage}
use Rattle.bitmap_scan.specs.declared.stage.Stage.TheVariants as stages

-- the judging of its ranges, and the blocks that it tells
pub record ExplainHand : Type 0 where
  pub judging : ScanHand
  pub blocks : List ℕ

-- an explain sees no rows, reads none and finds none
abbrev pub explaining : (ℕ → ℕ → Option Bool) → Beside
explaining judged = record { sees = λ b k. false; judged = judged; explains = true; deletes = false; read = 0; found = λ b k. false }

-- it begins with no range judged
abbrev pub JudgesNoneAt : Stage → (ℕ → ℕ → Option Bool) → Type 0
JudgesNoneAt stages.Extent judged = (i range : ℕ) → judged i range ≡ None
JudgesNoneAt stage judged = Unit {0}

-- the step is that of an explain in its table, whatever it made of the ranges so far, and whatever the pages don't show
abbrev pub ExplainSteps : DiskLayout → PageMap → (old new : ScanHand) → Did → Type 0
ExplainSteps layout pages old new did = (s : ℕ) (locks : LockState) (blocks : List (List Slot)) (judged : ℕ → ℕ → Option Bool) (u : Unseen)
    → HasBlocks layout pages old.query.table blocks → u.task s ≡ task_of layout old.stage old (explaining judged) → JudgesNoneAt old.stage judged
    → (now : ℕ → ℕ → Option Bool)
    × ScanStepped s (shown_by layout pages locks old.query.table blocks) u (account_at old.stage) (table_scan layout new (explaining now)) did

-- the point is that of the stage, and a finished explain has no range left
abbrev pub IsPointOf : (old new : Stage) → Did → Type 0
IsPointOf old new (did.Moved point) = (point ≡ point_at old) × IsJudging new
IsPointOf old new (did.Finished point) = (point ≡ point_at old) × (new ≡ stages.Judged)
IsPointOf old new (did.Blocked held) = ⊥
IsPointOf old new (did.NoRight by) = ⊥

-- the candidates, in ascending order
abbrev pub candidate_blocks : List Bool → List ℕ
candidate_blocks candidates = filter (is_candidate candidates) (range_with_len 0 (length candidates))

-- the last step lists the candidates
abbrev pub ListsBlocks : (old new : ExplainHand) → Did → Type 0
ListsBlocks old new (did.Finished point) = new.blocks ≡ candidate_blocks new.judging.candidates
ListsBlocks old new did = new.blocks ≡ old.blocks
