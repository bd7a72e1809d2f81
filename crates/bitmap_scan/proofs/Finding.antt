-- the steps of a scan that reads candidate blocks
use Rattle.std.proofs.Common.{◌≡◌, ℕ, ◌+◌, Bool, List, ◌++◌, Option, None, Some, refl, sym, subst}
use Rattle.block_model.specs.declared.place.Spot.{Spot}
use Rattle.block_model.specs.declared.reply.Point.{Point}
use Rattle.block_model.specs.declared.reply.Point.TheVariants as points
use Rattle.block_model.specs.declared.row.Query.{Query}
use Rattle.block_model.specs.declared.row.Row.{Row}
use Rattle.store_layout.specs.DiskLayout.{DiskLayout}
use Rattle.page_layout.specs.PageContents.{Slot}
use Rattle.page_map.specs.PageMap.{PageMap}
use Rattle.page_locks.specs.declared.did.Did.TheVariants as did
use Rattle.page_locks.specs.LockHolders.{LockState}
use Rattle.coverage.specs.Accounts.{Account}
use Rattle.coverage.specs.Machines.{ShownTable, Unseen, table_state}
use Rattle.coverage.specs.Table.{Scans, TableScan}
use Rattle.coverage.specs.TableSteps.{ReadsBlock}
use Rattle.heap_rows.specs.HeapBlocks.{HasBlocks, slots_of}
use Rattle.heap_rows.specs.StoredRows.{stored_rows}
use Rattle.bitmap_scan.specs.Finds.{FindHand, FindSteps, IsNext, IsNextCandidate, Sight, did_at, is_found, scanning, visible_matches}
use Rattle.bitmap_scan.specs.ScanAnswers.{ScanStepped}
use Rattle.bitmap_scan.specs.ScanHands.{IsBegunAt, IsJudging, ScanHand, scanned_indexes}
use Rattle.bitmap_scan.specs.ScanSteps.{JudgesTo, ScanGoes, account_at, point_at}
use Rattle.index_steps.specs.ShownRows.{shown_by}
use Rattle.bitmap_scan.specs.TableScans.{BeginsAt, table_scan, task_of}
use Rattle.bitmap_scan.specs.declared.stage.Stage.TheVariants as stages
use Rattle.bitmap_scan.proofs.Explaining.{has_range, is_behind}
use Rattle.bitmap_scan.proofs.InTable.{only_turns, turns}
use Rattle.bitmap_scan.proofs.Reading.{has_block, is_read, judged_hand, reads_page}

-- what a step at this point did, by the block that is read next
module _ (layout : DiskLayout) (pages : PageMap) (new : FindHand) (is : new.judging.indexes ≡ scanned_indexes layout new.judging.query.table) (all : new.judging.stage ≡ stages.Judged)
    (s : ℕ) (locks : LockState) (blocks : List (List Slot)) (u : Unseen) (sees : ℕ → ℕ → Bool) (now : ℕ → ℕ → Option Bool) (deletes : Bool) where
  abbrev shown : ShownTable
  shown = shown_by layout pages locks new.judging.query.table blocks

  abbrev after : TableScan
  after = table_scan layout new.judging (scanning sees now deletes new)

  behind : after.at ≡ (table_state shown u).indexes
  behind = is_behind layout pages new.judging is s locks blocks u (scanning sees now deletes new) all

  pub stepped_by : (point : Point) (account : Account → Account) (next : Option ℕ) → IsNext new.judging.candidates new.read next
      → ScanGoes s shown u point account after → ScanStepped s shown u account after (did_at point next)
  stepped_by point account None none goes = (goes, is_read (table_state shown u) after new.judging.candidates behind refl none)
  stepped_by point account (Some b) first goes = (goes, has_block (table_state shown u) after new.judging.candidates behind refl b refl first)

-- while ranges are judged, the scan takes the judging's steps
module _ (layout : DiskLayout) (pages : PageMap) (sight : Sight) (old : FindHand) (judging : ScanHand) (is : judging.indexes ≡ scanned_indexes layout judging.query.table) (query : judging.query ≡ old.judging.query)
    (to : JudgesTo layout pages old.judging judging) (point : Point) (point_is : point ≡ point_at old.judging.stage) where
  goes : (s : ℕ) (locks : LockState) (blocks : List (List Slot)) (sees : ℕ → ℕ → Bool) (judged : ℕ → ℕ → Option Bool) (deletes : Bool) (u : Unseen) → HasBlocks layout pages old.judging.query.table blocks
      → u.task s ≡ task_of layout old.judging.stage old.judging (scanning sees judged deletes old) → BeginsAt old.judging.stage (shown_by layout pages locks old.judging.query.table blocks) u (scanning sees judged deletes old)
      → (now : ℕ → ℕ → Option Bool) × ScanGoes s (shown_by layout pages locks judging.query.table blocks) u point (account_at old.judging.stage) (table_scan layout judging (scanning sees now deletes old))
  goes s locks blocks sees judged deletes u has task begin =
      let there = to s locks blocks (scanning sees judged deletes old) u has task begin in
      let after = table_scan layout judging (scanning sees there.0 deletes old) in (
        there.0,
        subst (λ (p : Point). ScanGoes s (shown_by layout pages locks judging.query.table blocks) u p (account_at old.judging.stage) after) (sym point_is)
            (subst (λ (q : Query). ScanGoes s (shown_by layout pages locks q.table blocks) u (point_at old.judging.stage) (account_at old.judging.stage) after) (sym query) there.1),
      )

  pub goes_on : IsBegunAt judging.indexes judging.extent judging.stage → IsJudging judging.stage → FindSteps layout pages sight old (record old { judging = judging }) (did.Moved point)
  goes_on begun more s locks blocks sees judged deletes u has task begin there =
      let gone = goes s locks blocks sees judged deletes u has task begin in
      let after = table_scan layout judging (scanning sees gone.0 deletes old) in (
        gone.0,
        subst (λ (q : Query). ScanStepped s (shown_by layout pages locks q.table blocks) u (account_at old.judging.stage) after (did.Moved point)) query
            (gone.1, has_range layout pages judging is s locks blocks u (scanning sees gone.0 deletes old) begun more),
      )

  pub comes_to : (all : judging.stage ≡ stages.Judged) (next : Option ℕ) → IsNext judging.candidates old.read next → FindSteps layout pages sight old (record old { judging = judging; next = next }) (did_at point next)
  comes_to all next first s locks blocks sees judged deletes u has task begin there =
      let gone = goes s locks blocks sees judged deletes u has task begin in
      let new : FindHand = record old { judging = judging; next = next } in
      let after = table_scan layout judging (scanning sees gone.0 deletes new) in (
        gone.0,
        subst (λ (q : Query). ScanStepped s (shown_by layout pages locks q.table blocks) u (account_at old.judging.stage) after (did_at point next)) query
            (stepped_by layout pages new is all s locks blocks u sees gone.0 deletes point (account_at old.judging.stage) next first gone.1),
      )

-- then it reads the candidates
module _ (layout : DiskLayout) (pages : PageMap) (sight : Sight) (old : FindHand) (is : old.judging.indexes ≡ scanned_indexes layout old.judging.query.table) (b : ℕ) (found : List (Row × Spot)) (next : Option ℕ)
    (here : IsNextCandidate old.judging.candidates old.read b) (first : IsNext old.judging.candidates (b + 1) next)
    (finds : (blocks : List (List Slot)) → HasBlocks layout pages old.judging.query.table blocks → found ≡ old.found ++ visible_matches sight old.judging.query b (stored_rows (slots_of blocks b))) where
  abbrev before : FindHand
  before = record old { judging = judged_hand old.judging; next = Some b }

  abbrev then : FindHand
  then = record old { judging = judged_hand old.judging; read = b + 1; next = next; found = found }

  reads : FindSteps layout pages sight before then (did_at points.Page next)
  reads s locks blocks sees judged deletes u has task begin there =
      let scan = table_scan layout before.judging (scanning sees judged deletes before) in
      let done = table_scan layout then.judging (scanning sees judged deletes then) in (
        judged,
        stepped_by layout pages then is refl s locks blocks u sees judged deletes points.Page (account_at stages.Judged) next first (record {
          done = done;
          does = record {
            does = ReadsBlock scan b (is_found found) (reads_page layout pages sight before then b is here s locks blocks sees judged deletes u has there (finds blocks has))
                (turns layout pages locks old.judging.query.table blocks u s (Scans scan) (Scans done) task) (only_turns layout pages locks old.judging.query.table blocks u s (Scans done));
            point_is = refl;
            adds = λ a c adds. adds;
          };
          same = refl;
          onward = λ task onward. onward;
        }),
      )

  -- whatever says that the ranges are judged, and which block is next
  pub reads_on : old.judging.stage ≡ stages.Judged → old.next ≡ Some b → FindSteps layout pages sight old (record old { read = b + 1; next = next; found = found }) (did_at points.Page next)
  reads_on all is_next =
      let hand : judged_hand old.judging ≡ old.judging = λ i. record old.judging { stage = sym all i } in
      subst (λ (h : ScanHand). FindSteps layout pages sight (record old { judging = h }) (record old { judging = h; read = b + 1; next = next; found = found }) (did_at points.Page next)) hand
      (subst (λ (o : Option ℕ). FindSteps layout pages sight (record old { judging = judged_hand old.judging; next = o }) then (did_at points.Page next)) (sym is_next) reads)
