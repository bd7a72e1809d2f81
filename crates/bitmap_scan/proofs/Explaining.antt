-- the steps of an explain
use Rattle.std.proofs.Common.{◌≡◌, ℕ, ◌*◌, ◌<◌, Bool, List, Option, inl, refl, sym, ap, subst, ◌∙◌, arith}
use Rattle.std.proofs.lemmas.Bool.{false≢true}
use Rattle.block_model.specs.declared.reply.Point.{Point}
use Rattle.block_model.specs.declared.row.Query.{Query}
use Rattle.store_layout.specs.DiskLayout.{DiskLayout}
use Rattle.page_layout.specs.PageContents.{Slot}
use Rattle.page_map.specs.PageMap.{PageMap}
use Rattle.page_locks.specs.declared.did.Did.TheVariants as did
use Rattle.page_locks.specs.LockHolders.{LockState}
use Rattle.coverage.specs.Machines.{ShownTable, Unseen, table_state}
use Rattle.coverage.specs.TableSteps.{IsScanRead, ScanHasStep}
use Rattle.bitmap_scan.specs.Explains.{ExplainSteps, JudgesNoneAt, explaining}
use Rattle.bitmap_scan.specs.ScanHands.{IsBegunAt, IsJudging, ScanHand, scanned_indexes}
use Rattle.bitmap_scan.specs.ScanSteps.{JudgesTo, ScanGoes, account_at, point_at}
use Rattle.index_steps.specs.ShownRows.{shown_by}
use Rattle.bitmap_scan.specs.TableScans.{Beside, BeginsAt, table_scan}
use Rattle.bitmap_scan.specs.declared.stage.Stage.{Stage}
use Rattle.bitmap_scan.specs.declared.stage.Stage.TheVariants as stages
use Rattle.bitmap_scan.proofs.JudgedRanges.{counted, per_range}

module _ (layout : DiskLayout) (pages : PageMap) (hand : ScanHand) (is : hand.indexes ≡ scanned_indexes layout hand.query.table) (s : ℕ) (locks : LockState) (blocks : List (List Slot)) (u : Unseen) (beside : Beside) where
  abbrev shown : ShownTable
  shown = shown_by layout pages locks hand.query.table blocks

  -- before a range the scan has a step
  at_stage_has : (stage : Stage) → IsBegunAt hand.indexes hand.extent stage → IsJudging stage → ScanHasStep (table_state shown u) (table_scan layout (record hand { stage = stage }) beside)
  at_stage_has stages.Extent begun judging = absurd begun
  at_stage_has (stages.Map at range) begun judging = inl (
    omega (arith, begun.0, counted layout pages hand.query hand.indexes is s locks blocks u),
    subst (λ (n : ℕ). range * n < hand.extent) (sym (per_range layout pages hand.query hand.indexes is s locks blocks u at begun.0)) begun.1,
  )
  at_stage_has (stages.Tuple at range spot) begun judging = inl (
    omega (arith, begun.0, counted layout pages hand.query hand.indexes is s locks blocks u),
    subst (λ (n : ℕ). range * n < hand.extent) (sym (per_range layout pages hand.query hand.indexes is s locks blocks u at begun.0)) begun.1,
  )
  at_stage_has stages.Judged begun judging = absurd judging

  pub has_range : IsBegunAt hand.indexes hand.extent hand.stage → IsJudging hand.stage → ScanHasStep (table_state shown u) (table_scan layout hand beside)
  has_range begun judging = at_stage_has hand.stage begun judging

  -- with all ranges judged it is behind the last index
  pub is_behind : hand.stage ≡ stages.Judged → (table_scan layout hand beside).at ≡ (table_state shown u).indexes
  is_behind judged =
      ap (λ (stage : Stage). (table_scan layout (record hand { stage = stage }) beside).at) judged ∙ sym (counted layout pages hand.query hand.indexes is s locks blocks u)

-- an explain begins with nothing seen
explains_at : (stage : Stage) (shown : ShownTable) (u : Unseen) (judged : ℕ → ℕ → Option Bool) → JudgesNoneAt stage judged → BeginsAt stage shown u (explaining judged)
explains_at stages.Extent shown u judged none = record { sees = λ b k seen. absurd (false≢true seen); explain = λ explains b k. refl; judged = none; read = refl; found = λ b k. refl }
explains_at (stages.Map at range) shown u judged none = tt
explains_at (stages.Tuple at range spot) shown u judged none = tt
explains_at stages.Judged shown u judged none = tt

module _ (layout : DiskLayout) (pages : PageMap) (old new : ScanHand) (is : new.indexes ≡ scanned_indexes layout new.query.table) (query : new.query ≡ old.query) (to : JudgesTo layout pages old new) where
  pub goes_on : (point : Point) → point ≡ point_at old.stage → IsBegunAt new.indexes new.extent new.stage → IsJudging new.stage → ExplainSteps layout pages old new (did.Moved point)
  goes_on point point_is begun judging s locks blocks judged u has task none =
      let to_there = to s locks blocks (explaining judged) u has task (explains_at old.stage (shown_by layout pages locks old.query.table blocks) u judged none) in
      let after = table_scan layout new (explaining to_there.0) in (
        to_there.0,
        (
          subst (λ (p : Point). ScanGoes s (shown_by layout pages locks old.query.table blocks) u p (account_at old.stage) after) (sym point_is) to_there.1,
          subst (λ (q : Query). ScanHasStep (table_state (shown_by layout pages locks q.table blocks) u) after) query
              (has_range layout pages new is s locks blocks u (explaining to_there.0) begun judging),
        ),
      )

  pub ends : (point : Point) → point ≡ point_at old.stage → new.stage ≡ stages.Judged → ExplainSteps layout pages old new (did.Finished point)
  ends point point_is all s locks blocks judged u has task none =
      let to_there = to s locks blocks (explaining judged) u has task (explains_at old.stage (shown_by layout pages locks old.query.table blocks) u judged none) in
      let after = table_scan layout new (explaining to_there.0) in (
        to_there.0,
        (
          subst (λ (p : Point). ScanGoes s (shown_by layout pages locks old.query.table blocks) u p (account_at old.stage) after) (sym point_is) to_there.1,
          subst (λ (q : Query). IsScanRead (table_state (shown_by layout pages locks q.table blocks) u) after) query
              (is_behind layout pages new is s locks blocks u (explaining to_there.0) all, inl refl),
        ),
      )
