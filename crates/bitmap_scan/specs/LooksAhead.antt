-- what a look ahead at a scan's next step tells
use Rattle.std.specs.Prelude.{◌≡◌, Bool, true, false, List}
use Rattle.block_model.specs.declared.reply.Point.{Point}
use Rattle.store_layout.specs.DiskLayout.{DiskLayout}
use Rattle.page_map.specs.PageMap.{PageMap}
use Rattle.page_locks.specs.declared.did.Did.{Did}
use Rattle.bitmap_scan.specs.Finds.{FindHand, FindSteps, Sight}
use Rattle.bitmap_scan.specs.ScanHands.{IsBegunAt, IsJudging, IsScanOf, ScanHand}
use Rattle.bitmap_scan.specs.ScanSteps.{JudgesTo}
use Rattle.bitmap_scan.specs.declared.stage.Stage.TheVariants as stages

-- The step that judges comes to a hand with these candidates; with it all ranges are judged, or one is left.
pub record ComesTo (layout : DiskLayout) (pages : PageMap) (old : ScanHand) (ahead : List Bool) (all : Bool) : Type 0 where
  pub new : ScanHand
  pub to : JudgesTo layout pages old new
  pub begun : IsBegunAt new.indexes new.extent new.stage
  pub scan : IsScanOf layout new
  pub query : new.query ≡ old.query
  pub candidates : new.candidates ≡ ahead
  pub yes : all ≡ true → new.stage ≡ stages.Judged
  pub no : all ≡ false → IsJudging new.stage

-- whatever the transaction sees, the next step of the scan is one that does so
abbrev pub NextIs : DiskLayout → PageMap → FindHand → (Point → Did) → Type 0
NextIs layout pages old does = (sight : Sight) → (new : FindHand) × (point : Point) × FindSteps layout pages sight old new (does point)
