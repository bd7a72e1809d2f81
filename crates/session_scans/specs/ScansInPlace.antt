-- a step of a scan that stays where it stands
use Rattle.std.specs.Prelude.{◌≡◌, ℕ, None}
use Rattle.disk_trait.specs.Told.{Told}
use Rattle.bitmap_scan.specs.Finds.{FindHand}
use Rattle.session_parts.specs.declared.hand.Hand.{Hand}
use Rattle.session_parts.specs.declared.hand.Stepped.{Stepped}
use Rattle.session_parts.specs.declared.hand.Stepped.TheVariants as stepped
use Rattle.session_parts.specs.declared.parts.Parts.{Parts}
use Rattle.session_scans.specs.declared.looking.Looking.{Looking}
use Rattle.session_scans.specs.declared.scanning.Scanned.{Scanned}
use Rattle.session_scans.specs.declared.scanning.Scanned.TheVariants as scanned
use Rattle.session_scans.specs.Finishes.{Finishes}
use Rattle.session_scans.specs.Looks.{OfScan, hand_before, scan_hand_of}
use Rattle.session_scans.specs.ScanSteps.{MayScan, ScanStepsSo, parts_before}

-- memory was short: the scan is as it was, and what comes of that is what comes of its step
pub record RunsShort {D : Type 0} (told : D → Told) (old new : Parts D) (n : ℕ) (looking : Looking) (before after : FindHand) : Type 0 where
  pub same : after ≡ before
  pub may : MayScan told new n looking before
  pub ready : new.pages.failed ≡ None
  pub so : (answer : Stepped) (then : Parts D) → ScanStepsSo told new then n looking before answer → ScanStepsSo told old then n looking before answer

-- Its step is made, and the statement goes on or comes to its end; or memory is short for it; or it isn't made, and the statement is as it was.
abbrev pub DoesScan : {D : Type 0} → (D → Told) → (old new : Parts D) → (n : ℕ) → Looking → (before after : FindHand) → Scanned → Type 0
DoesScan told old new n looking before after (scanned.Moved point) = ScanStepsSo told old new n looking before (stepped.Moved point (scan_hand_of looking after))
DoesScan {D} told old new n looking before after (scanned.Finished point) = (answer : Stepped) (then : Parts D)
    → Finishes new n looking after.judging.query after.found point answer then → ScanStepsSo told old then n looking before answer
DoesScan told old new n looking before after scanned.Short = RunsShort told old new n looking before after
DoesScan told old new n looking before after (scanned.Undone fault) = (after ≡ before)
    × ScanStepsSo told old (parts_before before.judging.stage new) n looking before (stepped.Undone fault (hand_before looking before before.judging.stage))

-- so it does of the scan in hand
abbrev pub DoesScanIn : {D : Type 0} → (D → Told) → (old new : Parts D) → (n : ℕ) → Looking → (was now : Hand) → Scanned → Type 0
DoesScanIn told old new n looking was now answer = OfScan looking was (λ before. (after : FindHand) × (now ≡ scan_hand_of looking after) × DoesScan told old new n looking before after answer)
