-- a select or a delete, by its scan
use Rattle.std.specs.Prelude.{◌≡◌, Bool, true, false, Option, None, Some}
use Rattle.block_model.specs.declared.row.Query.{Query}
use Rattle.store_layout.specs.declared.statement.Statement.{Statement}
use Rattle.store_layout.specs.declared.statement.Statement.TheVariants as statements
use Rattle.bitmap_scan.specs.declared.stage.Stage.{Stage}
use Rattle.bitmap_scan.specs.declared.stage.Stage.TheVariants as stages
use Rattle.bitmap_scan.specs.Finds.{FindHand}
use Rattle.session_parts.specs.declared.hand.Hand.{Hand}
use Rattle.session_parts.specs.declared.hand.Hand.TheVariants as hands
use Rattle.session_scans.specs.declared.looking.Looking.{Looking}
use Rattle.session_scans.specs.declared.looking.Looking.TheVariants as lookings

-- whether it deletes what it finds
abbrev pub deletes_of : Looking → Bool
deletes_of lookings.Select = false
deletes_of lookings.Delete = true

-- the statement
abbrev pub statement_for : Looking → Query → Statement
statement_for lookings.Select query = statements.Select query
statement_for lookings.Delete query = statements.Delete query

-- in hand before its first step, and in its scan
abbrev pub first_hand_of : Looking → Query → Hand
first_hand_of lookings.Select query = hands.Selecting query
first_hand_of lookings.Delete query = hands.Deleting query

abbrev pub scan_hand_of : Looking → FindHand → Hand
scan_hand_of lookings.Select scan = hands.Selects scan
scan_hand_of lookings.Delete scan = hands.Deletes scan

-- the scan that a select or a delete has in hand
abbrev pub scan_of : Hand → Option FindHand
scan_of (hands.Selects scan) = Some scan
scan_of (hands.Deletes scan) = Some scan
scan_of hand = None

-- a select, and a delete, in its scan
abbrev pub IsSelect : Hand → Type 0
IsSelect hand = (scan : FindHand) × (hand ≡ hands.Selects scan)

abbrev pub IsDelete : Hand → Type 0
IsDelete hand = (scan : FindHand) × (hand ≡ hands.Deletes scan)

-- the statement is in its scan
abbrev pub IsInScan : Looking → Hand → Type 0
IsInScan looking hand = (scan : FindHand) × (hand ≡ scan_hand_of looking scan)

-- of the scan in hand this holds
abbrev pub OfScan : Looking → Hand → (FindHand → Type 0) → Type 0
OfScan looking hand P = (scan : FindHand) → hand ≡ scan_hand_of looking scan → P scan

-- before a step of the scan at this stage
abbrev pub hand_before : Looking → FindHand → Stage → Hand
hand_before looking scan stages.Extent = first_hand_of looking scan.judging.query
hand_before looking scan stage = scan_hand_of looking scan
