-- a step of a scan over the parts of a store
use Rattle.std.specs.Prelude.{◌≡◌, ℕ, ◌-◌, ◌<◌, [], None}
use Rattle.disk_trait.specs.Told.{Told}
use Rattle.bitmap_scan.specs.declared.stage.Stage.{Stage}
use Rattle.bitmap_scan.specs.declared.stage.Stage.TheVariants as stages
use Rattle.bitmap_scan.specs.Finds.{FindHand, IsFindOf, IsScanning, none_read}
use Rattle.session_parts.specs.declared.hand.Stepped.{Stepped}
use Rattle.session_parts.specs.declared.parts.Parts.{Parts}
use Rattle.session_parts.specs.Stepping.{IsFit, IsShown}
use Rattle.session_parts.specs.UndoneLaws.{StepsSo}
use Rattle.session_scans.specs.declared.looking.Looking.{Looking}
use Rattle.session_scans.specs.Looks.{hand_before}

-- the parts before a step of a scan at this stage: with its first step one entry of the journal is promised to it
abbrev pub promised_before : Stage → (promised : ℕ) → ℕ
promised_before stages.Extent promised = promised - 1
promised_before stage promised = promised

abbrev pub parts_before : {D : Type 0} → Stage → Parts D → Parts D
parts_before stage parts = record parts { journal = record parts.journal { promised = promised_before stage parts.journal.promised } }

-- before its first step a scan has read and found nothing, and remembers no transaction
pub record IsFresh (scan : FindHand) : Type 0 where
  pub read : scan.read ≡ 0
  pub next : scan.next ≡ None
  pub found : scan.found ≡ []
  pub last : scan.last ≡ none_read

-- the session's scan has a step left, and one entry of the journal is promised to it; the parts are fit for the step
pub record MayScan {D : Type 0} (told : D → Told) (parts : Parts D) (n : ℕ) (looking : Looking) (scan : FindHand) : Type 0 where
  pub find : IsFindOf parts.pages.layout scan
  pub work : IsScanning scan.judging.stage scan.next
  pub fresh : scan.judging.stage ≡ stages.Extent → IsFresh scan
  pub promised : 0 < parts.journal.promised
  pub fit : IsFit told (parts_before scan.judging.stage parts) n (hand_before looking scan scan.judging.stage)
  pub shown : IsShown told (parts_before scan.judging.stage parts) n (hand_before looking scan scan.judging.stage)

-- all that the step promises
abbrev pub ScanStepsSo : {D : Type 0} → (D → Told) → (old new : Parts D) → (n : ℕ) → Looking → FindHand → Stepped → Type 0
ScanStepsSo told old new n looking scan answer = StepsSo told (parts_before scan.judging.stage old) new n (hand_before looking scan scan.judging.stage) answer
