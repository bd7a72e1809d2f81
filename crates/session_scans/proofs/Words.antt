-- a select's or a delete's statement in hand, before a step of its scan
use Rattle.std.proofs.Common.{◌≡◌, ◌≢◌, ℕ, ◌+◌, ◌<◌, [], ◌∷◌, length, Option, None, Some, refl, sym, ap, ◌∙◌, arith}
use Rattle.std.proofs.lemmas.Option.{none-some, same_Some}
use Rattle.block_model.specs.declared.request.Request.TheVariants as requests
use Rattle.block_model.specs.declared.request.Tag.{Tag}
use Rattle.block_model.specs.declared.row.Query.{Query}
use Rattle.block_model.specs.DatabaseState.{OpenTransaction}
use Rattle.store_layout.specs.declared.limits.TheConstants.{MAX_ENTRIES}
use Rattle.store_layout.specs.DiskLayout.{DiskLayout}
use Rattle.store_layout.specs.declared.statement.Statement.TheVariants as statements
use Rattle.store_layout.specs.StatementRequests.{look_entry, tagged_entry}
use Rattle.snapshot_core.specs.declared.sessions.Open.{Open}
use Rattle.coverage.specs.Accounts.{Account, no_account}
use Rattle.bitmap_scan.specs.declared.stage.Stage.{Stage}
use Rattle.bitmap_scan.specs.declared.stage.Stage.TheVariants as stages
use Rattle.bitmap_scan.specs.Finds.{FindHand, IsFindOf, IsScanning}
use Rattle.script_semantics.specs.Beginnings.{IsIn}
use Rattle.script_semantics.specs.Place.{Hand as HandAt, Place, new_hand}
use Rattle.script_semantics.specs.Requests.{next_request, refused_request}
use Rattle.script_semantics.specs.StatementSteps.{MayLackMemory, TakesMemory}
use Rattle.session_parts.specs.HandsAsk.{IsNoInsert}
use Rattle.session_parts.specs.declared.hand.Hand.{Hand}
use Rattle.session_parts.specs.HandFits.{IsHandFor, IsUnderWay, locks_held, right_held}
use Rattle.session_parts.specs.Hands.{HandShows, statement_of}
use Rattle.session_parts.specs.HandsInTables.{table_in}
use Rattle.session_parts.specs.Shares.{hand_share}
use Rattle.session_parts.specs.ShowsPlace.{IsOfTransaction}
use Rattle.session_parts.specs.StepAnswers.{most_entered}
use Rattle.session_scans.specs.declared.looking.Looking.{Looking}
use Rattle.session_scans.specs.declared.looking.Looking.TheVariants as lookings
use Rattle.session_scans.specs.Looks.{first_hand_of, hand_before, scan_hand_of, statement_for}
use Rattle.session_scans.specs.ScanSteps.{promised_before}

pub hand_later : (looking : Looking) (scan : FindHand) (stage : Stage) → stage ≢ stages.Extent → hand_before looking scan stage ≡ scan_hand_of looking scan
hand_later looking scan stages.Extent begun = absurd (begun refl)
hand_later looking scan stage begun = refl

pub promised_later : (stage : Stage) (promised : ℕ) → stage ≢ stages.Extent → promised_before stage promised ≡ promised
promised_later stages.Extent promised begun = absurd (begun refl)
promised_later stage promised begun = refl

-- ---- the statement

pub record IsLooking (looking : Looking) (query : Query) : Type 0 where
  pub full : (long : ℕ) → MAX_ENTRIES < long + 1 → MAX_ENTRIES < long + most_entered (statement_for looking query)
  pub not_work : statement_for looking query ≢ statements.Work
  pub on_table : (p : Place) (n : ℕ) → IsIn p n (statement_for looking query) query.table
  pub may_lack : (p : Place) (n : ℕ) → MayLackMemory p n (statement_for looking query)
  pub takes_memory : TakesMemory (statement_for looking query)
  pub refused_is : (n : ℕ) (tag : Tag) → refused_request n tag (statement_for looking query) ≡ tagged_entry n query.table (requests.Look query) tag ∷ []
  pub next_is : (n : ℕ) → next_request n (statement_for looking query) [] ≡ Some (look_entry n query)

pub looks : (looking : Looking) (query : Query) → IsLooking looking query
looks lookings.Select query = record { full = λ long full. full; not_work = λ is. cc; on_table = λ p n. refl; may_lack = λ p n. tt; takes_memory = tt; refused_is = λ n tag. refl; next_is = λ n. refl }
looks lookings.Delete query = record { full = λ long full. omega (arith, full); not_work = λ is. cc; on_table = λ p n. refl; may_lack = λ p n. tt; takes_memory = tt; refused_is = λ n tag. refl; next_is = λ n. refl }

-- the place has the statement in hand, to which nothing was answered, and which has nothing to tell
pub record IsShownInHand (looking : Looking) (query : Query) (shown : Option HandAt) (account : Account) : Type 0 where
  pub in_hand : shown ≡ Some (new_hand (statement_for looking query))
  pub account_is : account ≡ no_account

-- ---- its hand: its locks, its share of the journal, what it is fit for, and in a place

abbrev pub scan_share : Stage → ℕ
scan_share stages.Extent = 0
scan_share stage = 1

-- its transaction is under way, and its table is one of the layout
abbrev pub FitsLook : DiskLayout → Option Open → Query → Type 0
FitsLook layout own query = IsUnderWay own × (query.table < length layout.schema.tables)

pub record IsHandOf (looking : Looking) (query : Query) (count : ℕ) (hand : Hand) : Type 0 where
  pub statement : statement_of hand ≡ statement_for looking query
  pub holds : locks_held (Some hand) ≡ 0
  pub right : (layout : DiskLayout) → right_held layout (Some hand) ≡ None
  pub asks : IsNoInsert (Some hand)
  pub share : hand_share (Some hand) ≡ count
  pub look : (layout : DiskLayout) (own : Option Open) → IsHandFor layout own hand → FitsLook layout own query
  pub in_table : (layout : DiskLayout) (other : ℕ) → table_in layout (Some hand) ≡ Some other → other ≡ query.table
  pub shows : (shown : Option HandAt) (account : Account) → HandShows (Some hand) shown account → IsShownInHand looking query shown account

shown_in : (looking : Looking) (query : Query) (shown : Option HandAt) (account : Account) (at : HandAt) → shown ≡ Some at → at.statement ≡ statement_for looking query → at.answers ≡ [] → account ≡ no_account
    → IsShownInHand looking query shown account
shown_in looking query shown account at is statement answers empty = record { in_hand = is ∙ ap Some (λ i. record { statement = statement i; answers = answers i }); account_is = empty }

pub first_is : (looking : Looking) (query : Query) → IsHandOf looking query 0 (first_hand_of looking query)
first_is lookings.Select query = record { statement = refl; holds = refl; right = λ layout. refl; asks = tt; share = refl; look = λ layout own fits. fits; in_table = λ layout other is. absurd (none-some other is); shows = λ shown account s. shown_in lookings.Select query shown account s.0 s.1 s.2 s.3 s.4 }
first_is lookings.Delete query = record { statement = refl; holds = refl; right = λ layout. refl; asks = tt; share = refl; look = λ layout own fits. fits; in_table = λ layout other is. absurd (none-some other is); shows = λ shown account s. shown_in lookings.Delete query shown account s.0 s.1 s.2 s.3 s.4 }

pub scan_is : (looking : Looking) (scan : FindHand) → IsHandOf looking scan.judging.query 1 (scan_hand_of looking scan)
scan_is lookings.Select scan = record { statement = refl; holds = refl; right = λ layout. refl; asks = tt; share = refl; look = λ layout own fits. (fits.0, fits.1.judging.table); in_table = λ layout other is. sym (same_Some scan.judging.query.table other is); shows = λ shown account s. shown_in lookings.Select scan.judging.query shown account s.0 s.1 s.2 s.3 s.4 }
scan_is lookings.Delete scan = record { statement = refl; holds = refl; right = λ layout. refl; asks = tt; share = refl; look = λ layout own fits. (fits.0, fits.1.judging.table); in_table = λ layout other is. sym (same_Some scan.judging.query.table other is); shows = λ shown account s. shown_in lookings.Delete scan.judging.query shown account s.0 s.1 s.2 s.3 s.4 }

pub hand_is : (looking : Looking) (scan : FindHand) (stage : Stage) → IsHandOf looking scan.judging.query (scan_share stage) (hand_before looking scan stage)
hand_is looking scan stages.Extent = first_is looking scan.judging.query
hand_is looking scan stage = scan_is looking scan

pub promised_is : (stage : Stage) (promised : ℕ) → 0 < promised → promised_before stage promised + 1 ≡ promised + scan_share stage
promised_is stages.Extent promised some = omega (arith, some)
promised_is stage promised some = refl

module _ (layout : DiskLayout) (own : Option Open) where
  pub fits_first : (looking : Looking) (query : Query) → FitsLook layout own query → IsHandFor layout own (first_hand_of looking query)
  fits_first lookings.Select query fits = fits
  fits_first lookings.Delete query fits = fits

  -- a scan has begun, and a step is left
  pub scan_fits : (looking : Looking) (scan : FindHand) → IsHandFor layout own (scan_hand_of looking scan)
      → IsUnderWay own × IsFindOf layout scan × IsScanning scan.judging.stage scan.next × (scan.judging.stage ≢ stages.Extent)
  scan_fits lookings.Select scan fits = fits
  scan_fits lookings.Delete scan fits = fits

  pub fits_scan : (looking : Looking) (scan : FindHand) → IsUnderWay own × IsFindOf layout scan × IsScanning scan.judging.stage scan.next × (scan.judging.stage ≢ stages.Extent)
      → IsHandFor layout own (scan_hand_of looking scan)
  fits_scan lookings.Select scan fits = fits
  fits_scan lookings.Delete scan fits = fits

-- before its first step it is in none
pub first_in_none : (layout : DiskLayout) (other : ℕ) (looking : Looking) (query : Query) → table_in layout (Some (first_hand_of looking query)) ≡ Some other → ⊥
first_in_none layout other lookings.Select query is = none-some other is
first_in_none layout other lookings.Delete query is = none-some other is

pub scan_is_shown : (looking : Looking) (scan : FindHand) → HandShows (Some (scan_hand_of looking scan)) (Some (new_hand (statement_for looking scan.judging.query))) no_account
scan_is_shown lookings.Select scan = (new_hand (statement_for lookings.Select scan.judging.query), refl, refl, refl, refl)
scan_is_shown lookings.Delete scan = (new_hand (statement_for lookings.Delete scan.judging.query), refl, refl, refl, refl)

pub scan_is_own : (transaction : Option Open) (copy : Option OpenTransaction) (looking : Looking) (scan : FindHand) → IsOfTransaction transaction copy (scan_hand_of looking scan)
scan_is_own transaction None lookings.Select scan = tt
scan_is_own transaction None lookings.Delete scan = tt
scan_is_own transaction (Some x) lookings.Select scan = tt
scan_is_own transaction (Some x) lookings.Delete scan = tt
