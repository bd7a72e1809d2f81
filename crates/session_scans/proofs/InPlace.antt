-- a scan in the hand that it stays in
use Rattle.std.proofs.Common.{◌≡◌, ℕ, List, Option, None, Some, refl, sym, ap, ◌∙◌, subst}
use Rattle.std.specs.Prelude.{IfSome, IsSome}
use Rattle.std.proofs.lemmas.Option.{same_Some}
use Rattle.disk_trait.specs.Told.{Told}
use Rattle.block_model.specs.declared.place.Spot.{Spot}
use Rattle.block_model.specs.declared.reply.Point.{Point}
use Rattle.block_model.specs.declared.row.Query.{Query}
use Rattle.block_model.specs.declared.row.Row.{Row}
use Rattle.bitmap_scan.specs.declared.stage.Stage.{Stage}
use Rattle.bitmap_scan.specs.Finds.{FindHand}
use Rattle.session_parts.specs.declared.faults.StoreFault.{StoreFault}
use Rattle.session_parts.specs.declared.hand.Hand.{Hand}
use Rattle.session_parts.specs.declared.hand.Hand.TheVariants as hands
use Rattle.session_parts.specs.declared.hand.Stepped.{Stepped}
use Rattle.session_parts.specs.declared.hand.Stepped.TheVariants as stepped
use Rattle.session_parts.specs.declared.parts.Parts.{Parts}
use Rattle.session_scans.specs.declared.looking.Looking.{Looking}
use Rattle.session_scans.specs.declared.looking.Looking.TheVariants as lookings
use Rattle.session_scans.specs.declared.scanning.Scanned.{Scanned}
use Rattle.session_scans.specs.declared.scanning.Scanned.TheVariants as scanned
use Rattle.session_scans.specs.Finishes.{Finishes}
use Rattle.session_scans.specs.Looks.{IsInScan, OfScan, hand_before, scan_hand_of, scan_of}
use Rattle.session_scans.specs.ScanSteps.{MayScan, ScanStepsSo, parts_before}
use Rattle.session_scans.specs.ScansInPlace.{DoesScan, DoesScanIn}

-- ---- which scan it is

pub its_scan : (looking : Looking) (scan : FindHand) → scan_of (scan_hand_of looking scan) ≡ Some scan
its_scan lookings.Select scan = refl
its_scan lookings.Delete scan = refl

module _ (looking : Looking) (hand : Hand) where
  pub scan_there : (scan : FindHand) → hand ≡ scan_hand_of looking scan → scan_of hand ≡ Some scan
  scan_there scan is = ap scan_of is ∙ its_scan looking scan

  pub has_scan : IsInScan looking hand → IsSome (scan_of hand)
  has_scan in_scan = subst (λ (s : Option FindHand). IsSome s) (sym (scan_there in_scan.0 in_scan.1)) refl

  pub stage_there : (scan : FindHand) → hand ≡ scan_hand_of looking scan → (stage : Stage) → IfSome (scan_of hand) (λ scan. stage ≡ scan.judging.stage) → stage ≡ scan.judging.stage
  stage_there scan is stage there = subst (λ (s : Option FindHand). IfSome s (λ scan. stage ≡ scan.judging.stage)) (scan_there scan is) there

  pub one_scan : (a b : FindHand) → hand ≡ scan_hand_of looking a → hand ≡ scan_hand_of looking b → a ≡ b
  one_scan a b is_a is_b = same_Some a b (sym (scan_there a is_a) ∙ scan_there b is_b)

  pub same_scan : (a b : FindHand) → scan_of hand ≡ Some a → hand ≡ scan_hand_of looking b → a ≡ b
  same_scan a b is_a is_b = same_Some a b (sym is_a ∙ scan_there b is_b)

-- a select's hand is of a select, and a delete's of a delete
pub of_select : (looking : Looking) (hand : Hand) (scan : FindHand) → IsInScan looking hand → hand ≡ hands.Selects scan → (other : FindHand) → hands.Selects other ≡ scan_hand_of looking other
of_select lookings.Select hand scan in_scan is other = refl
of_select lookings.Delete hand scan in_scan is other = let both : hands.Selects scan ≡ hands.Deletes in_scan.0 = sym is ∙ in_scan.1 in absurd cc

pub of_delete : (looking : Looking) (hand : Hand) (scan : FindHand) → IsInScan looking hand → hand ≡ hands.Deletes scan → (other : FindHand) → hands.Deletes other ≡ scan_hand_of looking other
of_delete lookings.Select hand scan in_scan is other = let both : hands.Deletes scan ≡ hands.Selects in_scan.0 = sym is ∙ in_scan.1 in absurd cc
of_delete lookings.Delete hand scan in_scan is other = refl

-- ---- its step

module _ {D : Type 0} (told : D → Told) (old new : Parts D) (n : ℕ) (looking : Looking) where
  pub does_in : (was now : Hand) (scan after : FindHand) (answer : Scanned) → was ≡ scan_hand_of looking scan → now ≡ scan_hand_of looking after → DoesScan told old new n looking scan after answer
      → DoesScanIn told old new n looking was now answer
  does_in was now scan after answer was_is now_is does before is =
      (after, now_is, subst (λ (s : FindHand). DoesScan told old new n looking s after answer) (one_scan looking was scan before was_is is) does)

  module _ (was now : Hand) (answer : Scanned) (does : DoesScanIn told old new n looking was now answer) where
    pub still_in : IsInScan looking was → IsInScan looking now
    still_in in_scan = let it = does in_scan.0 in_scan.1 in (it.0, it.1)

    -- where this is the answer
    its : (other : Scanned) → answer ≡ other → (scan : FindHand) → was ≡ scan_hand_of looking scan → (after : FindHand) × (now ≡ scan_hand_of looking after) × DoesScan told old new n looking scan after other
    its other is scan was_is = let it = does scan was_is in (it.0, it.1, subst (λ (a : Scanned). DoesScan told old new n looking scan it.0 a) is it.2)

    pub moved_in : (point : Point) → answer ≡ scanned.Moved point → OfScan looking was (λ scan. ScanStepsSo told old new n looking scan (stepped.Moved point now))
    moved_in point is scan was_is = let it = its (scanned.Moved point) is scan was_is in subst (λ (h : Hand). ScanStepsSo told old new n looking scan (stepped.Moved point h)) (sym it.1) it.2

    pub finished_in : (point : Point) → answer ≡ scanned.Finished point → (then : Parts D) (came : Stepped)
        → OfScan looking now (λ scan. Finishes new n looking scan.judging.query scan.found point came then) → OfScan looking was (λ scan. ScanStepsSo told old then n looking scan came)
    finished_in point is then came finishes scan was_is = let it = its (scanned.Finished point) is scan was_is in it.2 came then (finishes it.0 it.1)

    module _ (is : answer ≡ scanned.Short) where
      pub may_still_in : IsInScan looking was → OfScan looking now (λ scan. MayScan told new n looking scan)
      may_still_in in_scan other now_is =
          let it = its scanned.Short is in_scan.0 in_scan.1 in
          subst (λ (s : FindHand). MayScan told new n looking s) (sym it.2.same ∙ one_scan looking now it.0 other it.1 now_is) it.2.may

      pub still_ready : IsInScan looking was → new.pages.failed ≡ None
      still_ready in_scan = (its scanned.Short is in_scan.0 in_scan.1).2.ready

      pub short_in : (then : Parts D) (came : Stepped) → OfScan looking now (λ scan. ScanStepsSo told new then n looking scan came) → OfScan looking was (λ scan. ScanStepsSo told old then n looking scan came)
      short_in then came so scan was_is =
          let it = its scanned.Short is scan was_is in
          it.2.so came then (subst (λ (s : FindHand). ScanStepsSo told new then n looking s came) it.2.same (so it.0 it.1))

    pub undone_in : (fault : StoreFault) → answer ≡ scanned.Undone fault → (then : Parts D) (left : Hand) → OfScan looking now (λ scan. left ≡ hand_before looking scan scan.judging.stage)
        → OfScan looking now (λ scan. then ≡ parts_before scan.judging.stage new) → OfScan looking was (λ scan. ScanStepsSo told old then n looking scan (stepped.Undone fault left))
    undone_in fault is then left left_is then_is scan was_is =
        let it = its (scanned.Undone fault) is scan was_is in
        subst (λ (h : Hand). ScanStepsSo told old then n looking scan (stepped.Undone fault h)) (sym (left_is it.0 it.1 ∙ ap (λ (s : FindHand). hand_before looking s s.judging.stage) it.2.0))
        (subst (λ (p : Parts D). ScanStepsSo told old p n looking scan (stepped.Undone fault (hand_before looking scan scan.judging.stage)))
        (sym (then_is it.0 it.1 ∙ ap (λ (s : FindHand). parts_before s.judging.stage new) it.2.0)) it.2.1)

-- ---- its last step

pub finishes_there : {D : Type 0} (old : Parts D) (n : ℕ) (looking : Looking) (hand : Hand) (point : Point) (answer : Stepped) (new : Parts D) (taken : FindHand) → scan_of hand ≡ Some taken
    → (query : Query) → query ≡ taken.judging.query → (found : List (Row × Spot)) → found ≡ taken.found → Finishes old n looking query found point answer new
    → OfScan looking hand (λ scan. Finishes old n looking scan.judging.query scan.found point answer new)
finishes_there old n looking hand point answer new taken taken_is query query_is found found_is finishes scan is =
    let same : taken ≡ scan = same_scan looking hand taken scan taken_is is in
    subst (λ (q : Query). Finishes old n looking q scan.found point answer new) (query_is ∙ ap (λ (s : FindHand). s.judging.query) same)
    (subst (λ (f : List (Row × Spot)). Finishes old n looking query f point answer new) (found_is ∙ ap (λ (s : FindHand). s.found) same) finishes)
