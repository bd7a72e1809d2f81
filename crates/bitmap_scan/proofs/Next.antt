-- the candidate that a scan reads next
use Rattle.std.proofs.Common.{◌≡◌, inl, inr, ℕ, ◌+◌, ◌<◌, Bool, true, false, List, length, Option, None, Some, refl, sym, subst, ◌∙◌, arith}
use Rattle.std.specs.Prelude.{is_some, not}
use Rattle.std.proofs.lemmas.Bool.{cases_lt, false≢true}
use Rattle.std.proofs.lemmas.List.{get_or_past}
use Rattle.std.proofs.lemmas.Option.{none-some}
use Rattle.block_model.specs.declared.place.Spot.{Spot}
use Rattle.block_model.specs.declared.row.Row.{Row}
use Rattle.bitmap_scan.specs.Finds.{FindHand, FindsIn, IsFinding, IsFindingAt, IsNext, IsNextCandidate}
use Rattle.bitmap_scan.specs.ScanHands.{IsJudging, is_candidate}
use Rattle.bitmap_scan.specs.declared.sight.LastStatuses.{LastStatuses}
use Rattle.bitmap_scan.specs.declared.stage.Stage.{Stage}
use Rattle.bitmap_scan.specs.declared.stage.Stage.TheVariants as stages
use Rattle.bitmap_scan.proofs.Ordered.{ascend_more}

-- a candidate is a block that the table may have
pub candidate_within : (candidates : List Bool) (b : ℕ) → is_candidate candidates b ≡ true → b < length candidates
candidate_within candidates b is = elim (cases_lt b (length candidates)) [ inl below ↦ below | inr past ↦ absurd (false≢true (sym (get_or_past candidates b false past) ∙ is)) ]

-- what it tells of the next candidate whether there is none
pub none_left : (candidates : List Bool) (from : ℕ) (next : Option ℕ) (none : Bool) → is_some next ≡ not none → none ≡ true → IsNext candidates from next → IsNext candidates from None
none_left candidates from None none told empty next = next
none_left candidates from (Some b) none told empty next = absurd cc

pub one_left : (candidates : List Bool) (from : ℕ) (next : Option ℕ) (none : Bool) → is_some next ≡ not none → none ≡ false → IsNext candidates from next → (b : ℕ) × IsNext candidates from (Some b)
one_left candidates from (Some b) none told some next = (b, next)
one_left candidates from None none told some next = absurd cc

-- a block is next once all ranges are judged
pub record ReadsNext (hand : FindHand) (b : ℕ) : Type 0 where
  pub all : hand.judging.stage ≡ stages.Judged
  pub first : IsNextCandidate hand.judging.candidates hand.read b

by_stage : (stage : Stage) (hand : FindHand) (b : ℕ) → hand.next ≡ Some b → IsFindingAt stage hand → (stage ≡ stages.Judged) × IsNextCandidate hand.judging.candidates hand.read b
by_stage stages.Extent hand b is at = absurd (none-some b (sym at.1 ∙ is))
by_stage (stages.Map place range) hand b is at = absurd (none-some b (sym at.1 ∙ is))
by_stage (stages.Tuple place range spot) hand b is at = absurd (none-some b (sym at.1 ∙ is))
by_stage stages.Judged hand b is at = (refl, subst (IsNext hand.judging.candidates hand.read) is at)

-- while ranges are judged nothing is read
pub reads_none : (stage : Stage) (hand : FindHand) → IsJudging stage → IsFindingAt stage hand → hand.read ≡ 0
reads_none stages.Extent hand judging at = at.0
reads_none (stages.Map place range) hand judging at = at.0
reads_none (stages.Tuple place range spot) hand judging at = at.0
reads_none stages.Judged hand judging at = absurd judging

pub reads_next : (hand : FindHand) (b : ℕ) → hand.next ≡ Some b → IsFinding hand → ReadsNext hand b
reads_next hand b is finding = let found = by_stage hand.judging.stage hand b is finding.at in record { all = found.0; first = found.1 }

-- the hand behind a block that was read
pub read_on : (hand : FindHand) (b : ℕ) (next : Option ℕ) (found : List (Row × Spot)) (last : LastStatuses) → ReadsNext hand b → IsFinding hand → FindsIn b hand.found found → IsNext hand.judging.candidates (b + 1) next
    → IsFinding (record hand { read = b + 1; next = next; found = found; last = last })
read_on hand b next found last reads finding finds first =
    let ordered = ascend_more b hand.read hand.found found finding.ascend finding.read reads.first.unread finds in
    record {
      at = subst (λ (stage : Stage). IsFindingAt stage (record hand { read = b + 1; next = next; found = found; last = last })) (sym reads.all) first;
      read_within = omega (arith, candidate_within hand.judging.candidates b reads.first.candidate);
      ascend = ordered.0;
      read = ordered.1;
    }
