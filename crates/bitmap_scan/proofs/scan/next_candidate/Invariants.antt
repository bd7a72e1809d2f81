use Rattle.std.proofs.Common.{◌-◌, ◌≡◌, ◌<◌, ◌≤◌, ℕ, false, length}
use Rattle.bitmap_scan.specs.ScanHands.{is_candidate}
use Rattle.bitmap_scan.proofs.scan.next_candidate.Given as goal

abbrev pub invariant-candidates : goal.invariant-candidates
invariant-candidates l = record {
  end : l.end ≡ length l.candidates;
  from : l.from ≤ l.block;
  none : (c : ℕ) → l.from ≤ c → c < l.block → is_candidate l.candidates c ≡ false;
}

abbrev pub decreases-candidates : goal.decreases-candidates
decreases-candidates l = l.end - l.block
