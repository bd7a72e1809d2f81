-- where a scan comes after a range
use Rattle.std.proofs.Common.{◌≡◌, inl, inr, ℕ, zero, suc, ◌+◌, ◌-◌, ◌*◌, ◌<◌, ◌≤◌, Bool, true, false, ◌&&◌, List, length, None, refl, sym, subst, ◌∙◌, arith}
use Rattle.std.specs.Prelude.{nat_lt, if◌then◌else◌}
use Rattle.std.proofs.lemmas.Bool.{cases_lt, false≢true, lt-ltb, ltb-true}
use Rattle.coverage.specs.Table.{Scans, TableScan, TableState, Task}
use Rattle.coverage.specs.TableSteps.{JudgesNext, Onward}
use Rattle.bitmap_scan.specs.NextRanges.{first_range, range_from}
use Rattle.bitmap_scan.specs.ScanHands.{IsBegunAt, ScannedIndex, scanned_at}
use Rattle.bitmap_scan.specs.TableScans.{index_judged, range_judged, spot_held}
use Rattle.bitmap_scan.specs.declared.stage.Stage.{Stage}
use Rattle.bitmap_scan.specs.declared.stage.Stage.TheVariants as stages

-- the scan at a range of an index
abbrev pub at_range : TableScan → (at range : ℕ) → TableScan
at_range scan at range = record scan { at = at; range = range; held = None }

-- the scan at a stage, of so many indexes
abbrev pub at_stage : TableScan → ℕ → Stage → TableScan
at_stage scan count stage = record scan { at = index_judged count stage; range = range_judged stage; held = spot_held stage }

module _ (v : TableState) (indexes : List ScannedIndex) (counted : v.indexes ≡ length indexes) (pages : (i : ℕ) → i < length indexes → (v.index i).pages_per_range ≡ (scanned_at indexes i).pages_per_range) where
  -- from an index on, where the table has no block
  past_all : (scan : TableScan) (left at : ℕ) → scan.extent ≡ 0 → at + left ≡ length indexes → (next : Task) → Onward v (Scans (at_range scan (length indexes) 0)) next → Onward v (Scans (at_range scan at 0)) next
  past_all scan zero at none is next onward = subst (λ (n : ℕ). Onward v (Scans (at_range scan n 0)) next) (omega (arith, is)) onward
  past_all scan (suc left) at none is next onward =
      JudgesNext (at_range scan at 0) next (omega (arith, is, counted)) (omega (arith, none)) refl (past_all scan left (suc at) none (omega (arith, is)) next onward)

  by_first : (scan : TableScan) (at : ℕ) → at ≤ length indexes → (inside some : Bool) → nat_lt at (length indexes) ≡ inside → nat_lt 0 scan.extent ≡ some → (next : Task)
      → Onward v (Scans (at_stage scan (length indexes) (if inside && some then stages.Map at 0 else stages.Judged))) next → Onward v (Scans (at_range scan at 0)) next
  by_first scan at within true true inside some next onward = onward
  by_first scan at within true false inside some next onward = elim (cases_lt 0 scan.extent) [
    | inl more ↦ absurd (false≢true (sym some ∙ lt-ltb 0 scan.extent more))
    | inr none ↦ past_all scan (length indexes - at) at (omega (arith, none)) (omega (arith, within)) next onward
  ]
  by_first scan at within false some_is inside some next onward = elim (cases_lt at (length indexes)) [
    | inl more ↦ absurd (false≢true (sym inside ∙ lt-ltb at (length indexes) more))
    | inr past ↦ subst (λ (n : ℕ). Onward v (Scans (at_range scan n 0)) next) (omega (arith, within, past)) onward
  ]

  pub first_onward : (scan : TableScan) (at : ℕ) → at ≤ length indexes → (next : Task) → Onward v (Scans (at_stage scan (length indexes) (first_range indexes scan.extent at))) next → Onward v (Scans (at_range scan at 0)) next
  first_onward scan at within next onward = by_first scan at within (nat_lt at (length indexes)) (nat_lt 0 scan.extent) refl refl next onward

  by_range : (scan : TableScan) (at range : ℕ) → at < length indexes → (more : Bool) → nat_lt (range * (scanned_at indexes at).pages_per_range) scan.extent ≡ more → (next : Task)
      → Onward v (Scans (at_stage scan (length indexes) (if more then stages.Map at range else first_range indexes scan.extent (at + 1)))) next → Onward v (Scans (at_range scan at range)) next
  by_range scan at range below true is next onward = onward
  by_range scan at range below false is next onward = elim (cases_lt (range * (scanned_at indexes at).pages_per_range) scan.extent) [
    | inl more ↦ absurd (false≢true (sym is ∙ lt-ltb (range * (scanned_at indexes at).pages_per_range) scan.extent more))
    | inr past ↦
        let behind : scan.extent ≤ range * (v.index at).pages_per_range = subst (λ (n : ℕ). scan.extent ≤ range * n) (sym (pages at below)) past in
        let later : at + 1 ≡ suc at = omega arith in
        JudgesNext (at_range scan at range) next (omega (arith, below, counted)) behind refl
        (subst (λ (n : ℕ). Onward v (Scans (at_range scan n 0)) next) later (first_onward scan (at + 1) (omega (arith, below)) next onward))
  ]

  pub range_onward : (scan : TableScan) (at range : ℕ) → at < length indexes → (next : Task) → Onward v (Scans (at_stage scan (length indexes) (range_from indexes scan.extent at range))) next → Onward v (Scans (at_range scan at range)) next
  range_onward scan at range below next onward = by_range scan at range below (nat_lt (range * (scanned_at indexes at).pages_per_range) scan.extent) refl next onward

-- the next range is one of the table's
begun_if : (indexes : List ScannedIndex) (extent at : ℕ) (inside some : Bool) → nat_lt at (length indexes) ≡ inside → nat_lt 0 extent ≡ some → IsBegunAt indexes extent (if inside && some then stages.Map at 0 else stages.Judged)
begun_if indexes extent at true true inside some = (ltb-true at (length indexes) inside, omega (arith, ltb-true 0 extent some))
begun_if indexes extent at true false inside some = tt
begun_if indexes extent at false some_is inside some = tt

begun_first : (indexes : List ScannedIndex) (extent at : ℕ) → IsBegunAt indexes extent (first_range indexes extent at)
begun_first indexes extent at = begun_if indexes extent at (nat_lt at (length indexes)) (nat_lt 0 extent) refl refl

begun_more : (indexes : List ScannedIndex) (extent at range : ℕ) → at < length indexes → (more : Bool) → nat_lt (range * (scanned_at indexes at).pages_per_range) extent ≡ more
    → IsBegunAt indexes extent (if more then stages.Map at range else first_range indexes extent (at + 1))
begun_more indexes extent at range below true more = (below, ltb-true (range * (scanned_at indexes at).pages_per_range) extent more)
begun_more indexes extent at range below false more = begun_first indexes extent (at + 1)

pub begun_from : (indexes : List ScannedIndex) (extent at range : ℕ) → at < length indexes → IsBegunAt indexes extent (range_from indexes extent at range)
begun_from indexes extent at range below = begun_more indexes extent at range below (nat_lt (range * (scanned_at indexes at).pages_per_range) extent) refl
