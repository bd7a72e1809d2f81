-- Where a statement comes by its step is one thing.
use Rattle.std.proofs.Common.{◌≡◌, ◌⊎◌, inl, inr, ⊎_elim, ℕ, ◌*◌, ◌≤◌, ◌<◌, true, false, List, ◌∷◌, sym, ◌∙◌, ap, subst, arith, suc}
use Rattle.std.specs.Prelude.{refl, IsTrue}
use Rattle.std.proofs.lemmas.Bool.{false≢true}
use Rattle.std.proofs.Math.Nat.{le_antisymm, le_of_lt, ne_of_lt, not-le_of_lt}
use Rattle.coverage.specs.Table.{Index, TableScan, Task, SweepsFrom, Sweeps, Scans, Marks, TableState}
use Rattle.block_model.specs.declared.row.RowId.{RowId}
use Rattle.coverage.specs.RowOrder.{IsAmong}
use Rattle.coverage.proofs.RowsInOrder.{one_order}
use Rattle.coverage.specs.TableSteps.{first_block, IsFrom, ScanHasStep, HasStep, Onward, Stays, ToAsk, ToIndex, Inserted, ToRange, NextIndex, Pruned, ToPage}
use Rattle.coverage.specs.TableSteps.{Swept, JudgesNext, Scanned, ToMarks, HasNothingToMark, ListsFound, IsMaintained, RangesDone, NothingToSweep, OnlyTurns}
use Rattle.coverage.specs.TableSteps.{Settles, GoesOn, GivesLock, TableStep}

-- two places, each from the other on, are one
from_once : (m p n q : ℕ) → IsFrom m p n q → IsFrom n q m p → (m ≡ n) × (p ≡ q)
from_once m p n q one two = ⊎_elim
    (λ (less : m < n). elim two [ inl more ↦ absurd (not-le_of_lt less (le_of_lt more)) | inr at ↦ absurd (ne_of_lt less (sym at.0)) ])
    (λ (at : (m ≡ n) × (p ≤ q)). elim two [ inl more ↦ absurd (ne_of_lt more (sym at.0)) | inr back ↦ (at.0, le_antisymm at.1 back.1) ])
    one

-- a scan with a step left neither goes to the next index nor is done
scan_stays : (w : TableState) (scan : TableScan) → ScanHasStep w scan → scan.at < w.indexes → scan.extent ≤ first_block w scan.at scan.range → ⊥
scan_stays w scan has inside all = elim has [ inl judges ↦ not-le_of_lt judges.1 all | inr reads ↦ ne_of_lt inside reads.1 ]

scan_reads : (w : TableState) (scan : TableScan) → ScanHasStep w scan → scan.at ≡ w.indexes
    → (scan.explains ≡ true) ⊎ ((b : ℕ) → IsTrue (scan.candidate b) → b < scan.read) → ⊥
scan_reads w scan has all done = ⊎_elim
    (λ (judges : (scan.at < w.indexes) × (first_block w scan.at scan.range < scan.extent)). ne_of_lt judges.0 all)
    (λ (reads : (scan.explains ≡ false) × (scan.at ≡ w.indexes) × ((b : ℕ) × IsTrue (scan.candidate b) × (scan.read ≤ b))). ⊎_elim
    (λ (explains : scan.explains ≡ true). false≢true (sym reads.0 ∙ explains))
    (λ (read : (b : ℕ) → IsTrue (scan.candidate b) → b < scan.read). not-le_of_lt (read reads.2.0 reads.2.1) reads.2.2)
    done)
    has

-- what a delete found is nothing, or some rows
nothing_or_some : (w : TableState) (scan : TableScan) (id : RowId) (rest : List RowId) → HasNothingToMark scan → scan.explains ≡ false → scan.deletes ≡ true
    → ListsFound w scan (id ∷ rest) → ⊥
nothing_or_some w scan id rest nothing reads deletes lists = ⊎_elim
    (λ (explains : scan.explains ≡ true). false≢true (sym reads ∙ explains))
    (λ (other : (scan.deletes ≡ false) ⊎ ((b k : ℕ) → scan.found b k ≡ false)). ⊎_elim
    (λ (keeps : scan.deletes ≡ false). false≢true (sym keeps ∙ deletes))
    (λ (none : (b k : ℕ) → scan.found b k ≡ false).
    let first = lists.only id (inl refl) in false≢true (sym (none first.0 first.1) ∙ first.3))
    other)
    nothing

-- the rows that a scan found are one list
one_list : (w : TableState) (scan : TableScan) (l m : List RowId) → ListsFound w scan l → ListsFound w scan m → l ≡ m
one_list w scan l m one two = one_order l m one.ordered two.ordered (in_other l m one two) (in_other m l two one)
  where
    in_other : (l m : List RowId) → ListsFound w scan l → ListsFound w scan m → (id : RowId) → IsAmong l id → IsAmong m id
    in_other l m one two id among =
        let row = one.only id among in subst (IsAmong m) row.5 (two.all row.0 row.1 row.2 row.3 row.4)

module _ (w : TableState) where
  -- a statement whose next step is there stays at it
  stays : (old q : Task) → HasStep w old → Onward w old q → q ≡ old
  stays _ _ has (Stays task has') = refl
  stays _ _ has (Pruned extent next new all more) = absurd (not-le_of_lt has all)
  stays _ _ has (JudgesNext scan new inside all empty more) = absurd (scan_stays w scan has inside all)
  stays _ _ has (Scanned scan read nothing) = absurd (scan_reads w scan has read.0 read.1)
  stays _ _ has (ToMarks scan id rest read reads deletes lists) = absurd (scan_reads w scan has read.0 read.1)
  stays _ _ has _ = absurd has

  pub onward_once : (old p q : Task) → Onward w old p → Onward w old q → p ≡ q
  onward_once _ _ q (Stays task has) other = sym (stays task q has other)
  onward_once _ p _ one (Stays task has) = stays task p has one
  onward_once _ _ _ (ToAsk b k r at inside asks) (ToIndex b' k' r' at' inside' not) = absurd (not asks)
  onward_once _ _ _ (ToAsk b k r at inside asks) (Inserted b' k' r' at' all) = absurd (ne_of_lt inside all)
  onward_once _ _ _ (ToIndex b k r at inside not) (ToAsk b' k' r' at' inside' asks) = absurd (not asks)
  onward_once _ _ _ (ToIndex b k r at inside not) (Inserted b' k' r' at' all) = absurd (ne_of_lt inside all)
  onward_once _ _ _ (Inserted b k r at all) (ToAsk b' k' r' at' inside asks) = absurd (ne_of_lt inside all)
  onward_once _ _ _ (Inserted b k r at all) (ToIndex b' k' r' at' inside not) = absurd (ne_of_lt inside all)
  onward_once _ _ _ (ToRange _ at range has) (NextIndex extent at' range' done inside) = absurd (done has)
  onward_once _ _ _ (NextIndex extent at range done inside) (ToRange _ at' range' has) = absurd (done has)
  onward_once _ p q (Pruned extent next new all more) (Pruned extent' next' new' all' more') = onward_once (SweepsFrom 0 0) p q more more'
  onward_once _ _ _ (ToPage at from m p next) (ToPage at' from' n q next') =
      let same = from_once m p n q (next.first n q next'.has next'.after) (next'.first m p next.has next.after) in
      λ i. Sweeps (same.0 i) (same.1 i)
  onward_once _ _ _ (ToPage at from m p next) (Swept at' from' none some) = absurd (none m p next.has next.after)
  onward_once _ _ _ (Swept at from none some) (ToPage at' from' m p next) = absurd (none m p next.has next.after)
  onward_once _ p q (JudgesNext scan new inside all empty more) (JudgesNext scan' new' inside' all' empty' more') =
      onward_once (Scans (record scan { at = suc scan.at; range = 0 })) p q more more'
  onward_once _ _ _ (JudgesNext scan new inside all empty more) (Scanned scan' read nothing) = absurd (ne_of_lt inside read.0)
  onward_once _ _ _ (JudgesNext scan new inside all empty more) (ToMarks scan' id rest read reads deletes lists) =
      absurd (ne_of_lt inside read.0)
  onward_once _ _ _ (Scanned scan read nothing) (JudgesNext scan' new inside all' empty more) =
      absurd (ne_of_lt inside read.0)
  onward_once _ _ _ (Scanned scan read nothing) (ToMarks scan' id rest read' reads deletes lists) =
      absurd (nothing_or_some w scan id rest nothing reads deletes lists)
  onward_once _ _ _ (ToMarks scan id rest read reads deletes lists) (JudgesNext scan' new inside all' empty more) =
      absurd (ne_of_lt inside read.0)
  onward_once _ _ _ (ToMarks scan id rest read reads deletes lists) (Scanned scan' read' nothing) =
      absurd (nothing_or_some w scan id rest nothing reads deletes lists)
  onward_once _ _ _ (ToMarks scan id rest read reads deletes lists) (ToMarks scan' id' rest' read' reads' deletes' lists') =
      ap (Marks scan) (one_list w scan (id ∷ rest) (id' ∷ rest') lists lists')
  onward_once _ _ _ _ _ = refl

  -- nothing is swept in a table without indexes
  none_swept : (q : Task) → w.indexes ≡ 0 → Onward w (SweepsFrom 0 0) q → ⊥
  none_swept _ none (Stays _ has) = has
  none_swept _ none (ToPage at from m p next) = omega (arith, next.has.0, none)
  none_swept _ none (Swept at from nothing some) = omega arith

  pub onward_or_done : (old q : Task) → IsMaintained w old → Onward w old q → ⊥
  onward_or_done _ _ (RangesDone job at range done last) (Stays _ has) = has
  onward_or_done _ _ (RangesDone job at range done last) (ToRange job' at' range' has) = done has
  onward_or_done _ _ (RangesDone _ at range done last) (NextIndex extent at' range' done' inside) = ne_of_lt inside last
  onward_or_done _ _ (NothingToSweep extent next all none) (Stays _ has) = not-le_of_lt has all
  onward_or_done _ q (NothingToSweep extent next all none) (Pruned extent' next' new all' more) = none_swept q none more

-- where a statement comes to, there is a step for it, or it rests
lands : (w : TableState) (old new : Task) → Onward w old new → HasStep w new
lands w _ _ (Stays task has) = has
lands w _ _ (Pruned extent next new all more) = lands w (SweepsFrom 0 0) new more
lands w _ _ (JudgesNext scan new inside all empty more) = lands w (Scans (record scan { at = suc scan.at; range = 0 })) new more
lands w _ _ _ = tt

scan_step_on : (w v : TableState) → OnlyTurns w v → (scan : TableScan) → ScanHasStep w scan → ScanHasStep v scan
scan_step_on w v only scan has = ⊎_elim
    (λ (judges : (scan.at < w.indexes) × (first_block w scan.at scan.range < scan.extent)). inl (
      subst (λ n. scan.at < n) (sym only.rows.layout.indexes) judges.0,
      subst (λ (x : Index). scan.range * x.pages_per_range < scan.extent) (sym (only.indexes.index scan.at)) judges.1,
    ))
    (λ (reads : (scan.explains ≡ false) × (scan.at ≡ w.indexes) × ((b : ℕ) × IsTrue (scan.candidate b) × (scan.read ≤ b))).
    inr (reads.0, reads.1 ∙ sym only.rows.layout.indexes, reads.2))
    has

step_on : (w v : TableState) → OnlyTurns w v → (task : Task) → HasStep w task → HasStep v task
step_on w v only (Scans scan) has = scan_step_on w v only scan has
step_on w v only _ has = has

settles_at_step : (s : ℕ) (w v : TableState) → Settles s w v → HasStep v (v.task s)
settles_at_step s w v (GoesOn old new onward turns only) = subst (HasStep v) (sym turns.now) (step_on w v only new (lands w old new onward))
settles_at_step s w v (GivesLock old done turns given rows indexes) = subst (HasStep v) (sym turns.now) tt

pub table_step_lands : (s : ℕ) (w v : TableState) → TableStep s w v → HasStep v (v.task s)
table_step_lands s w v step = settles_at_step s step.between v step.settles
