-- The first step of a statement, with which it begins in its table: how many come behind it.
use Rattle.std.proofs.Common.{◌≡◌, ◌≢◌, ◌⊎◌, inl, inr, ⊎_elim, ℕ, suc, ◌≤◌, false, Some, refl, sym, ◌∙◌, subst}
use Rattle.std.proofs.lemmas.Bool.{false≢true}
use Rattle.std.proofs.lemmas.Option.{none-some}
use Rattle.block_model.specs.declared.reply.Point.{Point}
use Rattle.block_model.specs.declared.row.Row.{Row}
use Rattle.coverage.specs.Statements.{Empty, NotBuilding}
use Rattle.coverage.specs.GoingOn.{IsInserting, StepsAlone}
use Rattle.coverage.specs.Table.{Job, EachRange, OneRange, WholeRanges, Desummarising, TableScan, Task, Resting, Reaches, Considers, Maintains, Prunes, SweepsFrom, Scans, TableState}
use Rattle.coverage.specs.TableCovered.{IsTableKept}
use Rattle.coverage.specs.TablePoints.{does_point}
use Rattle.coverage.specs.TableSteps.{AsksSummary, BeginsScan, BeginsWith, Blocked, Conflicts, Desummarize, Does, Inserted, InsertCompletes, InsertGoes, Judges, JudgesNext}
use Rattle.coverage.specs.TableSteps.{MaintainCompletes, MaintainGoes, MarksRow, NextIndex, OnlyTurns, Onward, PrunesBlock, Pruned, PutsRow, ReadsBlock, RefusesInsert, RefusesMaintain, RefusesRow}
use Rattle.coverage.specs.TableSteps.{RefusesScan, RefusesVacuum, RestartsIndex, SameIndexes, SameRows, ScanBegins, Scanned, Stays, Summarize, SummarizeOne, SweepsPage, Swept, TableStep, TakesLock, TaskTurns, ToAsk, ToIndex, ToMarks, ToPage, ToRange, Transacts, Vacuum, Work}
use Rattle.coverage.proofs.InsertsEndAlone.{insert_within}
use Rattle.coverage.proofs.StepDid.{step_settles}
use Rattle.coverage.proofs.TableSeen.{table_step_kept}
use Rattle.script_semantics.specs.Bounds.{IsBounded, IsTaskBounded, most_blocks}
use Rattle.script_semantics.proofs.FewSteps.{few_from}
use Rattle.script_semantics.proofs.Sizes.{few_steps, insert_few}
use Rattle.script_semantics.proofs.StaysBounded.{same_bounds}

abbrev IsOther : Task → Type 0
IsOther Resting = ⊥
IsOther task = Unit {0}

-- what it does with its first step
data Begun (s : ℕ) (w u : TableState) : Type 0 where
  PutsItsRow : (b k : ℕ) (r : Row) → u.task s ≡ Reaches b k r 0 → u.indexes ≡ w.indexes → Begun s w u
  TakesItsLock : (first : Task) → BeginsWith w first → u.task s ≡ first → SameRows w u → SameIndexes w u → Begun s w u
  BeginsItsScan : (scan : TableScan) → ScanBegins w scan → u.task s ≡ Scans scan → SameRows w u → SameIndexes w u → Begun s w u

module _ (s : ℕ) (w u : TableState) (p : Point) (rests : w.task s ≡ Resting) where
  other : {A : Type 0} → (old new : Task) → TaskTurns s w u old new → IsOther old → A
  other old new turns is = absurd (subst IsOther (sym turns.was ∙ rests) is)

  begun : (does : Does s w u) → does_point s w u does ≡ Some p → Begun s w u
  begun (PutsRow b k r place turns takes) is = PutsItsRow b k r turns.now takes.layout.indexes
  begun (RefusesRow t refused turns fails) is = absurd (none-some _ is)
  begun (AsksSummary b k r at turns only) is = other _ _ turns tt
  begun (InsertGoes b k r at old new turns stepped step) is = other _ _ turns tt
  begun (InsertCompletes b k r at old turns stepped step) is = other _ _ turns tt
  begun (RefusesInsert b k r old refused turns fails) is = absurd (none-some _ is)
  begun (TakesLock first begins turns free held rows indexes) is = TakesItsLock first begins turns.now rows indexes
  begun (MaintainGoes job at range old new turns stepped step) is = other _ _ turns tt
  begun (MaintainCompletes job at range old turns stepped step) is = other _ _ turns tt
  begun (RefusesMaintain job at range phase refused turns stepped passes) is = absurd (none-some _ is)
  begun (RefusesVacuum old vacuuming turns given rows indexes) is = absurd (none-some _ is)
  begun (PrunesBlock extent next dropped inside spared turns drops) is = other _ _ turns tt
  begun (SweepsPage at page turns stepped sweeps) is = other _ _ turns tt
  begun (RestartsIndex at turns only) is = other _ _ turns tt
  begun (BeginsScan scan begins turns only) is = BeginsItsScan scan begins turns.now only.rows only.indexes
  begun (Judges old new inside low step turns only) is = other _ _ turns tt
  begun (ReadsBlock scan next found reads turns only) is = other _ _ turns tt
  begun (RefusesScan scan t turns how) is = absurd (none-some _ is)
  begun (MarksRow scan id rest turns only) is = other _ _ turns tt
  begun (Conflicts scan id rest t turns fails) is = absurd (none-some _ is)
  begun (Blocked task blocked turns only) is = absurd (none-some _ is)
  begun (Transacts counts resting few same) is = absurd (none-some _ is)

-- ---- where it comes by that

module _ (u : TableState) where
  reaches_to : (b k : ℕ) (r : Row) (at : ℕ) (t : Task) → Onward u (Reaches b k r at) t → (t ≡ Resting) ⊎ IsInserting t
  reaches_to b k r at _ (Stays _ has) = absurd has
  reaches_to b k r at _ (ToAsk _ _ _ _ inside asks) = inr tt
  reaches_to b k r at _ (ToIndex _ _ _ _ inside not) = inr tt
  reaches_to b k r at _ (Inserted _ _ _ _ all) = inl refl

  abbrev IsWhole : Job → Type 0
  IsWhole (WholeRanges extent) = Unit {0}
  IsWhole job = ⊥

  considers_to : (job : Job) (at range : ℕ) (t : Task) → (IsWhole job → ⊥) → Onward u (Considers job at range) t → t ≡ Maintains job at range (NotBuilding Empty)
  considers_to job at range _ whole (Stays _ has) = absurd has
  considers_to job at range _ whole (ToRange _ _ _ has) = refl
  considers_to _ at range _ whole (NextIndex extent _ _ none below) = absurd (whole tt)

  scans_to : (scan : TableScan) (t : Task) → scan.extent ≤ most_blocks → ((b k : ℕ) → scan.found b k ≡ false) → Onward u (Scans scan) t → IsTaskBounded t
  scans_to scan _ low none (Stays _ has) = low
  scans_to scan _ low none (JudgesNext _ new inside high held more) = scans_to (record scan { at = suc scan.at; range = 0 }) new low none more
  scans_to scan _ low none (Scanned _ read nothing) = tt
  scans_to scan _ low none (ToMarks _ id rest read reads deletes lists) =
      let one = lists.only id (inl refl) in
      absurd (false≢true (sym (none one.0 one.1) ∙ one.3))

  sweeps_to : (at from : ℕ) (t : Task) → Onward u (SweepsFrom at from) t → IsTaskBounded t
  sweeps_to at from _ (Stays _ has) = absurd has
  sweeps_to at from _ (ToPage _ _ m p next) = tt
  sweeps_to at from _ (Swept _ _ none some) = tt

  prunes_to : (extent next : ℕ) (t : Task) → Onward u (Prunes extent next) t → IsTaskBounded t
  prunes_to extent next _ (Stays _ has) = tt
  prunes_to extent next t (Pruned _ _ _ all more) = sweeps_to 0 0 t more

  begins_to : (w : TableState) (first t : Task) → BeginsWith w first → Onward u first t → IsTaskBounded t
  begins_to w _ t (Summarize at below) on = subst IsTaskBounded (sym (considers_to (EachRange w.blocks) at 0 t (λ whole. whole) on)) tt
  begins_to w _ t (SummarizeOne at only below) on = subst IsTaskBounded (sym (considers_to (OneRange w.blocks only) at only t (λ whole. whole) on)) tt
  begins_to w _ t (Work at only below) on = subst IsTaskBounded (sym (considers_to (OneRange w.blocks only) at only t (λ whole. whole) on)) tt
  begins_to w _ t (Desummarize at only below) on = subst IsTaskBounded (sym (considers_to (Desummarising only) at only t (λ whole. whole) on)) tt
  begins_to w _ t Vacuum on = prunes_to w.blocks 0 t on

-- ---- so many steps come behind the first one

module _ (s n : ℕ) (w v : TableState) (step : TableStep s w v) (p : Point) (point : does_point s w step.between step.does ≡ Some p) (rests : w.task s ≡ Resting) (kept : IsTableKept w) (bounded : IsBounded w)
    (going : v.task s ≢ Resting) (alone : StepsAlone s n v) where
  abbrev u : TableState
  u = step.between

  kept_v : IsTableKept v
  kept_v = table_step_kept s w v kept step

  -- it is at the next step then, and not done
  goes_on : (first : Task) → u.task s ≡ first → Onward u first (v.task s) × OnlyTurns u v
  goes_on first is = ⊎_elim
      (λ (on : Onward u first (v.task s) × OnlyTurns u v). on)
      (λ done. absurd (going done.1))
      (step_settles s u v step.settles first is)

  few_bounded : SameRows w u → SameIndexes w u → OnlyTurns u v → IsTaskBounded (v.task s) → n ≤ few_steps
  few_bounded rows same only task =
      few_from s n v kept_v (same_bounds u v only.rows only.indexes (same_bounds w u rows same bounded)) alone (v.task s) refl going task

  few_behind : Begun s w u → n ≤ few_steps
  few_behind (PutsItsRow b k r is indexes) =
      let on = goes_on (Reaches b k r 0) is in
      ⊎_elim
      (λ (done : v.task s ≡ Resting). absurd (going done))
      (λ (inserting : IsInserting (v.task s)).
      insert_few n v.indexes (subst (λ i. i ≤ 8) (sym (on.1.rows.layout.indexes ∙ indexes)) bounded.indexes) (insert_within s n v kept_v inserting alone))
      (reaches_to u b k r 0 (v.task s) on.0)
  few_behind (TakesItsLock first begins is rows same) =
      let on = goes_on first is in
      few_bounded rows same on.1 (begins_to u w first (v.task s) begins on.0)
  few_behind (BeginsItsScan scan begins is rows same) =
      let on = goes_on (Scans scan) is in
      few_bounded rows same on.1 (scans_to u scan (v.task s) (subst (λ e. e ≤ most_blocks) (sym begins.extent) bounded.blocks) begins.found on.0)

  pub few_after : n ≤ few_steps
  few_after = few_behind (begun s w u p rests step.does point)
