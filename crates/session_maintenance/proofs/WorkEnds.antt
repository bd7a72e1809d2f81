-- what a maintenance statement at a range is at within the step with which it ends
use Rattle.std.proofs.Common.{◌≡◌, ◌⊎◌, inl, inr, ℕ, suc, true, false, Some, refl, sym, ap, ◌∙◌}
use Rattle.std.proofs.lemmas.Bool.{false≢true}
use Rattle.std.proofs.lemmas.Option.{none-some}
use Rattle.block_model.specs.declared.reply.Point.{Point}
use Rattle.coverage.specs.Statements.{Phase}
use Rattle.coverage.specs.Table.{Considers, Job, Maintains, Resting, TableState, Task}
use Rattle.coverage.specs.TablePoints.{does_point}
use Rattle.coverage.specs.TableSteps.{AsksSummary, BeginsScan, Blocked, Conflicts, Does, InsertCompletes, InsertGoes, Judges, MaintainCompletes, MaintainGoes, MarksRow, PrunesBlock, PutsRow, ReadsBlock, RefusesInsert, RefusesMaintain, RefusesRow, RefusesScan, RefusesVacuum, RestartsIndex, SweepsPage, TakesLock, Transacts}
use Rattle.coverage.specs.TableSteps.{GivesLock, GoesOn, Inserted, IsMaintained, JudgesNext, Marked, NextIndex, NothingToSweep, Onward, Pruned, RangesDone, Scanned, Settles, Stays, Swept, ToAsk, ToIndex, ToMarks, ToPage, ToRange}
use Rattle.session_maintenance.proofs.UpkeepPoints.{is_maintaining}

abbrev range_behind : Task → Task
range_behind (Maintains job at range phase) = Considers job at (suc range)
range_behind task = task

-- one that is at a range goes on there, where it goes on
onward_stays : (w : TableState) (old new : Task) → Onward w old new → is_maintaining old ≡ true → is_maintaining new ≡ true
onward_stays w _ _ (Stays task has) is = is
onward_stays w _ _ (ToAsk b k r at below asks) is = absurd (false≢true is)
onward_stays w _ _ (ToIndex b k r at below asks) is = absurd (false≢true is)
onward_stays w _ _ (Inserted b k r at last) is = absurd (false≢true is)
onward_stays w _ _ (ToRange job at range has) is = absurd (false≢true is)
onward_stays w _ _ (NextIndex extent at range none below) is = absurd (false≢true is)
onward_stays w _ _ (Pruned extent next new last on) is = absurd (false≢true is)
onward_stays w _ _ (ToPage at from m p next) is = absurd (false≢true is)
onward_stays w _ _ (Swept at from none some) is = absurd (false≢true is)
onward_stays w _ _ (JudgesNext scan new below last held on) is = absurd (false≢true is)
onward_stays w _ _ (Scanned scan read none) is = absurd (false≢true is)
onward_stays w _ _ (ToMarks scan id rest read explains deletes lists) is = absurd (false≢true is)
onward_stays w _ _ (Marked scan) is = absurd (false≢true is)

not_over : (w : TableState) (old : Task) → IsMaintained w old → is_maintaining old ≡ true → ⊥
not_over w _ (RangesDone job at range none last) is = false≢true is
not_over w _ (NothingToSweep extent next last none) is = false≢true is

never_rests : (n : ℕ) (w v : TableState) → Settles n w v → v.task n ≡ Resting → is_maintaining (w.task n) ≡ true → ⊥
never_rests n w v (GoesOn old new onward turns only) rests is =
    false≢true (ap is_maintaining (sym rests ∙ turns.now) ∙ onward_stays w old new onward (ap is_maintaining (sym turns.was) ∙ is))
never_rests n w v (GivesLock old over turns given rows indexes) rests is = not_over w old over (ap is_maintaining (sym turns.was) ∙ is)

module _ (n : ℕ) (w v : TableState) (point : Point) (job : Job) (at range : ℕ) (phase : Phase) (was : w.task n ≡ Maintains job at range phase) where
  not_there : (task : Task) → w.task n ≡ task → is_maintaining task ≡ false → ⊥
  not_there task is other = false≢true (sym other ∙ ap is_maintaining (sym is ∙ was))

  abbrev GoesOrEnds : Type 0
  GoesOrEnds = (is_maintaining (v.task n) ≡ true) ⊎ (v.task n ≡ Considers job at (suc range))

  goes_or_ends : (does : Does n w v) → does_point n w v does ≡ Some point → GoesOrEnds
  goes_or_ends (PutsRow b k r place turns takes) is = absurd (not_there _ turns.was refl)
  goes_or_ends (RefusesRow t refused turns fails) is = absurd (none-some _ is)
  goes_or_ends (AsksSummary b k r i turns only) is = absurd (not_there _ turns.was refl)
  goes_or_ends (InsertGoes b k r i old new turns stepped step) is = absurd (not_there _ turns.was refl)
  goes_or_ends (InsertCompletes b k r i old turns stepped step) is = absurd (not_there _ turns.was refl)
  goes_or_ends (RefusesInsert b k r old refused turns fails) is = absurd (none-some _ is)
  goes_or_ends (TakesLock first begins turns free held rows indexes) is = absurd (not_there _ turns.was refl)
  goes_or_ends (MaintainGoes j i m old new turns stepped step) is = inl (ap is_maintaining turns.now)
  goes_or_ends (MaintainCompletes j i m old turns stepped step) is = inr (turns.now ∙ ap range_behind (sym turns.was ∙ was))
  goes_or_ends (RefusesMaintain j i m q refused turns stepped passes) is = absurd (none-some _ is)
  goes_or_ends (RefusesVacuum old vacuuming turns given rows indexes) is = absurd (none-some _ is)
  goes_or_ends (PrunesBlock extent next dropped inside spared turns drops) is = absurd (not_there _ turns.was refl)
  goes_or_ends (SweepsPage i page turns stepped sweeps) is = absurd (not_there _ turns.was refl)
  goes_or_ends (RestartsIndex i turns only) is = absurd (not_there _ turns.was refl)
  goes_or_ends (BeginsScan scan begins turns only) is = absurd (not_there _ turns.was refl)
  goes_or_ends (Judges old new inside low step turns only) is = absurd (not_there _ turns.was refl)
  goes_or_ends (ReadsBlock scan next found reads turns only) is = absurd (not_there _ turns.was refl)
  goes_or_ends (RefusesScan scan t turns how) is = absurd (none-some _ is)
  goes_or_ends (MarksRow scan id rest turns only) is = absurd (not_there _ turns.was refl)
  goes_or_ends (Conflicts scan id rest t turns fails) is = absurd (none-some _ is)
  goes_or_ends (Blocked task blocked turns only) is = absurd (none-some _ is)
  goes_or_ends (Transacts counts resting few same) is = absurd (none-some _ is)

  -- where it is at nothing behind the step, it came to the range behind its own
  pub ends_behind : (x : TableState) (does : Does n w v) → does_point n w v does ≡ Some point → Settles n v x → x.task n ≡ Resting → v.task n ≡ Considers job at (suc range)
  ends_behind x does named settles rests = elim (goes_or_ends does named) [
    | inl goes ↦ absurd (never_rests n v x settles rests goes)
    | inr ends ↦ ends
  ]
