-- What a session does, and where it comes by that: where it takes up a range of an index, at a range, and between two of them.
use Rattle.std.proofs.Common.{◌≡◌, ◌⊎◌, inl, inr, ℕ, suc, ◌+◌, ◌<◌, Option, Some, None, refl, sym, ap, ◌∙◌, subst}
use Rattle.block_model.specs.declared.reply.Point.{Point}
use Rattle.block_model.specs.declared.row.Row.{Row}
use Rattle.coverage.specs.Refusals.{Refusal, LacksMemory, does_refusal}
use Rattle.coverage.specs.Statements.{Empty, Holding, Maintaining, NotBuilding, Phase}
use Rattle.coverage.specs.Waiting.{IsPhaseFull}
use Rattle.coverage.specs.Accounts as accounts
use Rattle.coverage.specs.Accounts.{Account, AccountIs, Accounts, Adds, job_count, no_account}
use Rattle.coverage.specs.Table.{Considers, Desummarising, EachRange, Job, Maintains, OneRange, Prunes, Restarts, Resting, Sweeps, TableState, Task, WholeRanges, index_view_at}
use Rattle.coverage.specs.TablePoints.{does_point}
use Rattle.coverage.specs.TableSteps.{AsksSummary, BeginsScan, BeginsWith, Blocked, Conflicts, Desummarize, Does, GivesLock, GoesOn, HasRange, HasStep, IndexFull, Inserted, InsertCompletes, InsertGoes, IsBlocked, IsInsertRefused, IsMaintained, IsVacuuming}
use Rattle.coverage.specs.TableSteps.{JobStep, Judges, JudgesNext, MaintainCompletes, MaintainGoes, Marked, MarksRow, NextIndex, NoPage, NothingToSweep, Onward, Pruned, PrunesBlock, PutsRow, RangesDone, ReadsBlock, RefusesInsert, RefusesMaintain}
use Rattle.coverage.specs.TableSteps.{RefusesRow, RefusesScan, RefusesVacuum, RestartsIndex, SameIndexes, Scanned, Settles, Stays, Summarize, SummarizeOne, SweepsPage, Swept, TakesLock, TaskTurns, ToAsk, ToIndex, ToMarks, ToPage, ToRange, Transacts, Vacuum, Work}

module _ (s : ℕ) (w v : TableState) where
  module _ (a b : Accounts) where
    -- at a range of its job: it goes on, it is done with the range, it lacks a page, or it waits
    pub data AtRange (job : Job) (at range : ℕ) (phase : Phase) : Option Point → Option Refusal → Type 0 where
      Goes : (new : Phase) (point : Point) → v.task s ≡ Maintains job at range new → at < w.indexes
          → (step : JobStep job s range (index_view_at at w) (index_view_at at v) phase (Maintaining range new))
          → b.of s ≡ record (a.of s) { ranges = (a.of s).ranges + job_count job s range (index_view_at at w) (index_view_at at v) phase (Maintaining range new) step }
          → AtRange job at range phase (Some point) None
      Completes : (point : Point) → v.task s ≡ Considers job at (suc range) → at < w.indexes
          → (step : JobStep job s range (index_view_at at w) (index_view_at at v) phase Holding)
          → b.of s ≡ record (a.of s) { ranges = (a.of s).ranges + job_count job s range (index_view_at at w) (index_view_at at v) phase Holding step }
          → AtRange job at range phase (Some point) None
      LacksPage : (number : ℕ) (why : Refusal) → IsPhaseFull (index_view_at at w) s range phase number → AtRange job at range phase None (Some why)
      FindsLocked : IsBlocked w s (Maintains job at range phase) → AtRange job at range phase None None

    abbrev DoesSo : (old new : Task) → Option Point → Option Refusal → Type 0
    DoesSo Resting (Considers job at range) point refused = SameIndexes w v × (b.of s ≡ no_account) × (refused ≡ None)
    DoesSo (Maintains job at range phase) new point refused = AtRange job at range phase point refused
    DoesSo old new point refused = Unit

    turned : (old new : Task) (point : Option Point) (refused : Option Refusal) → TaskTurns s w v old new → DoesSo old new point refused → DoesSo (w.task s) (v.task s) point refused
    turned old new point refused turns so =
        subst (λ t. DoesSo t (v.task s) point refused) (sym turns.was) (subst (λ t. DoesSo old t point refused) (sym turns.now) so)

    first_so : (first : Task) (begins : BeginsWith w first) → SameIndexes w v → accounts.Begins s w first begins a b → (point : Option Point) → DoesSo Resting first point None
    first_so _ (Summarize at below) same takes point = (same, takes.account, refl)
    first_so _ (SummarizeOne at only below) same takes point = (same, takes.account, refl)
    first_so _ (Work at only below) same takes point = (same, takes.0, refl)
    first_so _ (Desummarize at only below) same takes point = (same, takes.account, refl)
    first_so _ Vacuum same takes point = tt

    insert_refused : (c k : ℕ) (r : Row) (old : Task) → IsInsertRefused w s c k r old → (why : Option Refusal) → DoesSo old Resting None why
    insert_refused c k r _ (IndexFull number at x before after verdict) why = tt

    vacuum_refused : (old : Task) → IsVacuuming old → DoesSo old Resting None (Some LacksMemory)
    vacuum_refused (Prunes extent next) is = tt
    vacuum_refused (Sweeps at page) is = tt
    vacuum_refused (Restarts at) is = tt
    vacuum_refused task is = absurd is

    blocked_so : (task : Task) → IsBlocked w s task → DoesSo task task None None
    blocked_so (Maintains job at range phase) blocked = FindsLocked blocked
    blocked_so task blocked = tt

    does_so : (does : Does s w v) → Adds s w v does a b → DoesSo (w.task s) (v.task s) (does_point s w v does) (does_refusal s w v does)
    does_so (PutsRow c k r place turns takes) adds = turned _ _ _ _ turns tt
    does_so (RefusesRow t refused turns fails) adds = turned _ _ _ _ turns tt
    does_so (AsksSummary c k r at turns only) adds = turned _ _ _ _ turns tt
    does_so (InsertGoes c k r at old new turns stepped step) adds = turned _ _ _ _ turns tt
    does_so (InsertCompletes c k r at old turns stepped step) adds = turned _ _ _ _ turns tt
    does_so (RefusesInsert c k r old refused turns fails) adds = turned _ _ _ _ turns (insert_refused c k r old refused _)
    does_so (TakesLock first begins turns free held rows indexes) adds = turned _ _ _ _ turns (first_so first begins indexes adds _)
    does_so (MaintainGoes job at range old new turns stepped step) adds = turned _ _ _ _ turns (Goes new _ turns.now stepped.below step adds.account)
    does_so (MaintainCompletes job at range old turns stepped step) adds = turned _ _ _ _ turns (Completes _ turns.now stepped.below step adds.account)
    does_so (RefusesMaintain job at range phase (NoPage number _ full) turns stepped passes) adds = turned _ _ _ _ turns (LacksPage number _ full)
    does_so (RefusesVacuum old vacuuming turns given rows indexes) adds = turned _ _ _ _ turns (vacuum_refused old vacuuming)
    does_so (PrunesBlock extent next dropped inside spared turns drops) adds = turned _ _ _ _ turns tt
    does_so (SweepsPage at page turns stepped sweeps) adds = turned _ _ _ _ turns tt
    does_so (RestartsIndex at turns only) adds = turned _ _ _ _ turns tt
    does_so (BeginsScan scan begins turns only) adds = turned _ _ _ _ turns tt
    does_so (Judges old new inside low step turns only) adds = turned _ _ _ _ turns tt
    does_so (ReadsBlock scan next found reads turns only) adds = turned _ _ _ _ turns tt
    does_so (RefusesScan scan t turns how) adds = turned _ _ _ _ turns tt
    does_so (MarksRow scan id rest turns only) adds = turned _ _ _ _ turns tt
    does_so (Conflicts scan id rest t turns fails) adds = turned _ _ _ _ turns tt
    does_so (Blocked task blocked turns only) adds = turned _ _ _ _ turns (blocked_so task blocked)
    does_so (Transacts counts resting few same) adds =
        subst (λ t. DoesSo t (v.task s) None None) (sym resting) (subst (λ t. DoesSo Resting t None None) (sym (ap (λ (x : TableState). x.task s) same ∙ resting)) tt)

    pub at_range : (job : Job) (at range : ℕ) (phase : Phase) (does : Does s w v) → Adds s w v does a b → w.task s ≡ Maintains job at range phase
        → AtRange job at range phase (does_point s w v does) (does_refusal s w v does)
    at_range job at range phase does adds is = subst (λ t. DoesSo t (v.task s) (does_point s w v does) (does_refusal s w v does)) is (does_so does adds)

    pub at_first : (job : Job) (at range : ℕ) (does : Does s w v) → Adds s w v does a b → w.task s ≡ Resting → v.task s ≡ Considers job at range
        → SameIndexes w v × (b.of s ≡ no_account) × (does_refusal s w v does ≡ None)
    at_first job at range does adds rests begun = subst (λ t. DoesSo Resting t (does_point s w v does) (does_refusal s w v does)) begun
        (subst (λ t. DoesSo t (v.task s) (does_point s w v does) (does_refusal s w v does)) rests (does_so does adds))

  -- between two ranges: the next one begins, or it is done
  abbrev pub Ranged : Job → (at range : ℕ) → Type 0
  Ranged job at range = SameIndexes w v
      × ((HasRange w job at range × (v.task s ≡ Maintains job at range (NotBuilding Empty))) ⊎ ((HasRange w job at range → ⊥) × (v.task s ≡ Resting)))

  abbrev pub SettlesSo : Task → Type 0
  SettlesSo (Maintains job at range phase) = (v.task s ≡ Maintains job at range phase) × SameIndexes w v
  SettlesSo (Considers (EachRange extent) at range) = Ranged (EachRange extent) at range
  SettlesSo (Considers (OneRange extent only) at range) = Ranged (OneRange extent only) at range
  SettlesSo (Considers (Desummarising only) at range) = Ranged (Desummarising only) at range
  SettlesSo task = Unit

  considers_so : (job : Job) (at range : ℕ) → Ranged job at range → SettlesSo (Considers job at range)
  considers_so (EachRange extent) at range so = so
  considers_so (OneRange extent only) at range so = so
  considers_so (WholeRanges extent) at range so = tt
  considers_so (Desummarising only) at range so = so

  stays_so : (task : Task) → HasStep w task → v.task s ≡ task → SameIndexes w v → SettlesSo task
  stays_so (Maintains job at range phase) has now same = (now, same)
  stays_so (Considers job at range) has now same = absurd has
  stays_so task has now same = tt

  onward_so : (old new : Task) → Onward w old new → v.task s ≡ new → SameIndexes w v → SettlesSo old
  onward_so _ _ (Stays task has) now same = stays_so task has now same
  onward_so _ _ (ToAsk b k r i below asks) now same = tt
  onward_so _ _ (ToIndex b k r i below not) now same = tt
  onward_so _ _ (Inserted b k r i end) now same = tt
  onward_so _ _ (ToRange job at range has) now same = considers_so job at range (same, inl (has, now))
  onward_so _ _ (NextIndex extent at range none below) now same = tt
  onward_so _ _ (Pruned extent next new past more) now same = tt
  onward_so _ _ (ToPage at from m p first) now same = tt
  onward_so _ _ (Swept at from none some) now same = tt
  onward_so _ _ (JudgesNext scan new below low held more) now same = tt
  onward_so _ _ (Scanned scan read nothing) now same = tt
  onward_so _ _ (ToMarks scan id rest read reads deletes lists) now same = tt
  onward_so _ _ (Marked scan) now same = tt

  maintained_so : (old : Task) → IsMaintained w old → v.task s ≡ Resting → SameIndexes w v → SettlesSo old
  maintained_so _ (RangesDone job at range none last) now same = considers_so job at range (same, inr (none, now))
  maintained_so _ (NothingToSweep extent next past none) now same = tt

  pub settles_so : Settles s w v → SettlesSo (w.task s)
  settles_so (GoesOn old new onward turns only) = subst SettlesSo (sym turns.was) (onward_so old new onward turns.now only.indexes)
  settles_so (GivesLock old maintained turns given rows indexes) = subst SettlesSo (sym turns.was) (maintained_so old maintained turns.now indexes)
