-- A blocked statement of a table stays where it is, and changes nothing.
use Rattle.std.proofs.Common.{◌≡◌, ◌≢◌, ◌⊎◌, inl, inr, ℕ, None, List, ◌∷◌, sym, ◌∙◌, ap, subst}
use Rattle.std.specs.Prelude.{refl}
use Rattle.block_model.specs.declared.row.Row.{Row}
use Rattle.block_model.specs.declared.row.RowId.{RowId}
use Rattle.block_model.specs.declared.place.Spot.{Spot}
use Rattle.coverage.specs.IndexView.{IndexView}
use Rattle.coverage.specs.Statements.{OnIndex, Held, Phase, NotBuilding, Statement}
use Rattle.coverage.specs.Verdicts.{Waits}
use Rattle.coverage.specs.Steps.{SweepsTuples, InsertStep, DesummariseStep, IsUnnamed}
use Rattle.coverage.specs.Table.{Job, Desummarising, TableScan, Task, Resting, Asks, Inserts, Maintains, Prunes, Sweeps, Restarts, Scans, Marks, TableState}
use Rattle.coverage.specs.Table.{index_view_at}
use Rattle.coverage.specs.TableSteps.{range_in, OnlyTurns, JobStep, IsBlocked, SummariseLockHeld, InsertWaits, SummariseWaits, DesummariseWaits, SweepWaits}
use Rattle.coverage.specs.TableSteps.{Does, PutsRow, AsksSummary, InsertGoes, InsertCompletes, RefusesInsert, TakesLock, MaintainGoes, MaintainCompletes}
use Rattle.coverage.specs.TableSteps.{RefusesMaintain, RefusesVacuum, PrunesBlock, SweepsPage, RestartsIndex, BeginsScan, Judges, ReadsBlock, RefusesScan}
use Rattle.coverage.specs.TableSteps.{RefusesRow, MarksRow, Conflicts, Blocked, Transacts}
use Rattle.coverage.specs.Waiting.{IsPhaseWaiting, FinalWaits}
use Rattle.coverage.proofs.Verdicts.{free_not_locked, swap_once, clear_once, swap_waits, clear_waits}
use Rattle.coverage.proofs.WaitsOnce.{waits_same, phase_wait_once, phase_wait_locked}
use Rattle.coverage.specs.TablePoints.{does_point, PageLock, waits_for, IsHeldBy}
use Rattle.coverage.proofs.NextSteps.{insert_blocked, summarise_blocked, desummarise_blocked}

module _ (s : ℕ) (w : TableState) where
  insert_case : (b k : ℕ) (r : Row) (at : ℕ) (old : OnIndex) (v : IndexView) (e : Statement) → IsBlocked w s (Inserts b k r at old)
      → InsertStep s b k r (index_view_at at w) v old e → ⊥
  insert_case b k r at _ v e (InsertWaits q _ _ _ _ x t u verdict) step = insert_blocked s b k q r (index_view_at at w) v x t u e verdict step

  -- a desummarise never stands where a summariser waits
  clear_apart : (range : ℕ) (u v : IndexView) (q : ℕ) (phase : Phase) (e : Statement) → IsPhaseWaiting u s range phase q → DesummariseStep s range u v phase e
      → ⊥
  clear_apart range u v q _ e (FinalWaits _ p x old new verdict) step = elim step [ ]
  clear_apart range u v _ _ e _ step = elim step [ ]

  maintain_case : (job : Job) (at range : ℕ) (old : Phase) (v : IndexView) (e : Statement) → IsBlocked w s (Maintains job at range old)
      → JobStep job s range (index_view_at at w) v old e → ⊥
  maintain_case (Desummarising only) at range old v e (SummariseWaits q _ _ _ _ waits) step = clear_apart range (index_view_at at w) v q old e waits step
  maintain_case (Desummarising only) at range _ v e (DesummariseWaits q _ _ _ x verdict) step =
      desummarise_blocked s range q (index_view_at at w) v x e verdict step
  maintain_case _ at range old v e (SummariseWaits q _ _ _ _ waits) step = summarise_blocked s range (index_view_at at w) v q old e waits step

  sweep_case : (at page : ℕ) (v : IndexView) (Sweeping : Spot → Type 0) → IsBlocked w s (Sweeps at page)
      → SweepsTuples s (index_view_at at w) v page Sweeping → ⊥
  sweep_case at page v Sweeping (SweepWaits _ _ locked) sweeps = free_not_locked (index_view_at at w) s page sweeps.free locked

  never_asks : (b k : ℕ) (r : Row) (at : ℕ) → IsBlocked w s (Asks b k r at) → ⊥
  never_asks b k r at blocked = elim blocked [ ]

  never_prunes : (extent next : ℕ) → IsBlocked w s (Prunes extent next) → ⊥
  never_prunes extent next blocked = elim blocked [ ]

  never_restarts : (at : ℕ) → IsBlocked w s (Restarts at) → ⊥
  never_restarts at blocked = elim blocked [ ]

  never_scans : (scan : TableScan) → IsBlocked w s (Scans scan) → ⊥
  never_scans scan blocked = elim blocked [ ]

  never_marks : (scan : TableScan) (ids : List RowId) → IsBlocked w s (Marks scan ids) → ⊥
  never_marks scan ids blocked = elim blocked [ ]

  pub blocked_waits : (v : TableState) → IsBlocked w s (w.task s) → (w.task s ≡ Resting → ⊥) → Does s w v
      → ((v.task s ≡ w.task s) × OnlyTurns w v) ⊎ (v.task s ≡ Resting)
  blocked_waits v blocked busy does = by_case does
    where
      at : (task : Task) → w.task s ≡ task → IsBlocked w s task
      at task was = subst (IsBlocked w s) was blocked

      by_case : Does s w v → ((v.task s ≡ w.task s) × OnlyTurns w v) ⊎ (v.task s ≡ Resting)
      by_case (PutsRow b k r place turns takes) = absurd (busy turns.was)
      by_case (RefusesRow t refused turns fails) = absurd (busy turns.was)
      by_case (AsksSummary b k r m turns only) = absurd (never_asks b k r m (at (Asks b k r m) turns.was))
      by_case (InsertGoes b k r m old new turns stepped step) = absurd (insert_case b k r m old (index_view_at m v) _ (at (Inserts b k r m old) turns.was) step)
      by_case (InsertCompletes b k r m old turns stepped step) =
          absurd (insert_case b k r m old (index_view_at m v) _ (at (Inserts b k r m old) turns.was) step)
      by_case (RefusesInsert b k r old refused turns fails) = inr turns.now
      by_case (TakesLock first begins turns free held rows indexes) = absurd (busy turns.was)
      by_case (MaintainGoes job m range old new turns stepped step) =
          absurd (maintain_case job m range old (index_view_at m v) _ (at (Maintains job m range old) turns.was) step)
      by_case (MaintainCompletes job m range old turns stepped step) =
          absurd (maintain_case job m range old (index_view_at m v) _ (at (Maintains job m range old) turns.was) step)
      by_case (RefusesMaintain job m range phase refused turns stepped passes) = inr turns.now
      by_case (RefusesVacuum old vacuuming turns given rows indexes) = inr turns.now
      by_case (PrunesBlock extent next dropped inside spared turns drops) = absurd (never_prunes extent next (at (Prunes extent next) turns.was))
      by_case (SweepsPage m page turns stepped sweeps) =
          absurd (sweep_case m page (index_view_at m v) (λ x. (x.block ≡ page) × IsUnnamed (index_view_at m w) x) (at (Sweeps m page) turns.was) sweeps)
      by_case (RestartsIndex m turns only) = absurd (never_restarts m (at (Restarts m) turns.was))
      by_case (BeginsScan scan begins turns only) = absurd (busy turns.was)
      by_case (Judges old new inside low step turns only) = absurd (never_scans old (at (Scans old) turns.was))
      by_case (ReadsBlock scan next found reads turns only) = absurd (never_scans scan (at (Scans scan) turns.was))
      by_case (RefusesScan scan t turns how) = inr turns.now
      by_case (MarksRow scan id rest turns only) = absurd (never_marks scan (id ∷ rest) (at (Marks scan (id ∷ rest)) turns.was))
      by_case (Conflicts scan id rest t turns fails) = inr turns.now
      by_case (Blocked task is turns only) = inl (turns.now ∙ sym turns.was, only)
      by_case (Transacts counts resting few same) = absurd (busy resting)

  -- a blocked statement's step has no point
  pub blocked_no_point : (v : TableState) → IsBlocked w s (w.task s) → (w.task s ≡ Resting → ⊥) → (does : Does s w v) → does_point s w v does ≡ None
  blocked_no_point v blocked busy does = by_case does
    where
      at : (task : Task) → w.task s ≡ task → IsBlocked w s task
      at task was = subst (IsBlocked w s) was blocked

      by_case : (does : Does s w v) → does_point s w v does ≡ None
      by_case (PutsRow b k r place turns takes) = absurd (busy turns.was)
      by_case (RefusesRow t refused turns fails) = absurd (busy turns.was)
      by_case (AsksSummary b k r m turns only) = absurd (never_asks b k r m (at (Asks b k r m) turns.was))
      by_case (InsertGoes b k r m old new turns stepped step) = absurd (insert_case b k r m old (index_view_at m v) _ (at (Inserts b k r m old) turns.was) step)
      by_case (InsertCompletes b k r m old turns stepped step) =
          absurd (insert_case b k r m old (index_view_at m v) _ (at (Inserts b k r m old) turns.was) step)
      by_case (TakesLock first begins turns free held rows indexes) = absurd (busy turns.was)
      by_case (MaintainGoes job m range old new turns stepped step) =
          absurd (maintain_case job m range old (index_view_at m v) _ (at (Maintains job m range old) turns.was) step)
      by_case (MaintainCompletes job m range old turns stepped step) =
          absurd (maintain_case job m range old (index_view_at m v) _ (at (Maintains job m range old) turns.was) step)
      by_case (PrunesBlock extent next dropped inside spared turns drops) = absurd (never_prunes extent next (at (Prunes extent next) turns.was))
      by_case (SweepsPage m page turns stepped sweeps) =
          absurd (sweep_case m page (index_view_at m v) (λ x. (x.block ≡ page) × IsUnnamed (index_view_at m w) x) (at (Sweeps m page) turns.was) sweeps)
      by_case (RestartsIndex m turns only) = absurd (never_restarts m (at (Restarts m) turns.was))
      by_case (BeginsScan scan begins turns only) = absurd (busy turns.was)
      by_case (Judges old new inside low step turns only) = absurd (never_scans old (at (Scans old) turns.was))
      by_case (ReadsBlock scan next found reads turns only) = absurd (never_scans scan (at (Scans scan) turns.was))
      by_case (MarksRow scan id rest turns only) = absurd (never_marks scan (id ∷ rest) (at (Marks scan (id ∷ rest)) turns.was))
      by_case (Transacts counts resting few same) = absurd (busy resting)
      by_case _ = refl

  -- another session holds what a blocked statement waits for
  pub blocked_by : (task : Task) (blocked : IsBlocked w s task) → (n : ℕ) × IsHeldBy w (waits_for w s task blocked) n × (n ≢ s)
  blocked_by _ (SummariseLockHeld n held other) = (n, held, other)
  blocked_by _ (InsertWaits q b k r at x old new verdict) = swap_waits (index_view_at at w) s (range_in w at b) x old new q verdict
  blocked_by _ (SummariseWaits q job at range phase waits) = phase_wait_locked (index_view_at at w) s range phase q waits
  blocked_by _ (DesummariseWaits q only at range x verdict) = clear_waits (index_view_at at w) s range q x verdict
  blocked_by _ (SweepWaits at page locked) = locked

  no_wait : (range q : ℕ) (x : Spot) (at : ℕ) → IsPhaseWaiting (index_view_at at w) s range (NotBuilding (Held x)) q → ⊥
  no_wait range q x at waits = elim waits [ ]

  -- and that is one thing
  pub blocked_once : (task : Task) (one two : IsBlocked w s task) → waits_for w s task one ≡ waits_for w s task two
  blocked_once _ (SummariseLockHeld n held other) (SummariseLockHeld m held' other') = refl
  blocked_once _ (InsertWaits p b k r at x old new one) (InsertWaits q _ _ _ _ _ _ _ two) =
      ap (PageLock at) (waits_same p q (swap_once (index_view_at at w) s (range_in w at b) x old new (Waits p) (Waits q) one two))
  blocked_once _ (SummariseWaits p job at range phase one) (SummariseWaits q _ _ _ _ two) =
      ap (PageLock at) (phase_wait_once (index_view_at at w) s range phase p q one two)
  blocked_once _ (SummariseWaits p _ at range _ one) (DesummariseWaits q _ _ _ x two) = absurd (no_wait range p x at one)
  blocked_once _ (DesummariseWaits p only at range x one) (SummariseWaits q _ _ _ _ two) = absurd (no_wait range q x at two)
  blocked_once _ (DesummariseWaits p only at range x one) (DesummariseWaits q _ _ _ _ two) =
      ap (PageLock at) (waits_same p q (clear_once (index_view_at at w) s range x (Waits p) (Waits q) one two))
  blocked_once _ (SweepWaits at page locked) (SweepWaits _ _ locked') = refl
