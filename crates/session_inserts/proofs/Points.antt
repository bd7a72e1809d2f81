-- the name of a step of an insert, and where it comes
use Rattle.std.proofs.Common.{◌≡◌, ⊎_elim, ℕ, Bool, true, false, None, Some, refl, sym, ap, subst, ◌∙◌}
use Rattle.std.proofs.lemmas.Bool.{false≢true}
use Rattle.std.proofs.lemmas.Option.{none-some, same_Some}
use Rattle.block_model.specs.declared.reply.Point.{Point}
use Rattle.block_model.specs.declared.reply.Point.TheVariants as points
use Rattle.block_model.specs.declared.row.Row.{Row}
use Rattle.coverage.specs.IndexView.{IndexView}
use Rattle.coverage.specs.Points.{insert_point, on_index_point}
use Rattle.coverage.specs.Statements.{OnIndex, Statement}
use Rattle.coverage.specs.Steps.{Again, Gone, InsertCopies, InsertDrop, InsertNoEntry, InsertOnIndex, InsertSet, InsertStep, InsertSwap, InsertUnchanged, Maps, MovePut, OnIndexStep}
use Rattle.coverage.specs.GoingOn.{IsInserting}
use Rattle.coverage.specs.Table.{Asks, Inserts, Reaches, Resting, TableState, Task}
use Rattle.coverage.specs.TablePoints.{does_point}
use Rattle.coverage.specs.TableSteps.{AsksSummary, BeginsScan, Blocked, Conflicts, Does, InsertCompletes, InsertGoes, Judges, MaintainCompletes, MaintainGoes, MarksRow, PrunesBlock, PutsRow, ReadsBlock, RefusesInsert, RefusesMaintain, RefusesRow, RefusesScan, RefusesVacuum, RestartsIndex, SweepsPage, TakesLock, Transacts}

-- a name under which nothing is entered and nothing is pruned
abbrev pub IsPlain : Point → Type 0
IsPlain points.Row = ⊥
IsPlain points.Mark = ⊥
IsPlain points.Prune = ⊥
IsPlain point = Unit {0}

on_index_plain : {s range : ℕ} {w v : IndexView} {old new : OnIndex} (step : OnIndexStep s range w v old new) → IsPlain (on_index_point step)
on_index_plain (Maps x named reads) = tt
on_index_plain (Gone x gone reads) = tt
on_index_plain (Again x old new verdict reads) = tt
on_index_plain (MovePut x y old new verdict puts these) = tt

insert_plain : {s b k : ℕ} {r : Row} {w v : IndexView} {old : OnIndex} {new : Statement} (step : InsertStep s b k r w v old new) → IsPlain (insert_point step)
insert_plain (InsertOnIndex old new step) = on_index_plain step
insert_plain (InsertNoEntry none reads) = tt
insert_plain (InsertCopies x old new stands added changes reads) = tt
insert_plain (InsertUnchanged x t stands added free reads) = tt
insert_plain (InsertSwap x old new verdict swap) = tt
insert_plain (InsertSet x y old new sets same) = tt
insert_plain (InsertDrop x drops) = tt

abbrev pub is_at_index : Task → Bool
is_at_index (Asks b k r at) = true
is_at_index (Inserts b k r at on_index) = true
is_at_index task = false

inserts_there : (task : Task) → IsInserting task → is_at_index task ≡ true
inserts_there (Asks b k r at) inserting = refl
inserts_there (Inserts b k r at on_index) inserting = refl
inserts_there task inserting = absurd inserting

abbrev is_resting : Task → Bool
is_resting Resting = true
is_resting task = false

module _ (s : ℕ) (w v : TableState) (point : Point) where
  module _ (was : IsInserting (w.task s)) where
    not_there : (task : Task) → w.task s ≡ task → is_at_index task ≡ false → ⊥
    not_there task is other = false≢true (sym other ∙ ap is_at_index (sym is) ∙ inserts_there (w.task s) was)

    -- at an index
    pub index_point : (does : Does s w v) → does_point s w v does ≡ Some point → IsPlain point
    index_point (PutsRow c j q place turns takes) is = absurd (not_there _ turns.was refl)
    index_point (RefusesRow t refused turns fails) is = absurd (none-some _ is)
    index_point (AsksSummary c j q i turns only) is = subst IsPlain (same_Some _ _ is) tt
    index_point (InsertGoes c j q i old new turns stepped step) is = subst IsPlain (same_Some _ _ is) (insert_plain step)
    index_point (InsertCompletes c j q i old turns stepped step) is = subst IsPlain (same_Some _ _ is) (insert_plain step)
    index_point (RefusesInsert c j q old refused turns fails) is = absurd (none-some _ is)
    index_point (TakesLock first begins turns free held rows indexes) is = absurd (not_there _ turns.was refl)
    index_point (MaintainGoes job i range old new turns stepped step) is = absurd (not_there _ turns.was refl)
    index_point (MaintainCompletes job i range old turns stepped step) is = absurd (not_there _ turns.was refl)
    index_point (RefusesMaintain job i range phase refused turns stepped passes) is = absurd (none-some _ is)
    index_point (RefusesVacuum old vacuuming turns given rows indexes) is = absurd (none-some _ is)
    index_point (PrunesBlock extent next dropped inside spared turns drops) is = absurd (not_there _ turns.was refl)
    index_point (SweepsPage i page turns stepped sweeps) is = absurd (not_there _ turns.was refl)
    index_point (RestartsIndex i turns only) is = absurd (not_there _ turns.was refl)
    index_point (BeginsScan scan begins turns only) is = absurd (not_there _ turns.was refl)
    index_point (Judges old new inside low step turns only) is = absurd (not_there _ turns.was refl)
    index_point (ReadsBlock scan next found reads turns only) is = absurd (not_there _ turns.was refl)
    index_point (RefusesScan scan t turns how) is = absurd (none-some _ is)
    index_point (MarksRow scan id rest turns only) is = absurd (not_there _ turns.was refl)
    index_point (Conflicts scan id rest t turns fails) is = absurd (none-some _ is)
    index_point (Blocked task blocked turns only) is = absurd (none-some _ is)
    index_point (Transacts counts resting few same) is = absurd (none-some _ is)

  -- a row comes to a free slot by a session that is at nothing: so its insert begins
  module _ (b k : ℕ) (r : Row) (was : w.task s ≡ Resting) (free : w.row b k ≡ None) (now : v.row b k ≡ Some r) where
    not_here : (task : Task) → w.task s ≡ task → is_resting task ≡ false → ⊥
    not_here task is other = false≢true (sym other ∙ ap is_resting (sym is ∙ was))

    comes : v.row b k ≡ w.row b k → ⊥
    comes same = none-some r (sym (same ∙ free) ∙ now)

    abbrev Begun : Type 0
    Begun = (v.task s ≡ Reaches b k r 0) × (point ≡ points.Row)

    put_there : (c j : ℕ) (q : Row) → v.task s ≡ Reaches c j q 0 → v.row c j ≡ Some q → (b ≡ c) × (k ≡ j) → v.task s ≡ Reaches b k r 0
    put_there c j q at is there =
        let same : q ≡ r = same_Some q r (sym is ∙ ap (λ (i : ℕ). v.row i j) (sym there.0) ∙ ap (λ (i : ℕ). v.row b i) (sym there.1) ∙ now) in
        at ∙ ap (λ (i : ℕ). Reaches i j q 0) (sym there.0) ∙ ap (λ (i : ℕ). Reaches b i q 0) (sym there.1) ∙ ap (λ (row : Row). Reaches b k row 0) same

    pub row_point : (does : Does s w v) → does_point s w v does ≡ Some point → Begun
    row_point (PutsRow c j q place turns takes) is =
        (⊎_elim (λ (there : (b ≡ c) × (k ≡ j)). put_there c j q turns.now takes.now there) (λ (same : v.row b k ≡ w.row b k). absurd (comes same)) (takes.others b k), sym (same_Some _ _ is))
    row_point (RefusesRow t refused turns fails) is = absurd (none-some _ is)
    row_point (AsksSummary c j q i turns only) is = absurd (not_here _ turns.was refl)
    row_point (InsertGoes c j q i old new turns stepped step) is = absurd (not_here _ turns.was refl)
    row_point (InsertCompletes c j q i old turns stepped step) is = absurd (not_here _ turns.was refl)
    row_point (RefusesInsert c j q old refused turns fails) is = absurd (none-some _ is)
    row_point (TakesLock first begins turns given held rows indexes) is = absurd (comes (rows.row b k))
    row_point (MaintainGoes job i range old new turns stepped step) is = absurd (not_here _ turns.was refl)
    row_point (MaintainCompletes job i range old turns stepped step) is = absurd (not_here _ turns.was refl)
    row_point (RefusesMaintain job i range phase refused turns stepped passes) is = absurd (none-some _ is)
    row_point (RefusesVacuum old vacuuming turns given rows indexes) is = absurd (none-some _ is)
    row_point (PrunesBlock extent next dropped inside spared turns drops) is = absurd (not_here _ turns.was refl)
    row_point (SweepsPage i page turns stepped sweeps) is = absurd (not_here _ turns.was refl)
    row_point (RestartsIndex i turns only) is = absurd (not_here _ turns.was refl)
    row_point (BeginsScan scan begins turns only) is = absurd (comes (only.rows.row b k))
    row_point (Judges old new inside low step turns only) is = absurd (not_here _ turns.was refl)
    row_point (ReadsBlock scan next found reads turns only) is = absurd (not_here _ turns.was refl)
    row_point (RefusesScan scan t turns how) is = absurd (none-some _ is)
    row_point (MarksRow scan id rest turns only) is = absurd (not_here _ turns.was refl)
    row_point (Conflicts scan id rest t turns fails) is = absurd (none-some _ is)
    row_point (Blocked task blocked turns only) is = absurd (none-some _ is)
    row_point (Transacts counts resting few same) is = absurd (none-some _ is)
