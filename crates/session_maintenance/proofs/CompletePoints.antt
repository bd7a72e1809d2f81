-- the name of a vacuum's step before an index
use Rattle.std.proofs.Common.{◌≡◌, ℕ, Bool, true, false, Some, refl, sym, ap, subst, ◌∙◌}
use Rattle.std.proofs.lemmas.Bool.{false≢true}
use Rattle.std.proofs.lemmas.Option.{none-some, same_Some}
use Rattle.block_model.specs.declared.reply.Point.{Point}
use Rattle.coverage.specs.Table.{Restarts, TableState, Task}
use Rattle.coverage.specs.TablePoints.{does_point}
use Rattle.coverage.specs.TableSteps.{AsksSummary, BeginsScan, Blocked, Conflicts, Does, InsertCompletes, InsertGoes, Judges, MaintainCompletes, MaintainGoes, MarksRow, PrunesBlock, PutsRow, ReadsBlock, RefusesInsert, RefusesMaintain, RefusesRow, RefusesScan, RefusesVacuum, RestartsIndex, SweepsPage, TakesLock, Transacts}
use Rattle.session_maintenance.proofs.UpkeepPoints.{IsPlain}

abbrev is_restarting : Task → Bool
is_restarting (Restarts at) = true
is_restarting task = false

module _ (s : ℕ) (w v : TableState) (point : Point) (at : ℕ) (was : w.task s ≡ Restarts at) where
  not_there : (task : Task) → w.task s ≡ task → is_restarting task ≡ false → ⊥
  not_there task is other = false≢true (sym other ∙ ap is_restarting (sym is ∙ was))

  pub restart_point : (does : Does s w v) → does_point s w v does ≡ Some point → IsPlain point
  restart_point (PutsRow b k r place turns takes) is = absurd (not_there _ turns.was refl)
  restart_point (RefusesRow t refused turns fails) is = absurd (none-some _ is)
  restart_point (AsksSummary b k r i turns only) is = absurd (not_there _ turns.was refl)
  restart_point (InsertGoes b k r i old new turns stepped step) is = absurd (not_there _ turns.was refl)
  restart_point (InsertCompletes b k r i old turns stepped step) is = absurd (not_there _ turns.was refl)
  restart_point (RefusesInsert b k r old refused turns fails) is = absurd (none-some _ is)
  restart_point (TakesLock first begins turns free held rows indexes) is = absurd (not_there _ turns.was refl)
  restart_point (MaintainGoes j i m old new turns stepped step) is = absurd (not_there _ turns.was refl)
  restart_point (MaintainCompletes j i m old turns stepped step) is = absurd (not_there _ turns.was refl)
  restart_point (RefusesMaintain j i m q refused turns stepped passes) is = absurd (none-some _ is)
  restart_point (RefusesVacuum old vacuuming turns given rows indexes) is = absurd (none-some _ is)
  restart_point (PrunesBlock extent next dropped inside spared turns drops) is = absurd (not_there _ turns.was refl)
  restart_point (SweepsPage i page turns stepped sweeps) is = absurd (not_there _ turns.was refl)
  restart_point (RestartsIndex i turns only) is = subst IsPlain (same_Some _ _ is) tt
  restart_point (BeginsScan scan begins turns only) is = absurd (not_there _ turns.was refl)
  restart_point (Judges old new inside low step turns only) is = absurd (not_there _ turns.was refl)
  restart_point (ReadsBlock scan next found reads turns only) is = absurd (not_there _ turns.was refl)
  restart_point (RefusesScan scan t turns how) is = absurd (none-some _ is)
  restart_point (MarksRow scan id rest turns only) is = absurd (not_there _ turns.was refl)
  restart_point (Conflicts scan id rest t turns fails) is = absurd (none-some _ is)
  restart_point (Blocked task blocked turns only) is = absurd (none-some _ is)
  restart_point (Transacts counts resting few same) is = absurd (none-some _ is)
