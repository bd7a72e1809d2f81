use Rattle.session_parts.proofs.Undone.{fit_of_parts, fit_of_stores, refused_is_undone, spent_is_undone, steps_behind}
use Rattle.session_parts.proofs.laws_undone.an_undone_step_changes_nothing.Goals as goal

pub returns : goal.returns
returns g c = record {
  refused = refused_is_undone g.D.Disk.told;
  spent = spent_is_undone g.D.Disk.told;
  behind = steps_behind g.D.Disk.told;
  parts = fit_of_parts g.D.Disk.told;
  stores = fit_of_stores g.D.Disk.told;
}
