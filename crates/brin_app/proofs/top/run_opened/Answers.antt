use Rattle.std.proofs.Common.{refl, sym, ◌∙◌, subst}
use Rattle.block_model.specs.Causes.{Rose}
use Rattle.brin_app.proofs.Known.{exit_known, same_status}
use Rattle.brin_app.proofs.Outputs.{read_ended, write_ended}
use Rattle.brin_app.proofs.Running.{damage_cause, disk_cause, no_other, script_run}
use Rattle.brin_app.proofs.top.run_opened.Goals as goal

pub returns-clause-disk_fault : goal.returns-clause-disk_fault
returns-clause-disk_fault g c = λ six ready.
    subst (λ (d : _). Rose (g.D.Disk.told c.args.store.pages.disk).faults (g.D.Disk.told d).faults) (sym c.into_disk.ensures)
    (disk_cause g.D.Disk.told _ c.run-end.new.engine c.run-end.result _ _ _ _ c.run-end.ensures.ran (sym c.status.ensures ∙ six) ready)

pub returns-clause-damaged : goal.returns-clause-damaged
returns-clause-damaged g c = λ eleven. damage_cause g.D.Disk.told _ c.run-end.new.engine c.run-end.result _ _ _ _ c.run-end.ensures.ran (sym c.status.ensures ∙ eleven)

pub returns-clause-read_fault : goal.returns-clause-read_fault
returns-clause-read_fault g c = read_ended c.run-end.result c.status.result _ c.status.ensures c.run-end.ensures.read

pub returns-clause-write_fault : goal.returns-clause-write_fault
returns-clause-write_fault g c = write_ended c.run-end.result c.status.result _ c.status.ensures c.run-end.ensures.write

pub returns-clause-known : goal.returns-clause-known
returns-clause-known g c = same_status c.status.result _ c.status.ensures (exit_known c.run-end.result)

pub returns-clause-runs : goal.returns-clause-runs
returns-clause-runs g c = λ start tells ready shown all.
    script_run g.D.Disk.told c.args.store start _ c.run-end.new.engine c.run-end.result _ _ _ _ c.run-end.ensures.ran c.status.result c.into_disk.result refl c.into_disk.ensures c.status.ensures
    tells ready shown all

pub returns-clause-others : goal.returns-clause-others
returns-clause-others g c = no_other c.run-end.result c.status.result c.status.ensures
