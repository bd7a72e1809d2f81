use Rattle.std.proofs.Common.{refl, sym, ◌∙◌, subst}
use Rattle.block_model.specs.Causes.{Rose}
use Rattle.brin_app.proofs.DemoRuns.{demo_damage_cause, demo_disk_cause, demo_run, no_demo_other}
use Rattle.brin_app.proofs.Known.{exit_known, same_status}
use Rattle.brin_app.proofs.Outputs.{write_ended}
use Rattle.brin_app.proofs.demo.demo_over.Goals as goal

pub returns-clause-known : goal.returns-clause-known
returns-clause-known g c = same_status c.status.result _ c.status.ensures (exit_known c.sum_up-end.result)

pub returns-clause-runs : goal.returns-clause-runs
returns-clause-runs g c = λ start tells ready shown all.
    demo_run g.D.Disk.told c.args.store start c.args.numbers.seed c.args.numbers.rows _ c.sum_up-end.new.sessions c.sum_up-end.result _ _ c.sum_up-end.ensures.sums c.status.result c.into_disk.result refl
    c.into_disk.ensures c.status.ensures tells ready shown all

pub returns-clause-write_fault : goal.returns-clause-write_fault
returns-clause-write_fault g c = write_ended c.sum_up-end.result c.status.result _ c.status.ensures c.sum_up-end.ensures.cause

pub returns-clause-disk_fault : goal.returns-clause-disk_fault
returns-clause-disk_fault g c = λ six ready.
    subst (λ (d : _). Rose (g.D.Disk.told c.args.store.pages.disk).faults (g.D.Disk.told d).faults) (sym c.into_disk.ensures)
    (demo_disk_cause g.D.Disk.told c.args.numbers.seed c.args.numbers.rows _ c.sum_up-end.new.sessions _ _ c.sum_up-end.result c.sum_up-end.ensures.sums (sym c.status.ensures ∙ six) ready)

pub returns-clause-damaged : goal.returns-clause-damaged
returns-clause-damaged g c = λ eleven.
    demo_damage_cause g.D.Disk.told c.args.numbers.seed c.args.numbers.rows _ c.sum_up-end.new.sessions _ _ c.sum_up-end.result c.sum_up-end.ensures.sums (sym c.status.ensures ∙ eleven)

pub returns-clause-others : goal.returns-clause-others
returns-clause-others g c = no_demo_other g.D.Disk.told c.args.numbers.seed c.args.numbers.rows _ c.sum_up-end.new.sessions _ _ c.sum_up-end.result c.status.result c.sum_up-end.ensures.sums c.status.ensures
