use Rattle.std.proofs.Common.{ap, sym, subst}
use Rattle.disk_trait.specs.Told.{Told}
use Rattle.session_stepper.specs.NamedTold.{told_to}
use Rattle.brin_app.specs.Threads.{IsGivenStored}
use Rattle.brin_app.proofs.Named.{as_named, done_unnamed, faults_named, given_image, image_named, worked_unnamed}
use Rattle.brin_app.proofs.threads.run_stored_threads.Goals as goal

pub open_and_work-status-requires-clause-image : goal.open_and_work-status-requires-clause-image
open_and_work-status-requires-clause-image g c κs within =
    let told = g.D.Disk.told in
    let speaks = g.N.Names.honest in
    image_named speaks (told c.args.disk) _ (ap (λ d. told_to speaks (told d)) c.new-disk.ensures)
    (λ honest. given_image c.one_layout.ensures c.each_image_opens_to_one_map.ensures (told c.args.disk) _ _ _ _ (c.requires.given honest))

pub open_and_work-status-requires-clause-faults : goal.open_and_work-status-requires-clause-faults
open_and_work-status-requires-clause-faults g c κs within =
    let told = g.D.Disk.told in
    let speaks = g.N.Names.honest in
    faults_named speaks (told c.args.disk) _ (ap (λ d. told_to speaks (told d)) c.new-disk.ensures) _ c.requires.faults

pub open_and_work-status-requires-clause-given : goal.open_and_work-status-requires-clause-given
open_and_work-status-requires-clause-given g c κs within honest =
    let told = g.D.Disk.told in
    let speaks = g.N.Names.honest in
    subst (λ (d : Told). IsGivenStored d (g.S.Source.left c.args.source.now) g.N.Names.opening g.N.Names.layout g.N.Names.script)
    (sym (as_named speaks (told c.args.disk) _ (ap (λ d. told_to speaks (told d)) c.new-disk.ensures) honest)) (c.requires.given honest)

pub returns-clause-done : goal.returns-clause-done
returns-clause-done g c =
    let told = g.D.Disk.told in
    let speaks = g.N.Names.honest in
    done_unnamed _ _ _ _ _ speaks (told c.args.disk) (told c.into_inner.result) _ _ (ap (λ d. told_to speaks (told d)) c.new-disk.ensures) (ap (λ d. told_to speaks (told d)) (sym c.into_inner.ensures))
    c.open_and_work-status.ensures.done

pub returns-clause-threads : goal.returns-clause-threads
returns-clause-threads g c = λ honest.
    let told = g.D.Disk.told in
    let speaks = g.N.Names.honest in
    worked_unnamed _ _ _ _ _ (told c.args.disk) (told c.into_inner.result) _ _ (as_named speaks (told c.args.disk) _ (ap (λ d. told_to speaks (told d)) c.new-disk.ensures) honest)
    (as_named speaks (told c.into_inner.result) _ (ap (λ d. told_to speaks (told d)) (sym c.into_inner.ensures)) honest) _ _ _ (c.open_and_work-status.ensures.threads honest)
