use Rattle.std.proofs.Common.{◌∙◌}
use Rattle.session_parts.specs.declared.hand.Hand.TheVariants as hands
use Rattle.session_scans.proofs.InPlace.{does_in, of_delete, of_select}
use Rattle.session_scans.proofs.scanning.step_in.Goals as goal

pub returns-in-Selects-clause-so : goal.returns-in-Selects-clause-so
returns-in-Selects-clause-so g c =
    let here = of_select c.args.looking c.args.hand.now c.in-Selects.scan c.requires.in_scan c.in-Selects.is in
    does_in g.D.Disk.told c.args.parts.now c.next_step.new.parts c.args.session c.args.looking c.args.hand.now (hands.Selects c.next_step.new.scan) c.in-Selects.scan c.next_step.new.scan c.next_step.result
    (c.in-Selects.is ∙ here c.in-Selects.scan) (here c.next_step.new.scan) c.next_step.ensures.so

pub returns-in-Deletes-clause-so : goal.returns-in-Deletes-clause-so
returns-in-Deletes-clause-so g c =
    let here = of_delete c.args.looking c.args.hand.now c.in-Deletes.scan c.requires.in_scan c.in-Deletes.is in
    does_in g.D.Disk.told c.args.parts.now c.next_step-in-Deletes.new.parts c.args.session c.args.looking c.args.hand.now (hands.Deletes c.next_step-in-Deletes.new.scan) c.in-Deletes.scan
    c.next_step-in-Deletes.new.scan c.next_step-in-Deletes.result (c.in-Deletes.is ∙ here c.in-Deletes.scan) (here c.next_step-in-Deletes.new.scan) c.next_step-in-Deletes.ensures.so
