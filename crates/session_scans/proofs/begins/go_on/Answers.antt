use Rattle.std.proofs.Common.{refl, sym, subst}
use Rattle.session_parts.specs.declared.hand.Hand.{Hand}
use Rattle.session_parts.specs.Stepping.{IsFit, IsShown}
use Rattle.session_parts.specs.StepIs.{stepped_in}
use Rattle.session_parts.specs.UndoneLaws.{StepsSo}
use Rattle.session_scans.proofs.Begun.{refused_at_once}
use Rattle.session_scans.proofs.Mays.{later_so, may_go_on}
use Rattle.session_scans.proofs.begins.go_on.Goals as goal

pub returns-in-Err-clause-so : goal.returns-in-Err-clause-so
returns-in-Err-clause-so g c =
    refused_at_once g.D.Disk.told c.args.parts.now c.args.session c.args.hand.now c.requires.fit c.in-Err.error c.in-Err.ensures.reopen c.in-Err.ensures.outcome c.fault_of.result c.fault_of.ensures c.args.hand.now refl

pub scan_on-requires-clause-may : goal.scan_on-requires-clause-may
scan_on-requires-clause-may g c = λ scan is.
    may_go_on g.D.Disk.told c.args.parts.now c.args.session c.args.looking scan (subst (λ (h : Hand). IsFit g.D.Disk.told c.args.parts.now c.args.session h) is c.requires.fit)
    (subst (λ (h : Hand). IsShown g.D.Disk.told c.args.parts.now c.args.session h) is c.requires.shown)

pub returns-clause-so : goal.returns-clause-so
returns-clause-so g c =
    let told = g.D.Disk.told in
    let old = c.args.parts.now in
    let new = c.scan_on.new.parts in
    let answer = stepped_in c.scan_on.new.hand c.scan_on.result in
    let scan = c.requires.in_scan.0 in
    let is = c.requires.in_scan.1 in
    subst (λ (h : Hand). StepsSo told old new c.args.session h answer) (sym is)
    (later_so told old c.args.session c.args.looking scan (subst (λ (h : Hand). IsFit told old c.args.session h) is c.requires.fit) new answer (c.scan_on.ensures.so scan is))
