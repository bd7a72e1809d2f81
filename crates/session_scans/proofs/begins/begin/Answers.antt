use Rattle.std.proofs.Common.{sym, subst}
use Rattle.bitmap_scan.specs.Finds.{FindHand}
use Rattle.session_parts.specs.declared.hand.Stepped.{Stepped}
use Rattle.session_scans.specs.Looks.{first_hand_of}
use Rattle.session_scans.specs.ScanSteps.{MayScan, ScanStepsSo}
use Rattle.session_scans.proofs.Begun.{may_scan, passes_nothing, refused_at_once, scan_so, short_so}
use Rattle.session_scans.proofs.InPlace.{one_scan}
use Rattle.session_scans.proofs.begins.begin.Goals as goal

pub returns-in-Err-clause-so : goal.returns-in-Err-clause-so
returns-in-Err-clause-so g c =
    refused_at_once g.D.Disk.told c.args.parts.now c.args.session (first_hand_of c.args.looking c.args.query) c.requires.fit c.in-Err.error c.in-Err.ensures.reopen c.in-Err.ensures.outcome c.fault_of.result c.fault_of.ensures c.first_hand.result c.first_hand.ensures

pub scan_on-answer-requires-clause-may : goal.scan_on-answer-requires-clause-may
scan_on-answer-requires-clause-may g c = λ scan is.
    subst (λ (s : FindHand). MayScan g.D.Disk.told c.scan_for.new.parts c.args.session c.args.looking s) (one_scan c.args.looking c.scan_hand-hand.result c.in-Ok-scan_for.scan scan c.scan_hand-hand.ensures is)
    (may_scan g.D.Disk.told c.args.parts.now c.args.session c.args.looking c.args.query c.requires.fit c.scan_for.new.parts c.scan_for.ensures.entries c.scan_for.ensures.rest c.in-Ok-scan_for.ensures.promised
    c.in-Ok-scan_for.scan c.in-Ok-scan_for.ensures.begins c.requires.shown)

pub returns-in-Ok-scan_for-clause-so : goal.returns-in-Ok-scan_for-clause-so
returns-in-Ok-scan_for-clause-so g c =
    scan_so g.D.Disk.told c.args.parts.now c.args.session c.args.looking c.args.query c.requires.fit c.scan_for.new.parts c.scan_for.ensures.entries c.scan_for.ensures.rest c.in-Ok-scan_for.ensures.promised
    c.in-Ok-scan_for.scan c.in-Ok-scan_for.ensures.begins c.scan_on-answer.new.parts c.with_hand.result
    (subst (λ (a : Stepped). ScanStepsSo g.D.Disk.told c.scan_for.new.parts c.scan_on-answer.new.parts c.args.session c.args.looking c.in-Ok-scan_for.scan a) (sym c.with_hand.ensures)
    (c.scan_on-answer.ensures.so c.in-Ok-scan_for.scan c.scan_hand-hand.ensures))

pub returns-in-Err-scan_for-clause-so : goal.returns-in-Err-scan_for-clause-so
returns-in-Err-scan_for-clause-so g c =
    short_so g.D.Disk.told c.args.parts.now c.args.session c.args.looking c.args.query c.requires.fit c.scan_for.new.parts c.scan_for.ensures.entries c.scan_for.ensures.rest c.in-Err-scan_for.ensures.same
    c.in-Err-scan_for.query c.in-Err-scan_for.ensures.back c.lacks_memory_at_once.new.parts c.lacks_memory_at_once.result c.lacks_memory_at_once.ensures.so

pub returns-in-Err-scan_for-clause-survives : goal.returns-in-Err-scan_for-clause-survives
returns-in-Err-scan_for-clause-survives g c =
    passes_nothing g.D.Disk.told c.args.parts.now c.args.session c.scan_for.new.parts c.scan_for.ensures.rest c.lacks_memory_at_once.new.parts.pages c.lacks_memory_at_once.ensures.pages c.ready.ensures.stays
