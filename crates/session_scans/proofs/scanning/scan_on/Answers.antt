use Rattle.std.proofs.Common.{sym, ap, subst}
use Rattle.page_store.specs.Survives.{Survives}
use Rattle.page_map.specs.PageMap.{View}
use Rattle.tx_table.specs.Durable.{IsBefore}
use Rattle.session_parts.specs.declared.parts.Parts.{Parts}
use Rattle.session_parts.specs.StepIs.{stepped_in}
use Rattle.session_scans.proofs.Finished.{finished_pages}
use Rattle.session_scans.proofs.InPlace.{finished_in, may_still_in, moved_in, short_in, still_in, still_ready, undone_in}
use Rattle.session_scans.proofs.scanning.scan_on.Goals as goal

pub finish-requires-clause-in_scan : goal.finish-requires-clause-in_scan
finish-requires-clause-in_scan g c =
    still_in g.D.Disk.told c.args.parts.now c.step_in.new.parts c.args.session c.args.looking c.args.hand.now c.step_in.new.hand c.step_in.result c.step_in.ensures.so c.requires.in_scan

pub lacks_memory-requires-clause-in_scan : goal.lacks_memory-requires-clause-in_scan
lacks_memory-requires-clause-in_scan g c =
    still_in g.D.Disk.told c.args.parts.now c.step_in.new.parts c.args.session c.args.looking c.args.hand.now c.step_in.new.hand c.step_in.result c.step_in.ensures.so c.requires.in_scan

pub lacks_memory-requires-clause-may : goal.lacks_memory-requires-clause-may
lacks_memory-requires-clause-may g c =
    may_still_in g.D.Disk.told c.args.parts.now c.step_in.new.parts c.args.session c.args.looking c.args.hand.now c.step_in.new.hand c.step_in.result c.step_in.ensures.so c.in-Short.is c.requires.in_scan

pub lacks_memory-requires-clause-ready : goal.lacks_memory-requires-clause-ready
lacks_memory-requires-clause-ready g c =
    still_ready g.D.Disk.told c.args.parts.now c.step_in.new.parts c.args.session c.args.looking c.args.hand.now c.step_in.new.hand c.step_in.result c.step_in.ensures.so c.in-Short.is c.requires.in_scan

pub put_back-requires-clause-in_scan : goal.put_back-requires-clause-in_scan
put_back-requires-clause-in_scan g c =
    still_in g.D.Disk.told c.args.parts.now c.step_in.new.parts c.args.session c.args.looking c.args.hand.now c.step_in.new.hand c.step_in.result c.step_in.ensures.so c.requires.in_scan

pub returns-in-Moved-clause-so : goal.returns-in-Moved-clause-so
returns-in-Moved-clause-so g c =
    moved_in g.D.Disk.told c.args.parts.now c.step_in.new.parts c.args.session c.args.looking c.args.hand.now c.step_in.new.hand c.step_in.result c.step_in.ensures.so c.in-Moved.point c.in-Moved.is

pub returns-in-Finished-clause-so : goal.returns-in-Finished-clause-so
returns-in-Finished-clause-so g c =
    finished_in g.D.Disk.told c.args.parts.now c.step_in.new.parts c.args.session c.args.looking c.args.hand.now c.step_in.new.hand c.step_in.result c.step_in.ensures.so c.in-Finished.point c.in-Finished.is
    c.finish.new.parts (stepped_in c.finish.new.hand c.finish.result) c.finish.ensures

pub returns-in-Finished-clause-survives : goal.returns-in-Finished-clause-survives
returns-in-Finished-clause-survives g c =
    let it = c.step_in.ensures.so c.requires.in_scan.0 c.requires.in_scan.1 in
    subst (λ (v : View g.row.D.Denot). Survives g.D.Disk.told (IsBefore c.args.parts.now.pages) c.args.parts.now.pages v)
    (sym (finished_pages c.step_in.new.parts c.args.session c.args.looking it.0.judging.query it.0.found c.in-Finished.point (stepped_in c.finish.new.hand c.finish.result) c.finish.new.parts (c.finish.ensures it.0 it.1)))
    c.step_in.ensures.survives

pub returns-in-Short-clause-so : goal.returns-in-Short-clause-so
returns-in-Short-clause-so g c =
    short_in g.D.Disk.told c.args.parts.now c.step_in.new.parts c.args.session c.args.looking c.args.hand.now c.step_in.new.hand c.step_in.result c.step_in.ensures.so c.in-Short.is
    c.lacks_memory.new.parts (stepped_in c.lacks_memory.new.hand c.lacks_memory.result) c.lacks_memory.ensures.so

pub returns-in-Undone-clause-so : goal.returns-in-Undone-clause-so
returns-in-Undone-clause-so g c =
    undone_in g.D.Disk.told c.args.parts.now c.step_in.new.parts c.args.session c.args.looking c.args.hand.now c.step_in.new.hand c.step_in.result c.step_in.ensures.so c.in-Undone.fault c.in-Undone.is
    c.put_back.new.parts c.put_back.new.hand c.put_back.ensures.hand c.put_back.ensures.parts

pub returns-in-Undone-clause-survives : goal.returns-in-Undone-clause-survives
returns-in-Undone-clause-survives g c =
    let it = c.step_in.ensures.so c.requires.in_scan.0 c.requires.in_scan.1 in
    subst (λ (v : View g.row.D.Denot). Survives g.D.Disk.told (IsBefore c.args.parts.now.pages) c.args.parts.now.pages v)
    (sym (ap (λ (p : Parts g.row.D.Denot). p.pages) (c.put_back.ensures.parts it.0 it.1))) c.step_in.ensures.survives
