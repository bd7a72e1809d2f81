use Rattle.page_locks.specs.declared.did.Did.TheVariants as did
use Rattle.session_scans.proofs.Finished.{finished_so}
use Rattle.session_scans.proofs.Machine.{IsDamagedThere, did_scan, done_well, goes_on, names_there, refused_by_pages, refused_there, remembered_by, runs_short, short_well}
use Rattle.session_scans.proofs.scanning.step_on.Goals as goal

pub step-requires-clause-remembers : goal.step-requires-clause-remembers
step-requires-clause-remembers g c =
    remembered_by g.D.Disk.told c.laws_of_looks.ensures c.args.parts.now c.args.session c.args.looking c.args.scan.now c.requires.may c.requires.ready c.open-open.result.now c.open-open.ensures c.tx.result.now c.tx.ensures

pub returns-in-Ok-Moved-clause-so : goal.returns-in-Ok-Moved-clause-so
returns-in-Ok-Moved-clause-so g c =
    goes_on g.D.Disk.told c.laws_of_looks.ensures c.args.parts.now c.args.session c.args.looking c.args.scan.now c.requires.may c.requires.ready c.step.new.pages c.step.ensures.kept c.open-open.result.now c.open-open.ensures
    c.step.new.self c.in-Ok-Moved.point
    (did_scan g.D.Disk.told c.args.parts.now c.step.new.pages c.open-open.result.now c.args.scan.now c.step.new.self c.in-Ok-Moved.field-0 c.tx.result.now c.tx.ensures (did.Moved c.in-Ok-Moved.point) c.in-Ok-Moved.field-0-is
    (record { stepped = c.in-Ok-Moved.ensures.stepped; rows = c.in-Ok-Moved.ensures.rows; remembers = c.step.ensures.remembers }) c.in-Ok-Moved.ensures.point c.in-Ok-Moved.ensures.begun c.step.ensures.scan c.step.ensures.query
    (done_well g.D.Disk.told (IsDamagedThere g.D.Disk.told c.args.parts.now c.args.scan.now) c.args.parts.now.pages c.step.new.pages c.args.scan.now.next c.in-Ok-Moved.field-0 c.in-Ok-Moved.ensures.outcome))

pub returns-in-Ok-Finished-clause-so : goal.returns-in-Ok-Finished-clause-so
returns-in-Ok-Finished-clause-so g c = λ answer then finishes.
    finished_so g.D.Disk.told c.laws_of_looks.ensures c.args.parts.now c.step.new.pages c.args.session c.args.looking c.args.scan.now c.requires.may c.open-open.result.now c.open-open.ensures c.step.ensures.kept c.step.new.self
    c.in-Ok-Finished.point
    (did_scan g.D.Disk.told c.args.parts.now c.step.new.pages c.open-open.result.now c.args.scan.now c.step.new.self c.in-Ok-Finished.field-0 c.tx.result.now c.tx.ensures (did.Finished c.in-Ok-Finished.point) c.in-Ok-Finished.field-0-is
    (record { stepped = c.in-Ok-Finished.ensures.stepped; rows = c.in-Ok-Finished.ensures.rows; remembers = c.step.ensures.remembers }) c.in-Ok-Finished.ensures.point c.in-Ok-Finished.ensures.begun c.step.ensures.scan c.step.ensures.query
    (done_well g.D.Disk.told (IsDamagedThere g.D.Disk.told c.args.parts.now c.args.scan.now) c.args.parts.now.pages c.step.new.pages c.args.scan.now.next c.in-Ok-Finished.field-0 c.in-Ok-Finished.ensures.outcome))
    c.known-in-Ok-Finished.ensures.order c.known-in-Ok-Finished.ensures.within c.requires.ahead answer then finishes

pub returns-in-Err-Memory-clause-so : goal.returns-in-Err-Memory-clause-so
returns-in-Err-Memory-clause-so g c =
    runs_short g.D.Disk.told c.laws_of_looks.ensures c.args.parts.now c.args.session c.args.looking c.args.scan.now c.requires.may c.requires.ready c.step.new.pages c.step.ensures.kept c.step.new.self c.in-Err-Memory.ensures.same
    (short_well g.D.Disk.told (IsDamagedThere g.D.Disk.told c.args.parts.now c.args.scan.now) c.args.parts.now.pages c.step.new.pages c.args.scan.now.next c.in-Err-Memory.field-0 c.in-Err-Memory.field-0-is c.in-Err-Memory.ensures.outcome).1

pub returns-in-Err-Store-clause-so : goal.returns-in-Err-Store-clause-so
returns-in-Err-Store-clause-so g c = (
  c.in-Err-Store.ensures.same,
  refused_by_pages g.D.Disk.told c.laws_of_looks.ensures c.args.parts.now c.args.session c.args.looking c.args.scan.now c.requires.may c.requires.ready c.step.new.pages c.step.ensures.kept
      c.fault_of.result c.a_kept_table_is_scanned.ensures c.known.ensures.hand c.in-Err-Store.error c.fault_of.ensures
      (refused_there g.D.Disk.told (IsDamagedThere g.D.Disk.told c.args.parts.now c.args.scan.now) c.args.parts.now.pages c.step.new.pages c.args.scan.now.next c.in-Err-Store.error c.in-Err-Store.field-0 c.in-Err-Store.field-0-is c.in-Err-Store.ensures.outcome)
      (names_there c.args.parts.now.pages.layout c.args.scan.now c.args.scan.now.next c.in-Err-Store.error c.in-Err-Store.field-0 c.in-Err-Store.field-0-is c.in-Err-Store.ensures.names),
)
