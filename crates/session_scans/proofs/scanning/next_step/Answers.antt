use Rattle.std.proofs.Common.{◌+◌, ◌<◌, ◌≤◌, length, sym, ap, ◌∙◌, arith}
use Rattle.std.proofs.lemmas.Bool.{false≢true}
use Rattle.store_layout.specs.declared.limits.TheConstants.{MAX_ENTRIES}
use Rattle.page_locks.specs.declared.did.Did.TheVariants as did
use Rattle.tx_table.proofs.Parts.{before_then}
use Rattle.session_parts.specs.StoreFaults.{fault_of}
use Rattle.session_scans.proofs.Machine.{IsDamagedThere, made_behind, may_then, names_there, next_then, refused_by_pages, refused_read, spent_there}
use Rattle.session_scans.proofs.scanning.next_step.Goals as goal

pub step_on-requires-in-Ok-false-clause-may : goal.step_on-requires-in-Ok-false-clause-may
step_on-requires-in-Ok-false-clause-may g c =
    may_then g.D.Disk.told c.laws_of_looks.ensures c.args.parts.now c.args.session c.args.looking c.args.scan.now c.requires.may c.requires.ready c.peek.new.pages c.peek.ensures.kept c.peek.new.self c.peek.ensures.same

pub step_on-requires-in-Ok-false-clause-ahead : goal.step_on-requires-in-Ok-false-clause-ahead
step_on-requires-in-Ok-false-clause-ahead g c = λ full.
    next_then g.D.Disk.told c.laws_of_looks.ensures c.args.parts.now c.args.session c.args.looking c.args.scan.now c.requires.may c.requires.ready c.peek.new.pages c.peek.ensures.kept c.peek.new.self c.peek.ensures.same did.Moved
    (c.in-Ok-false.ensures.goes c.in-Ok-false.field-0-test)

pub returns-in-Ok-true-clause-so : goal.returns-in-Ok-true-clause-so
returns-in-Ok-true-clause-so g c =
    let parts = c.args.parts.now in
    let within-not = λ (within : length parts.journal.entries + 1 ≤ MAX_ENTRIES). false≢true (sym c.if-fits.false ∙ c.fits.ensures.1 within) in
    let full : MAX_ENTRIES < length parts.journal.entries + 1 = omega (arith, within-not) in (
      c.peek.ensures.same,
      spent_there g.D.Disk.told c.laws_of_looks.ensures parts c.args.session c.args.looking c.args.scan.now c.requires.may c.requires.ready c.peek.new.pages c.peek.ensures.kept
          c.spent.result full c.in-Ok-true.ensures.outcome.1 c.spent.ensures,
    )

pub returns-in-Ok-false-clause-so : goal.returns-in-Ok-false-clause-so
returns-in-Ok-false-clause-so g c =
    made_behind g.D.Disk.told c.laws_of_looks.ensures c.args.parts.now c.args.session c.args.looking c.args.scan.now c.requires.may c.requires.ready c.peek.new.pages c.peek.ensures.kept c.peek.new.self c.peek.ensures.same
    c.in-Ok-false.ensures.outcome.1 c.step_on-in-Ok-false.new.parts c.step_on-in-Ok-false.new.scan c.step_on-in-Ok-false.result c.step_on-in-Ok-false.ensures.so

pub returns-in-Ok-false-clause-survives : goal.returns-in-Ok-false-clause-survives
returns-in-Ok-false-clause-survives g c =
    before_then g.D.Disk.told c.args.parts.now.pages c.peek.new.pages c.step_on-in-Ok-false.new.parts.pages c.peek.ensures.kept c.peek.ensures.survives c.step_on-in-Ok-false.ensures.survives

pub returns-in-Err-Store-clause-so : goal.returns-in-Err-Store-clause-so
returns-in-Err-Store-clause-so g c = (
  c.peek.ensures.same,
  refused_by_pages g.D.Disk.told c.laws_of_looks.ensures c.args.parts.now c.args.session c.args.looking c.args.scan.now c.requires.may c.requires.ready c.peek.new.pages c.peek.ensures.kept
      c.fault_of.result c.a_kept_table_is_scanned.ensures c.known.ensures.hand c.in-Err-Store.error (c.fault_of.ensures ∙ ap fault_of c.in-Err-Store.error-is)
      (refused_read g.D.Disk.told (IsDamagedThere g.D.Disk.told c.args.parts.now c.args.scan.now) c.args.parts.now.pages c.peek.new.pages c.in-Err-Store.error c.in-Err-Store.field-0 c.in-Err-Store.field-0-is c.in-Err-Store.ensures.outcome)
      (names_there c.args.parts.now.pages.layout c.args.scan.now c.args.scan.now.next c.in-Err-Store.error c.in-Err-Store.field-0 c.in-Err-Store.field-0-is c.in-Err-Store.ensures.names),
)
