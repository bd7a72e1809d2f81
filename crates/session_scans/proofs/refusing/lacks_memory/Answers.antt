use Rattle.std.proofs.Common.{◌≡◌, ◌+◌, ◌<◌, ◌≤◌, length, sym, ap, ◌∙◌, arith}
use Rattle.std.proofs.lemmas.Bool.{false≢true}
use Rattle.store_layout.specs.declared.limits.TheConstants.{MAX_ENTRIES}
use Rattle.bitmap_scan.specs.Finds.{FindHand}
use Rattle.session_parts.specs.declared.faults.StoreFault.TheVariants as stops
use Rattle.session_parts.specs.declared.hand.Stepped.TheVariants as stepped
use Rattle.session_parts.specs.declared.parts.Parts.{Parts}
use Rattle.session_scans.specs.ScanSteps.{parts_before}
use Rattle.session_scans.proofs.Behind.{refused_entered}
use Rattle.session_scans.proofs.InPlace.{has_scan, same_scan}
use Rattle.session_scans.proofs.Short.{is_spent, short_refused}
use Rattle.session_scans.proofs.Words.{hand_is, promised_is, scan_share}
use Rattle.session_scans.proofs.refusing.lacks_memory.Goals as goal

pub taken-requires : goal.taken-requires
taken-requires g c = has_scan c.args.looking c.args.hand.now c.requires.in_scan

pub returns-then-not-fits-clause-so : goal.returns-then-not-fits-clause-so
returns-then-not-fits-clause-so g c = λ scan is.
    let parts = c.args.parts.now in
    let may = c.requires.may scan is in
    let within-not = λ (within : length parts.journal.entries + 1 ≤ MAX_ENTRIES). false≢true (sym c.if-not-fits.true ∙ c.fits.ensures.1 within) in
    let full : MAX_ENTRIES < length parts.journal.entries + 1 = omega (arith, within-not) in
    let spent : c.spent.result ≡ stops.Spent (length parts.journal.entries) = c.spent.ensures ∙ ap (λ (p : Parts g.row.D.Denot). stops.Spent (length p.journal.entries)) (c.put_back.ensures.parts scan is) in
    is_spent g.D.Disk.told c.laws_of_looks.ensures (parts_before scan.judging.stage parts) c.args.session c.args.looking scan may.fit may.find may.fresh c.requires.ready full c.put_back.new.parts
    (stepped.Undone c.spent.result c.put_back.new.hand) (λ i. stepped.Undone (spent i) (c.put_back.ensures.hand scan is i)) (c.put_back.ensures.parts scan is)

pub returns-clause-so : goal.returns-clause-so
returns-clause-so g c = λ scan is.
    let parts = c.args.parts.now in
    let may = c.requires.may scan is in
    let same = same_scan c.args.looking c.args.hand.now c.taken.result scan c.taken.ensures.scan is in
    short_refused g.D.Disk.told c.laws_of_looks.ensures (parts_before scan.judging.stage parts) c.args.session c.args.looking scan may.fit may.find may.fresh c.requires.ready c.refuse_look.new.parts
    (stepped.Done c.refuse_look.result) (ap stepped.Done c.refuse_look.ensures.answer) c.refuse_look.ensures.failed
    (refused_entered parts.journal.entries c.release.new.self.entries c.refuse_look.new.parts.journal.entries c.args.session scan.judging.query c.into_query-query.result c.release.ensures.entries
    (c.into_query-query.ensures ∙ ap (λ (s : FindHand). s.judging.query) same) c.refuse_look.ensures.entries)
    c.refuse_look.ensures.rest (c.fits.ensures.0 c.if-not-fits.false) (scan_share scan.judging.stage) parts.journal.promised (hand_is c.args.looking scan scan.judging.stage).share
    (promised_is scan.judging.stage parts.journal.promised may.promised) (omega (arith, c.refuse_look.ensures.promised, c.release.ensures.promised))
