use Rattle.std.proofs.Common.{◌+◌, ◌<◌, ◌≤◌, length, refl, sym, ap, ◌∙◌, arith}
use Rattle.std.proofs.lemmas.Bool.{false≢true}
use Rattle.store_layout.specs.declared.limits.TheConstants.{MAX_ENTRIES}
use Rattle.session_parts.specs.declared.faults.StoreFault.{StoreFault}
use Rattle.session_parts.specs.declared.faults.StoreFault.TheVariants as stops
use Rattle.session_parts.specs.declared.hand.Stepped.TheVariants as stepped
use Rattle.session_scans.proofs.Mays.{before_first, is_find}
use Rattle.session_scans.proofs.Short.{is_spent, short_refused}
use Rattle.session_scans.proofs.Words.{first_is}
use Rattle.session_scans.proofs.refusing.lacks_memory_at_once.Goals as goal

pub returns-then-not-fits-clause-so : goal.returns-then-not-fits-clause-so
returns-then-not-fits-clause-so g c =
    let parts = c.args.parts.now in
    let scan = before_first g.D.Disk.told parts c.args.session c.args.looking c.args.query c.requires.fit in
    let within-not = λ (within : length parts.journal.entries + 1 ≤ MAX_ENTRIES). false≢true (sym c.if-not-fits.true ∙ c.fits.ensures.1 within) in
    let full : MAX_ENTRIES < length parts.journal.entries + 1 = omega (arith, within-not) in
    is_spent g.D.Disk.told c.laws_of_looks.ensures parts c.args.session c.args.looking scan c.requires.fit (is_find g.D.Disk.told parts c.args.session c.args.looking c.args.query c.requires.fit)
    (λ is. record { read = refl; next = refl; found = refl; last = refl }) c.requires.ready full parts (stepped.Undone c.spent.result c.first_hand.result)
    (ap (λ (f : StoreFault). stepped.Undone f c.first_hand.result) c.spent.ensures ∙ ap (stepped.Undone (stops.Spent (length parts.journal.entries))) c.first_hand.ensures) refl

pub returns-clause-so : goal.returns-clause-so
returns-clause-so g c =
    let parts = c.args.parts.now in
    let scan = before_first g.D.Disk.told parts c.args.session c.args.looking c.args.query c.requires.fit in
    short_refused g.D.Disk.told c.laws_of_looks.ensures parts c.args.session c.args.looking scan c.requires.fit (is_find g.D.Disk.told parts c.args.session c.args.looking c.args.query c.requires.fit)
    (λ is. record { read = refl; next = refl; found = refl; last = refl }) c.requires.ready c.refuse_look.new.parts (stepped.Done c.refuse_look.result) (ap stepped.Done c.refuse_look.ensures.answer) c.refuse_look.ensures.failed c.refuse_look.ensures.entries
    c.refuse_look.ensures.rest (c.fits.ensures.0 c.if-not-fits.false) 0 (parts.journal.promised + 1) (first_is c.args.looking c.args.query).share (omega arith) (omega (arith, c.refuse_look.ensures.promised))
