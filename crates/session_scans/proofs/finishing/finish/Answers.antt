use Rattle.std.proofs.Common.{◌+◌, ◌<◌, ◌≤◌, Err, Ok, length, sym, ◌∙◌, subst, arith}
use Rattle.std.proofs.lemmas.Bool.{false≢true}
use Rattle.store_layout.specs.declared.limits.TheConstants.{MAX_ENTRIES}
use Rattle.session_parts.specs.declared.hand.Stepped.TheVariants as stepped
use Rattle.session_parts.specs.StepIs.{stepped_in}
use Rattle.session_scans.specs.declared.looking.Looking.{Looking}
use Rattle.session_scans.specs.Finishes.{BeginsAnew, Finishes}
use Rattle.session_scans.proofs.InPlace.{finishes_there, has_scan}
use Rattle.session_scans.proofs.finishing.finish.Goals as goal

pub taken-requires : goal.taken-requires
taken-requires g c = has_scan c.args.looking c.args.hand.now c.requires.in_scan

pub returns-then-not-fits : goal.returns-then-not-fits
returns-then-not-fits g c =
    let parts = c.args.parts.now in
    let within-not = λ (within : length parts.journal.entries + 1 ≤ MAX_ENTRIES). false≢true (sym c.if-not-fits.true ∙ c.fits.ensures.1 within) in
    let full : MAX_ENTRIES < length parts.journal.entries + 1 = omega (arith, within-not) in
    finishes_there parts c.args.session c.args.looking c.args.hand.now c.args.point (stepped_in c.begin_anew.new.hand (Err c.begin_anew.result)) c.begin_anew.new.parts c.taken.result c.taken.ensures.scan
    c.into_parts-query.result.0 c.into_parts-query.ensures.0 c.into_parts-query.result.1.items c.into_parts-query.ensures.1
    (BeginsAnew full (λ i. stepped.Undone (c.begin_anew.ensures.answer i) (c.begin_anew.ensures.hand i)) c.begin_anew.ensures.released)

pub returns-in-Select : goal.returns-in-Select
returns-in-Select g c =
    let parts = c.args.parts.now in
    finishes_there parts c.args.session c.args.looking c.args.hand.now c.args.point (stepped.Done c.tell_rows.result) c.tell_rows.new.parts c.taken.result c.taken.ensures.scan
    c.into_parts-query.result.0 c.into_parts-query.ensures.0 c.into_parts-query.result.1.items c.into_parts-query.ensures.1
    (subst (λ (l : Looking). Finishes parts c.args.session l c.into_parts-query.result.0 c.into_parts-query.result.1.items c.args.point (stepped.Done c.tell_rows.result) c.tell_rows.new.parts) (sym c.in-Select.is)
    (c.tell_rows.ensures c.args.point))

pub returns-in-Delete : goal.returns-in-Delete
returns-in-Delete g c =
    let parts = c.args.parts.now in
    let answer = stepped_in c.mark_rows.new.hand (Ok c.mark_rows.result) in
    finishes_there parts c.args.session c.args.looking c.args.hand.now c.args.point answer c.mark_rows.new.parts c.taken.result c.taken.ensures.scan
    c.into_parts-query.result.0 c.into_parts-query.ensures.0 c.into_parts-query.result.1.items c.into_parts-query.ensures.1
    (subst (λ (l : Looking). Finishes parts c.args.session l c.into_parts-query.result.0 c.into_parts-query.result.1.items c.args.point answer c.mark_rows.new.parts) (sym c.in-Delete.is) c.mark_rows.ensures)
