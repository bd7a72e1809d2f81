use Rattle.std.proofs.Common.{◌≡◌, ◌-◌, sym, ap, ◌∙◌, arith}
use Rattle.bitmap_scan.specs.declared.stage.Stage.{Stage}
use Rattle.bitmap_scan.specs.declared.stage.Stage.TheVariants as stages
use Rattle.bitmap_scan.specs.Finds.{FindHand}
use Rattle.session_scans.specs.Looks.{first_hand_of, hand_before}
use Rattle.session_scans.specs.ScanSteps.{parts_before}
use Rattle.session_scans.proofs.InPlace.{same_scan, stage_there}
use Rattle.session_scans.proofs.keeping.put_back.Goals as goal

pub returns-in-Extent-clause-hand : goal.returns-in-Extent-clause-hand
returns-in-Extent-clause-hand g c = λ scan is.
    let same : c.taken.result ≡ scan = same_scan c.args.looking c.args.hand.now c.taken.result scan c.taken.ensures.scan is in
    let first : scan.judging.stage ≡ stages.Extent = sym (stage_there c.args.looking c.args.hand.now scan is c.stage_of.result c.stage_of.ensures) ∙ c.in-Extent.is in
    c.put.ensures ∙ c.first_hand.ensures ∙ ap (first_hand_of c.args.looking) (c.into_query-query.ensures ∙ ap (λ (s : FindHand). s.judging.query) same) ∙ ap (hand_before c.args.looking scan) (sym first)

pub returns-in-Extent-clause-parts : goal.returns-in-Extent-clause-parts
returns-in-Extent-clause-parts g c = λ scan is.
    let parts = c.args.parts.now in
    let first : scan.judging.stage ≡ stages.Extent = sym (stage_there c.args.looking c.args.hand.now scan is c.stage_of.result c.stage_of.ensures) ∙ c.in-Extent.is in
    let less : c.release.new.self.promised ≡ parts.journal.promised - 1 = omega (arith, c.release.ensures.promised) in
    (λ i. record parts { journal = record { entries = c.release.ensures.entries i; promised = less i } }) ∙ ap (λ (s : Stage). parts_before s parts) (sym first)
