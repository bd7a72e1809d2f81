use Rattle.std.proofs.Common.{◌≤◌, refl, sym, ap, subst, ◌∙◌, arith}
use Rattle.store_layout.specs.DiskLayout.{DiskLayout}
use Rattle.page_map.specs.Outcome.{IsReopen}
use Rattle.index_contents.specs.IndexContents.{IndexContents, contents}
use Rattle.coverage.specs.IndexView.{map_page_of}
use Rattle.heap_rows.specs.SurvivesLaws.{survives_on}
use Rattle.index_steps.specs.DamagedPages.{names_page}
use Rattle.index_steps.proofs.Copying.{is_misnamed, said_of}
use Rattle.index_steps.specs.ShownIndex.{same_contents}
use Rattle.index_steps.proofs.Damage.{well_named}
use Rattle.index_steps.proofs.reading.read_map.Goals as goal

pub returns-in-Ok-None-tuple_at-clause-outcome : goal.returns-in-Ok-None-tuple_at-clause-outcome
returns-in-Ok-None-tuple_at-clause-outcome g c =
    let old = c.args.pages.now in
    let before = c.in-Ok-Some.ensures.outcome in
    let after = rw c.in-Ok-None-tuple_at.is at c.tuple_at.follows.holds-at-none in
    let kept = c.entry.ensures.kept in (
      before.0,
      after.1.1,
      omega (arith, before.2, after.1.2),
      λ tells.
          is_misnamed (contents old.layout old.pages c.args.index) c.args.range c.in-Ok-Some.spot (omega arith) (c.in-Ok-Some.ensures.entry tells ∙ c.in-Ok-Some.field-0-is)
          (λ bytes there of. c.in-Ok-None-tuple_at.ensures.gone c.in-Ok-None-tuple_at.field-0-is (kept.leaves.tells ∙ tells) bytes (ap (λ (e : IndexContents). e.bytes c.in-Ok-Some.spot) (same_contents g.D.Disk.told c.args.index old c.entry.new.pages kept tells) ∙ there) of),
    )

pub returns-in-Ok-Some-tuple_at-clause-stands : goal.returns-in-Ok-Some-tuple_at-clause-stands
returns-in-Ok-Some-tuple_at-clause-stands g c = λ tells.
    let old = c.args.pages.now in
    let kept = c.entry.ensures.kept in
    let bytes = c.in-Ok-Some-tuple_at.field-0-0.now in
    let there = rw c.in-Ok-Some-tuple_at.field-0-is at c.in-Ok-Some-tuple_at.ensures.there in
    let of = rw c.in-Ok-Some-tuple_at.field-0-is at c.in-Ok-Some-tuple_at.ensures.range in
    (bytes, sym (ap (λ (e : IndexContents). e.bytes c.in-Ok-Some.spot) (same_contents g.D.Disk.told c.args.index old c.entry.new.pages kept tells)) ∙ there (kept.leaves.tells ∙ tells), said_of bytes c.args.range of)

pub returns-in-Ok-Some-tuple_at-clause-undamaged : goal.returns-in-Ok-Some-tuple_at-clause-undamaged
returns-in-Ok-Some-tuple_at-clause-undamaged g c = λ tells.
    let old = c.args.pages.now in
    well_named (contents old.layout old.pages c.args.index) c.args.range c.in-Ok-Some.spot (c.in-Ok-Some.ensures.entry tells ∙ c.in-Ok-Some.field-0-is) (returns-in-Ok-Some-tuple_at-clause-stands g c tells)

pub returns-in-Err-tuple_at-clause-at : goal.returns-in-Err-tuple_at-clause-at
returns-in-Err-tuple_at-clause-at g c = names_page c.args.pages.now.layout c.entry.new.pages.layout c.args.index c.in-Ok-Some.spot.block c.in-Err-tuple_at.error c.entry.ensures.kept.leaves.layout c.requires.index
    (subst (λ (l : DiskLayout). l.sizes.index_blocks ≤ c.in-Ok-Some.spot.block → IsReopen c.in-Err-tuple_at.error) c.entry.ensures.kept.leaves.layout c.in-Err-tuple_at.ensures.reopen) c.in-Err-tuple_at.ensures.at

pub returns-in-Err-clause-at : goal.returns-in-Err-clause-at
returns-in-Err-clause-at g c = names_page c.args.pages.now.layout c.args.pages.now.layout c.args.index (map_page_of c.args.range) c.in-Err.error refl c.requires.index c.in-Err.ensures.reopen c.in-Err.ensures.at

pub returns-in-Ok-Some-tuple_at-clause-survives : goal.returns-in-Ok-Some-tuple_at-clause-survives
returns-in-Ok-Some-tuple_at-clause-survives g c = survives_on g.D.Disk.told c.args.pages.now c.entry.new.pages c.tuple_at.follows.lender-at-none c.entry.ensures.kept c.entry.ensures.survives c.tuple_at.follows.holds-at-none.2

pub returns-in-Ok-None-tuple_at-clause-survives : goal.returns-in-Ok-None-tuple_at-clause-survives
returns-in-Ok-None-tuple_at-clause-survives g c = survives_on g.D.Disk.told c.args.pages.now c.entry.new.pages c.tuple_at.follows.lender-at-none c.entry.ensures.kept c.entry.ensures.survives c.tuple_at.follows.holds-at-none.2

pub returns-in-Err-tuple_at-clause-survives : goal.returns-in-Err-tuple_at-clause-survives
returns-in-Err-tuple_at-clause-survives g c = survives_on g.D.Disk.told c.args.pages.now c.entry.new.pages c.tuple_at.follows.lender-at-none c.entry.ensures.kept c.entry.ensures.survives c.tuple_at.follows.holds-at-none.2
