use Rattle.std.proofs.Common.{List, ℕ, length, set, ap, sym, subst, ◌∙◌}
use Rattle.std.specs.Prelude.{Some}
use Rattle.page_map.specs.PageMap.{PageMap, page_at}
use Rattle.index_contents.specs.TheConstants.{REGULAR}
use Rattle.index_contents.specs.IndexPages.{IsRegular}
use Rattle.index_contents.specs.IndexReading.{slots_of}
use Rattle.page_store.specs.SurvivesLaws.{survives_on}
use Rattle.range_store.proofs.Fitting.{can_replace}
use Rattle.range_store.proofs.Misfits.{misfit_names_none, misfit_told}
use Rattle.range_store.proofs.PageWrites.{replaces_on}
use Rattle.range_store.proofs.replacing.replace_on.Goals as goal

pub replace_tuple-requires-clause-room : goal.replace_tuple-requires-clause-room
replace_tuple-requires-clause-room g c = λ tells_now.
    let kept = c.misfit_at.ensures.kept in
    let tells = sym kept.leaves.tells ∙ tells_now in
    let place = c.args.place in
    can_replace (page_at c.args.pages.now.pages place) (page_at c.misfit_at.new.pages.pages place) c.args.slot c.args.expect.now (length c.args.bytes.now) (ap (λ (pages : PageMap). page_at pages place) (kept.pages tells)) c.requires.size.0 (c.in-Ok-None.ensures.none c.in-Ok-None.field-0-is tells)

pub returns-in-Ok-clause-replaced : goal.returns-in-Ok-clause-replaced
returns-in-Ok-clause-replaced g c = λ tells.
    let kept = c.misfit_at.ensures.kept in
    let place = c.args.place in
    let old = page_at c.args.pages.now.pages place in
    let new = page_at c.replace_tuple.new.pages.pages place in
    let takes = c.in-Ok-None.ensures.none c.in-Ok-None.field-0-is tells in (
      takes,
      replaces_on old new c.args.slot c.args.expect.now c.args.bytes.now c.an_index_page_has_one_list.ensures.slots takes.1 takes.0
          (subst (λ (p : List ℕ). IsRegular REGULAR (set (slots_of p) c.args.slot (Some c.args.bytes.now)) new) (ap (λ (pages : PageMap). page_at pages place) (kept.pages tells)) (c.in-Ok.ensures.replaced (kept.leaves.tells ∙ tells))),
    )

pub returns-in-Ok-Some-clause-at : goal.returns-in-Ok-Some-clause-at
returns-in-Ok-Some-clause-at g c = misfit_names_none c.args.pages.now.layout c.args.place c.in-Ok-Some.fault (c.in-Ok-Some.ensures.misfit c.in-Ok-Some.fault c.in-Ok-Some.field-0-is)

pub returns-in-Ok-Some-clause-outcome : goal.returns-in-Ok-Some-clause-outcome
returns-in-Ok-Some-clause-outcome g c =
    misfit_told (Unit {0}) _ g.D.Disk.told c.args.pages.now c.misfit_at.new.pages c.in-Ok-Some.field-0 c.in-Ok-Some.fault (c.in-Ok-Some.ensures.misfit c.in-Ok-Some.fault c.in-Ok-Some.field-0-is) c.in-Ok-Some.ensures.outcome

pub returns-in-Ok-clause-survives : goal.returns-in-Ok-clause-survives
returns-in-Ok-clause-survives g c = survives_on g.D.Disk.told c.args.pages.now c.misfit_at.new.pages c.replace_tuple.new.pages c.misfit_at.ensures.kept c.misfit_at.ensures.survives c.replace_tuple.ensures.survives

pub returns-in-Err-replace_tuple-clause-survives : goal.returns-in-Err-replace_tuple-clause-survives
returns-in-Err-replace_tuple-clause-survives g c = survives_on g.D.Disk.told c.args.pages.now c.misfit_at.new.pages c.replace_tuple.new.pages c.misfit_at.ensures.kept c.misfit_at.ensures.survives c.replace_tuple.ensures.survives
