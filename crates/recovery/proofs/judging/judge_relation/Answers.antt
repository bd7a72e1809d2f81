use Rattle.std.proofs.Common.{◌≤◌, ◌+◌, List, length, sym, ◌∙◌, ap, subst, arith, length-set}
use Rattle.std.proofs.lemmas.List.{get_or-set_other}
use Rattle.block_model.specs.declared.place.Place.{Place}
use Rattle.page_map.specs.declared.facts.PageFacts.{PageFacts}
use Rattle.page_map.specs.PageFacts.{facts_in, no_facts}
use Rattle.buffer_pool.specs.PoolState.{PoolState}
use Rattle.recovery.specs.Judged.{IsJudged}
use Rattle.recovery.proofs.Joining.{still_twice}
use Rattle.recovery.proofs.PageJudged.{judged_before, unstarted_judged}
use Rattle.recovery.proofs.PagesJudged.{JudgedBelow, judged_more}
use Rattle.recovery.specs.PooledPages.{HoldsDurablePages}
use Rattle.recovery.proofs.judging.judge_relation.Goals as goal

pub places-preserved : goal.places-preserved
places-preserved g c =
    let layout = c.args.layout.now in
    let pool = c.args.pool.now in
    let old = g.D.Disk.told c.args.disk.now in
    let mid = g.D.Disk.told c.places.disk in
    let new = g.D.Disk.told c.judge_page.new.disk in
    let place : Place = record { relation = c.args.relation; block = c.places.block } in
    let found = c.in-Ok-judge_page.found in
    let rose : mid.faults ≤ new.faults = c.in-Ok-judge_page.ensures.cause in
    let one : IsJudged layout pool old place found =
    judged_before layout pool place found old mid c.places.invariant.same (subst (λ (p : PoolState). IsJudged layout p mid place found) c.places.invariant.pool c.in-Ok-judge_page.ensures.judged) in
    record {
      pool = c.in-Ok-judge_page.ensures.pool ∙ c.places.invariant.pool;
      same = still_twice old mid new c.places.invariant.same c.in-Ok-judge_page.ensures.same;
      later = omega (arith, c.places.invariant.later, rose);
      long = ap (length {A = PageFacts}) c.note_started.ensures ∙ length-set c.places.facts c.places.block found ∙ c.places.invariant.long;
      judged = subst (JudgedBelow layout pool old c.args.relation (c.places.block + 1)) (sym c.note_started.ensures)
          (judged_more layout pool old c.args.relation c.places.block c.places.facts found (omega (arith, c.places.invariant.long, c.places-test.true)) c.places.invariant.judged one);
      fresh = λ block past low.
          ap (λ (l : List PageFacts). facts_in l block) c.note_started.ensures ∙ get_or-set_other c.places.facts c.places.block block found no_facts (λ e. absurd (omega (arith, past, e)))
          ∙ c.places.invariant.fresh block (omega (arith, past)) low;
    }

pub note_started-requires-clause-fresh : goal.note_started-requires-clause-fresh
note_started-requires-clause-fresh g c = c.places.invariant.fresh c.places.block (omega arith) (omega (arith, c.places-test.true))

pub note_started-requires-clause-unstarted : goal.note_started-requires-clause-unstarted
note_started-requires-clause-unstarted g c =
    let mid = g.D.Disk.told c.places.disk in
    unstarted_judged c.args.layout.now c.places.pool mid (record { relation = c.args.relation; block = c.places.block }) c.in-Ok-judge_page.found c.in-Ok-judge_page.ensures.judged

pub judge_page-requires-clause-held : goal.judge_page-requires-clause-held
judge_page-requires-clause-held g c = subst (HoldsDurablePages c.args.layout.now) (sym c.places.invariant.pool) c.requires.held
