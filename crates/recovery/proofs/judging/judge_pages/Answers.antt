use Rattle.std.proofs.Common.{◌≡◌, ◌≤◌, ◌+◌, ℕ, length, sym, ◌∙◌, subst, arith}
use Rattle.store_layout.specs.DiskLayout.{relation_blocks}
use Rattle.std.specs.Prelude.{slice_index}
use Rattle.buffer_pool.specs.PoolState.{PoolState}
use Rattle.recovery.specs.Judged.{AreJudgedIn}
use Rattle.recovery.proofs.Joining.{still_twice}
use Rattle.recovery.proofs.PagesJudged.{JudgedRelations, all_judged, judged_in_before, relations_more}
use Rattle.recovery.specs.PooledPages.{HoldsDurablePages}
use Rattle.recovery.proofs.judging.judge_pages.Goals as goal

pub relations-preserved : goal.relations-preserved
relations-preserved g c =
    let layout = c.args.layout.now in
    let pool = c.args.pool.now in
    let old = g.D.Disk.told c.args.disk.now in
    let mid = g.D.Disk.told c.relations.disk in
    let new = g.D.Disk.told c.judge_relation.new.disk in
    let relation = c.relations.relation in
    let limit = slice_index (relation_blocks layout) relation in
    let list = c.in-Ok-judge_relation.list in
    let rose : mid.faults ≤ new.faults = c.in-Ok-judge_relation.ensures.cause in
    let one : AreJudgedIn layout pool old relation limit list =
    judged_in_before layout pool relation limit list old mid c.relations.invariant.same (subst (λ (p : PoolState). AreJudgedIn layout p mid relation limit list) c.relations.invariant.pool c.in-Ok-judge_relation.ensures.judged) in
    record {
      pool = c.in-Ok-judge_relation.ensures.pool ∙ c.relations.invariant.pool;
      same = still_twice old mid new c.relations.invariant.same c.in-Ok-judge_relation.ensures.same;
      later = omega (arith, c.relations.invariant.later, rose);
      room = omega (arith, c.relations.invariant.room, c.push_reserved.ensures.capacity);
      judged = subst (JudgedRelations layout pool old (relation + 1)) (sym c.push_reserved.ensures.items) (relations_more layout pool old relation c.relations.facts.items list c.relations.invariant.judged one);
    }

pub returns-clause-judged : goal.returns-clause-judged
returns-clause-judged g c =
    let layout = c.args.layout.now in
    let old = g.D.Disk.told c.args.disk.now in
    let all : c.relations.relation ≡ length (relation_blocks layout) = omega (arith, c.relations-test.false, c.relations.auto.relation-end, c.count_relations-count.ensures) in
    all_judged layout c.args.pool.now old c.relations.facts.items (subst (λ (n : ℕ). JudgedRelations layout c.args.pool.now old n c.relations.facts.items) all c.relations.invariant.judged)

pub judge_relation-requires-clause-held : goal.judge_relation-requires-clause-held
judge_relation-requires-clause-held g c = subst (HoldsDurablePages c.args.layout.now) (sym c.relations.invariant.pool) c.requires.held
