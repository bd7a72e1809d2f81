use Rattle.std.proofs.Common.{◌<◌, refl, ◌∙◌, arith}
use Rattle.block_model.specs.declared.place.Place.{Place}
use Rattle.disk_trait.specs.ThroughoutLaws.{started, joined}
use Rattle.store_format.specs.FreshStore.{IsClosed}
use Rattle.store_format.proofs.Places.{freshens_none, relation_more, all_fresh}
use Rattle.store_format.proofs.pages.write_pages.Goals as goal

pub relations-init : goal.relations-init
relations-init g c =
    let old = g.D.Disk.told c.args.disk.now in
    record {
      closed = c.requires.closed;
      all = started old IsClosed (λ image since. c.requires.closed image (g.met.D.Disk.since_now_is_now c.args.disk.now image since));
      pages = λ tells. freshens_none c.args.layout.now (λ (place : Place). place.relation < 0) old.contents (λ place is below. absurd (omega (arith, below)));
      front = λ tells. refl;
      later = omega arith;
    }

pub relations-preserved : goal.relations-preserved
relations-preserved g c =
    let old = g.D.Disk.told c.args.disk.now in
    let mid = g.D.Disk.told c.relations.disk in
    let new = g.D.Disk.told c.write_relation.new.disk in
    record {
      closed = c.write_relation.ensures.closed;
      all = joined old mid new IsClosed c.relations.invariant.all c.write_relation.ensures.any_moment;
      pages = λ tells. relation_more c.args.layout.now c.relations.relation old.contents mid.contents new.contents (c.relations.invariant.pages tells) (c.in_ok-write_relation.ensures.pages (c.relations.invariant.all.tells_contents ∙ tells));
      front = λ tells. c.write_relation.ensures.front (c.relations.invariant.all.tells_contents ∙ tells) ∙ c.relations.invariant.front tells;
      later = omega (arith, c.relations.invariant.later, c.write_relation.ensures.cause.later);
    }

pub returns-clause-pages : goal.returns-clause-pages
returns-clause-pages g c tells =
    all_fresh c.args.layout.now c.relations.relation (g.D.Disk.told c.args.disk.now).contents (g.D.Disk.told c.relations.disk).contents
    (omega (arith, c.relations-test.false, c.count_relations-relation-end.ensures)) (c.relations.invariant.pages tells)
