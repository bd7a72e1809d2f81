use Rattle.std.proofs.Common.{◌≡◌, refl, ◌∙◌, arith}
use Rattle.block_model.specs.declared.place.Place.{Place}
use Rattle.disk_trait.specs.ThroughoutLaws.{started, joined}
use Rattle.store_format.specs.FreshStore.{IsClosed}
use Rattle.store_format.proofs.Places.{InFront, freshens_none, freshens_more, block_more, in_relation}
use Rattle.store_format.proofs.pages.write_relation.Goals as goal

pub places-init : goal.places-init
places-init g c =
    let old = g.D.Disk.told c.args.disk.now in
    record {
      closed = c.requires.closed;
      all = started old IsClosed (λ image since. c.requires.closed image (g.met.D.Disk.since_now_is_now c.args.disk.now image since));
      pages = λ tells. freshens_none c.args.layout.now (InFront c.args.layout.now c.args.relation 0) old.contents (λ place is front. absurd (omega (arith, front.1)));
      front = λ tells. refl;
      later = omega arith;
    }

pub places-preserved : goal.places-preserved
places-preserved g c =
    let old = g.D.Disk.told c.args.disk.now in
    let mid = g.D.Disk.told c.places.disk in
    let new = g.D.Disk.told c.write_page.new.disk in
    record {
      closed = c.write_page.ensures.closed;
      all = joined old mid new IsClosed c.places.invariant.all c.write_page.ensures.any_moment;
      pages = λ tells. block_more c.args.layout.now c.args.relation c.places.block old.contents mid.contents new.contents (c.places.invariant.pages tells) (c.in_ok-write_page.ensures.pages (c.places.invariant.all.tells_contents ∙ tells));
      front = λ tells. c.write_page.ensures.front (c.places.invariant.all.tells_contents ∙ tells) ∙ c.places.invariant.front tells;
      later = omega (arith, c.places.invariant.later, c.write_page.ensures.cause.later);
    }

pub returns-clause-pages : goal.returns-clause-pages
returns-clause-pages g c tells =
    freshens_more c.args.layout.now (InFront c.args.layout.now c.args.relation c.places.block) (λ (place : Place). place.relation ≡ c.args.relation) (g.D.Disk.told c.args.disk.now).contents (g.D.Disk.told c.places.disk).contents
    (in_relation c.args.layout.now c.args.relation c.places.block (omega (arith, c.places-test.false, c.blocks_of-block-end.ensures))) (c.places.invariant.pages tells)
