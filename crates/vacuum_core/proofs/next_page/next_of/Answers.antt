use Rattle.std.proofs.Common.{◌≡◌, ◌<◌, inr, length, ap, sym, subst, ◌∙◌, arith}
use Rattle.store_layout.specs.DiskLayout.{DiskLayout}
use Rattle.page_store.specs.SurvivesLaws.{survives_on, survives_still}
use Rattle.page_map.specs.Keeps.{keeps_on}
use Rattle.block_model.specs.declared.schema.Sizes.{Sizes}
use Rattle.coverage.specs.IndexView.{Mapping}
use Rattle.vacuum_core.specs.NextPages.{IsKindOf}
use Rattle.vacuum_core.specs.declared.next_page.PageKind.{PageKind as Found}
use Rattle.index_contents.specs.IndexContents.{IndexContents, contents}
use Rattle.vacuum_core.proofs.Onward.{keeps_same, of_contents}
use Rattle.vacuum_core.proofs.PageKinds.{limit_is, one_more}
use Rattle.vacuum_core.proofs.next_page.next_of.Goals as goal

pub later-init : goal.later-init
later-init g c = record {
  kept = keeps_same g.D.Disk.told c.args.pages.now;
  survives = survives_still g.D.Disk.told c.args.pages.now c.known.ensures.stays;
  started = c.requires.ready;
  ready = c.requires.ready;
  none = λ tells p low below has. omega (arith, low, below);
}

pub kind_there-requires-clause-index : goal.kind_there-requires-clause-index
kind_there-requires-clause-index g c = subst (λ (l : DiskLayout). c.args.index < length l.schema.indexes) (sym c.later.invariant.kept.leaves.layout) c.requires.index

pub kind_there-requires-clause-block : goal.kind_there-requires-clause-block
kind_there-requires-clause-block g c =
    let limit = ap (λ (s : Sizes). s.index_blocks) c.sizes-limit.ensures ∙ ap (λ (l : DiskLayout). l.sizes.index_blocks) (c.layout.ensures ∙ sym c.later.invariant.kept.leaves.layout) in
    omega (arith, c.later-test.true, limit)

pub later-preserved : goal.later-preserved
later-preserved g c =
    let told = g.D.Disk.told in
    let first = c.args.pages.now in
    let mid = c.later.pages in
    record {
      kept = keeps_on told first mid c.kind_there.new.pages c.later.invariant.kept c.in-Ok-Map.ensures.kept;
      survives = survives_on told first mid c.kind_there.new.pages c.later.invariant.kept c.later.invariant.survives c.in-Ok-Map.ensures.survives;
      started = c.requires.ready;
      ready = c.in-Ok-Map.ensures.outcome.1;
      none = λ tells. one_more (contents first.layout first.pages c.args.index).pages c.args.from c.later.block
          (of_contents told first mid c.later.invariant.kept c.args.index (λ (x : IndexContents). x.pages.kind c.later.block ≡ Mapping)
          (λ now. subst (λ (k : Found). IsKindOf ((contents mid.layout mid.pages c.args.index).pages.kind c.later.block) k) c.in-Ok-Map.field-0-is (c.in-Ok-Map.ensures.kind now)) tells)
          (c.later.invariant.none tells);
    }

pub returns-in-Ok-Tuples-clause-survives : goal.returns-in-Ok-Tuples-clause-survives
returns-in-Ok-Tuples-clause-survives g c = survives_on g.D.Disk.told c.args.pages.now c.later.pages c.kind_there.new.pages c.later.invariant.kept c.later.invariant.survives c.in-Ok-Tuples.ensures.survives

pub returns-in-Ok-Unstarted-clause-survives : goal.returns-in-Ok-Unstarted-clause-survives
returns-in-Ok-Unstarted-clause-survives g c = survives_on g.D.Disk.told c.args.pages.now c.later.pages c.kind_there.new.pages c.later.invariant.kept c.later.invariant.survives c.in-Ok-Unstarted.ensures.survives

pub returns-in-Err-clause-survives : goal.returns-in-Err-clause-survives
returns-in-Err-clause-survives g c = survives_on g.D.Disk.told c.args.pages.now c.later.pages c.kind_there.new.pages c.later.invariant.kept c.later.invariant.survives c.in-Err.ensures.survives

pub returns-clause-next : goal.returns-clause-next
returns-clause-next g c = λ tells.
    let store = c.args.pages.now in
    let limit = ap (λ (s : Sizes). s.index_blocks) c.sizes-limit.ensures ∙ ap (λ (l : DiskLayout). l.sizes.index_blocks) c.layout.ensures in
    record { end = c.later.block; none = c.later.invariant.none tells; ends = inr (let e = limit_is store.layout store.pages c.args.index in omega (arith, c.later-test.false, limit, e)) }
