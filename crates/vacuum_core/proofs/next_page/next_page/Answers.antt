use Rattle.std.proofs.Common.{◌≡◌, ◌+◌, ℕ, ◌∷◌, inl, inr, drop, get_or, refl, ap, sym, subst, ◌∙◌, arith}
use Rattle.std.specs.Prelude.{None, Option, Some}
use Rattle.page_store.specs.SurvivesLaws.{survives_on, survives_still}
use Rattle.page_map.specs.Keeps.{keeps_on}
use Rattle.std.proofs.lemmas.List.{drop_all, drop_more}
use Rattle.store_layout.specs.DiskLayout.{DiskLayout}
use Rattle.index_contents.specs.IndexContents.{IndexContents, contents}
use Rattle.index_steps.specs.Readings.{NamesPageOf}
use Rattle.vacuum_core.specs.NextPages.{IsNextOf}
use Rattle.vacuum_core.proofs.Onward.{keeps_same, of_contents}
use Rattle.vacuum_core.proofs.PageKinds.{next_behind, next_here, next_none}
use Rattle.vacuum_core.proofs.next_page.next_page.Goals as goal

pub places-init : goal.places-init
places-init g c = record {
  kept = keeps_same g.D.Disk.told c.args.pages.now;
  survives = survives_still g.D.Disk.told c.args.pages.now c.known.ensures.stays;
  started = c.requires.ready;
  ready = c.requires.ready;
  behind = inl (refl, refl);
  so_far = λ tells next is. is;
}

pub returns-in-Ok-Some-clause-next : goal.returns-in-Ok-Some-clause-next
returns-in-Ok-Some-clause-next g c = λ tells.
    let told = g.D.Disk.told in
    let first = c.args.pages.now in
    let mid = c.places.pages in
    let n : ℕ = get_or c.args.indexes.now c.from.result 0 in
    let rest : drop c.places.place c.args.indexes.now ≡ n ∷ drop (c.places.place + 1) c.args.indexes.now = drop_more c.args.indexes.now c.places.place 0 c.places-test.true
    ∙ ap (λ (k : ℕ). get_or c.args.indexes.now k 0 ∷ drop (c.places.place + 1) c.args.indexes.now) (sym c.from.ensures) in
    c.places.invariant.so_far tells (Some (c.places.place, c.in-Ok-Some.block))
    (next_here first.layout first.pages c.args.indexes.now c.places.place c.places.start c.in-Ok-Some.block n rest
    (of_contents told first mid c.places.invariant.kept n (λ (x : IndexContents). IsNextOf x.pages c.places.start (Some c.in-Ok-Some.block))
    (λ now. subst (λ (o : Option ℕ). IsNextOf (contents mid.layout mid.pages n).pages c.places.start o) (c.in-Ok-Some.field-0-is) (c.in-Ok-Some.ensures.next now)) tells))

pub returns-in-Ok-Some-clause-survives : goal.returns-in-Ok-Some-clause-survives
returns-in-Ok-Some-clause-survives g c = survives_on g.D.Disk.told c.args.pages.now c.places.pages c.next_of.new.pages c.places.invariant.kept c.places.invariant.survives c.in-Ok-Some.ensures.survives

pub returns-in-Err-clause-survives : goal.returns-in-Err-clause-survives
returns-in-Err-clause-survives g c = survives_on g.D.Disk.told c.args.pages.now c.places.pages c.next_of.new.pages c.places.invariant.kept c.places.invariant.survives c.in-Err.ensures.survives

pub returns-in-Err-clause-at : goal.returns-in-Err-clause-at
returns-in-Err-clause-at g c = (get_or c.args.indexes.now c.from.result 0, subst (λ (l : DiskLayout). NamesPageOf l (get_or c.args.indexes.now c.from.result 0) c.in-Err.error) c.places.invariant.kept.leaves.layout c.in-Err.ensures.at)

pub places-preserved : goal.places-preserved
places-preserved g c =
    let told = g.D.Disk.told in
    let first = c.args.pages.now in
    let mid = c.places.pages in
    let n : ℕ = get_or c.args.indexes.now c.from.result 0 in
    let rest : drop c.places.place c.args.indexes.now ≡ n ∷ drop (c.places.place + 1) c.args.indexes.now = drop_more c.args.indexes.now c.places.place 0 c.places-test.true
    ∙ ap (λ (k : ℕ). get_or c.args.indexes.now k 0 ∷ drop (c.places.place + 1) c.args.indexes.now) (sym c.from.ensures) in
    record {
      kept = keeps_on told first mid c.next_of.new.pages c.places.invariant.kept c.in-Ok-None.ensures.kept;
      survives = survives_on told first mid c.next_of.new.pages c.places.invariant.kept c.places.invariant.survives c.in-Ok-None.ensures.survives;
      started = c.requires.ready;
      ready = c.in-Ok-None.ensures.outcome.1;
      behind = inr (elim c.places.invariant.behind [
        | inl same ↦ (let e = same.0 in omega (arith, e))
        | inr later ↦ omega (arith, later)
      ]);
      so_far = λ tells next later. c.places.invariant.so_far tells next
          (next_behind first.layout first.pages c.args.indexes.now c.places.place c.places.start n next rest
          (of_contents told first mid c.places.invariant.kept n (λ (x : IndexContents). IsNextOf x.pages c.places.start None)
          (λ now. subst (λ (o : Option ℕ). IsNextOf (contents mid.layout mid.pages n).pages c.places.start o) c.in-Ok-None.field-0-is (c.in-Ok-None.ensures.next now)) tells) later);
    }

pub returns-clause-next : goal.returns-clause-next
returns-clause-next g c = λ tells.
    let none = drop_all c.places.place c.args.indexes.now (omega (arith, c.places-test.false)) in
    c.places.invariant.so_far tells None (next_none c.args.pages.now.layout c.args.pages.now.pages c.args.indexes.now c.places.place c.places.start none)
