use Rattle.std.proofs.Common.{◌≡◌, sym, ap, subst, ◌∙◌}
use Rattle.page_map.specs.Forms.{forms_of}
use Rattle.page_map.specs.Keeps.{Keeps, Untold}
use Rattle.page_map.specs.Outcome.{Outcome}
use Rattle.page_map.specs.PageMap.{View}
use Rattle.page_store.specs.LoggedState.{store_of}
use Rattle.page_store.specs.Survives.{Survives}
use Rattle.page_store.proofs.KnownSteps.{known_kept}
use Rattle.page_store.proofs.StoreWords.{keeps_of, survives_of}
use Rattle.page_store.proofs.store.PageStore.checkpoint.Goals as goal

pub invariant_of-self : goal.invariant_of-self
invariant_of-self g c =
    (c.self.invariant.0 ∙ ap forms_of (sym c.checkpoint.ensures.kept.leaves.layout), known_kept g.D.Disk.told c.self.inside.pages c.checkpoint.new.self c.self.inside.facts.items c.self.invariant.1 c.checkpoint.ensures.kept c.checkpoint.ensures.alike)

pub returns-clause-kept : goal.returns-clause-kept
returns-clause-kept g c =
    let told = g.D.Disk.told in
    let new = store_of told c.checkpoint.new.self in
    subst (λ (v : View g.row.D.Denot). Keeps told v new) c.self.view_is (keeps_of told (store_of told c.self.inside.pages) new c.checkpoint.ensures.kept)

pub returns-clause-survives : goal.returns-clause-survives
returns-clause-survives g c =
    let told = g.D.Disk.told in
    let new = store_of told c.checkpoint.new.self in
    subst (λ (v : View g.row.D.Denot). Survives told (λ pages. pages ≡ v.pages) v new) c.self.view_is (survives_of told (store_of told c.self.inside.pages) new c.checkpoint.ensures.kept.leaves)

pub returns-clause-outcome : goal.returns-clause-outcome
returns-clause-outcome g c =
    let told = g.D.Disk.told in
    subst (λ (v : View g.row.D.Denot). Outcome told (Untold told v) v (store_of told c.checkpoint.new.self) c.checkpoint.result) c.self.view_is c.checkpoint.ensures.outcome

pub returns-clause-sure : goal.returns-clause-sure
returns-clause-sure g c = c.checkpoint.ensures.sure

pub returns-clause-undamaged : goal.returns-clause-undamaged
returns-clause-undamaged g c = c.checkpoint.ensures.undamaged
