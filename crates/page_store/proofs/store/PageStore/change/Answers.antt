use Rattle.std.proofs.Common.{◌≡◌, [], ◌∷◌, sym, ap, subst, ◌∙◌}
use Rattle.std.specs.Prelude.{IfErr, OnErr, OnOk}
use Rattle.store_layout.specs.DiskLayout.{IsPlace}
use Rattle.wal_record.specs.Changes.{logged}
use Rattle.page_map.specs.Changed.{Changed}
use Rattle.page_map.specs.Forms.{FitsIn, forms_of}
use Rattle.page_map.specs.Keeps.{Keeps, Leaves, Tells, Untold}
use Rattle.page_map.specs.Outcome.{NamesPage, Outcome}
use Rattle.page_map.specs.PageMap.{View, page_at}
use Rattle.page_store.specs.LoggedState.{store_of}
use Rattle.page_store.specs.Survives.{Survives}
use Rattle.page_store.proofs.StoreWords.{keeps_of, leaves_of, on_err, survives_of}
use Rattle.page_store.proofs.store.PageStore.change.Goals as goal

pub change_page-requires-clause-place : goal.change_page-requires-clause-place
change_page-requires-clause-place g c = subst (λ (v : View g.row.D.Denot). IsPlace v.layout c.args.place) (sym c.self.view_is) c.requires.place

pub change_page-requires-clause-fits : goal.change_page-requires-clause-fits
change_page-requires-clause-fits g c = subst (λ (v : View g.row.D.Denot). Tells g.D.Disk.told v → FitsIn v.layout c.args.place.relation (page_at v.pages c.args.place) (logged c.args.change.now)) (sym c.self.view_is) c.requires.fits

pub invariant_of-self : goal.invariant_of-self
invariant_of-self g c = (c.self.invariant.0 ∙ ap forms_of (sym c.change_page.ensures.leaves.layout), c.change_page.ensures.facts)

pub returns-clause-changed : goal.returns-clause-changed
returns-clause-changed g c =
    let told = g.D.Disk.told in
    subst (λ (v : View g.row.D.Denot). OnOk c.change_page.result (Tells told v → Changed v.layout c.args.place (logged c.args.change.now ∷ []) v.pages (store_of told c.change_page.new.pages).pages)) c.self.view_is c.change_page.ensures.changed

pub returns-clause-kept : goal.returns-clause-kept
returns-clause-kept g c =
    let told = g.D.Disk.told in
    let new = store_of told c.change_page.new.pages in
    subst (λ (v : View g.row.D.Denot). OnErr c.change_page.result (Keeps told v new)) c.self.view_is (on_err c.change_page.result (keeps_of told (store_of told c.self.inside.pages) new) c.change_page.ensures.kept)

pub returns-clause-leaves : goal.returns-clause-leaves
returns-clause-leaves g c =
    let told = g.D.Disk.told in
    let new = store_of told c.change_page.new.pages in
    subst (λ (v : View g.row.D.Denot). Leaves told v new) c.self.view_is (leaves_of told (store_of told c.self.inside.pages) new c.change_page.ensures.leaves)

pub returns-clause-survives : goal.returns-clause-survives
returns-clause-survives g c =
    let told = g.D.Disk.told in
    let new = store_of told c.change_page.new.pages in
    subst (λ (v : View g.row.D.Denot). Survives told (λ pages. pages ≡ v.pages) v new) c.self.view_is (survives_of told (store_of told c.self.inside.pages) new c.change_page.ensures.leaves)

pub returns-clause-at : goal.returns-clause-at
returns-clause-at g c = subst (λ (v : View g.row.D.Denot). IfErr c.change_page.result (λ error. NamesPage v.layout c.args.place error)) c.self.view_is c.change_page.ensures.at

pub returns-clause-outcome : goal.returns-clause-outcome
returns-clause-outcome g c =
    let told = g.D.Disk.told in
    subst (λ (v : View g.row.D.Denot). Outcome told (Untold told v) v (store_of told c.change_page.new.pages) c.change_page.result) c.self.view_is c.change_page.ensures.outcome
