use Rattle.std.proofs.Common.{subst}
use Rattle.block_model.specs.declared.place.Place.{Place}
use Rattle.page_map.specs.Forms.{IsPageIn}
use Rattle.page_map.specs.Keeps.{Tells}
use Rattle.page_map.specs.PageMap.{IsWhole, View, page_at}
use Rattle.recovery.specs.ShownLaws.{shown_whole}
use Rattle.page_store.proofs.StoreReads.{checked_all}
use Rattle.page_store.proofs.Steps.{DiskLaws}
use Rattle.page_store.proofs.StoreWords.{stays}
use Rattle.page_store.proofs.store.PageStore.known.Goals as goal

pub returns-clause-whole : goal.returns-clause-whole
returns-clause-whole g c =
    let told = g.D.Disk.told in
    let s = c.self.inside.pages in
    let facts = c.self.inside.facts.items in
    let known = c.self.invariant.1 in
    subst (λ (v : View g.row.D.Denot). IsWhole v.layout v.pages) c.self.view_is (shown_whole s.layout s.pool (told s.disk).contents)

pub returns-clause-checked : goal.returns-clause-checked
returns-clause-checked g c =
    let told = g.D.Disk.told in
    let s = c.self.inside.pages in
    let facts = c.self.inside.facts.items in
    let known = c.self.invariant.1 in
    subst (λ (v : View g.row.D.Denot). Tells told v → (place : Place) → IsPageIn v.layout place.relation (page_at v.pages place)) c.self.view_is (λ tells. checked_all told s c.known.ensures.checked tells)

pub returns-clause-stays : goal.returns-clause-stays
returns-clause-stays g c =
    let told = g.D.Disk.told in
    let laws : DiskLaws told = record { need = g.met.D.Disk.images_need_contents; counts = g.met.D.Disk.now_is_since; only = g.met.D.Disk.since_now_is_now; fit = g.met.D.Disk.contents_fit } in
    stays told laws c.args.self.now
