use Rattle.std.proofs.Common.{subst}
use Rattle.page_map.specs.Keeps.{Untold}
use Rattle.page_map.specs.Outcome.{Outcome}
use Rattle.page_map.specs.PageMap.{View}
use Rattle.page_store.proofs.Steps.{DiskLaws}
use Rattle.page_store.proofs.StoreWords.{stays}
use Rattle.page_store.proofs.store.PageStore.ready.Goals as goal

pub returns-clause-outcome : goal.returns-clause-outcome
returns-clause-outcome g c =
    let told = g.D.Disk.told in
    subst (λ (v : View g.row.D.Denot). Outcome told (Untold told v) v v c.ready.result) c.self.view_is c.ready.ensures.outcome

pub returns-clause-stays : goal.returns-clause-stays
returns-clause-stays g c =
    let told = g.D.Disk.told in
    let laws : DiskLaws told = record { need = g.met.D.Disk.images_need_contents; counts = g.met.D.Disk.now_is_since; only = g.met.D.Disk.since_now_is_now; fit = g.met.D.Disk.contents_fit } in
    stays told laws c.args.self.now
