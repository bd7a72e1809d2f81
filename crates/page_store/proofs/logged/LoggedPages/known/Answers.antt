use Rattle.std.proofs.Common.{◌≡◌, ℕ, List, subst}
use Rattle.std.specs.Prelude.{Some}
use Rattle.recovery.specs.ShownPages.{content_at, shown_pages}
use Rattle.page_store.specs.LoggedState.{LoggedState, store_of}
use Rattle.block_model.specs.declared.place.Place.{Place}
use Rattle.store_layout.specs.DiskLayout.{IsPlace}
use Rattle.page_map.specs.Forms.{IsPageIn}
use Rattle.page_map.specs.Keeps.{Tells}
use Rattle.page_map.specs.PageMap.{page_at}
use Rattle.recovery.specs.PageNumbers.{page_number}
use Rattle.page_store.proofs.MakeExits.{content_passes}
use Rattle.page_store.proofs.Steps.{checked_map}
use Rattle.page_store.proofs.logged.LoggedPages.known.Goals as goal

pub returns-clause-checked : goal.returns-clause-checked
returns-clause-checked g c =
    let told = g.D.Disk.told in
    let s : LoggedState g.row.D.Denot = record { disk = c.self.inside.disk; layout = c.self.inside.layout; log = c.self.inside.log; pool = c.self.inside.pool; marks = c.self.inside.marks.items; waiting = c.self.inside.waiting; failed = c.self.inside.failed } in
    subst (λ (x : LoggedState g.row.D.Denot). Tells told (store_of told x) → (place : Place) → IsPlace x.layout place → IsPageIn x.layout place.relation (page_at (shown_pages x.layout x.pool (told x.disk).contents) place)) c.self.view_is
    (λ tells. checked_map s.layout s.pool (told s.disk).contents (c.self.invariant.checked tells))

pub returns-clause-passes : goal.returns-clause-passes
returns-clause-passes g c =
    let told = g.D.Disk.told in
    let s : LoggedState g.row.D.Denot = record { disk = c.self.inside.disk; layout = c.self.inside.layout; log = c.self.inside.log; pool = c.self.inside.pool; marks = c.self.inside.marks.items; waiting = c.self.inside.waiting; failed = c.self.inside.failed } in
    subst (λ (x : LoggedState g.row.D.Denot). (place : Place) (bytes : List ℕ) → IsPlace x.layout place → content_at x.pool (page_number x.layout place) ≡ Some bytes → IsPageIn x.layout place.relation bytes) c.self.view_is
    (λ place bytes is there. content_passes told s s.failed c.pages_fill_the_disk.ensures c.self.invariant place is bytes there)
