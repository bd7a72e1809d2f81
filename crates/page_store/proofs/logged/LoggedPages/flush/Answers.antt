use Rattle.std.proofs.Common.{◌≡◌, ℕ, List, refl, ap, subst, ◌∙◌}
use Rattle.std.specs.Prelude.{IsTrue, Option, None}
use Rattle.wal_record.specs.Waiting.{Waiting, no_changes}
use Rattle.recovery.specs.Opens.{OpensAs}
use Rattle.page_store.specs.LoggedState.{LoggedState, store_of}
use Rattle.page_store.specs.Standing.{IsStanding}
use Rattle.page_store.proofs.Steps.{DiskLaws, none_waits}
use Rattle.page_store.proofs.logged.LoggedPages.flush.Goals as goal

pub returns-then-is_empty-clause-sure : goal.returns-then-is_empty-clause-sure
returns-then-is_empty-clause-sure g c =
    let told = g.D.Disk.told in
    let laws : DiskLaws told = record { need = g.met.D.Disk.images_need_contents; counts = g.met.D.Disk.now_is_since; only = g.met.D.Disk.since_now_is_now; fit = g.met.D.Disk.contents_fit } in
    let s : LoggedState g.row.D.Denot = record { disk = c.self.inside.disk; layout = c.self.inside.layout; log = c.self.inside.log; pool = c.self.inside.pool; marks = c.self.inside.marks.items; waiting = c.self.inside.waiting; failed = c.self.inside.failed } in
    let empty : s.waiting ≡ no_changes = c.if-is_empty.ensures.empty refl in
    let failed : s.failed ≡ None = ap (λ (x : LoggedState g.row.D.Denot). x.failed) c.self.view_is ∙ c.in_ok-ready.ensures.outcome.0 in
    let standing = subst (λ (w : Waiting). IsStanding (told s.disk) s.layout s.log s.pool s.marks w None) empty (subst (λ (f : Option ℕ). IsStanding (told s.disk) s.layout s.log s.pool s.marks s.waiting f) failed c.self.invariant) in
    subst (λ (x : LoggedState g.row.D.Denot). (image : List ℕ) → IsTrue ((told x.disk).now image) → OpensAs x.layout image (store_of told x).pages) c.self.view_is (none_waits s.layout s.log s.pool s.marks (told s.disk) standing (laws.need s.disk))
