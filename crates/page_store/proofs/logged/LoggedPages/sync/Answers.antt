use Rattle.std.proofs.Common.{◌≡◌, ℕ, sym, ap, subst, ◌∙◌}
use Rattle.std.specs.Prelude.{Option, None, Some}
use Rattle.page_store.specs.KeptPages.{KeptPages}
use Rattle.page_store.specs.LoggedState.{LoggedState, store_of}
use Rattle.page_store.specs.Standing.{IsStanding}
use Rattle.page_store.proofs.Steps.{DiskLaws}
use Rattle.page_store.proofs.Exits.{sync_keeps}
use Rattle.page_store.proofs.LogSteps.{sync_standing}
use Rattle.page_store.proofs.logged.LoggedPages.sync.Goals as goal

pub invariant_of-self : goal.invariant_of-self
invariant_of-self g c =
    let told = g.D.Disk.told in
    let s : LoggedState g.row.D.Denot = record { disk = c.self.inside.disk; layout = c.self.inside.layout; log = c.self.inside.log; pool = c.self.inside.pool; marks = c.self.inside.marks.items; waiting = c.self.inside.waiting; failed = c.self.inside.failed } in
    let none : s.failed ≡ None = ap (λ (x : LoggedState g.row.D.Denot). x.failed) c.self.view_is ∙ c.requires.failed in
    let standing = subst (λ (f : Option ℕ). IsStanding (told s.disk) s.layout s.log s.pool s.marks s.waiting f) none c.self.invariant in
    subst (λ (f : Option ℕ). IsStanding (told c.sync.new.self) s.layout s.log s.pool s.marks s.waiting f) (sym none) (sync_standing s.layout s.log s.pool s.marks s.waiting None (told s.disk) (told c.sync.new.self) c.sync.ensures.moments.size c.sync.ensures.moments.tells_contents c.sync.ensures.same (λ _. c.sync.ensures.images) standing)

pub invariant_of-self-in-Err : goal.invariant_of-self-in-Err
invariant_of-self-in-Err g c =
    let told = g.D.Disk.told in
    let s : LoggedState g.row.D.Denot = record { disk = c.self.inside.disk; layout = c.self.inside.layout; log = c.self.inside.log; pool = c.self.inside.pool; marks = c.self.inside.marks.items; waiting = c.self.inside.waiting; failed = c.self.inside.failed } in
    let none : s.failed ≡ None = ap (λ (x : LoggedState g.row.D.Denot). x.failed) c.self.view_is ∙ c.requires.failed in
    let standing = subst (λ (f : Option ℕ). IsStanding (told s.disk) s.layout s.log s.pool s.marks s.waiting f) none c.self.invariant in
    sync_standing s.layout s.log s.pool s.marks s.waiting (Some c.faults.result) (told s.disk) (told c.sync.new.self) c.sync.ensures.moments.size c.sync.ensures.moments.tells_contents c.sync.ensures.same (λ _. c.sync.ensures.images) standing

pub returns-in-Ok-clause-kept : goal.returns-in-Ok-clause-kept
returns-in-Ok-clause-kept g c =
    let told = g.D.Disk.told in
    let laws : DiskLaws told = record { need = g.met.D.Disk.images_need_contents; counts = g.met.D.Disk.now_is_since; only = g.met.D.Disk.since_now_is_now; fit = g.met.D.Disk.contents_fit } in
    let s : LoggedState g.row.D.Denot = record { disk = c.self.inside.disk; layout = c.self.inside.layout; log = c.self.inside.log; pool = c.self.inside.pool; marks = c.self.inside.marks.items; waiting = c.self.inside.waiting; failed = c.self.inside.failed } in
    let none : s.failed ≡ None = ap (λ (x : LoggedState g.row.D.Denot). x.failed) c.self.view_is ∙ c.requires.failed in
    let standing = subst (λ (f : Option ℕ). IsStanding (told s.disk) s.layout s.log s.pool s.marks s.waiting f) none c.self.invariant in
    subst (λ (x : LoggedState g.row.D.Denot). KeptPages told (store_of told x) (store_of told (record { disk = c.sync.new.self; layout = s.layout; log = s.log; pool = s.pool; marks = s.marks; waiting = s.waiting; failed = s.failed }))) c.self.view_is
    (sync_keeps told laws c.no_change_begins_another.ensures s c.pages_fill_the_disk.ensures standing c.sync.new.self c.sync.ensures.cause.later s.failed c.sync.ensures.same c.sync.ensures.images c.sync.ensures.moments)

pub returns-in-Err-clause-kept : goal.returns-in-Err-clause-kept
returns-in-Err-clause-kept g c =
    let told = g.D.Disk.told in
    let laws : DiskLaws told = record { need = g.met.D.Disk.images_need_contents; counts = g.met.D.Disk.now_is_since; only = g.met.D.Disk.since_now_is_now; fit = g.met.D.Disk.contents_fit } in
    let s : LoggedState g.row.D.Denot = record { disk = c.self.inside.disk; layout = c.self.inside.layout; log = c.self.inside.log; pool = c.self.inside.pool; marks = c.self.inside.marks.items; waiting = c.self.inside.waiting; failed = c.self.inside.failed } in
    let none : s.failed ≡ None = ap (λ (x : LoggedState g.row.D.Denot). x.failed) c.self.view_is ∙ c.requires.failed in
    let standing = subst (λ (f : Option ℕ). IsStanding (told s.disk) s.layout s.log s.pool s.marks s.waiting f) none c.self.invariant in
    subst (λ (x : LoggedState g.row.D.Denot). KeptPages told (store_of told x) (store_of told (record { disk = c.sync.new.self; layout = s.layout; log = s.log; pool = s.pool; marks = s.marks; waiting = s.waiting; failed = Some c.faults.result }))) c.self.view_is
    (sync_keeps told laws c.no_change_begins_another.ensures s c.pages_fill_the_disk.ensures standing c.sync.new.self c.sync.ensures.cause.later (Some c.faults.result) c.sync.ensures.same c.sync.ensures.images c.sync.ensures.moments)
