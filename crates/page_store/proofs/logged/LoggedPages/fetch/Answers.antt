use Rattle.std.proofs.Common.{◌≡◌, ◌≤◌, ℕ, List, sym, ap, subst, ◌∙◌}
use Rattle.std.specs.Prelude.{IsTrue, Option, None, Some}
use Rattle.buffer_pool.specs.PoolState.{held_at}
use Rattle.recovery.specs.ShownPages.{shown_pages}
use Rattle.page_store.specs.KeptPages.{KeptPages}
use Rattle.page_store.specs.LoggedState.{LoggedState, store_of}
use Rattle.page_store.specs.Standing.{IsStanding}
use Rattle.page_store.proofs.Steps.{DiskLaws}
use Rattle.std.proofs.lemmas.List.{length-replicate}
use Rattle.store_layout.specs.DiskLayout.{DiskLayout, IsPlace}
use Rattle.disk_trait.specs.Told.{Told}
use Rattle.page_layout.specs.declared.page.Form.{Form}
use Rattle.page_layout.specs.PageContents.{IsPageOf}
use Rattle.page_map.specs.Forms.{form_of}
use Rattle.page_map.specs.PageMap.{page_at}
use Rattle.page_map.specs.Keeps.{Tells}
use Rattle.recovery.specs.PageNumbers.{page_number}
use Rattle.page_store.proofs.Exits.{read_keeps}
use Rattle.page_store.proofs.LogSteps.{sync_standing}
use Rattle.page_store.proofs.SetExits.{fetched}
use Rattle.page_store.proofs.Steps.{checked_map}
use Rattle.page_store.proofs.logged.LoggedPages.fetch.Goals as goal

pub returns-in-Err-clause-kept : goal.returns-in-Err-clause-kept
returns-in-Err-clause-kept g c =
    let told = g.D.Disk.told in
    let laws : DiskLaws told = record { need = g.met.D.Disk.images_need_contents; counts = g.met.D.Disk.now_is_since; only = g.met.D.Disk.since_now_is_now; fit = g.met.D.Disk.contents_fit } in
    let s : LoggedState g.row.D.Denot = record { disk = c.self.inside.disk; layout = c.self.inside.layout; log = c.self.inside.log; pool = c.self.inside.pool; marks = c.self.inside.marks.items; waiting = c.self.inside.waiting; failed = c.self.inside.failed } in
    let same : told c.read_page.new.disk ≡ record (told s.disk) { faults = (told c.read_page.new.disk).faults } = c.read_page.ensures.same in
    let later = c.read_page.ensures.cause.later in
    subst (λ (x : LoggedState g.row.D.Denot). KeptPages told (store_of told x) (store_of told (record { disk = c.read_page.new.disk; layout = s.layout; log = s.log; pool = s.pool; marks = s.marks; waiting = s.waiting; failed = Some c.faults.result }))) c.self.view_is
    (read_keeps told laws s c.read_page.new.disk (Some c.faults.result) same later)

pub invariant_of-self-in_default : goal.invariant_of-self-in_default
invariant_of-self-in_default g c =
    let told = g.D.Disk.told in
    let s : LoggedState g.row.D.Denot = record { disk = c.self.inside.disk; layout = c.self.inside.layout; log = c.self.inside.log; pool = c.self.inside.pool; marks = c.self.inside.marks.items; waiting = c.self.inside.waiting; failed = c.self.inside.failed } in
    let none : s.failed ≡ None = ap (λ (x : LoggedState g.row.D.Denot). x.failed) c.self.view_is ∙ c.requires.failed in
    let standing = subst (λ (f : Option ℕ). IsStanding (told s.disk) s.layout s.log s.pool s.marks s.waiting f) none c.self.invariant in
    let same : told c.read_page.new.disk ≡ record (told s.disk) { faults = (told c.read_page.new.disk).faults } = c.read_page.ensures.same in
    subst (λ (f : Option ℕ). IsStanding (told c.read_page.new.disk) s.layout s.log s.pool s.marks s.waiting f) (sym none)
    (sync_standing s.layout s.log s.pool s.marks s.waiting None (told s.disk) (told c.read_page.new.disk) (ap (λ (t : Told). t.size) same) (ap (λ (t : Told). t.tells_contents) same) (ap (λ (t : Told). t.contents) same)
    (λ _ image now. subst (λ (t : Told). IsTrue (t.now image)) same now) standing)

pub returns-in-Ok-clause-kept : goal.returns-in-Ok-clause-kept
returns-in-Ok-clause-kept g c =
    let told = g.D.Disk.told in
    let laws : DiskLaws told = record { need = g.met.D.Disk.images_need_contents; counts = g.met.D.Disk.now_is_since; only = g.met.D.Disk.since_now_is_now; fit = g.met.D.Disk.contents_fit } in
    let s : LoggedState g.row.D.Denot = record { disk = c.self.inside.disk; layout = c.self.inside.layout; log = c.self.inside.log; pool = c.self.inside.pool; marks = c.self.inside.marks.items; waiting = c.self.inside.waiting; failed = c.self.inside.failed } in
    let same : told c.read_page.new.disk ≡ record (told s.disk) { faults = (told c.read_page.new.disk).faults } = c.read_page.ensures.same in
    let later = c.read_page.ensures.cause.later in
    subst (λ (x : LoggedState g.row.D.Denot). KeptPages told (store_of told x) (store_of told (record { disk = c.read_page.new.disk; layout = s.layout; log = s.log; pool = s.pool; marks = s.marks; waiting = s.waiting; failed = s.failed }))) c.self.view_is
    (read_keeps told laws s c.read_page.new.disk s.failed same later)

pub returns-in-Ok-clause-page : goal.returns-in-Ok-clause-page
returns-in-Ok-clause-page g c =
    let told = g.D.Disk.told in
    let s : LoggedState g.row.D.Denot = record { disk = c.self.inside.disk; layout = c.self.inside.layout; log = c.self.inside.log; pool = c.self.inside.pool; marks = c.self.inside.marks.items; waiting = c.self.inside.waiting; failed = c.self.inside.failed } in
    let same : told c.read_page.new.disk ≡ record (told s.disk) { faults = (told c.read_page.new.disk).faults } = c.read_page.ensures.same in
    let is : IsPlace s.layout c.args.place = subst (λ (x : LoggedState g.row.D.Denot). IsPlace x.layout c.args.place) (sym c.self.view_is) c.requires.place in
    let absent = subst (λ (x : LoggedState g.row.D.Denot). held_at x.pool (page_number x.layout c.args.place) ≡ None) (sym c.self.view_is) c.requires.absent in
    let page_is = λ (tells : IsTrue (told s.disk).tells_contents). c.from_bytes-page.ensures ∙ fetched s.layout s.pool (told s.disk).contents c.args.place is absent c.read_page.new.bytes c.page_at-at.result _ (c.in_default.ensures.bytes tells) (length-replicate {A = ℕ} 8192 0) c.page_at-at.ensures in
    λ now.
    page_is (sym (ap (λ (t : Told). t.tells_contents) same) ∙ now) ∙ ap (λ (l : List ℕ). page_at (shown_pages s.layout s.pool l) c.args.place) (sym (ap (λ (t : Told). t.contents) same))

pub returns-in-Err-check-clause-kept : goal.returns-in-Err-check-clause-kept
returns-in-Err-check-clause-kept g c =
    let told = g.D.Disk.told in
    let laws : DiskLaws told = record { need = g.met.D.Disk.images_need_contents; counts = g.met.D.Disk.now_is_since; only = g.met.D.Disk.since_now_is_now; fit = g.met.D.Disk.contents_fit } in
    let s : LoggedState g.row.D.Denot = record { disk = c.self.inside.disk; layout = c.self.inside.layout; log = c.self.inside.log; pool = c.self.inside.pool; marks = c.self.inside.marks.items; waiting = c.self.inside.waiting; failed = c.self.inside.failed } in
    let same : told c.read_page.new.disk ≡ record (told s.disk) { faults = (told c.read_page.new.disk).faults } = c.read_page.ensures.same in
    let later = c.read_page.ensures.cause.later in
    subst (λ (x : LoggedState g.row.D.Denot). KeptPages told (store_of told x) (store_of told (record { disk = c.read_page.new.disk; layout = s.layout; log = s.log; pool = s.pool; marks = s.marks; waiting = s.waiting; failed = s.failed }))) c.self.view_is
    (read_keeps told laws s c.read_page.new.disk s.failed same later)

pub returns-in-Err-check-clause-outcome : goal.returns-in-Err-check-clause-outcome
returns-in-Err-check-clause-outcome g c =
    let told = g.D.Disk.told in
    let s : LoggedState g.row.D.Denot = record { disk = c.self.inside.disk; layout = c.self.inside.layout; log = c.self.inside.log; pool = c.self.inside.pool; marks = c.self.inside.marks.items; waiting = c.self.inside.waiting; failed = c.self.inside.failed } in
    let none : s.failed ≡ None = ap (λ (x : LoggedState g.row.D.Denot). x.failed) c.self.view_is ∙ c.requires.failed in
    let standing = subst (λ (f : Option ℕ). IsStanding (told s.disk) s.layout s.log s.pool s.marks s.waiting f) none c.self.invariant in
    let later = c.read_page.ensures.cause.later in
    let is : IsPlace s.layout c.args.place = subst (λ (x : LoggedState g.row.D.Denot). IsPlace x.layout c.args.place) (sym c.self.view_is) c.requires.place in
    let absent = subst (λ (x : LoggedState g.row.D.Denot). held_at x.pool (page_number x.layout c.args.place) ≡ None) (sym c.self.view_is) c.requires.absent in
    let page_is = λ (tells : IsTrue (told s.disk).tells_contents). c.from_bytes-page.ensures ∙ fetched s.layout s.pool (told s.disk).contents c.args.place is absent c.read_page.new.bytes c.page_at-at.result _ (c.in_default.ensures.bytes tells) (length-replicate {A = ℕ} 8192 0) c.page_at-at.ensures in
    let form : c.args.form.now ≡ form_of s.layout c.args.place.relation = c.requires.form ∙ ap (λ (l : DiskLayout). form_of l c.args.place.relation) (sym (ap (λ (x : LoggedState g.row.D.Denot). x.layout) c.self.view_is)) in
    let damage : (IsTrue (told s.disk).tells_contents → ⊥) = λ tells. c.in-Err-check.ensures.refused
    (subst (λ (f : Form). IsPageOf f c.from_bytes-page.result) (sym form) (subst (IsPageOf (form_of s.layout c.args.place.relation)) (sym (page_is tells)) (checked_map s.layout s.pool (told s.disk).contents (standing.checked tells) c.args.place is))) in
    (c.requires.failed, none, subst (λ (x : LoggedState g.row.D.Denot). (told x.disk).faults ≤ (told c.read_page.new.disk).faults) c.self.view_is later, subst (λ (x : LoggedState g.row.D.Denot). Tells told (store_of told x) → ⊥) c.self.view_is damage)
