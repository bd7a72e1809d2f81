use Rattle.std.proofs.Common.{◌≡◌, ℕ, false, sym, ap, subst, ◌∙◌}
use Rattle.std.specs.Prelude.{Option, None, Some}
use Rattle.buffer_pool.specs.PoolState.{PoolState, IsDirty}
use Rattle.wal_record.specs.Waiting.{no_changes}
use Rattle.recovery.specs.ShownPages.{content_at}
use Rattle.page_store.specs.Contents.{HoldsAlike}
use Rattle.page_store.specs.KeptPages.{KeptPages}
use Rattle.page_store.specs.LoggedState.{LoggedState, store_of}
use Rattle.page_store.specs.Room.{IsDurable}
use Rattle.page_store.specs.Standing.{IsStanding}
use Rattle.page_store.proofs.Steps.{DiskLaws}
use Rattle.page_store.proofs.CleanExits.{durable_all, one_none, one_dirty, one_clean, one_cleaned, failed_leaves}
use Rattle.page_store.proofs.Exits.{lie_within}
use Rattle.page_store.proofs.logged.LoggedPages.clean_one.Goals as goal

pub clean_one-requires : goal.clean_one-requires
clean_one-requires g c =
    lie_within (g.D.Disk.told c.self.inside.disk) c.self.inside.layout c.self.inside.log c.self.inside.pool c.self.inside.marks.items c.self.inside.waiting c.self.inside.failed c.pages_fill_the_disk.ensures c.self.invariant

pub invariant_of-self : goal.invariant_of-self
invariant_of-self g c =
    let told = g.D.Disk.told in
    let laws : DiskLaws told = record { need = g.met.D.Disk.images_need_contents; counts = g.met.D.Disk.now_is_since; only = g.met.D.Disk.since_now_is_now; fit = g.met.D.Disk.contents_fit } in
    let s : LoggedState g.row.D.Denot = record { disk = c.self.inside.disk; layout = c.self.inside.layout; log = c.self.inside.log; pool = c.self.inside.pool; marks = c.self.inside.marks.items; waiting = c.self.inside.waiting; failed = c.self.inside.failed } in
    let none : s.failed ≡ None = ap (λ (x : LoggedState g.row.D.Denot). x.failed) c.self.view_is ∙ c.requires.failed in
    let standing = subst (λ (f : Option ℕ). IsStanding (told s.disk) s.layout s.log s.pool s.marks s.waiting f) none c.self.invariant in
    let sure : IsDurable s.log s.waiting c.durable-durable.result = subst (λ (x : LoggedState g.row.D.Denot). IsDurable x.log x.waiting c.durable-durable.result) (sym c.self.view_is) c.durable-durable.ensures in
    let all = one_cleaned told laws c.no_change_begins_another.ensures c.redo_forgets_a_page_begun_anew.ensures s c.pages_fill_the_disk.ensures standing c.clean_one.new.disk c.clean_one.ensures.cause.later c.clean_one.new.self c.durable-durable.result sure c.in-Ok.written c.in-Ok.ensures.cleans in
    subst (λ (f : Option ℕ). IsStanding (told c.clean_one.new.disk) s.layout s.log c.clean_one.new.self s.marks s.waiting f) (sym none) all.standing

pub returns-in-Ok-clause-kept : goal.returns-in-Ok-clause-kept
returns-in-Ok-clause-kept g c =
    let told = g.D.Disk.told in
    let laws : DiskLaws told = record { need = g.met.D.Disk.images_need_contents; counts = g.met.D.Disk.now_is_since; only = g.met.D.Disk.since_now_is_now; fit = g.met.D.Disk.contents_fit } in
    let s : LoggedState g.row.D.Denot = record { disk = c.self.inside.disk; layout = c.self.inside.layout; log = c.self.inside.log; pool = c.self.inside.pool; marks = c.self.inside.marks.items; waiting = c.self.inside.waiting; failed = c.self.inside.failed } in
    let none : s.failed ≡ None = ap (λ (x : LoggedState g.row.D.Denot). x.failed) c.self.view_is ∙ c.requires.failed in
    let standing = subst (λ (f : Option ℕ). IsStanding (told s.disk) s.layout s.log s.pool s.marks s.waiting f) none c.self.invariant in
    let sure : IsDurable s.log s.waiting c.durable-durable.result = subst (λ (x : LoggedState g.row.D.Denot). IsDurable x.log x.waiting c.durable-durable.result) (sym c.self.view_is) c.durable-durable.ensures in
    let all = one_cleaned told laws c.no_change_begins_another.ensures c.redo_forgets_a_page_begun_anew.ensures s c.pages_fill_the_disk.ensures standing c.clean_one.new.disk c.clean_one.ensures.cause.later c.clean_one.new.self c.durable-durable.result sure c.in-Ok.written c.in-Ok.ensures.cleans in
    subst (λ (x : LoggedState g.row.D.Denot). KeptPages told (store_of told x) (store_of told (record { disk = c.clean_one.new.disk; layout = s.layout; log = s.log; pool = c.clean_one.new.self; marks = s.marks; waiting = s.waiting; failed = s.failed }))) c.self.view_is
    (all.keeps)

pub returns-in-Ok-clause-alike : goal.returns-in-Ok-clause-alike
returns-in-Ok-clause-alike g c =
    let told = g.D.Disk.told in
    let laws : DiskLaws told = record { need = g.met.D.Disk.images_need_contents; counts = g.met.D.Disk.now_is_since; only = g.met.D.Disk.since_now_is_now; fit = g.met.D.Disk.contents_fit } in
    let s : LoggedState g.row.D.Denot = record { disk = c.self.inside.disk; layout = c.self.inside.layout; log = c.self.inside.log; pool = c.self.inside.pool; marks = c.self.inside.marks.items; waiting = c.self.inside.waiting; failed = c.self.inside.failed } in
    let none : s.failed ≡ None = ap (λ (x : LoggedState g.row.D.Denot). x.failed) c.self.view_is ∙ c.requires.failed in
    let standing = subst (λ (f : Option ℕ). IsStanding (told s.disk) s.layout s.log s.pool s.marks s.waiting f) none c.self.invariant in
    let sure : IsDurable s.log s.waiting c.durable-durable.result = subst (λ (x : LoggedState g.row.D.Denot). IsDurable x.log x.waiting c.durable-durable.result) (sym c.self.view_is) c.durable-durable.ensures in
    let all = one_cleaned told laws c.no_change_begins_another.ensures c.redo_forgets_a_page_begun_anew.ensures s c.pages_fill_the_disk.ensures standing c.clean_one.new.disk c.clean_one.ensures.cause.later c.clean_one.new.self c.durable-durable.result sure c.in-Ok.written c.in-Ok.ensures.cleans in
    subst (λ (x : LoggedState g.row.D.Denot). HoldsAlike x.pool c.clean_one.new.self) c.self.view_is (all.alike)

pub returns-in-Ok-clause-clean : goal.returns-in-Ok-clause-clean
returns-in-Ok-clause-clean g c =
    let told = g.D.Disk.told in
    let laws : DiskLaws told = record { need = g.met.D.Disk.images_need_contents; counts = g.met.D.Disk.now_is_since; only = g.met.D.Disk.since_now_is_now; fit = g.met.D.Disk.contents_fit } in
    let s : LoggedState g.row.D.Denot = record { disk = c.self.inside.disk; layout = c.self.inside.layout; log = c.self.inside.log; pool = c.self.inside.pool; marks = c.self.inside.marks.items; waiting = c.self.inside.waiting; failed = c.self.inside.failed } in
    let none : s.failed ≡ None = ap (λ (x : LoggedState g.row.D.Denot). x.failed) c.self.view_is ∙ c.requires.failed in
    let standing = subst (λ (f : Option ℕ). IsStanding (told s.disk) s.layout s.log s.pool s.marks s.waiting f) none c.self.invariant in
    let sure : IsDurable s.log s.waiting c.durable-durable.result = subst (λ (x : LoggedState g.row.D.Denot). IsDurable x.log x.waiting c.durable-durable.result) (sym c.self.view_is) c.durable-durable.ensures in
    one_clean told laws c.no_change_begins_another.ensures c.redo_forgets_a_page_begun_anew.ensures s c.pages_fill_the_disk.ensures standing c.clean_one.new.disk c.clean_one.ensures.cause.later c.clean_one.new.self c.durable-durable.result sure c.in-Ok.written c.in-Ok.ensures.cleans

pub invariant_of-self-in-Err : goal.invariant_of-self-in-Err
invariant_of-self-in-Err g c =
    let told = g.D.Disk.told in
    let laws : DiskLaws told = record { need = g.met.D.Disk.images_need_contents; counts = g.met.D.Disk.now_is_since; only = g.met.D.Disk.since_now_is_now; fit = g.met.D.Disk.contents_fit } in
    let s : LoggedState g.row.D.Denot = record { disk = c.self.inside.disk; layout = c.self.inside.layout; log = c.self.inside.log; pool = c.self.inside.pool; marks = c.self.inside.marks.items; waiting = c.self.inside.waiting; failed = c.self.inside.failed } in
    let none : s.failed ≡ None = ap (λ (x : LoggedState g.row.D.Denot). x.failed) c.self.view_is ∙ c.requires.failed in
    let standing = subst (λ (f : Option ℕ). IsStanding (told s.disk) s.layout s.log s.pool s.marks s.waiting f) none c.self.invariant in
    let sure : IsDurable s.log s.waiting c.durable-durable.result = subst (λ (x : LoggedState g.row.D.Denot). IsDurable x.log x.waiting c.durable-durable.result) (sym c.self.view_is) c.durable-durable.ensures in
    let all = failed_leaves told laws c.no_change_begins_another.ensures c.redo_forgets_a_page_begun_anew.ensures s c.pages_fill_the_disk.ensures standing c.clean_one.new.disk c.clean_one.ensures.cause.later c.clean_one.new.self c.durable-durable.result sure c.faults.result c.in-Err.ensures.cleans in
    all.standing

pub returns-in-Err-clause-kept : goal.returns-in-Err-clause-kept
returns-in-Err-clause-kept g c =
    let told = g.D.Disk.told in
    let laws : DiskLaws told = record { need = g.met.D.Disk.images_need_contents; counts = g.met.D.Disk.now_is_since; only = g.met.D.Disk.since_now_is_now; fit = g.met.D.Disk.contents_fit } in
    let s : LoggedState g.row.D.Denot = record { disk = c.self.inside.disk; layout = c.self.inside.layout; log = c.self.inside.log; pool = c.self.inside.pool; marks = c.self.inside.marks.items; waiting = c.self.inside.waiting; failed = c.self.inside.failed } in
    let none : s.failed ≡ None = ap (λ (x : LoggedState g.row.D.Denot). x.failed) c.self.view_is ∙ c.requires.failed in
    let standing = subst (λ (f : Option ℕ). IsStanding (told s.disk) s.layout s.log s.pool s.marks s.waiting f) none c.self.invariant in
    let sure : IsDurable s.log s.waiting c.durable-durable.result = subst (λ (x : LoggedState g.row.D.Denot). IsDurable x.log x.waiting c.durable-durable.result) (sym c.self.view_is) c.durable-durable.ensures in
    let all = failed_leaves told laws c.no_change_begins_another.ensures c.redo_forgets_a_page_begun_anew.ensures s c.pages_fill_the_disk.ensures standing c.clean_one.new.disk c.clean_one.ensures.cause.later c.clean_one.new.self c.durable-durable.result sure c.faults.result c.in-Err.ensures.cleans in
    subst (λ (x : LoggedState g.row.D.Denot). KeptPages told (store_of told x) (store_of told (record { disk = c.clean_one.new.disk; layout = s.layout; log = s.log; pool = c.clean_one.new.self; marks = s.marks; waiting = s.waiting; failed = Some c.faults.result }))) c.self.view_is
    (all.keeps)

pub returns-in-Err-clause-alike : goal.returns-in-Err-clause-alike
returns-in-Err-clause-alike g c =
    let told = g.D.Disk.told in
    let laws : DiskLaws told = record { need = g.met.D.Disk.images_need_contents; counts = g.met.D.Disk.now_is_since; only = g.met.D.Disk.since_now_is_now; fit = g.met.D.Disk.contents_fit } in
    let s : LoggedState g.row.D.Denot = record { disk = c.self.inside.disk; layout = c.self.inside.layout; log = c.self.inside.log; pool = c.self.inside.pool; marks = c.self.inside.marks.items; waiting = c.self.inside.waiting; failed = c.self.inside.failed } in
    let none : s.failed ≡ None = ap (λ (x : LoggedState g.row.D.Denot). x.failed) c.self.view_is ∙ c.requires.failed in
    let standing = subst (λ (f : Option ℕ). IsStanding (told s.disk) s.layout s.log s.pool s.marks s.waiting f) none c.self.invariant in
    let sure : IsDurable s.log s.waiting c.durable-durable.result = subst (λ (x : LoggedState g.row.D.Denot). IsDurable x.log x.waiting c.durable-durable.result) (sym c.self.view_is) c.durable-durable.ensures in
    let all = failed_leaves told laws c.no_change_begins_another.ensures c.redo_forgets_a_page_begun_anew.ensures s c.pages_fill_the_disk.ensures standing c.clean_one.new.disk c.clean_one.ensures.cause.later c.clean_one.new.self c.durable-durable.result sure c.faults.result c.in-Err.ensures.cleans in
    subst (λ (x : LoggedState g.row.D.Denot). HoldsAlike x.pool c.clean_one.new.self) c.self.view_is (λ number. ap (λ (p : PoolState). content_at p number) all.same)

pub returns-in-Ok-clause-none : goal.returns-in-Ok-clause-none
returns-in-Ok-clause-none g c =
    let told = g.D.Disk.told in
    let s : LoggedState g.row.D.Denot = record { disk = c.self.inside.disk; layout = c.self.inside.layout; log = c.self.inside.log; pool = c.self.inside.pool; marks = c.self.inside.marks.items; waiting = c.self.inside.waiting; failed = c.self.inside.failed } in
    subst (λ (x : LoggedState g.row.D.Denot). c.in-Ok.written ≡ false → c.clean_one.new.self ≡ x.pool) c.self.view_is (one_none s.pool c.clean_one.new.self c.durable-durable.result (told s.disk) (told c.clean_one.new.disk) c.in-Ok.written c.in-Ok.ensures.cleans)

pub returns-in-Ok-clause-dirty : goal.returns-in-Ok-clause-dirty
returns-in-Ok-clause-dirty g c =
    let told = g.D.Disk.told in
    let s : LoggedState g.row.D.Denot = record { disk = c.self.inside.disk; layout = c.self.inside.layout; log = c.self.inside.log; pool = c.self.inside.pool; marks = c.self.inside.marks.items; waiting = c.self.inside.waiting; failed = c.self.inside.failed } in
    let none : s.failed ≡ None = ap (λ (x : LoggedState g.row.D.Denot). x.failed) c.self.view_is ∙ c.requires.failed in
    let standing = subst (λ (f : Option ℕ). IsStanding (told s.disk) s.layout s.log s.pool s.marks s.waiting f) none c.self.invariant in
    let sure : IsDurable s.log s.waiting c.durable-durable.result = subst (λ (x : LoggedState g.row.D.Denot). IsDurable x.log x.waiting c.durable-durable.result) (sym c.self.view_is) c.durable-durable.ensures in
    subst (λ (x : LoggedState g.row.D.Denot). c.in-Ok.written ≡ false → x.waiting ≡ no_changes → (page log : ℕ) → IsDirty x.pool page log → ⊥) c.self.view_is (λ e empty page log dirty. one_dirty s.pool c.clean_one.new.self c.durable-durable.result (told s.disk) (told c.clean_one.new.disk) c.in-Ok.written c.in-Ok.ensures.cleans e page log dirty (standing.waits page log dirty.0 dirty.1 dirty.2) (durable_all s.log s.waiting c.durable-durable.result sure empty))
