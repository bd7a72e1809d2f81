use Rattle.std.proofs.Common.{◌≡◌, inr, ◌+◌, ℕ, sym, ap, subst, ◌∙◌, arith}
use Rattle.std.specs.Prelude.{Option, None, Some}
use Rattle.buffer_pool.specs.PoolState.{PoolState, IsDirty}
use Rattle.wal_record.specs.Waiting.{no_changes}
use Rattle.recovery.specs.ShownPages.{content_at}
use Rattle.page_store.specs.Contents.{HoldsAlike}
use Rattle.page_store.specs.KeptPages.{KeptPages}
use Rattle.page_store.specs.LoggedState.{LoggedState, store_of}
use Rattle.page_store.specs.Room.{IsDurable}
use Rattle.page_store.specs.Standing.{IsStanding}
use Rattle.page_store.proofs.Steps.{DiskLaws}
use Rattle.page_store.proofs.CleanExits.{page_cleaned, page_failed}
use Rattle.page_store.proofs.Exits.{lie_within}
use Rattle.page_store.proofs.logged.LoggedPages.write.Goals as goal

pub clean-requires : goal.clean-requires
clean-requires g c =
    lie_within (g.D.Disk.told c.self.inside.disk) c.self.inside.layout c.self.inside.log c.self.inside.pool c.self.inside.marks.items c.self.inside.waiting c.self.inside.failed c.pages_fill_the_disk.ensures c.self.invariant

pub invariant_of-self : goal.invariant_of-self
invariant_of-self g c =
    let told = g.D.Disk.told in
    let laws : DiskLaws told = record { need = g.met.D.Disk.images_need_contents; counts = g.met.D.Disk.now_is_since; only = g.met.D.Disk.since_now_is_now; fit = g.met.D.Disk.contents_fit } in
    let s : LoggedState g.row.D.Denot = record { disk = c.self.inside.disk; layout = c.self.inside.layout; log = c.self.inside.log; pool = c.self.inside.pool; marks = c.self.inside.marks.items; waiting = c.self.inside.waiting; failed = c.self.inside.failed } in
    let none : s.failed ≡ None = ap (λ (x : LoggedState g.row.D.Denot). x.failed) c.self.view_is ∙ c.requires.failed in
    let standing = subst (λ (f : Option ℕ). IsStanding (told s.disk) s.layout s.log s.pool s.marks s.waiting f) none c.self.invariant in
    let empty : s.waiting ≡ no_changes = ap (λ (x : LoggedState g.row.D.Denot). x.waiting) c.self.view_is ∙ c.requires.empty in
    let sure : IsDurable s.log s.waiting (c.used-durable.result + 1) = inr (empty, ap (λ (n : ℕ). n + 1) c.used-durable.ensures.used) in
    let dirty = subst (λ (x : LoggedState g.row.D.Denot). (log : ℕ) × IsDirty x.pool c.args.number log) (sym c.self.view_is) c.requires.dirty in
    let all = page_cleaned told laws c.no_change_begins_another.ensures c.redo_forgets_a_page_begun_anew.ensures s c.pages_fill_the_disk.ensures standing c.clean.new.disk c.clean.ensures.cause.later c.clean.new.self (c.used-durable.result + 1) sure c.args.number c.in-Ok.field-0 c.in-Ok.ensures.cleans
    (λ log it. omega (arith, standing.waits c.args.number log it.0 it.1 it.2, c.used-durable.ensures.used)) dirty.0 dirty.1 in
    subst (λ (f : Option ℕ). IsStanding (told c.clean.new.disk) s.layout s.log c.clean.new.self s.marks s.waiting f) (sym none) all.0.standing

pub returns-in-Ok-clause-kept : goal.returns-in-Ok-clause-kept
returns-in-Ok-clause-kept g c =
    let told = g.D.Disk.told in
    let laws : DiskLaws told = record { need = g.met.D.Disk.images_need_contents; counts = g.met.D.Disk.now_is_since; only = g.met.D.Disk.since_now_is_now; fit = g.met.D.Disk.contents_fit } in
    let s : LoggedState g.row.D.Denot = record { disk = c.self.inside.disk; layout = c.self.inside.layout; log = c.self.inside.log; pool = c.self.inside.pool; marks = c.self.inside.marks.items; waiting = c.self.inside.waiting; failed = c.self.inside.failed } in
    let none : s.failed ≡ None = ap (λ (x : LoggedState g.row.D.Denot). x.failed) c.self.view_is ∙ c.requires.failed in
    let standing = subst (λ (f : Option ℕ). IsStanding (told s.disk) s.layout s.log s.pool s.marks s.waiting f) none c.self.invariant in
    let empty : s.waiting ≡ no_changes = ap (λ (x : LoggedState g.row.D.Denot). x.waiting) c.self.view_is ∙ c.requires.empty in
    let sure : IsDurable s.log s.waiting (c.used-durable.result + 1) = inr (empty, ap (λ (n : ℕ). n + 1) c.used-durable.ensures.used) in
    let dirty = subst (λ (x : LoggedState g.row.D.Denot). (log : ℕ) × IsDirty x.pool c.args.number log) (sym c.self.view_is) c.requires.dirty in
    let all = page_cleaned told laws c.no_change_begins_another.ensures c.redo_forgets_a_page_begun_anew.ensures s c.pages_fill_the_disk.ensures standing c.clean.new.disk c.clean.ensures.cause.later c.clean.new.self (c.used-durable.result + 1) sure c.args.number c.in-Ok.field-0 c.in-Ok.ensures.cleans
    (λ log it. omega (arith, standing.waits c.args.number log it.0 it.1 it.2, c.used-durable.ensures.used)) dirty.0 dirty.1 in
    subst (λ (x : LoggedState g.row.D.Denot). KeptPages told (store_of told x) (store_of told (record { disk = c.clean.new.disk; layout = s.layout; log = s.log; pool = c.clean.new.self; marks = s.marks; waiting = s.waiting; failed = s.failed }))) c.self.view_is
    (all.0.keeps)

pub returns-in-Ok-clause-alike : goal.returns-in-Ok-clause-alike
returns-in-Ok-clause-alike g c =
    let told = g.D.Disk.told in
    let laws : DiskLaws told = record { need = g.met.D.Disk.images_need_contents; counts = g.met.D.Disk.now_is_since; only = g.met.D.Disk.since_now_is_now; fit = g.met.D.Disk.contents_fit } in
    let s : LoggedState g.row.D.Denot = record { disk = c.self.inside.disk; layout = c.self.inside.layout; log = c.self.inside.log; pool = c.self.inside.pool; marks = c.self.inside.marks.items; waiting = c.self.inside.waiting; failed = c.self.inside.failed } in
    let none : s.failed ≡ None = ap (λ (x : LoggedState g.row.D.Denot). x.failed) c.self.view_is ∙ c.requires.failed in
    let standing = subst (λ (f : Option ℕ). IsStanding (told s.disk) s.layout s.log s.pool s.marks s.waiting f) none c.self.invariant in
    let empty : s.waiting ≡ no_changes = ap (λ (x : LoggedState g.row.D.Denot). x.waiting) c.self.view_is ∙ c.requires.empty in
    let sure : IsDurable s.log s.waiting (c.used-durable.result + 1) = inr (empty, ap (λ (n : ℕ). n + 1) c.used-durable.ensures.used) in
    let dirty = subst (λ (x : LoggedState g.row.D.Denot). (log : ℕ) × IsDirty x.pool c.args.number log) (sym c.self.view_is) c.requires.dirty in
    let all = page_cleaned told laws c.no_change_begins_another.ensures c.redo_forgets_a_page_begun_anew.ensures s c.pages_fill_the_disk.ensures standing c.clean.new.disk c.clean.ensures.cause.later c.clean.new.self (c.used-durable.result + 1) sure c.args.number c.in-Ok.field-0 c.in-Ok.ensures.cleans
    (λ log it. omega (arith, standing.waits c.args.number log it.0 it.1 it.2, c.used-durable.ensures.used)) dirty.0 dirty.1 in
    subst (λ (x : LoggedState g.row.D.Denot). HoldsAlike x.pool c.clean.new.self) c.self.view_is (all.0.alike)

pub returns-in-Ok-clause-clean : goal.returns-in-Ok-clause-clean
returns-in-Ok-clause-clean g c =
    let told = g.D.Disk.told in
    let laws : DiskLaws told = record { need = g.met.D.Disk.images_need_contents; counts = g.met.D.Disk.now_is_since; only = g.met.D.Disk.since_now_is_now; fit = g.met.D.Disk.contents_fit } in
    let s : LoggedState g.row.D.Denot = record { disk = c.self.inside.disk; layout = c.self.inside.layout; log = c.self.inside.log; pool = c.self.inside.pool; marks = c.self.inside.marks.items; waiting = c.self.inside.waiting; failed = c.self.inside.failed } in
    let none : s.failed ≡ None = ap (λ (x : LoggedState g.row.D.Denot). x.failed) c.self.view_is ∙ c.requires.failed in
    let standing = subst (λ (f : Option ℕ). IsStanding (told s.disk) s.layout s.log s.pool s.marks s.waiting f) none c.self.invariant in
    let empty : s.waiting ≡ no_changes = ap (λ (x : LoggedState g.row.D.Denot). x.waiting) c.self.view_is ∙ c.requires.empty in
    let sure : IsDurable s.log s.waiting (c.used-durable.result + 1) = inr (empty, ap (λ (n : ℕ). n + 1) c.used-durable.ensures.used) in
    let dirty = subst (λ (x : LoggedState g.row.D.Denot). (log : ℕ) × IsDirty x.pool c.args.number log) (sym c.self.view_is) c.requires.dirty in
    let all = page_cleaned told laws c.no_change_begins_another.ensures c.redo_forgets_a_page_begun_anew.ensures s c.pages_fill_the_disk.ensures standing c.clean.new.disk c.clean.ensures.cause.later c.clean.new.self (c.used-durable.result + 1) sure c.args.number c.in-Ok.field-0 c.in-Ok.ensures.cleans
    (λ log it. omega (arith, standing.waits c.args.number log it.0 it.1 it.2, c.used-durable.ensures.used)) dirty.0 dirty.1 in
    all.1

pub returns-in-Ok-clause-dirty : goal.returns-in-Ok-clause-dirty
returns-in-Ok-clause-dirty g c =
    let told = g.D.Disk.told in
    let laws : DiskLaws told = record { need = g.met.D.Disk.images_need_contents; counts = g.met.D.Disk.now_is_since; only = g.met.D.Disk.since_now_is_now; fit = g.met.D.Disk.contents_fit } in
    let s : LoggedState g.row.D.Denot = record { disk = c.self.inside.disk; layout = c.self.inside.layout; log = c.self.inside.log; pool = c.self.inside.pool; marks = c.self.inside.marks.items; waiting = c.self.inside.waiting; failed = c.self.inside.failed } in
    let none : s.failed ≡ None = ap (λ (x : LoggedState g.row.D.Denot). x.failed) c.self.view_is ∙ c.requires.failed in
    let standing = subst (λ (f : Option ℕ). IsStanding (told s.disk) s.layout s.log s.pool s.marks s.waiting f) none c.self.invariant in
    let empty : s.waiting ≡ no_changes = ap (λ (x : LoggedState g.row.D.Denot). x.waiting) c.self.view_is ∙ c.requires.empty in
    let sure : IsDurable s.log s.waiting (c.used-durable.result + 1) = inr (empty, ap (λ (n : ℕ). n + 1) c.used-durable.ensures.used) in
    let dirty = subst (λ (x : LoggedState g.row.D.Denot). (log : ℕ) × IsDirty x.pool c.args.number log) (sym c.self.view_is) c.requires.dirty in
    let all = page_cleaned told laws c.no_change_begins_another.ensures c.redo_forgets_a_page_begun_anew.ensures s c.pages_fill_the_disk.ensures standing c.clean.new.disk c.clean.ensures.cause.later c.clean.new.self (c.used-durable.result + 1) sure c.args.number c.in-Ok.field-0 c.in-Ok.ensures.cleans
    (λ log it. omega (arith, standing.waits c.args.number log it.0 it.1 it.2, c.used-durable.ensures.used)) dirty.0 dirty.1 in
    subst (λ (x : LoggedState g.row.D.Denot). (other log : ℕ) → IsDirty c.clean.new.self other log → IsDirty x.pool other log) c.self.view_is (all.0.dirty)

pub invariant_of-self-in-Err : goal.invariant_of-self-in-Err
invariant_of-self-in-Err g c =
    let told = g.D.Disk.told in
    let laws : DiskLaws told = record { need = g.met.D.Disk.images_need_contents; counts = g.met.D.Disk.now_is_since; only = g.met.D.Disk.since_now_is_now; fit = g.met.D.Disk.contents_fit } in
    let s : LoggedState g.row.D.Denot = record { disk = c.self.inside.disk; layout = c.self.inside.layout; log = c.self.inside.log; pool = c.self.inside.pool; marks = c.self.inside.marks.items; waiting = c.self.inside.waiting; failed = c.self.inside.failed } in
    let none : s.failed ≡ None = ap (λ (x : LoggedState g.row.D.Denot). x.failed) c.self.view_is ∙ c.requires.failed in
    let standing = subst (λ (f : Option ℕ). IsStanding (told s.disk) s.layout s.log s.pool s.marks s.waiting f) none c.self.invariant in
    let empty : s.waiting ≡ no_changes = ap (λ (x : LoggedState g.row.D.Denot). x.waiting) c.self.view_is ∙ c.requires.empty in
    let sure : IsDurable s.log s.waiting (c.used-durable.result + 1) = inr (empty, ap (λ (n : ℕ). n + 1) c.used-durable.ensures.used) in
    let all = page_failed told laws c.no_change_begins_another.ensures c.redo_forgets_a_page_begun_anew.ensures s c.pages_fill_the_disk.ensures standing c.clean.new.disk c.clean.ensures.cause.later c.clean.new.self (c.used-durable.result + 1) sure c.args.number c.faults.result c.in-Err.field-0 c.in-Err.ensures.cleans in
    all.standing

pub returns-in-Err-clause-kept : goal.returns-in-Err-clause-kept
returns-in-Err-clause-kept g c =
    let told = g.D.Disk.told in
    let laws : DiskLaws told = record { need = g.met.D.Disk.images_need_contents; counts = g.met.D.Disk.now_is_since; only = g.met.D.Disk.since_now_is_now; fit = g.met.D.Disk.contents_fit } in
    let s : LoggedState g.row.D.Denot = record { disk = c.self.inside.disk; layout = c.self.inside.layout; log = c.self.inside.log; pool = c.self.inside.pool; marks = c.self.inside.marks.items; waiting = c.self.inside.waiting; failed = c.self.inside.failed } in
    let none : s.failed ≡ None = ap (λ (x : LoggedState g.row.D.Denot). x.failed) c.self.view_is ∙ c.requires.failed in
    let standing = subst (λ (f : Option ℕ). IsStanding (told s.disk) s.layout s.log s.pool s.marks s.waiting f) none c.self.invariant in
    let empty : s.waiting ≡ no_changes = ap (λ (x : LoggedState g.row.D.Denot). x.waiting) c.self.view_is ∙ c.requires.empty in
    let sure : IsDurable s.log s.waiting (c.used-durable.result + 1) = inr (empty, ap (λ (n : ℕ). n + 1) c.used-durable.ensures.used) in
    let all = page_failed told laws c.no_change_begins_another.ensures c.redo_forgets_a_page_begun_anew.ensures s c.pages_fill_the_disk.ensures standing c.clean.new.disk c.clean.ensures.cause.later c.clean.new.self (c.used-durable.result + 1) sure c.args.number c.faults.result c.in-Err.field-0 c.in-Err.ensures.cleans in
    subst (λ (x : LoggedState g.row.D.Denot). KeptPages told (store_of told x) (store_of told (record { disk = c.clean.new.disk; layout = s.layout; log = s.log; pool = c.clean.new.self; marks = s.marks; waiting = s.waiting; failed = Some c.faults.result }))) c.self.view_is
    (all.keeps)

pub returns-in-Err-clause-alike : goal.returns-in-Err-clause-alike
returns-in-Err-clause-alike g c =
    let told = g.D.Disk.told in
    let laws : DiskLaws told = record { need = g.met.D.Disk.images_need_contents; counts = g.met.D.Disk.now_is_since; only = g.met.D.Disk.since_now_is_now; fit = g.met.D.Disk.contents_fit } in
    let s : LoggedState g.row.D.Denot = record { disk = c.self.inside.disk; layout = c.self.inside.layout; log = c.self.inside.log; pool = c.self.inside.pool; marks = c.self.inside.marks.items; waiting = c.self.inside.waiting; failed = c.self.inside.failed } in
    let none : s.failed ≡ None = ap (λ (x : LoggedState g.row.D.Denot). x.failed) c.self.view_is ∙ c.requires.failed in
    let standing = subst (λ (f : Option ℕ). IsStanding (told s.disk) s.layout s.log s.pool s.marks s.waiting f) none c.self.invariant in
    let empty : s.waiting ≡ no_changes = ap (λ (x : LoggedState g.row.D.Denot). x.waiting) c.self.view_is ∙ c.requires.empty in
    let sure : IsDurable s.log s.waiting (c.used-durable.result + 1) = inr (empty, ap (λ (n : ℕ). n + 1) c.used-durable.ensures.used) in
    let all = page_failed told laws c.no_change_begins_another.ensures c.redo_forgets_a_page_begun_anew.ensures s c.pages_fill_the_disk.ensures standing c.clean.new.disk c.clean.ensures.cause.later c.clean.new.self (c.used-durable.result + 1) sure c.args.number c.faults.result c.in-Err.field-0 c.in-Err.ensures.cleans in
    subst (λ (x : LoggedState g.row.D.Denot). HoldsAlike x.pool c.clean.new.self) c.self.view_is (λ number. ap (λ (p : PoolState). content_at p number) all.same)

pub returns-in-Err-clause-dirty : goal.returns-in-Err-clause-dirty
returns-in-Err-clause-dirty g c =
    let told = g.D.Disk.told in
    let laws : DiskLaws told = record { need = g.met.D.Disk.images_need_contents; counts = g.met.D.Disk.now_is_since; only = g.met.D.Disk.since_now_is_now; fit = g.met.D.Disk.contents_fit } in
    let s : LoggedState g.row.D.Denot = record { disk = c.self.inside.disk; layout = c.self.inside.layout; log = c.self.inside.log; pool = c.self.inside.pool; marks = c.self.inside.marks.items; waiting = c.self.inside.waiting; failed = c.self.inside.failed } in
    let none : s.failed ≡ None = ap (λ (x : LoggedState g.row.D.Denot). x.failed) c.self.view_is ∙ c.requires.failed in
    let standing = subst (λ (f : Option ℕ). IsStanding (told s.disk) s.layout s.log s.pool s.marks s.waiting f) none c.self.invariant in
    let empty : s.waiting ≡ no_changes = ap (λ (x : LoggedState g.row.D.Denot). x.waiting) c.self.view_is ∙ c.requires.empty in
    let sure : IsDurable s.log s.waiting (c.used-durable.result + 1) = inr (empty, ap (λ (n : ℕ). n + 1) c.used-durable.ensures.used) in
    let all = page_failed told laws c.no_change_begins_another.ensures c.redo_forgets_a_page_begun_anew.ensures s c.pages_fill_the_disk.ensures standing c.clean.new.disk c.clean.ensures.cause.later c.clean.new.self (c.used-durable.result + 1) sure c.args.number c.faults.result c.in-Err.field-0 c.in-Err.ensures.cleans in
    subst (λ (x : LoggedState g.row.D.Denot). (other log : ℕ) → IsDirty c.clean.new.self other log → IsDirty x.pool other log) c.self.view_is (λ other log it. subst (λ (p : PoolState). IsDirty p other log) all.same it)
