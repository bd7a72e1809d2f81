use Rattle.std.proofs.Common.{◌≡◌, ℕ, sym, ap, subst, ◌∙◌}
use Rattle.std.specs.Prelude.{IsTrue, Option, None}
use Rattle.buffer_pool.specs.PoolState.{IsClean, held_at}
use Rattle.page_store.specs.Contents.{AddsOnly}
use Rattle.page_store.specs.KeptPages.{KeptPages}
use Rattle.page_store.specs.LoggedState.{LoggedState, store_of}
use Rattle.page_store.specs.Standing.{IsStanding}
use Rattle.page_store.proofs.Steps.{DiskLaws}
use Rattle.store_layout.specs.DiskLayout.{IsPlace}
use Rattle.buffer_pool.specs.SetsPage.{SetsPage}
use Rattle.page_map.specs.Forms.{IsPageIn}
use Rattle.page_map.specs.PageMap.{page_at}
use Rattle.recovery.specs.PageNumbers.{page_number}
use Rattle.page_store.proofs.SetExits.{none_clean, set_leaves}
use Rattle.page_store.proofs.logged.LoggedPages.set.Goals as goal

pub returns-in-Err-clause-refused : goal.returns-in-Err-clause-refused
returns-in-Err-clause-refused g c =
    λ _. subst (λ (x : LoggedState g.row.D.Denot). (other : ℕ) → IsClean x.pool other → ⊥) c.self.view_is (none_clean c.self.inside.pool c.number_of-number.result c.in-Err.ensures.refused)

pub invariant_of-self-2 : goal.invariant_of-self-2
invariant_of-self-2 g c =
    let told = g.D.Disk.told in
    let laws : DiskLaws told = record { need = g.met.D.Disk.images_need_contents; counts = g.met.D.Disk.now_is_since; only = g.met.D.Disk.since_now_is_now; fit = g.met.D.Disk.contents_fit } in
    let s : LoggedState g.row.D.Denot = record { disk = c.self.inside.disk; layout = c.self.inside.layout; log = c.self.inside.log; pool = c.self.inside.pool; marks = c.self.inside.marks.items; waiting = c.self.inside.waiting; failed = c.self.inside.failed } in
    let none : s.failed ≡ None = ap (λ (x : LoggedState g.row.D.Denot). x.failed) c.self.view_is ∙ c.requires.failed in
    let standing = subst (λ (f : Option ℕ). IsStanding (told s.disk) s.layout s.log s.pool s.marks s.waiting f) none c.self.invariant in
    let is = subst (λ (x : LoggedState g.row.D.Denot). IsPlace x.layout c.args.place) (sym c.self.view_is) c.requires.place in
    let absent = subst (λ (x : LoggedState g.row.D.Denot). held_at x.pool (page_number x.layout c.args.place) ≡ None) (sym c.self.view_is) c.requires.absent in
    let stored = subst (λ (x : LoggedState g.row.D.Denot). IsTrue (told x.disk).tells_contents → c.args.page.now ≡ page_at (store_of told x).pages c.args.place) (sym c.self.view_is) c.requires.page in
    let passes = subst (λ (x : LoggedState g.row.D.Denot). IsPageIn x.layout c.args.place.relation c.args.page.now) (sym c.self.view_is) c.requires.passes in
    let sets = subst (λ (n : ℕ). SetsPage s.pool n (record { content = c.args.page.now; log = None }) c.set.new.self) c.number_of-number.ensures.number c.in_default.ensures.set in
    let all = set_leaves told laws s c.pages_fill_the_disk.ensures standing c.args.place is c.args.page.now c.known.ensures.whole passes absent stored c.set.new.self sets in
    subst (λ (f : Option ℕ). IsStanding (told s.disk) s.layout s.log c.set.new.self s.marks s.waiting f) (sym none) all.standing

pub returns-clause-kept : goal.returns-clause-kept
returns-clause-kept g c =
    let told = g.D.Disk.told in
    let laws : DiskLaws told = record { need = g.met.D.Disk.images_need_contents; counts = g.met.D.Disk.now_is_since; only = g.met.D.Disk.since_now_is_now; fit = g.met.D.Disk.contents_fit } in
    let s : LoggedState g.row.D.Denot = record { disk = c.self.inside.disk; layout = c.self.inside.layout; log = c.self.inside.log; pool = c.self.inside.pool; marks = c.self.inside.marks.items; waiting = c.self.inside.waiting; failed = c.self.inside.failed } in
    let none : s.failed ≡ None = ap (λ (x : LoggedState g.row.D.Denot). x.failed) c.self.view_is ∙ c.requires.failed in
    let standing = subst (λ (f : Option ℕ). IsStanding (told s.disk) s.layout s.log s.pool s.marks s.waiting f) none c.self.invariant in
    let is = subst (λ (x : LoggedState g.row.D.Denot). IsPlace x.layout c.args.place) (sym c.self.view_is) c.requires.place in
    let absent = subst (λ (x : LoggedState g.row.D.Denot). held_at x.pool (page_number x.layout c.args.place) ≡ None) (sym c.self.view_is) c.requires.absent in
    let stored = subst (λ (x : LoggedState g.row.D.Denot). IsTrue (told x.disk).tells_contents → c.args.page.now ≡ page_at (store_of told x).pages c.args.place) (sym c.self.view_is) c.requires.page in
    let passes = subst (λ (x : LoggedState g.row.D.Denot). IsPageIn x.layout c.args.place.relation c.args.page.now) (sym c.self.view_is) c.requires.passes in
    let sets = subst (λ (n : ℕ). SetsPage s.pool n (record { content = c.args.page.now; log = None }) c.set.new.self) c.number_of-number.ensures.number c.in_default.ensures.set in
    let all = set_leaves told laws s c.pages_fill_the_disk.ensures standing c.args.place is c.args.page.now c.known.ensures.whole passes absent stored c.set.new.self sets in
    subst (λ (x : LoggedState g.row.D.Denot). KeptPages told (store_of told x) (store_of told (record { disk = s.disk; layout = s.layout; log = s.log; pool = c.set.new.self; marks = s.marks; waiting = s.waiting; failed = s.failed }))) c.self.view_is
    (all.keeps)

pub returns-clause-held : goal.returns-clause-held
returns-clause-held g c =
    let told = g.D.Disk.told in
    let laws : DiskLaws told = record { need = g.met.D.Disk.images_need_contents; counts = g.met.D.Disk.now_is_since; only = g.met.D.Disk.since_now_is_now; fit = g.met.D.Disk.contents_fit } in
    let s : LoggedState g.row.D.Denot = record { disk = c.self.inside.disk; layout = c.self.inside.layout; log = c.self.inside.log; pool = c.self.inside.pool; marks = c.self.inside.marks.items; waiting = c.self.inside.waiting; failed = c.self.inside.failed } in
    let none : s.failed ≡ None = ap (λ (x : LoggedState g.row.D.Denot). x.failed) c.self.view_is ∙ c.requires.failed in
    let standing = subst (λ (f : Option ℕ). IsStanding (told s.disk) s.layout s.log s.pool s.marks s.waiting f) none c.self.invariant in
    let is = subst (λ (x : LoggedState g.row.D.Denot). IsPlace x.layout c.args.place) (sym c.self.view_is) c.requires.place in
    let absent = subst (λ (x : LoggedState g.row.D.Denot). held_at x.pool (page_number x.layout c.args.place) ≡ None) (sym c.self.view_is) c.requires.absent in
    let stored = subst (λ (x : LoggedState g.row.D.Denot). IsTrue (told x.disk).tells_contents → c.args.page.now ≡ page_at (store_of told x).pages c.args.place) (sym c.self.view_is) c.requires.page in
    let passes = subst (λ (x : LoggedState g.row.D.Denot). IsPageIn x.layout c.args.place.relation c.args.page.now) (sym c.self.view_is) c.requires.passes in
    let sets = subst (λ (n : ℕ). SetsPage s.pool n (record { content = c.args.page.now; log = None }) c.set.new.self) c.number_of-number.ensures.number c.in_default.ensures.set in
    let all = set_leaves told laws s c.pages_fill_the_disk.ensures standing c.args.place is c.args.page.now c.known.ensures.whole passes absent stored c.set.new.self sets in
    λ _. all.held

pub returns-clause-adds : goal.returns-clause-adds
returns-clause-adds g c =
    let told = g.D.Disk.told in
    let laws : DiskLaws told = record { need = g.met.D.Disk.images_need_contents; counts = g.met.D.Disk.now_is_since; only = g.met.D.Disk.since_now_is_now; fit = g.met.D.Disk.contents_fit } in
    let s : LoggedState g.row.D.Denot = record { disk = c.self.inside.disk; layout = c.self.inside.layout; log = c.self.inside.log; pool = c.self.inside.pool; marks = c.self.inside.marks.items; waiting = c.self.inside.waiting; failed = c.self.inside.failed } in
    let none : s.failed ≡ None = ap (λ (x : LoggedState g.row.D.Denot). x.failed) c.self.view_is ∙ c.requires.failed in
    let standing = subst (λ (f : Option ℕ). IsStanding (told s.disk) s.layout s.log s.pool s.marks s.waiting f) none c.self.invariant in
    let is = subst (λ (x : LoggedState g.row.D.Denot). IsPlace x.layout c.args.place) (sym c.self.view_is) c.requires.place in
    let absent = subst (λ (x : LoggedState g.row.D.Denot). held_at x.pool (page_number x.layout c.args.place) ≡ None) (sym c.self.view_is) c.requires.absent in
    let stored = subst (λ (x : LoggedState g.row.D.Denot). IsTrue (told x.disk).tells_contents → c.args.page.now ≡ page_at (store_of told x).pages c.args.place) (sym c.self.view_is) c.requires.page in
    let passes = subst (λ (x : LoggedState g.row.D.Denot). IsPageIn x.layout c.args.place.relation c.args.page.now) (sym c.self.view_is) c.requires.passes in
    let sets = subst (λ (n : ℕ). SetsPage s.pool n (record { content = c.args.page.now; log = None }) c.set.new.self) c.number_of-number.ensures.number c.in_default.ensures.set in
    let all = set_leaves told laws s c.pages_fill_the_disk.ensures standing c.args.place is c.args.page.now c.known.ensures.whole passes absent stored c.set.new.self sets in
    subst (λ (x : LoggedState g.row.D.Denot). AddsOnly (page_number x.layout c.args.place) x.pool c.set.new.self) c.self.view_is (all.adds)
