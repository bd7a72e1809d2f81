use Rattle.std.proofs.Common.{◌≡◌, ◌≤◌, ◌<◌, ◌+◌, ℕ, false, length, get_or, sym, ap, subst, ◌∙◌, arith}
use Rattle.std.specs.Prelude.{IsTrue, Option, None}
use Rattle.buffer_pool.specs.PoolState.{held_at}
use Rattle.recovery.specs.ShownPages.{shown_pages}
use Rattle.page_store.specs.Contents.{HoldsAlike}
use Rattle.page_store.specs.LoggedState.{LoggedState, store_of}
use Rattle.page_store.specs.Standing.{IsStanding}
use Rattle.page_store.proofs.Steps.{DiskLaws}
use Rattle.std.proofs.Common.{◌∷◌, []}
use Rattle.std.specs.Prelude.{IsSome}
use Rattle.store_layout.specs.DiskLayout.{DiskLayout, IsPlace}
use Rattle.page_layout.specs.declared.page.Form.{Form}
use Rattle.page_map.specs.Changed.{Changed}
use Rattle.page_map.specs.Forms.{FitsIn, form_of}
use Rattle.page_map.specs.Keeps.{Tells, Untold}
use Rattle.page_map.specs.PageMap.{page_at}
use Rattle.page_map.proofs.Lookups.{on_err}
use Rattle.wal_record.specs.Changes.{logged}
use Rattle.recovery.specs.PageNumbers.{page_number}
use Rattle.recovery.specs.Safe.{is_marked}
use Rattle.page_store.specs.Begun.{HoldsOf, MakesHeld, RedoesHeld}
use Rattle.page_store.specs.Made.{MakesPage, Misfits}
use Rattle.page_store.proofs.MakeExits.{holds_of, made_leaves, misfit_alike, misfit_standing, misfit_untold}
use Rattle.page_store.specs.Room.{HasRoom, bytes_for}
use Rattle.page_store.proofs.logged.LoggedPages.make.Goals as goal

pub make_held-requires-clause-held : goal.make_held-requires-clause-held
make_held-requires-clause-held g c =
    let told = g.D.Disk.told in
    let laws : DiskLaws told = record { need = g.met.D.Disk.images_need_contents; counts = g.met.D.Disk.now_is_since; only = g.met.D.Disk.since_now_is_now; fit = g.met.D.Disk.contents_fit } in
    let s : LoggedState g.row.D.Denot = record { disk = c.self.inside.disk; layout = c.self.inside.layout; log = c.self.inside.log; pool = c.self.inside.pool; marks = c.self.inside.marks.items; waiting = c.self.inside.waiting; failed = c.self.inside.failed } in
    let none : s.failed ≡ None = ap (λ (x : LoggedState g.row.D.Denot). x.failed) c.self.view_is ∙ c.requires.failed in
    let standing = subst (λ (f : Option ℕ). IsStanding (told s.disk) s.layout s.log s.pool s.marks s.waiting f) none c.self.invariant in
    let place = c.args.place in
    let change = logged c.args.change.now in
    let fill = c.pages_fill_the_disk.ensures in
    let layout = ap (λ (x : LoggedState g.row.D.Denot). x.layout) c.self.view_is in
    let is : IsPlace s.layout place = subst (λ (x : LoggedState g.row.D.Denot). IsPlace x.layout c.args.place) (sym c.self.view_is) c.requires.place in
    let form : c.args.form.now ≡ form_of s.layout place.relation = c.requires.form ∙ ap (λ (l : DiskLayout). form_of l c.args.place.relation) (sym layout) in
    let number : c.number_of-number.result ≡ page_number s.layout place = c.number_of-number.ensures.number in
    let waits : c.used-waits.result + 1 ≡ s.log.used + 1 = ap (λ (n : ℕ). n + 1) c.used-waits.ensures.used in
    let room = subst (λ (x : LoggedState g.row.D.Denot). HasRoom x.log x.waiting (bytes_for (is_marked x.marks x.layout c.args.place) (logged c.args.change.now))) (sym c.self.view_is) c.requires.room in
    let low : page_number s.layout place < length s.marks = omega (arith, number, c.number_of-number.ensures.within, standing.marked) in
    let some = subst (λ (x : LoggedState g.row.D.Denot). IsSome (held_at x.pool (page_number x.layout c.args.place))) (sym c.self.view_is) c.requires.held in
    let holds = holds_of told s None fill standing place is some in
    subst (λ (n : ℕ). HoldsOf c.args.form.now n s.pool) (sym number) (subst (λ (f : Form). HoldsOf f (page_number s.layout place) s.pool) (sym form) holds)

pub invariant_of-self : goal.invariant_of-self
invariant_of-self g c =
    let told = g.D.Disk.told in
    let laws : DiskLaws told = record { need = g.met.D.Disk.images_need_contents; counts = g.met.D.Disk.now_is_since; only = g.met.D.Disk.since_now_is_now; fit = g.met.D.Disk.contents_fit } in
    let s : LoggedState g.row.D.Denot = record { disk = c.self.inside.disk; layout = c.self.inside.layout; log = c.self.inside.log; pool = c.self.inside.pool; marks = c.self.inside.marks.items; waiting = c.self.inside.waiting; failed = c.self.inside.failed } in
    let none : s.failed ≡ None = ap (λ (x : LoggedState g.row.D.Denot). x.failed) c.self.view_is ∙ c.requires.failed in
    let standing = subst (λ (f : Option ℕ). IsStanding (told s.disk) s.layout s.log s.pool s.marks s.waiting f) none c.self.invariant in
    let place = c.args.place in
    let change = logged c.args.change.now in
    let fill = c.pages_fill_the_disk.ensures in
    let layout = ap (λ (x : LoggedState g.row.D.Denot). x.layout) c.self.view_is in
    let is : IsPlace s.layout place = subst (λ (x : LoggedState g.row.D.Denot). IsPlace x.layout c.args.place) (sym c.self.view_is) c.requires.place in
    let form : c.args.form.now ≡ form_of s.layout place.relation = c.requires.form ∙ ap (λ (l : DiskLayout). form_of l c.args.place.relation) (sym layout) in
    let number : c.number_of-number.result ≡ page_number s.layout place = c.number_of-number.ensures.number in
    let waits : c.used-waits.result + 1 ≡ s.log.used + 1 = ap (λ (n : ℕ). n + 1) c.used-waits.ensures.used in
    let room = subst (λ (x : LoggedState g.row.D.Denot). HasRoom x.log x.waiting (bytes_for (is_marked x.marks x.layout c.args.place) (logged c.args.change.now))) (sym c.self.view_is) c.requires.room in
    let low : page_number s.layout place < length s.marks = omega (arith, number, c.number_of-number.ensures.within, standing.marked) in
    let redoes = subst (λ (w : ℕ). RedoesHeld (form_of s.layout place.relation) (page_number s.layout place) w [] s.pool c.make_held.new.pool) waits
    (subst (λ (n : ℕ). RedoesHeld (form_of s.layout place.relation) n (c.used-waits.result + 1) [] s.pool c.make_held.new.pool) number
    (subst (λ (f : Form). RedoesHeld f c.number_of-number.result (c.used-waits.result + 1) [] s.pool c.make_held.new.pool) form c.in_err-make_held.ensures.same)) in
    let misfits = subst (λ (n : ℕ). Misfits (form_of s.layout place.relation) n change s.pool) number (subst (λ (f : Form). Misfits f c.number_of-number.result change s.pool) form c.in_err-make_held.ensures.misfit) in
    let fits = subst (λ (x : LoggedState g.row.D.Denot). IsTrue (told x.disk).tells_contents → FitsIn x.layout c.args.place.relation (page_at (store_of told x).pages c.args.place) (logged c.args.change.now)) (sym c.self.view_is) c.requires.fits in
    let untold : (IsTrue (told s.disk).tells_contents → ⊥) = misfit_untold told s place is change c.make_held.new.pool (s.log.used + 1) redoes misfits fits in
    let few = subst (λ (n : ℕ). length c.make_held.new.waiting.bytes ≤ length s.waiting.bytes + bytes_for (get_or s.marks n false) change) number c.make_held.ensures.few in
    subst (λ (f : Option ℕ). IsStanding (told s.disk) s.layout s.log c.make_held.new.pool c.make_held.new.marks.items c.make_held.new.waiting f) (sym none)
    (misfit_standing told s fill standing place is c.make_held.new.waiting c.make_held.new.marks.items c.make_held.new.pool redoes c.make_held.ensures.marks change few room untold)

pub returns-in_err-make_held-clause-untold : goal.returns-in_err-make_held-clause-untold
returns-in_err-make_held-clause-untold g c =
    let told = g.D.Disk.told in
    let laws : DiskLaws told = record { need = g.met.D.Disk.images_need_contents; counts = g.met.D.Disk.now_is_since; only = g.met.D.Disk.since_now_is_now; fit = g.met.D.Disk.contents_fit } in
    let s : LoggedState g.row.D.Denot = record { disk = c.self.inside.disk; layout = c.self.inside.layout; log = c.self.inside.log; pool = c.self.inside.pool; marks = c.self.inside.marks.items; waiting = c.self.inside.waiting; failed = c.self.inside.failed } in
    let none : s.failed ≡ None = ap (λ (x : LoggedState g.row.D.Denot). x.failed) c.self.view_is ∙ c.requires.failed in
    let standing = subst (λ (f : Option ℕ). IsStanding (told s.disk) s.layout s.log s.pool s.marks s.waiting f) none c.self.invariant in
    let place = c.args.place in
    let change = logged c.args.change.now in
    let fill = c.pages_fill_the_disk.ensures in
    let layout = ap (λ (x : LoggedState g.row.D.Denot). x.layout) c.self.view_is in
    let is : IsPlace s.layout place = subst (λ (x : LoggedState g.row.D.Denot). IsPlace x.layout c.args.place) (sym c.self.view_is) c.requires.place in
    let form : c.args.form.now ≡ form_of s.layout place.relation = c.requires.form ∙ ap (λ (l : DiskLayout). form_of l c.args.place.relation) (sym layout) in
    let number : c.number_of-number.result ≡ page_number s.layout place = c.number_of-number.ensures.number in
    let waits : c.used-waits.result + 1 ≡ s.log.used + 1 = ap (λ (n : ℕ). n + 1) c.used-waits.ensures.used in
    let room = subst (λ (x : LoggedState g.row.D.Denot). HasRoom x.log x.waiting (bytes_for (is_marked x.marks x.layout c.args.place) (logged c.args.change.now))) (sym c.self.view_is) c.requires.room in
    let low : page_number s.layout place < length s.marks = omega (arith, number, c.number_of-number.ensures.within, standing.marked) in
    let redoes = subst (λ (w : ℕ). RedoesHeld (form_of s.layout place.relation) (page_number s.layout place) w [] s.pool c.make_held.new.pool) waits
    (subst (λ (n : ℕ). RedoesHeld (form_of s.layout place.relation) n (c.used-waits.result + 1) [] s.pool c.make_held.new.pool) number
    (subst (λ (f : Form). RedoesHeld f c.number_of-number.result (c.used-waits.result + 1) [] s.pool c.make_held.new.pool) form c.in_err-make_held.ensures.same)) in
    let misfits = subst (λ (n : ℕ). Misfits (form_of s.layout place.relation) n change s.pool) number (subst (λ (f : Form). Misfits f c.number_of-number.result change s.pool) form c.in_err-make_held.ensures.misfit) in
    let fits = subst (λ (x : LoggedState g.row.D.Denot). IsTrue (told x.disk).tells_contents → FitsIn x.layout c.args.place.relation (page_at (store_of told x).pages c.args.place) (logged c.args.change.now)) (sym c.self.view_is) c.requires.fits in
    let untold : (IsTrue (told s.disk).tells_contents → ⊥) = misfit_untold told s place is change c.make_held.new.pool (s.log.used + 1) redoes misfits fits in
    on_err c.from_residual.result (subst (λ (x : LoggedState g.row.D.Denot). Untold told (store_of told x)) c.self.view_is untold)

pub returns-in_err-make_held-clause-alike : goal.returns-in_err-make_held-clause-alike
returns-in_err-make_held-clause-alike g c =
    let told = g.D.Disk.told in
    let laws : DiskLaws told = record { need = g.met.D.Disk.images_need_contents; counts = g.met.D.Disk.now_is_since; only = g.met.D.Disk.since_now_is_now; fit = g.met.D.Disk.contents_fit } in
    let s : LoggedState g.row.D.Denot = record { disk = c.self.inside.disk; layout = c.self.inside.layout; log = c.self.inside.log; pool = c.self.inside.pool; marks = c.self.inside.marks.items; waiting = c.self.inside.waiting; failed = c.self.inside.failed } in
    let none : s.failed ≡ None = ap (λ (x : LoggedState g.row.D.Denot). x.failed) c.self.view_is ∙ c.requires.failed in
    let standing = subst (λ (f : Option ℕ). IsStanding (told s.disk) s.layout s.log s.pool s.marks s.waiting f) none c.self.invariant in
    let place = c.args.place in
    let change = logged c.args.change.now in
    let fill = c.pages_fill_the_disk.ensures in
    let layout = ap (λ (x : LoggedState g.row.D.Denot). x.layout) c.self.view_is in
    let is : IsPlace s.layout place = subst (λ (x : LoggedState g.row.D.Denot). IsPlace x.layout c.args.place) (sym c.self.view_is) c.requires.place in
    let form : c.args.form.now ≡ form_of s.layout place.relation = c.requires.form ∙ ap (λ (l : DiskLayout). form_of l c.args.place.relation) (sym layout) in
    let number : c.number_of-number.result ≡ page_number s.layout place = c.number_of-number.ensures.number in
    let waits : c.used-waits.result + 1 ≡ s.log.used + 1 = ap (λ (n : ℕ). n + 1) c.used-waits.ensures.used in
    let room = subst (λ (x : LoggedState g.row.D.Denot). HasRoom x.log x.waiting (bytes_for (is_marked x.marks x.layout c.args.place) (logged c.args.change.now))) (sym c.self.view_is) c.requires.room in
    let low : page_number s.layout place < length s.marks = omega (arith, number, c.number_of-number.ensures.within, standing.marked) in
    let redoes = subst (λ (w : ℕ). RedoesHeld (form_of s.layout place.relation) (page_number s.layout place) w [] s.pool c.make_held.new.pool) waits
    (subst (λ (n : ℕ). RedoesHeld (form_of s.layout place.relation) n (c.used-waits.result + 1) [] s.pool c.make_held.new.pool) number
    (subst (λ (f : Form). RedoesHeld f c.number_of-number.result (c.used-waits.result + 1) [] s.pool c.make_held.new.pool) form c.in_err-make_held.ensures.same)) in
    let misfits = subst (λ (n : ℕ). Misfits (form_of s.layout place.relation) n change s.pool) number (subst (λ (f : Form). Misfits f c.number_of-number.result change s.pool) form c.in_err-make_held.ensures.misfit) in
    let fits = subst (λ (x : LoggedState g.row.D.Denot). IsTrue (told x.disk).tells_contents → FitsIn x.layout c.args.place.relation (page_at (store_of told x).pages c.args.place) (logged c.args.change.now)) (sym c.self.view_is) c.requires.fits in
    let untold : (IsTrue (told s.disk).tells_contents → ⊥) = misfit_untold told s place is change c.make_held.new.pool (s.log.used + 1) redoes misfits fits in
    on_err c.from_residual.result (subst (λ (x : LoggedState g.row.D.Denot). HoldsAlike x.pool c.make_held.new.pool) c.self.view_is (misfit_alike s.layout s.pool c.make_held.new.pool place (page_number s.layout place) (s.log.used + 1) redoes))

pub invariant_of-self-2 : goal.invariant_of-self-2
invariant_of-self-2 g c =
    let told = g.D.Disk.told in
    let laws : DiskLaws told = record { need = g.met.D.Disk.images_need_contents; counts = g.met.D.Disk.now_is_since; only = g.met.D.Disk.since_now_is_now; fit = g.met.D.Disk.contents_fit } in
    let s : LoggedState g.row.D.Denot = record { disk = c.self.inside.disk; layout = c.self.inside.layout; log = c.self.inside.log; pool = c.self.inside.pool; marks = c.self.inside.marks.items; waiting = c.self.inside.waiting; failed = c.self.inside.failed } in
    let none : s.failed ≡ None = ap (λ (x : LoggedState g.row.D.Denot). x.failed) c.self.view_is ∙ c.requires.failed in
    let standing = subst (λ (f : Option ℕ). IsStanding (told s.disk) s.layout s.log s.pool s.marks s.waiting f) none c.self.invariant in
    let place = c.args.place in
    let change = logged c.args.change.now in
    let fill = c.pages_fill_the_disk.ensures in
    let layout = ap (λ (x : LoggedState g.row.D.Denot). x.layout) c.self.view_is in
    let is : IsPlace s.layout place = subst (λ (x : LoggedState g.row.D.Denot). IsPlace x.layout c.args.place) (sym c.self.view_is) c.requires.place in
    let form : c.args.form.now ≡ form_of s.layout place.relation = c.requires.form ∙ ap (λ (l : DiskLayout). form_of l c.args.place.relation) (sym layout) in
    let number : c.number_of-number.result ≡ page_number s.layout place = c.number_of-number.ensures.number in
    let waits : c.used-waits.result + 1 ≡ s.log.used + 1 = ap (λ (n : ℕ). n + 1) c.used-waits.ensures.used in
    let room = subst (λ (x : LoggedState g.row.D.Denot). HasRoom x.log x.waiting (bytes_for (is_marked x.marks x.layout c.args.place) (logged c.args.change.now))) (sym c.self.view_is) c.requires.room in
    let low : page_number s.layout place < length s.marks = omega (arith, number, c.number_of-number.ensures.within, standing.marked) in
    let makes = subst (λ (w : ℕ). MakesHeld (form_of s.layout place.relation) place (page_number s.layout place) w change (record { waiting = s.waiting; marks = s.marks; pool = s.pool }) (record { waiting = c.make_held.new.waiting; marks = c.make_held.new.marks.items; pool = c.make_held.new.pool })) waits
    (subst (λ (n : ℕ). MakesHeld (form_of s.layout place.relation) place n (c.used-waits.result + 1) change (record { waiting = s.waiting; marks = s.marks; pool = s.pool }) (record { waiting = c.make_held.new.waiting; marks = c.make_held.new.marks.items; pool = c.make_held.new.pool })) number
    (subst (λ (f : Form). MakesHeld f place c.number_of-number.result (c.used-waits.result + 1) change (record { waiting = s.waiting; marks = s.marks; pool = s.pool }) (record { waiting = c.make_held.new.waiting; marks = c.make_held.new.marks.items; pool = c.make_held.new.pool })) form c.in_ok-make_held.ensures.made)) in
    let all = made_leaves told laws c.redo_goes_on.ensures s fill standing place is change c.requires.own low room c.make_held.new.waiting c.make_held.new.marks.items c.make_held.new.pool makes in
    subst (λ (f : Option ℕ). IsStanding (told s.disk) s.layout s.log c.make_held.new.pool c.make_held.new.marks.items c.make_held.new.waiting f) (sym none) all.standing

pub returns-clause-changed : goal.returns-clause-changed
returns-clause-changed g c =
    let told = g.D.Disk.told in
    let laws : DiskLaws told = record { need = g.met.D.Disk.images_need_contents; counts = g.met.D.Disk.now_is_since; only = g.met.D.Disk.since_now_is_now; fit = g.met.D.Disk.contents_fit } in
    let s : LoggedState g.row.D.Denot = record { disk = c.self.inside.disk; layout = c.self.inside.layout; log = c.self.inside.log; pool = c.self.inside.pool; marks = c.self.inside.marks.items; waiting = c.self.inside.waiting; failed = c.self.inside.failed } in
    let none : s.failed ≡ None = ap (λ (x : LoggedState g.row.D.Denot). x.failed) c.self.view_is ∙ c.requires.failed in
    let standing = subst (λ (f : Option ℕ). IsStanding (told s.disk) s.layout s.log s.pool s.marks s.waiting f) none c.self.invariant in
    let place = c.args.place in
    let change = logged c.args.change.now in
    let fill = c.pages_fill_the_disk.ensures in
    let layout = ap (λ (x : LoggedState g.row.D.Denot). x.layout) c.self.view_is in
    let is : IsPlace s.layout place = subst (λ (x : LoggedState g.row.D.Denot). IsPlace x.layout c.args.place) (sym c.self.view_is) c.requires.place in
    let form : c.args.form.now ≡ form_of s.layout place.relation = c.requires.form ∙ ap (λ (l : DiskLayout). form_of l c.args.place.relation) (sym layout) in
    let number : c.number_of-number.result ≡ page_number s.layout place = c.number_of-number.ensures.number in
    let waits : c.used-waits.result + 1 ≡ s.log.used + 1 = ap (λ (n : ℕ). n + 1) c.used-waits.ensures.used in
    let room = subst (λ (x : LoggedState g.row.D.Denot). HasRoom x.log x.waiting (bytes_for (is_marked x.marks x.layout c.args.place) (logged c.args.change.now))) (sym c.self.view_is) c.requires.room in
    let low : page_number s.layout place < length s.marks = omega (arith, number, c.number_of-number.ensures.within, standing.marked) in
    let makes = subst (λ (w : ℕ). MakesHeld (form_of s.layout place.relation) place (page_number s.layout place) w change (record { waiting = s.waiting; marks = s.marks; pool = s.pool }) (record { waiting = c.make_held.new.waiting; marks = c.make_held.new.marks.items; pool = c.make_held.new.pool })) waits
    (subst (λ (n : ℕ). MakesHeld (form_of s.layout place.relation) place n (c.used-waits.result + 1) change (record { waiting = s.waiting; marks = s.marks; pool = s.pool }) (record { waiting = c.make_held.new.waiting; marks = c.make_held.new.marks.items; pool = c.make_held.new.pool })) number
    (subst (λ (f : Form). MakesHeld f place c.number_of-number.result (c.used-waits.result + 1) change (record { waiting = s.waiting; marks = s.marks; pool = s.pool }) (record { waiting = c.make_held.new.waiting; marks = c.make_held.new.marks.items; pool = c.make_held.new.pool })) form c.in_ok-make_held.ensures.made)) in
    let all = made_leaves told laws c.redo_goes_on.ensures s fill standing place is change c.requires.own low room c.make_held.new.waiting c.make_held.new.marks.items c.make_held.new.pool makes in
    subst (λ (x : LoggedState g.row.D.Denot). Tells told (store_of told x) → Changed x.layout c.args.place (logged c.args.change.now ∷ []) (shown_pages x.layout x.pool (told x.disk).contents) (shown_pages s.layout c.make_held.new.pool (told s.disk).contents)) c.self.view_is (λ tells. all.changed)

pub returns-clause-made : goal.returns-clause-made
returns-clause-made g c =
    let told = g.D.Disk.told in
    let laws : DiskLaws told = record { need = g.met.D.Disk.images_need_contents; counts = g.met.D.Disk.now_is_since; only = g.met.D.Disk.since_now_is_now; fit = g.met.D.Disk.contents_fit } in
    let s : LoggedState g.row.D.Denot = record { disk = c.self.inside.disk; layout = c.self.inside.layout; log = c.self.inside.log; pool = c.self.inside.pool; marks = c.self.inside.marks.items; waiting = c.self.inside.waiting; failed = c.self.inside.failed } in
    let none : s.failed ≡ None = ap (λ (x : LoggedState g.row.D.Denot). x.failed) c.self.view_is ∙ c.requires.failed in
    let standing = subst (λ (f : Option ℕ). IsStanding (told s.disk) s.layout s.log s.pool s.marks s.waiting f) none c.self.invariant in
    let place = c.args.place in
    let change = logged c.args.change.now in
    let fill = c.pages_fill_the_disk.ensures in
    let layout = ap (λ (x : LoggedState g.row.D.Denot). x.layout) c.self.view_is in
    let is : IsPlace s.layout place = subst (λ (x : LoggedState g.row.D.Denot). IsPlace x.layout c.args.place) (sym c.self.view_is) c.requires.place in
    let form : c.args.form.now ≡ form_of s.layout place.relation = c.requires.form ∙ ap (λ (l : DiskLayout). form_of l c.args.place.relation) (sym layout) in
    let number : c.number_of-number.result ≡ page_number s.layout place = c.number_of-number.ensures.number in
    let waits : c.used-waits.result + 1 ≡ s.log.used + 1 = ap (λ (n : ℕ). n + 1) c.used-waits.ensures.used in
    let room = subst (λ (x : LoggedState g.row.D.Denot). HasRoom x.log x.waiting (bytes_for (is_marked x.marks x.layout c.args.place) (logged c.args.change.now))) (sym c.self.view_is) c.requires.room in
    let low : page_number s.layout place < length s.marks = omega (arith, number, c.number_of-number.ensures.within, standing.marked) in
    let makes = subst (λ (w : ℕ). MakesHeld (form_of s.layout place.relation) place (page_number s.layout place) w change (record { waiting = s.waiting; marks = s.marks; pool = s.pool }) (record { waiting = c.make_held.new.waiting; marks = c.make_held.new.marks.items; pool = c.make_held.new.pool })) waits
    (subst (λ (n : ℕ). MakesHeld (form_of s.layout place.relation) place n (c.used-waits.result + 1) change (record { waiting = s.waiting; marks = s.marks; pool = s.pool }) (record { waiting = c.make_held.new.waiting; marks = c.make_held.new.marks.items; pool = c.make_held.new.pool })) number
    (subst (λ (f : Form). MakesHeld f place c.number_of-number.result (c.used-waits.result + 1) change (record { waiting = s.waiting; marks = s.marks; pool = s.pool }) (record { waiting = c.make_held.new.waiting; marks = c.make_held.new.marks.items; pool = c.make_held.new.pool })) form c.in_ok-make_held.ensures.made)) in
    let all = made_leaves told laws c.redo_goes_on.ensures s fill standing place is change c.requires.own low room c.make_held.new.waiting c.make_held.new.marks.items c.make_held.new.pool makes in
    subst (λ (f : Form). MakesPage f (page_number c.args.self.now.layout c.args.place) (logged c.args.change.now) c.args.self.now.pool c.make_held.new.pool) (sym form)
    (subst (λ (x : LoggedState g.row.D.Denot). MakesPage (form_of s.layout place.relation) (page_number x.layout c.args.place) (logged c.args.change.now) x.pool c.make_held.new.pool) c.self.view_is all.made)

pub returns-clause-waiting : goal.returns-clause-waiting
returns-clause-waiting g c =
    let told = g.D.Disk.told in
    let laws : DiskLaws told = record { need = g.met.D.Disk.images_need_contents; counts = g.met.D.Disk.now_is_since; only = g.met.D.Disk.since_now_is_now; fit = g.met.D.Disk.contents_fit } in
    let s : LoggedState g.row.D.Denot = record { disk = c.self.inside.disk; layout = c.self.inside.layout; log = c.self.inside.log; pool = c.self.inside.pool; marks = c.self.inside.marks.items; waiting = c.self.inside.waiting; failed = c.self.inside.failed } in
    let none : s.failed ≡ None = ap (λ (x : LoggedState g.row.D.Denot). x.failed) c.self.view_is ∙ c.requires.failed in
    let standing = subst (λ (f : Option ℕ). IsStanding (told s.disk) s.layout s.log s.pool s.marks s.waiting f) none c.self.invariant in
    let place = c.args.place in
    let change = logged c.args.change.now in
    let fill = c.pages_fill_the_disk.ensures in
    let layout = ap (λ (x : LoggedState g.row.D.Denot). x.layout) c.self.view_is in
    let is : IsPlace s.layout place = subst (λ (x : LoggedState g.row.D.Denot). IsPlace x.layout c.args.place) (sym c.self.view_is) c.requires.place in
    let form : c.args.form.now ≡ form_of s.layout place.relation = c.requires.form ∙ ap (λ (l : DiskLayout). form_of l c.args.place.relation) (sym layout) in
    let number : c.number_of-number.result ≡ page_number s.layout place = c.number_of-number.ensures.number in
    let waits : c.used-waits.result + 1 ≡ s.log.used + 1 = ap (λ (n : ℕ). n + 1) c.used-waits.ensures.used in
    let room = subst (λ (x : LoggedState g.row.D.Denot). HasRoom x.log x.waiting (bytes_for (is_marked x.marks x.layout c.args.place) (logged c.args.change.now))) (sym c.self.view_is) c.requires.room in
    let low : page_number s.layout place < length s.marks = omega (arith, number, c.number_of-number.ensures.within, standing.marked) in
    let makes = subst (λ (w : ℕ). MakesHeld (form_of s.layout place.relation) place (page_number s.layout place) w change (record { waiting = s.waiting; marks = s.marks; pool = s.pool }) (record { waiting = c.make_held.new.waiting; marks = c.make_held.new.marks.items; pool = c.make_held.new.pool })) waits
    (subst (λ (n : ℕ). MakesHeld (form_of s.layout place.relation) place n (c.used-waits.result + 1) change (record { waiting = s.waiting; marks = s.marks; pool = s.pool }) (record { waiting = c.make_held.new.waiting; marks = c.make_held.new.marks.items; pool = c.make_held.new.pool })) number
    (subst (λ (f : Form). MakesHeld f place c.number_of-number.result (c.used-waits.result + 1) change (record { waiting = s.waiting; marks = s.marks; pool = s.pool }) (record { waiting = c.make_held.new.waiting; marks = c.make_held.new.marks.items; pool = c.make_held.new.pool })) form c.in_ok-make_held.ensures.made)) in
    let all = made_leaves told laws c.redo_goes_on.ensures s fill standing place is change c.requires.own low room c.make_held.new.waiting c.make_held.new.marks.items c.make_held.new.pool makes in
    subst (λ (x : LoggedState g.row.D.Denot). length c.make_held.new.waiting.bytes ≡ length x.waiting.bytes + bytes_for (is_marked x.marks x.layout c.args.place) (logged c.args.change.now)) c.self.view_is all.long
