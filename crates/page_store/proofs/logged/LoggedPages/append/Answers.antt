use Rattle.std.proofs.Common.{◌≡◌, ℕ, refl, ap, subst, ◌∙◌, arith}
use Rattle.std.specs.Prelude.{Option, None, Some}
use Rattle.recovery.specs.Frames.{LogFrame}
use Rattle.wal_record.specs.Waiting.{Waiting}
use Rattle.page_store.proofs.Exits.{append_broke, append_done, appended_keeps}
use Rattle.page_store.specs.KeptPages.{KeptPages}
use Rattle.page_store.specs.LoggedState.{LoggedState, store_of}
use Rattle.page_store.specs.Standing.{IsStanding}
use Rattle.page_store.proofs.Steps.{DiskLaws, areas_fit, none_waits}
use Rattle.page_store.proofs.logged.LoggedPages.append.Goals as goal

pub append-requires : goal.append-requires
append-requires g c =
    let room = c.self.invariant.area in
    omega (arith, areas_fit c.self.inside.layout, room, c.self.invariant.size)

pub invariant_of-self : goal.invariant_of-self
invariant_of-self g c =
    let told = g.D.Disk.told in
    let laws : DiskLaws told = record { need = g.met.D.Disk.images_need_contents; counts = g.met.D.Disk.now_is_since; only = g.met.D.Disk.since_now_is_now; fit = g.met.D.Disk.contents_fit } in
    let s : LoggedState g.row.D.Denot = record { disk = c.self.inside.disk; layout = c.self.inside.layout; log = c.self.inside.log; pool = c.self.inside.pool; marks = c.self.inside.marks.items; waiting = c.self.inside.waiting; failed = c.self.inside.failed } in
    let none : s.failed ≡ None = ap (λ (x : LoggedState g.row.D.Denot). x.failed) c.self.view_is ∙ c.requires.failed in
    let standing = subst (λ (f : Option ℕ). IsStanding (told s.disk) s.layout s.log s.pool s.marks s.waiting f) none c.self.invariant in
    let frame : LogFrame = record { changes = c.bytes-bytes.result.now; count = c.count-count.result } in
    let own : frame ≡ record { changes = s.waiting.bytes; count = s.waiting.count } = λ i. record { changes = c.bytes-bytes.ensures.bytes i; count = c.count-count.ensures.count i } in
    (append_done told laws c.no_change_begins_another.ensures s c.pages_fill_the_disk.ensures standing c.append.new.disk c.append.ensures.later frame c.append.new.self c.clear.new.self s.failed own c.in-Ok.ensures.grown c.clear.ensures none c.append.ensures.any_moment c.append.ensures.contents c.in-Ok.ensures.appended)

pub invariant_of-self-in-Err-Disk : goal.invariant_of-self-in-Err-Disk
invariant_of-self-in-Err-Disk g c =
    let told = g.D.Disk.told in
    let laws : DiskLaws told = record { need = g.met.D.Disk.images_need_contents; counts = g.met.D.Disk.now_is_since; only = g.met.D.Disk.since_now_is_now; fit = g.met.D.Disk.contents_fit } in
    let s : LoggedState g.row.D.Denot = record { disk = c.self.inside.disk; layout = c.self.inside.layout; log = c.self.inside.log; pool = c.self.inside.pool; marks = c.self.inside.marks.items; waiting = c.self.inside.waiting; failed = c.self.inside.failed } in
    let none : s.failed ≡ None = ap (λ (x : LoggedState g.row.D.Denot). x.failed) c.self.view_is ∙ c.requires.failed in
    let standing = subst (λ (f : Option ℕ). IsStanding (told s.disk) s.layout s.log s.pool s.marks s.waiting f) none c.self.invariant in
    let frame : LogFrame = record { changes = c.bytes-bytes.result.now; count = c.count-count.result } in
    let own : frame ≡ record { changes = s.waiting.bytes; count = s.waiting.count } = λ i. record { changes = c.bytes-bytes.ensures.bytes i; count = c.count-count.ensures.count i } in
    append_broke told laws c.no_change_begins_another.ensures s c.pages_fill_the_disk.ensures standing c.append.new.disk c.append.ensures.later frame c.append.new.self s.waiting c.faults.result own c.in-Err-Disk.ensures.kept refl c.append.ensures.any_moment c.append.ensures.contents

pub returns-in-Ok-clause-kept : goal.returns-in-Ok-clause-kept
returns-in-Ok-clause-kept g c =
    let told = g.D.Disk.told in
    let laws : DiskLaws told = record { need = g.met.D.Disk.images_need_contents; counts = g.met.D.Disk.now_is_since; only = g.met.D.Disk.since_now_is_now; fit = g.met.D.Disk.contents_fit } in
    let s : LoggedState g.row.D.Denot = record { disk = c.self.inside.disk; layout = c.self.inside.layout; log = c.self.inside.log; pool = c.self.inside.pool; marks = c.self.inside.marks.items; waiting = c.self.inside.waiting; failed = c.self.inside.failed } in
    let none : s.failed ≡ None = ap (λ (x : LoggedState g.row.D.Denot). x.failed) c.self.view_is ∙ c.requires.failed in
    let standing = subst (λ (f : Option ℕ). IsStanding (told s.disk) s.layout s.log s.pool s.marks s.waiting f) none c.self.invariant in
    let frame : LogFrame = record { changes = c.bytes-bytes.result.now; count = c.count-count.result } in
    let own : frame ≡ record { changes = s.waiting.bytes; count = s.waiting.count } = λ i. record { changes = c.bytes-bytes.ensures.bytes i; count = c.count-count.ensures.count i } in
    subst (λ (x : LoggedState g.row.D.Denot). KeptPages told (store_of told x) (store_of told (record { disk = c.append.new.disk; layout = s.layout; log = c.append.new.self; pool = s.pool; marks = s.marks; waiting = c.clear.new.self; failed = s.failed }))) c.self.view_is
    (appended_keeps told laws c.no_change_begins_another.ensures s c.pages_fill_the_disk.ensures standing c.append.new.disk c.append.ensures.later frame c.append.new.self c.clear.new.self s.failed own c.append.ensures.any_moment c.append.ensures.contents)

pub returns-in-Ok-clause-sure : goal.returns-in-Ok-clause-sure
returns-in-Ok-clause-sure g c =
    let told = g.D.Disk.told in
    let laws : DiskLaws told = record { need = g.met.D.Disk.images_need_contents; counts = g.met.D.Disk.now_is_since; only = g.met.D.Disk.since_now_is_now; fit = g.met.D.Disk.contents_fit } in
    let s : LoggedState g.row.D.Denot = record { disk = c.self.inside.disk; layout = c.self.inside.layout; log = c.self.inside.log; pool = c.self.inside.pool; marks = c.self.inside.marks.items; waiting = c.self.inside.waiting; failed = c.self.inside.failed } in
    let none : s.failed ≡ None = ap (λ (x : LoggedState g.row.D.Denot). x.failed) c.self.view_is ∙ c.requires.failed in
    let standing = subst (λ (f : Option ℕ). IsStanding (told s.disk) s.layout s.log s.pool s.marks s.waiting f) none c.self.invariant in
    let frame : LogFrame = record { changes = c.bytes-bytes.result.now; count = c.count-count.result } in
    let own : frame ≡ record { changes = s.waiting.bytes; count = s.waiting.count } = λ i. record { changes = c.bytes-bytes.ensures.bytes i; count = c.count-count.ensures.count i } in
    let after = (append_done told laws c.no_change_begins_another.ensures s c.pages_fill_the_disk.ensures standing c.append.new.disk c.append.ensures.later frame c.append.new.self c.clear.new.self s.failed own c.in-Ok.ensures.grown c.clear.ensures none c.append.ensures.any_moment c.append.ensures.contents c.in-Ok.ensures.appended) in
    let rest = subst (λ (f : Option ℕ). IsStanding (told c.append.new.disk) s.layout c.append.new.self s.pool s.marks c.clear.new.self f) none after in
    none_waits s.layout c.append.new.self s.pool s.marks (told c.append.new.disk) (subst (λ (w : Waiting). IsStanding (told c.append.new.disk) s.layout c.append.new.self s.pool s.marks w None) c.clear.ensures rest) (laws.need c.append.new.disk)

pub returns-in-Err-Disk-clause-kept : goal.returns-in-Err-Disk-clause-kept
returns-in-Err-Disk-clause-kept g c =
    let told = g.D.Disk.told in
    let laws : DiskLaws told = record { need = g.met.D.Disk.images_need_contents; counts = g.met.D.Disk.now_is_since; only = g.met.D.Disk.since_now_is_now; fit = g.met.D.Disk.contents_fit } in
    let s : LoggedState g.row.D.Denot = record { disk = c.self.inside.disk; layout = c.self.inside.layout; log = c.self.inside.log; pool = c.self.inside.pool; marks = c.self.inside.marks.items; waiting = c.self.inside.waiting; failed = c.self.inside.failed } in
    let none : s.failed ≡ None = ap (λ (x : LoggedState g.row.D.Denot). x.failed) c.self.view_is ∙ c.requires.failed in
    let standing = subst (λ (f : Option ℕ). IsStanding (told s.disk) s.layout s.log s.pool s.marks s.waiting f) none c.self.invariant in
    let frame : LogFrame = record { changes = c.bytes-bytes.result.now; count = c.count-count.result } in
    let own : frame ≡ record { changes = s.waiting.bytes; count = s.waiting.count } = λ i. record { changes = c.bytes-bytes.ensures.bytes i; count = c.count-count.ensures.count i } in
    subst (λ (x : LoggedState g.row.D.Denot). KeptPages told (store_of told x) (store_of told (record { disk = c.append.new.disk; layout = s.layout; log = c.append.new.self; pool = s.pool; marks = s.marks; waiting = s.waiting; failed = Some c.faults.result }))) c.self.view_is
    (appended_keeps told laws c.no_change_begins_another.ensures s c.pages_fill_the_disk.ensures standing c.append.new.disk c.append.ensures.later frame c.append.new.self s.waiting (Some c.faults.result) own c.append.ensures.any_moment c.append.ensures.contents)
