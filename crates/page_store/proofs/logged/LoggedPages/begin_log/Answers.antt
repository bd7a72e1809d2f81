use Rattle.std.proofs.Common.{◌≡◌, ℕ, Bool, false, List, length, sym, ap, subst, ◌∙◌, arith}
use Rattle.std.specs.Prelude.{Option, None, Some, replicate, vec_len}
use Rattle.wal_record.specs.Waiting.{Waiting, no_changes}
use Rattle.page_store.specs.KeptPages.{KeptPages}
use Rattle.page_store.specs.LoggedState.{LoggedState, store_of}
use Rattle.page_store.specs.Standing.{IsStanding}
use Rattle.page_store.proofs.Steps.{DiskLaws, areas_fit, none_waits}
use Rattle.disk_trait.specs.IsStable.{IsStable}
use Rattle.recovery.specs.Log.{Log}
use Rattle.recovery.specs.Switched.{switched}
use Rattle.page_store.specs.Clean.{AreClean}
use Rattle.page_store.proofs.Exits.{switch_keeps}
use Rattle.page_store.proofs.LogSteps.{all_false, all_unmarked, false_is, length_false, switch_failed, switch_standing}
use Rattle.page_store.proofs.logged.LoggedPages.begin_log.Goals as goal

pub switch-requires : goal.switch-requires
switch-requires g c =
    let room = c.self.invariant.area in
    omega (arith, areas_fit c.self.inside.layout, room, c.self.invariant.size)

pub invariant_of-self : goal.invariant_of-self
invariant_of-self g c =
    let told = g.D.Disk.told in
    let laws : DiskLaws told = record { need = g.met.D.Disk.images_need_contents; counts = g.met.D.Disk.now_is_since; only = g.met.D.Disk.since_now_is_now; fit = g.met.D.Disk.contents_fit } in
    let s : LoggedState g.row.D.Denot = record { disk = c.self.inside.disk; layout = c.self.inside.layout; log = c.self.inside.log; pool = c.self.inside.pool; marks = c.self.inside.marks.items; waiting = c.self.inside.waiting; failed = c.self.inside.failed } in
    let none : s.failed ≡ None = ap (λ (x : LoggedState g.row.D.Denot). x.failed) c.self.view_is ∙ c.requires.failed in
    let standing = subst (λ (f : Option ℕ). IsStanding (told s.disk) s.layout s.log s.pool s.marks s.waiting f) none c.self.invariant in
    let empty : s.waiting ≡ no_changes = ap (λ (x : LoggedState g.row.D.Denot). x.waiting) c.self.view_is ∙ c.requires.empty in
    let at_rest = subst (λ (w : Waiting). IsStanding (told s.disk) s.layout s.log s.pool s.marks w None) empty standing in
    let clean : AreClean s.pool = subst (λ (x : LoggedState g.row.D.Denot). AreClean x.pool) (sym c.self.view_is) c.requires.clean in
    let stable : IsStable (told s.disk) = subst (λ (x : LoggedState g.row.D.Denot). IsStable (told x.disk)) (sym c.self.view_is) c.requires.stable in
    let done : IsStanding (told c.switch.new.disk) s.layout (switched s.log) s.pool (all_false s.marks) no_changes None = switch_standing c.no_change_begins_another.ensures s.layout c.pages_fill_the_disk.ensures s.log s.pool s.marks (all_false s.marks) (told s.disk) (told c.switch.new.disk) at_rest clean stable (all_unmarked s.layout s.marks) (length_false s.marks) c.switch.ensures.any_moment.size c.switch.ensures.any_moment.tells_contents (laws.need s.disk) c.switch.ensures.contents c.in-Ok.ensures.chosen in
    let after = subst (λ (l : Log). IsStanding (told c.switch.new.disk) s.layout l s.pool (all_false s.marks) no_changes None) (sym c.in-Ok.ensures.switched) done in
    let long : vec_len c.self.inside.marks ≡ length c.self.inside.marks.items = omega (arith, c.self.inside.marks.ok.0) in
    let marks : c.fill.new.self.items ≡ all_false s.marks = false_is s.marks c.fill.new.self.items (c.fill.ensures.items (λ y e. e) ∙ ap (λ (n : ℕ). replicate n false) long) in
    let again = subst (λ (m : List Bool). IsStanding (told c.switch.new.disk) s.layout c.switch.new.self s.pool m no_changes None) (sym marks) after in
    subst (λ (f : Option ℕ). IsStanding (told c.switch.new.disk) s.layout c.switch.new.self s.pool c.fill.new.self.items s.waiting f) (sym none)
    (subst (λ (w : Waiting). IsStanding (told c.switch.new.disk) s.layout c.switch.new.self s.pool c.fill.new.self.items w None) (sym empty) again)

pub invariant_of-self-in-Err : goal.invariant_of-self-in-Err
invariant_of-self-in-Err g c =
    let told = g.D.Disk.told in
    let s : LoggedState g.row.D.Denot = record { disk = c.self.inside.disk; layout = c.self.inside.layout; log = c.self.inside.log; pool = c.self.inside.pool; marks = c.self.inside.marks.items; waiting = c.self.inside.waiting; failed = c.self.inside.failed } in
    let none : s.failed ≡ None = ap (λ (x : LoggedState g.row.D.Denot). x.failed) c.self.view_is ∙ c.requires.failed in
    let standing = subst (λ (f : Option ℕ). IsStanding (told s.disk) s.layout s.log s.pool s.marks s.waiting f) none c.self.invariant in
    let empty : s.waiting ≡ no_changes = ap (λ (x : LoggedState g.row.D.Denot). x.waiting) c.self.view_is ∙ c.requires.empty in
    let at_rest = subst (λ (w : Waiting). IsStanding (told s.disk) s.layout s.log s.pool s.marks w None) empty standing in
    let clean : AreClean s.pool = subst (λ (x : LoggedState g.row.D.Denot). AreClean x.pool) (sym c.self.view_is) c.requires.clean in
    let stable : IsStable (told s.disk) = subst (λ (x : LoggedState g.row.D.Denot). IsStable (told x.disk)) (sym c.self.view_is) c.requires.stable in
    let broke = switch_failed c.no_change_begins_another.ensures s.layout c.pages_fill_the_disk.ensures s.log s.pool s.marks (all_false s.marks) (told s.disk) (told c.switch.new.disk) at_rest clean stable (all_unmarked s.layout s.marks) (length_false s.marks) c.faults.result c.switch.ensures.any_moment.size c.switch.ensures.any_moment.tells_contents c.switch.ensures.contents in
    subst (λ (l : Log). IsStanding (told c.switch.new.disk) s.layout l s.pool s.marks s.waiting (Some c.faults.result)) (sym c.in-Err.ensures.kept)
    (subst (λ (w : Waiting). IsStanding (told c.switch.new.disk) s.layout s.log s.pool s.marks w (Some c.faults.result)) (sym empty) broke)

pub returns-in-Ok-clause-kept : goal.returns-in-Ok-clause-kept
returns-in-Ok-clause-kept g c =
    let told = g.D.Disk.told in
    let laws : DiskLaws told = record { need = g.met.D.Disk.images_need_contents; counts = g.met.D.Disk.now_is_since; only = g.met.D.Disk.since_now_is_now; fit = g.met.D.Disk.contents_fit } in
    let s : LoggedState g.row.D.Denot = record { disk = c.self.inside.disk; layout = c.self.inside.layout; log = c.self.inside.log; pool = c.self.inside.pool; marks = c.self.inside.marks.items; waiting = c.self.inside.waiting; failed = c.self.inside.failed } in
    let none : s.failed ≡ None = ap (λ (x : LoggedState g.row.D.Denot). x.failed) c.self.view_is ∙ c.requires.failed in
    let standing = subst (λ (f : Option ℕ). IsStanding (told s.disk) s.layout s.log s.pool s.marks s.waiting f) none c.self.invariant in
    let empty : s.waiting ≡ no_changes = ap (λ (x : LoggedState g.row.D.Denot). x.waiting) c.self.view_is ∙ c.requires.empty in
    let clean : AreClean s.pool = subst (λ (x : LoggedState g.row.D.Denot). AreClean x.pool) (sym c.self.view_is) c.requires.clean in
    let stable : IsStable (told s.disk) = subst (λ (x : LoggedState g.row.D.Denot). IsStable (told x.disk)) (sym c.self.view_is) c.requires.stable in
    subst (λ (x : LoggedState g.row.D.Denot). KeptPages told (store_of told x) (store_of told (record { disk = c.switch.new.disk; layout = s.layout; log = c.switch.new.self; pool = s.pool; marks = c.fill.new.self.items; waiting = s.waiting; failed = s.failed }))) c.self.view_is
    (switch_keeps told laws c.no_change_begins_another.ensures s c.pages_fill_the_disk.ensures standing c.switch.new.disk c.switch.ensures.cause.later empty c.switch.new.self (all_false s.marks) c.fill.new.self.items s.failed clean stable (all_unmarked s.layout s.marks) (length_false s.marks) c.switch.ensures.any_moment c.switch.ensures.contents)

pub returns-in-Ok-clause-sure : goal.returns-in-Ok-clause-sure
returns-in-Ok-clause-sure g c =
    let told = g.D.Disk.told in
    let laws : DiskLaws told = record { need = g.met.D.Disk.images_need_contents; counts = g.met.D.Disk.now_is_since; only = g.met.D.Disk.since_now_is_now; fit = g.met.D.Disk.contents_fit } in
    let s : LoggedState g.row.D.Denot = record { disk = c.self.inside.disk; layout = c.self.inside.layout; log = c.self.inside.log; pool = c.self.inside.pool; marks = c.self.inside.marks.items; waiting = c.self.inside.waiting; failed = c.self.inside.failed } in
    let none : s.failed ≡ None = ap (λ (x : LoggedState g.row.D.Denot). x.failed) c.self.view_is ∙ c.requires.failed in
    let standing = subst (λ (f : Option ℕ). IsStanding (told s.disk) s.layout s.log s.pool s.marks s.waiting f) none c.self.invariant in
    let empty : s.waiting ≡ no_changes = ap (λ (x : LoggedState g.row.D.Denot). x.waiting) c.self.view_is ∙ c.requires.empty in
    let at_rest = subst (λ (w : Waiting). IsStanding (told s.disk) s.layout s.log s.pool s.marks w None) empty standing in
    let clean : AreClean s.pool = subst (λ (x : LoggedState g.row.D.Denot). AreClean x.pool) (sym c.self.view_is) c.requires.clean in
    let stable : IsStable (told s.disk) = subst (λ (x : LoggedState g.row.D.Denot). IsStable (told x.disk)) (sym c.self.view_is) c.requires.stable in
    let done : IsStanding (told c.switch.new.disk) s.layout (switched s.log) s.pool (all_false s.marks) no_changes None = switch_standing c.no_change_begins_another.ensures s.layout c.pages_fill_the_disk.ensures s.log s.pool s.marks (all_false s.marks) (told s.disk) (told c.switch.new.disk) at_rest clean stable (all_unmarked s.layout s.marks) (length_false s.marks) c.switch.ensures.any_moment.size c.switch.ensures.any_moment.tells_contents (laws.need s.disk) c.switch.ensures.contents c.in-Ok.ensures.chosen in
    let after = subst (λ (l : Log). IsStanding (told c.switch.new.disk) s.layout l s.pool (all_false s.marks) no_changes None) (sym c.in-Ok.ensures.switched) done in
    let long : vec_len c.self.inside.marks ≡ length c.self.inside.marks.items = omega (arith, c.self.inside.marks.ok.0) in
    let marks : c.fill.new.self.items ≡ all_false s.marks = false_is s.marks c.fill.new.self.items (c.fill.ensures.items (λ y e. e) ∙ ap (λ (n : ℕ). replicate n false) long) in
    let again = subst (λ (m : List Bool). IsStanding (told c.switch.new.disk) s.layout c.switch.new.self s.pool m no_changes None) (sym marks) after in
    none_waits s.layout c.switch.new.self s.pool c.fill.new.self.items (told c.switch.new.disk) again (laws.need c.switch.new.disk)

pub returns-in-Err-clause-kept : goal.returns-in-Err-clause-kept
returns-in-Err-clause-kept g c =
    let told = g.D.Disk.told in
    let laws : DiskLaws told = record { need = g.met.D.Disk.images_need_contents; counts = g.met.D.Disk.now_is_since; only = g.met.D.Disk.since_now_is_now; fit = g.met.D.Disk.contents_fit } in
    let s : LoggedState g.row.D.Denot = record { disk = c.self.inside.disk; layout = c.self.inside.layout; log = c.self.inside.log; pool = c.self.inside.pool; marks = c.self.inside.marks.items; waiting = c.self.inside.waiting; failed = c.self.inside.failed } in
    let none : s.failed ≡ None = ap (λ (x : LoggedState g.row.D.Denot). x.failed) c.self.view_is ∙ c.requires.failed in
    let standing = subst (λ (f : Option ℕ). IsStanding (told s.disk) s.layout s.log s.pool s.marks s.waiting f) none c.self.invariant in
    let empty : s.waiting ≡ no_changes = ap (λ (x : LoggedState g.row.D.Denot). x.waiting) c.self.view_is ∙ c.requires.empty in
    let clean : AreClean s.pool = subst (λ (x : LoggedState g.row.D.Denot). AreClean x.pool) (sym c.self.view_is) c.requires.clean in
    let stable : IsStable (told s.disk) = subst (λ (x : LoggedState g.row.D.Denot). IsStable (told x.disk)) (sym c.self.view_is) c.requires.stable in
    subst (λ (x : LoggedState g.row.D.Denot). KeptPages told (store_of told x) (store_of told (record { disk = c.switch.new.disk; layout = s.layout; log = c.switch.new.self; pool = s.pool; marks = s.marks; waiting = s.waiting; failed = Some c.faults.result }))) c.self.view_is
    (switch_keeps told laws c.no_change_begins_another.ensures s c.pages_fill_the_disk.ensures standing c.switch.new.disk c.switch.ensures.cause.later empty c.switch.new.self (all_false s.marks) s.marks (Some c.faults.result) clean stable (all_unmarked s.layout s.marks) (length_false s.marks) c.switch.ensures.any_moment c.switch.ensures.contents)
