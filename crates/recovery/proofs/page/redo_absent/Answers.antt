use Rattle.std.proofs.Common.{ℕ, ◌∙◌, ap, subst, arith}
use Rattle.disk_trait.specs.Told.{Told}
use Rattle.page_layout.specs.declared.page.Form.{Form}
use Rattle.page_layout.specs.PageContents.{IsPageOf}
use Rattle.recovery.specs.Holds.{Holds}
use Rattle.recovery.proofs.Places.{durable_pages, lie_on_disk}
use Rattle.recovery.proofs.Pooling.{pages_held, size_written}
use Rattle.recovery.proofs.Steps.{kept_written, redoing_read}
use Rattle.recovery.proofs.page.redo_absent.Goals as goal

pub hold-requires-clause-within : goal.hold-requires-clause-within
hold-requires-clause-within g c =
    lie_on_disk c.args.layout.now c.pages_fill_the_disk.ensures c.args.pool.now (g.D.Disk.told c.page_before.new.disk).size c.requires.ready.held (ap (λ (t : Told). t.size) c.page_before.ensures.same ∙ c.requires.ready.sized)

pub hold-requires-clause-durable : goal.hold-requires-clause-durable
hold-requires-clause-durable g c = durable_pages c.args.layout.now c.args.pool.now c.requires.ready.held

pub returns-in-Ok-hold-clause-ready : goal.returns-in-Ok-hold-clause-ready
returns-in-Ok-hold-clause-ready g c =
    let layout = c.args.layout.now in
    let mid = g.D.Disk.told c.page_before.new.disk in
    let new = g.D.Disk.told c.hold.new.disk in
    let pool = c.args.pool.now in
    let made = c.redo.new.page in
    let holds = subst (λ (n : ℕ). Holds n made mid pool new c.hold.new.pool) c.number_of.ensures.number c.in-Ok-hold.ensures.held in
    record {
      sized = size_written mid pool new c.hold.ensures.writes ∙ ap (λ (t : Told). t.size) c.page_before.ensures.same ∙ c.requires.ready.sized;
      some = omega (arith, c.requires.ready.some, c.hold.ensures.frames);
      held = pages_held layout c.pages_fill_the_disk.ensures c.args.place made mid pool new c.hold.new.pool c.requires.place c.known.ensures.whole
          (subst (λ (form : Form). IsPageOf form made) c.form_of.ensures.form c.in-Ok-redo.ensures.passes) holds c.requires.ready.held;
    }

pub returns-in-Ok-hold-clause-any_moment : goal.returns-in-Ok-hold-clause-any_moment
returns-in-Ok-hold-clause-any_moment g c = λ frames start done r.
    let layout = c.args.layout.now in
    let old = g.D.Disk.told c.args.disk.now in
    let mid = g.D.Disk.told c.page_before.new.disk in
    kept_written c.one_layout.ensures c.an_area_opens_in_one_way.ensures c.redo_forgets_a_page_begun_anew.ensures layout c.pages_fill_the_disk.ensures frames start done mid (g.D.Disk.told c.hold.new.disk) c.args.pool.now
    (λ t image le now. g.met.D.Disk.now_is_since c.page_before.new.disk t image le now) c.requires.ready.held c.hold.ensures.writes (redoing_read layout frames start done old mid c.args.pool.now c.page_before.ensures.same r)

pub returns-in-Err-clause-any_moment : goal.returns-in-Err-clause-any_moment
returns-in-Err-clause-any_moment g c = λ frames start done r.
    let layout = c.args.layout.now in
    let old = g.D.Disk.told c.args.disk.now in
    let mid = g.D.Disk.told c.page_before.new.disk in
    kept_written c.one_layout.ensures c.an_area_opens_in_one_way.ensures c.redo_forgets_a_page_begun_anew.ensures layout c.pages_fill_the_disk.ensures frames start done mid (g.D.Disk.told c.hold.new.disk) c.args.pool.now
    (λ t image le now. g.met.D.Disk.now_is_since c.page_before.new.disk t image le now) c.requires.ready.held c.hold.ensures.writes (redoing_read layout frames start done old mid c.args.pool.now c.page_before.ensures.same r)
