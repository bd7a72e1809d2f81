use Rattle.std.proofs.Common.{ℕ, ◌≤◌, List, sym, ◌∙◌, ap, subst}
use Rattle.std.specs.Prelude.{IsTrue, None}
use Rattle.disk_trait.specs.Throughout.{Throughout}
use Rattle.page_map.specs.Forms.{forms_of}
use Rattle.page_map.specs.Keeps.{Tells}
use Rattle.page_map.specs.PageMap.{View}
use Rattle.recovery.specs.Opens.{OpensAs}
use Rattle.recovery.specs.PageOrder.{AreInOrder}
use Rattle.recovery.specs.Reaches.{OpensAsBefore}
use Rattle.recovery.specs.Untouched.{KeepsFront}
use Rattle.wal_record.specs.Waiting.{Waiting}
use Rattle.recovery.specs.StartCauses.{HasStore}
use Rattle.recovery.specs.declared.opening.Opened.{Opened}
use Rattle.page_store.specs.LoggedState.{LoggedState, store_of}
use Rattle.page_store.specs.Standing.{IsStanding}
use Rattle.page_store.specs.StoreFacts.{AreKnown}
use Rattle.page_store.proofs.Starting.{known, refused, stands, sure}
use Rattle.page_store.proofs.store.PageStore.start.Goals as goal

pub of_parts-pages-requires : goal.of_parts-pages-requires
of_parts-pages-requires g c =
    let o = c.in-Ok.opened in
    subst (λ (w : Waiting). IsStanding (g.D.Disk.told c.open.new.disk) o.layout o.log o.pool o.marks.items w None) (sym c.in-Ok-new.ensures) (stands o (g.D.Disk.told c.open.new.disk) c.in-Ok.ensures.opened)

pub of_parts-requires-clause-forms : goal.of_parts-requires-clause-forms
of_parts-requires-clause-forms g c = c.in-Ok-forms_of.ensures ∙ ap (λ (s : LoggedState g.row.D.Denot). forms_of s.layout) (sym c.of_parts-pages.ensures)

pub of_parts-requires-clause-facts : goal.of_parts-requires-clause-facts
of_parts-requires-clause-facts g c =
    let o = c.in-Ok.opened in
    subst (λ (s : LoggedState g.row.D.Denot). AreKnown g.D.Disk.told s o.facts.items) (sym c.of_parts-pages.ensures) (known c.slots_are_read.ensures.one o (g.D.Disk.told c.open.new.disk) c.in-Ok.ensures.opened)

pub returns-in-Err-clause-refused : goal.returns-in-Err-clause-refused
returns-in-Err-clause-refused g c = refused Opened (g.D.Disk.told c.args.disk) (g.D.Disk.told c.open.new.disk) c.in-Err.fault c.in-Err.ensures.cause

pub returns-clause-pages : goal.returns-clause-pages
returns-clause-pages g c = λ tells.
    let old = g.D.Disk.told c.args.disk in
    subst (λ (v : View g.row.D.Denot). OpensAs v.layout old.contents v.pages) (sym (c.of_parts.ensures ∙ ap (store_of g.D.Disk.told) c.of_parts-pages.ensures)) (c.in-Ok.ensures.pages tells)

pub returns-clause-there : goal.returns-clause-there
returns-clause-there g c =
    let old = g.D.Disk.told c.args.disk in
    subst (λ (v : View g.row.D.Denot). IsTrue old.tells_contents → HasStore v.layout old.size old.contents) (sym (c.of_parts.ensures ∙ ap (store_of g.D.Disk.told) c.of_parts-pages.ensures))
    (λ tells. record { control = (c.in-Ok.ensures.pages tells).control; sized = sym c.in-Ok.ensures.opened.size ∙ c.open.ensures.any_moment.size })

pub returns-clause-order : goal.returns-clause-order
returns-clause-order g c =
    subst (λ (v : View g.row.D.Denot). Tells g.D.Disk.told v → AreInOrder v.layout v.pages) (sym (c.of_parts.ensures ∙ ap (store_of g.D.Disk.told) c.of_parts-pages.ensures)) c.in-Ok.ensures.opened.order

pub returns-clause-sure : goal.returns-clause-sure
returns-clause-sure g c =
    subst (λ (v : View g.row.D.Denot). (image : List ℕ) → IsTrue ((g.D.Disk.told v.disk).now image) → OpensAs v.layout image v.pages) (sym (c.of_parts.ensures ∙ ap (store_of g.D.Disk.told) c.of_parts-pages.ensures))
    (sure c.in-Ok.opened (g.D.Disk.told c.open.new.disk) c.in-Ok.ensures.opened (λ image now. g.met.D.Disk.images_need_contents c.open.new.disk image now))

pub returns-clause-fresh : goal.returns-clause-fresh
returns-clause-fresh g c = ap (λ (v : View g.row.D.Denot). v.failed) (c.of_parts.ensures ∙ ap (store_of g.D.Disk.told) c.of_parts-pages.ensures)

pub returns-clause-faults : goal.returns-clause-faults
returns-clause-faults g c =
    let old = g.D.Disk.told c.args.disk in
    subst (λ (v : View g.row.D.Denot). old.faults ≤ (g.D.Disk.told v.disk).faults) (sym (c.of_parts.ensures ∙ ap (store_of g.D.Disk.told) c.of_parts-pages.ensures)) c.in-Ok.ensures.cause

pub returns-clause-any_moment : goal.returns-clause-any_moment
returns-clause-any_moment g c =
    let old = g.D.Disk.told c.args.disk in
    subst (λ (v : View g.row.D.Denot). Throughout old (g.D.Disk.told v.disk) (OpensAsBefore old)) (sym (c.of_parts.ensures ∙ ap (store_of g.D.Disk.told) c.of_parts-pages.ensures)) c.open.ensures.any_moment

pub returns-clause-front : goal.returns-clause-front
returns-clause-front g c =
    let old = g.D.Disk.told c.args.disk in
    subst (λ (v : View g.row.D.Denot). KeepsFront old (g.D.Disk.told v.disk)) (sym (c.of_parts.ensures ∙ ap (store_of g.D.Disk.told) c.of_parts-pages.ensures)) c.open.ensures.front
